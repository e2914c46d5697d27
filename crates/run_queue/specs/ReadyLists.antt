-- The list of connections that have something to work.
use Rattle.std.specs.Prelude.{◌≡◌, ◌≤◌, ◌==◌, ◌+◌, ℕ, not, cond, Bool, false, List, [], ◌∷◌, ◌++◌, filter}
use Rattle.std.specs.List.{list_any}
use Rattle.cable_base.specs.declared.numbers.ConnNo.{ConnNo}

-- the numbers in their order, and how many can be put without memory
pub record ReadyQueue : Type 0 where
  pub waiting : List ConnNo
  pub spare : ℕ

abbrev pub has_number : ConnNo → List ConnNo → Bool
has_number conn ns = list_any (λ n. n.0 == conn.0) ns

-- each number stands there once
abbrev pub AreOnce : List ConnNo → Type 0
AreOnce [] = Unit {0}
AreOnce (n ∷ ns) = (has_number n ns ≡ false) × AreOnce ns

-- nothing changes but that there may be more room
pub record ReadyKeeps (old new : ReadyQueue) : Type 0 where
  pub waiting : new.waiting ≡ old.waiting
  pub spare : old.spare ≤ new.spare

-- a number that isn't there is put behind the others, and one that is there stays in its place
pub record Puts (conn : ConnNo) (old new : ReadyQueue) : Type 0 where
  pub waiting : new.waiting ≡ cond (has_number conn old.waiting) old.waiting (old.waiting ++ conn ∷ [])
  pub spare : old.spare ≤ new.spare + 1

-- the first number is taken, and stands nowhere else
pub record Nexts (conn : ConnNo) (old new : ReadyQueue) : Type 0 where
  pub waiting : old.waiting ≡ conn ∷ new.waiting
  pub once : has_number conn new.waiting ≡ false
  pub spare : old.spare ≤ new.spare

-- a number is taken out, wherever it stands
pub record DropsOut (conn : ConnNo) (old new : ReadyQueue) : Type 0 where
  pub waiting : new.waiting ≡ filter (λ n. not (n.0 == conn.0)) old.waiting
  pub spare : old.spare ≤ new.spare
