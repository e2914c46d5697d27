-- What is queued on one connection until its session takes it out.
use Rattle.std.specs.Prelude.{◌≡◌, ◌≤◌, ◌+◌, ℕ, Bool, true, false, List, [], ◌∷◌, ◌++◌, length, Option, None, Some}
use Rattle.conn_seat.specs.declared.outs.Out.{Out}

-- what is queued in order, how many were taken out before, how many more can be queued without memory, and whether it was forgotten
pub record OutboxState : Type 0 where
  pub queued : List Out
  pub taken : ℕ
  pub room : ℕ
  pub forgotten : Bool

abbrev pub unused : OutboxState
unused = record { queued = []; taken = 0; room = 0; forgotten = false }

-- there may be more room
pub record Widens (v new : OutboxState) : Type 0 where
  pub queued : new.queued ≡ v.queued
  pub taken : new.taken ≡ v.taken
  pub room : v.room ≤ new.room
  pub forgotten : new.forgotten ≡ v.forgotten

-- one is queued behind the others
pub record Puts (out : Out) (v new : OutboxState) : Type 0 where
  pub queued : new.queued ≡ v.queued ++ out ∷ []
  pub taken : new.taken ≡ v.taken
  pub room : new.room + 1 ≡ v.room
  pub forgotten : new.forgotten ≡ v.forgotten

-- these are, in their order
pub record PutsAll (outs : List Out) (v new : OutboxState) : Type 0 where
  pub queued : new.queued ≡ v.queued ++ outs
  pub taken : new.taken ≡ v.taken
  pub room : new.room + length outs ≡ v.room
  pub forgotten : new.forgotten ≡ v.forgotten

-- the first one is taken out, or there is none
abbrev pub Takes : Option Out → OutboxState → OutboxState → Type 0
Takes None v new = (v.queued ≡ []) × (new ≡ v)
Takes (Some out) v new = (v.queued ≡ out ∷ new.queued) × (new.taken ≡ v.taken + 1) × (new.forgotten ≡ v.forgotten)

-- of one that was forgotten only this is kept: how many were taken out
abbrev pub forgotten_after : ℕ → OutboxState
forgotten_after taken = record { queued = []; taken = taken; room = 0; forgotten = true }
