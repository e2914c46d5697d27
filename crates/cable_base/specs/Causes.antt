-- When a device's counts rise, and what its answers have to do with them.
use Rattle.std.specs.Prelude.{◌≡◌, ℕ, ◌+◌, ◌-◌, ◌^◌, ◌<◌, ◌≤◌, min, IfOk, OnErr, Result}

-- a count rose, or it stands at its type's end
abbrev pub Rose : ℕ → ℕ → Type 0
Rose before now = min (before + 1) (2 ^ 64 - 1) ≤ now

-- a count of faults never falls, and an error comes only where it rose
pub record HasCause {T E : Type 0} (before now : ℕ) (result : Result T E) : Type 0 where
  pub later : before ≤ now
  pub failed : OnErr result (Rose before now)

-- a count of ends rises at an end and nowhere else: an answer of 0 for a buffer that has room
pub record CountsEnds {E : Type 0} (before now room : ℕ) (result : Result ℕ E) : Type 0 where
  pub later : before ≤ now
  pub ended : IfOk result (λ n. n ≡ 0 → 0 < room → Rose before now)
  pub only : IfOk result (λ n. 0 < n → now ≡ before)
  pub no_room : room ≡ 0 → now ≡ before
  pub failed : OnErr result (now ≡ before)

-- at most all of them are taken, and of some at least one
pub record TakesSome (len n : ℕ) : Type 0 where
  pub most : n ≤ len
  pub some : 0 < len → 0 < n
