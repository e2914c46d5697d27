-- A stream that counts what it took.
use Rattle.std.specs.Prelude.{ℕ, ◌+◌, ◌-◌, ◌^◌, min, Result, Ok, Err}

-- the count of bytes behind a write: what was taken is added, up to the greatest count there is
abbrev pub counted_on : {E : Type 0} → ℕ → Result ℕ E → ℕ
counted_on taken (Ok n) = min (taken + n) (2 ^ 64 - 1)
counted_on taken (Err _) = taken
