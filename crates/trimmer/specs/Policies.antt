-- When a table is trimmed.
use Rattle.std.specs.Prelude.{◌≢◌, ℕ}
use Rattle.std.specs.Int.{◌∣◌}

-- a trim follows each row whose id this number divides, and 0 stands for none
pub record IsDue (every id : ℕ) : Type 0 where
  pub some : every ≢ 0
  pub divides : every ∣ id
