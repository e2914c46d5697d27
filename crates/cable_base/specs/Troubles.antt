-- A sink's count of faults, and the fault that it tells of.
use Rattle.std.specs.Prelude.{ℕ, ◌≤◌, Result, IsErrOf}
use Rattle.cable_base.specs.declared.faults.Trouble.{Trouble}
use Rattle.cable_base.specs.declared.faults.Trouble.TheVariants as trouble
use Rattle.cable_base.specs.Causes.{Rose}

-- a count of faults never falls, and `Failed` comes only where it rose
pub record HasTrouble {T : Type 0} (before now : ℕ) (result : Result T Trouble) : Type 0 where
  pub later : before ≤ now
  pub failed : IsErrOf result trouble.Failed → Rose before now
