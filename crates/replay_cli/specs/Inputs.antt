-- What a call took from the source.
use Rattle.std.specs.Prelude.{◌≡◌, ℕ, ◌≤◌, List, length, Option}
use Rattle.std.specs.Io.KnownBytes.{Consumes, IsAtEnd}
use Rattle.cable_base.specs.Causes.{Rose}
use Rattle.cable_model.specs.Limits.{most_script}

-- the source before and behind a call: what is left, its counts of ends and of faults
pub record Reading : Type 0 where
  pub left : Option (List ℕ)
  pub left_behind : Option (List ℕ)
  pub ends : ℕ
  pub ends_behind : ℕ
  pub faults : ℕ
  pub faults_behind : ℕ

-- the same of a source that tells these three of itself
abbrev pub reading_of : {S : Type 0} → (left : S → Option (List ℕ)) → (ends faults : S → ℕ) → (old new : S) → Reading
reading_of left ends faults old new =
    record { left = left old; left_behind = left new; ends = ends old; ends_behind = ends new; faults = faults old; faults_behind = faults new }

-- the source gave these bytes in the call
abbrev pub Gave : Reading → List ℕ → Type 0
Gave r given = Consumes r.left r.left_behind given

-- the source wasn't asked
pub record WasNotRead (r : Reading) : Type 0 where
  pub left : r.left_behind ≡ r.left
  pub ends : r.ends_behind ≡ r.ends
  pub faults : r.faults_behind ≡ r.faults

-- it gave these bytes, at most `most_script` of them
pub record GaveFew (r : Reading) (given : List ℕ) : Type 0 where
  pub gave : Gave r given
  pub few : length given ≤ most_script

-- and was read to its end
pub record GaveAll (r : Reading) (given : List ℕ) : Type 0 where
  pub gave : GaveFew r given
  pub ended : Rose r.ends r.ends_behind
  pub nothing_left : IsAtEnd r.left_behind
