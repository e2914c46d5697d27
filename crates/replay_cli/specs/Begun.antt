-- The line that has begun: what further bytes make of it, and how it ends.
use Rattle.std.specs.Prelude.{◌≡◌, ℕ, ◌<◌, ◌≤◌, List, ◌∷◌, ◌++◌, length, Result, Ok, Err}
use Rattle.cable_model.specs.declared.statuses.Status.{Status}
use Rattle.cable_model.specs.declared.statuses.Status.TheVariants as status
use Rattle.cable_model.specs.Breaks.{GoodLines, next_number}
use Rattle.cable_model.specs.Limits.{most_line}
use Rattle.cable_model.specs.Script.{HasNoFeed}
use Rattle.replay_cli.specs.declared.modes.Mode.{Mode}
use Rattle.replay_cli.specs.declared.replaying.Replaying.{Replaying}
use Rattle.replay_cli.specs.Stages.{IsAt, LineDoes}

-- the bytes are this line and its line feed, and what stands behind
pub record IsCut (bytes front behind : List ℕ) : Type 0 where
  pub parts : bytes ≡ front ++ 10 ∷ behind
  pub one : HasNoFeed front

-- the line that has begun may be another, all else is as it was
pub record KeepsWork (old new : Replaying) : Type 0 where
  pub mode : new.mode ≡ old.mode
  pub stage : new.stage ≡ old.stage
  pub out : new.out ≡ old.out

-- the bytes stand behind the line that has begun
pub record Extended (bytes : List ℕ) (old new : Replaying) : Type 0 where
  pub keeps : KeepsWork old new
  pub line : new.line.items ≡ old.line.items ++ bytes
  pub short : length new.line.items ≤ most_line

-- they make it too long
pub record Exceeds (bytes : List ℕ) (number : ℕ) (old new : Replaying) : Type 0 where
  pub keeps : KeepsWork old new
  pub long : most_line < length (old.line.items ++ bytes)
  pub numbered : (m : Mode) (lines : GoodLines) → IsAt m lines old.stage → number ≡ next_number lines

-- further bytes of the line that has begun came
abbrev pub Extends : List ℕ → (old new : Replaying) → Result (Unit {0}) Status → Type 0
Extends bytes old new (Ok u) = Extended bytes old new
Extends bytes old new (Err (status.TooLong number)) = Exceeds bytes number old new
Extends bytes old new (Err status.OutOfMemory) = KeepsWork old new
Extends bytes old new (Err _) = ⊥

-- the line that has begun is whole
abbrev pub EndsLine : (old new : Replaying) → Result (Unit {0}) Status → Type 0
EndsLine old new result = (lines : GoodLines) → IsAt old.mode lines old.stage → LineDoes old.mode lines old.line.items new.stage old.out.items new.out.items result
