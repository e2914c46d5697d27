-- A script that is worked while its bytes come.
use Rattle.std.specs.Prelude.{◌≡◌, ◌⊎◌, ℕ, ◌<◌, ◌≤◌, Bool, ◌==◌, List, [], ◌++◌, length, Result, Ok, Err}
use Rattle.cable_base.specs.Causes.{Rose}
use Rattle.cable_model.specs.declared.statuses.Status.{Status}
use Rattle.cable_model.specs.declared.statuses.Status.TheVariants as status
use Rattle.cable_model.specs.Breaks.{GoodLines, Splits, IsBegun, BreaksIn, BreaksAtEnd}
use Rattle.cable_model.specs.Breaks.GoodLines.{Session}
use Rattle.cable_model.specs.Limits.{most_script}
use Rattle.cable_model.specs.Script.{Script, IsScript}
use Rattle.replay_cli.specs.declared.modes.Mode.{Mode}
use Rattle.replay_cli.specs.declared.replaying.Replaying.{Replaying}
use Rattle.replay_cli.specs.Inputs.{Reading, Gave, GaveFew, GaveAll}
use Rattle.replay_cli.specs.Modes.{written, output_of}
use Rattle.replay_cli.specs.Outputs.{Writing, Took, IsFront}
use Rattle.replay_cli.specs.Stages.{IsAt}

abbrev pub is_feed : ℕ → Bool
is_feed b = b == 10

-- these bytes came: the whole lines among them were worked, the line that has begun is kept, and what is to be written is taken by the sink or
-- still to be written
pub record HasRead (given taken : List ℕ) (r : Replaying) : Type 0 where
  pub lines : GoodLines
  pub splits : Splits given lines r.line.items
  pub begun : IsBegun r.line.items
  pub at : IsAt r.mode lines r.stage
  pub wrote : taken ++ r.out.items ≡ written r.mode lines

-- the call ends here: these lines were worked, and what is to be written for them is taken or still to be written
pub record HasEnded (lines : GoodLines) (taken : List ℕ) (r : Replaying) : Type 0 where
  pub at : IsAt r.mode lines r.stage
  pub wrote : taken ++ r.out.items ≡ written r.mode lines

-- a front of what is to be written for the lines of these bytes
pub record WroteFront (m : Mode) (given front : List ℕ) : Type 0 where
  pub lines : GoodLines
  pub rest : List ℕ
  pub splits : Splits given lines rest
  pub front_of : IsFront front (written m lines)

-- ---- what the calls on it come to

-- what is to be written was written, or a front of it
abbrev pub Flushes : Writing → (old new : Replaying) → Result (Unit {0}) Status → Type 0
Flushes w old new (Ok u) = Took w old.out.items × (new.out.items ≡ []) × (new.mode ≡ old.mode) × (new.stage ≡ old.stage) × (new.line ≡ old.line)
Flushes w old new (Err status.WriteFault) = (front : List ℕ) × (Took w front × IsFront front old.out.items × Rose w.faults w.faults_behind)
Flushes w old new (Err status.OutOfMemory) = (front : List ℕ) × (Took w front × IsFront front old.out.items)
Flushes w old new (Err _) = ⊥

-- the bytes that came are refused. A fault of the sink or want of memory leaves a front written
abbrev pub PieceRefused : (m : Mode) → (given taken : List ℕ) → Writing → (new : Replaying) → Status → Type 0
PieceRefused m given taken w new status.WriteFault = Rose w.faults w.faults_behind × WroteFront m given taken
PieceRefused m given taken w new status.OutOfMemory = WroteFront m given taken
PieceRefused m given taken w new s = (lines : GoodLines) × (BreaksIn given lines s × HasEnded lines taken new)

-- a piece came behind these bytes
abbrev pub PieceDoes : (m : Mode) → (given taken piece : List ℕ) → Writing → (new : Replaying) → Result (Unit {0}) Status → Type 0
PieceDoes m given taken piece w new (Ok u) = (more : List ℕ) × (Took w more × HasRead (given ++ piece) (taken ++ more) new)
PieceDoes m given taken piece w new (Err s) = (more : List ℕ) × (Took w more × PieceRefused m (given ++ piece) (taken ++ more) w new s)

-- the source wasn't read to its end. A piece with which it would have given over `most_script` bytes isn't looked at
abbrev pub ReadRefused : (m : Mode) → Reading → Writing → (new : Replaying) → Status → Type 0
ReadRefused m r w new status.WriteFault = (given taken : List ℕ) × (Gave r given × Took w taken × Rose w.faults w.faults_behind × WroteFront m given taken)
ReadRefused m r w new status.OutOfMemory = (given taken : List ℕ) × (Gave r given × Took w taken × WroteFront m given taken)
ReadRefused m r w new status.ReadFault = (given taken : List ℕ) × (GaveFew r given × Took w taken × Rose r.faults r.faults_behind × HasRead given taken new)
ReadRefused m r w new status.TooMuch =
    (given piece taken : List ℕ)
    × (Gave r (given ++ piece) × (length given ≤ most_script) × (most_script < length (given ++ piece)) × Took w taken × HasRead given taken new)
ReadRefused m r w new s = (given taken : List ℕ) × (lines : GoodLines) × (GaveFew r given × Took w taken × BreaksIn given lines s × HasEnded lines taken new)

-- reading the source came to this
abbrev pub ReadDoes : (m : Mode) → Reading → Writing → (new : Replaying) → Result (Unit {0}) Status → Type 0
ReadDoes m r w new (Ok u) = (given taken : List ℕ) × (GaveAll r given × Took w taken × HasRead given taken new)
ReadDoes m r w new (Err s) = ReadRefused m r w new s

-- these bytes are a whole script, and what is to be written for it is taken or still to be written
pub record HasReplayed (given taken : List ℕ) (r : Replaying) : Type 0 where
  pub script : Script
  pub is_script : IsScript given script
  pub at : IsAt r.mode (Session script) r.stage
  pub wrote : taken ++ r.out.items ≡ output_of r.mode script

-- nothing comes behind these bytes
abbrev pub EndDoes : (given taken : List ℕ) → (new : Replaying) → Result (Unit {0}) Status → Type 0
EndDoes given taken new (Ok u) = HasReplayed given taken new
EndDoes given taken new (Err s) = (s ≡ status.OutOfMemory) ⊎ ((lines : GoodLines) × (BreaksAtEnd given lines s × HasEnded lines taken new))
