-- Which turn takes a want, and with it a confirmation, in the words of a journal: the first one that was not missed and that was asked behind
-- the entry that made the want. The journals are read newest entry first, so what stands before an entry is the list behind it.
use Rattle.std.specs.Prelude.{ℕ, ◌+◌, ◌≡◌, ◌≤◌, ◌<◌, ◌↔◌, ◌⊎◌, false, List, ◌∷◌, ◌++◌, Option, Some, Contains}
use Rattle.cable_base.specs.declared.numbers.RowId.{RowId}
use Rattle.cable_base.specs.declared.numbers.SubNo.{SubNo}
use Rattle.cable_model.specs.declared.journals.ReadNote.{ReadNote}
use Rattle.cable_model.specs.declared.pieces.Piece.{Piece}
use Rattle.cable_model.specs.declared.pieces.Piece.TheVariants as piece
use Rattle.cable_model.specs.declared.plans.Plan.{Plan}
use Rattle.cable_model.specs.Steps.{Step}
use Rattle.cable_model.specs.Connection.{Sub}
use Rattle.cable_model.specs.Wants.{made, makes, marks, mark_of, turn_mark, user_of}
use Rattle.cable_model.specs.Pieces.{seat, deliver_puts}

-- c was opened with a user
pub record HasUser (c : ℕ) (past : List Step) : Type 0 where
  pub newer : List Step
  pub token : List ℕ
  pub user : List ℕ
  pub older : List Step
  pub opened : past ≡ newer ++ Step.Open c token (Some user) ∷ older

-- a Finish of c made its want w. Wants are numbered from 1, as they are made
pub record IsWanted (c w : ℕ) (past : List Step) : Type 0 where
  pub newer : List Step
  pub puts : List (Option RowId)
  pub plan : Plan
  pub older : List Step
  pub finished : past ≡ newer ++ Step.Finish c puts plan ∷ older
  pub above : made c older < w
  pub within : w ≤ made c older + makes plan.change

-- the want w of c was made. Its own want is number 0, and is made where it is opened with a user
abbrev pub IsMade : (c w : ℕ) → List Step → Type 0
IsMade c w past = ((w ≡ 0) × HasUser c past) ⊎ IsWanted c w past

-- the turn whose Deliver stands behind this past was not missed, and finds the want: it was made before the turn's Ask
pub record Finds (c w turn : ℕ) (note : ReadNote) (past : List Step) : Type 0 where
  pub read : note.failed ≡ false
  pub between : List Step
  pub before : List Step
  pub asked : past ≡ between ++ Step.Ask turn ∷ before
  pub made : IsMade c w before

-- the turn takes the want: it finds it, and no turn that was delivered before found it
pub record Takes (c w turn : ℕ) (note : ReadNote) (past : List Step) : Type 0 where
  pub finds : Finds c w turn note past
  pub first : (newer : List Step) (earlier : ℕ) (its : ReadNote) (older : List Step) → past ≡ newer ++ Step.Deliver earlier its ∷ older → ¬ Finds c w earlier its older

-- a turn of this journal takes the want, and the table's last id at its Read is m
pub record IsTaken (c w m : ℕ) (past : List Step) : Type 0 where
  pub newer : List Step
  pub turn : ℕ
  pub note : ReadNote
  pub older : List Step
  pub delivered : past ≡ newer ++ Step.Deliver turn note ∷ older
  pub takes : Takes c w turn note older
  pub last : note.last.0 ≡ m

-- a want has a mark exactly where a turn takes it, and that turn's
abbrev pub MarksAreTaken : (c : ℕ) → List Step → Type 0
MarksAreTaken c past = (w m : ℕ) → (mark_of w (marks c past) ≡ Some m) ↔ IsTaken c w m past

-- ---- confirmations

-- what the Deliver behind this past puts on c, where its turn was not missed
abbrev pub turn_puts : (c : ℕ) → ReadNote → List Step → List Piece
turn_puts c note past = deliver_puts (user_of c past) (marks c past) (turn_mark c note past) (seat c past).conn.subs note.rows

-- the turn takes the confirmation of the subscription s: that stands, and the turn takes the first want that its Subscribe made
pub record TakesConfirm (c s turn : ℕ) (note : ReadNote) (past : List Step) : Type 0 where
  pub sub : Sub
  pub stands : Contains (seat c past).conn.subs sub
  pub number : sub.number ≡ s
  pub first : ℕ
  pub due : sub.due ≡ Some first
  pub takes : Takes c first turn note past

-- a turn puts a confirmation exactly where it takes it
abbrev pub ConfirmsAreTaken : (c : ℕ) → List Step → Type 0
ConfirmsAreTaken c past =
    (newer : List Step) (turn : ℕ) (note : ReadNote) (older : List Step) → past ≡ newer ++ Step.Deliver turn note ∷ older → note.failed ≡ false
    → (s : SubNo) → Contains (turn_puts c note older) (piece.Confirm s) ↔ TakesConfirm c s.0 turn note older
