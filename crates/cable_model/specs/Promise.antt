-- What is promised of the rows that are finished for a hold, over one node's journal.
use Rattle.std.specs.Prelude.{ℕ, suc, ◌≡◌, ◌≤◌, ⊤, Bool, true, false, cond, ◌==◌, ◌&&◌, ◌||◌, ◌⊎◌, List, [], ◌∷◌, ◌++◌, length, filter, map, take, Option, None, Some, ltb, leb}
use Rattle.std.specs.List.Sorted.{IsStrictlyIncreasing}
use mathlib.Core.List.{IsPrefix}
use Rattle.cable_base.specs.declared.rows.Row.{Row}
use Rattle.cable_model.specs.declared.journals.ReadNote.{ReadNote}
use Rattle.cable_model.specs.declared.pieces.Piece.{Piece}
use Rattle.cable_model.specs.declared.pieces.Piece.TheVariants as piece
use Rattle.cable_model.specs.Steps.{Step}
use Rattle.cable_model.specs.Connection.{Sub, Conn, Planner, change_of, fold, fresh, name_of, stands_sub, stands_want, worked}
use Rattle.cable_model.specs.Wants.{lower}
use Rattle.cable_model.specs.Pieces.{seat, waiting}
use Rattle.cable_model.specs.Possible.{has_job, is_empty}
use Rattle.cable_model.specs.Window.{Reads, finished, job, live}

-- ---- what each entry keeps

-- a Take finds a piece that waits and no job out. A Finish finds a job out, and its plan's change is the planned one
abbrev pub Worked : Planner → (c : ℕ) → Step → List Step → Type 0
Worked pl c (Step.Take d) past = d ≡ c → (has_job (seat c past) ≡ false) × (is_empty (waiting (seat c past)) ≡ false)
Worked pl c (Step.Finish d puts plan) past =
    d ≡ c → (has_job (seat c past) ≡ true) × ((p : Piece) → job (seat c past) ≡ Some p → plan.change ≡ change_of pl (seat c past).taken (seat c past).conn p)
Worked pl c _ past = ⊤

-- the pieces of c are worked one at a time, each as it is planned
abbrev pub AllWorked : Planner → (c : ℕ) → List Step → Type 0
AllWorked pl c [] = ⊤
AllWorked pl c (e ∷ past) = Worked pl c e past × AllWorked pl c past

-- what a turn's note is to the rows that were ever committed: its rows are those above `lower` up to `upto` that were present and whose hash was asked for
pub record Fits (rows : List Row) (reads : Reads) (turn : ℕ) (note : ReadNote) (low : ℕ) : Type 0 where
  pub lower : note.lower.0 ≡ low
  pub rises : note.lower.0 ≤ note.upto.0
  pub within : note.upto.0 ≤ note.last.0
  pub known : note.last.0 ≤ length rows
  pub found : note.rows ≡ filter (λ r. reads.present turn r && reads.asked turn r && (ltb note.lower.0 r.id.0 && leb r.id.0 note.upto.0)) rows

-- a Boot stands first, and the note of a turn that was not missed fits
abbrev pub Linked : (rows : List Row) → Reads → Step → List Step → Type 0
Linked rows reads (Step.Boot last) past = past ≡ []
Linked rows reads (Step.Deliver turn note) past = note.failed ≡ false → Fits rows reads turn note (lower past)
Linked rows reads _ past = ⊤

-- each turn begins where the last one ended, and found what was to be found
abbrev pub AllLinked : (rows : List Row) → Reads → List Step → Type 0
AllLinked rows reads [] = ⊤
AllLinked rows reads (e ∷ past) = Linked rows reads e past × AllLinked rows reads past

-- ---- confirmations

-- the `due` of the subscription s, where that stands
abbrev pub due_in : (s : ℕ) → List Sub → Option (Option ℕ)
due_in s [] = None
due_in s (x ∷ xs) = cond (x.number == s) (Some x.due) (due_in s xs)

-- a confirmation of s that isn't passed over
abbrev pub confirms : (s : ℕ) → Conn → Piece → Bool
confirms s k (piece.Confirm sub) = (sub.0 == s) && stands_sub s k
confirms s k (piece.Cmd read) = false
confirms s k (piece.Row sub want row) = false
confirms s k (piece.Remote reconnect) = false
confirms s k piece.Gone = false
confirms s k piece.Restart = false

-- where the piece is a row of the want w of s and isn't passed over, s was confirmed before (`seen`), or it was confirmed by its Subscribe
abbrev pub AfterConfirm : (s w : ℕ) → Conn → (seen : Bool) → Piece → Type 0
AfterConfirm s w k seen (piece.Row sub want row) = sub.0 ≡ s → want.0 ≡ w → stands_want s w k ≡ true → (due_in s k.subs ≡ Some None) ⊎ (seen ≡ true)
AfterConfirm s w k seen (piece.Cmd read) = ⊤
AfterConfirm s w k seen (piece.Confirm sub) = ⊤
AfterConfirm s w k seen (piece.Remote reconnect) = ⊤
AfterConfirm s w k seen piece.Gone = ⊤
AfterConfirm s w k seen piece.Restart = ⊤

-- each row of the want w of s among these pieces stands behind the confirmation of s
abbrev pub InOrder : Planner → (s w n : ℕ) → Conn → (seen : Bool) → List Piece → Type 0
InOrder pl s w n k seen [] = ⊤
InOrder pl s w n k seen (p ∷ ps) = AfterConfirm s w k seen p × InOrder pl s w (suc n) (worked pl (suc n) k p) (seen || confirms s k p) ps

-- ---- the promise

-- for the want w of the subscription s of c, where these rows are its window
pub record Windows (pl : Planner) (window : List Row) (c s w : ℕ) (past : List Step) : Type 0 where
  -- the window is the rows of the want among all pieces that were put, but for those passed over
  pub reached : window ≡ live pl s w (seat c past).pieces
  -- those finished are the window rows whose place is not behind the last finished piece, in this order
  pub worked : finished c s w past ≡ live pl s w (take (seat c past).done (seat c past).pieces)
  -- so they are a prefix of the window
  pub prefix : IsPrefix (finished c s w past) window
  -- and all of it where no piece waits and no job is out
  pub all : has_job (seat c past) ≡ false → is_empty (waiting (seat c past)) ≡ true → finished c s w past ≡ window
  -- each once, by rising id
  pub rising : IsStrictlyIncreasing (map (λ (r : Row). r.id.0) (finished c s w past))
  -- the confirmation comes before the first of them
  pub confirmed : InOrder pl s w 0 fresh false (seat c past).pieces
  -- none is finished behind the piece that ends the want: from any place on at which it was made and doesn't stand there is none
  pub ended : (front back : List Piece) → take (seat c past).done (seat c past).pieces ≡ front ++ back → w ≤ (fold pl front).made
      → name_of s w (fold pl front) ≡ None → finished c s w past ≡ live pl s w front
