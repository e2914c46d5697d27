-- The window of a hold: the rows that are to reach it.
use Rattle.std.specs.Prelude.{ℕ, suc, ◌-◌, ◌==◌, Bool, false, cond, not, ◌&&◌, List, [], ◌∷◌, ◌++◌, filter, Option, None, Some, bytes_eq, is_some, ltb, leb, slice_get}
use Rattle.cable_base.specs.declared.rows.Row.{Row}
use Rattle.cable_model.specs.declared.journals.ReadNote.{ReadNote}
use Rattle.cable_model.specs.declared.pieces.Piece.{Piece}
use Rattle.cable_model.specs.declared.pieces.Piece.TheVariants as piece
use Rattle.cable_model.specs.Steps.{Step, Finish, Deliver}
use Rattle.cable_model.specs.Connection.{Conn, Planner, fold, fresh, name_of, stands_want, worked}
use Rattle.cable_model.specs.Wants.{marks, mark_of, user_of}
use Rattle.cable_model.specs.Pieces.{Seat, seat, put_all, rows_puts, below}

-- a delivered turn, with what stood before its Deliver
pub record Reach : Type 0 where
  pub turn : ℕ
  pub note : ReadNote
  pub past : List Step

abbrev pub first_of_two : Option Reach → Option Reach → Option Reach
first_of_two None later = later
first_of_two (Some t) later = Some t

-- the turn reaches the id, and it comes behind the one that placed the hold of the want w
abbrev pub reaches : (c w id turn : ℕ) → ReadNote → List Step → Option Reach
reaches c w id turn note past =
    cond (not note.failed && leb id note.upto.0 && is_some (mark_of w (marks c past))) (Some (record { turn = turn; note = note; past = past })) None

-- the first turn behind the placing one that is delivered, isn't missed, and reaches the id
abbrev pub first_reach : (c w id : ℕ) → List Step → Option Reach
first_reach c w id [] = None
first_reach c w id (Deliver turn note ∷ past) = first_of_two (first_reach c w id past) (reaches c w id turn note past)
first_reach c w id (_ ∷ past) = first_reach c w id past

-- what a window takes besides the journal: whether a row was present at a turn's Read, and whether the hash of its name was asked for there
pub record Reads : Type 0 where
  pub present : ℕ → Row → Bool
  pub asked : ℕ → Row → Bool

abbrev pub same_name : Option (List ℕ) → List ℕ → Bool
same_name None name = false
same_name (Some held) name = bytes_eq held name

abbrev pub earlier : Row → List Row → List Row
earlier row rows = filter (λ r. ltb r.id.0 row.id.0) rows

-- the pieces of c that were put before the Deliver, worked or not, and those that it puts for rows below this one
abbrev pub pieces_before : ℕ → Row → ReadNote → List Step → List Piece
pieces_before c row note past = put_all (seat c past).pieces (rows_puts (user_of c past) (marks c past) (seat c past).conn.subs (earlier row note.rows))

-- the turn found the row, and the want still stands after those pieces, under the row's name. A closed connection has no subscription, so this says too that none of them closes it
abbrev pub found_at : Planner → Reads → (c s w : ℕ) → Row → Option Reach → Bool
found_at pl reads c s w row None = false
found_at pl reads c s w row (Some t) =
    reads.present t.turn row && reads.asked t.turn row && same_name (name_of s w (fold pl (pieces_before c row t.note t.past))) row.channel

-- the row is in the window of the hold of the want w of the subscription s of c: it is above the mark, and the first turn that reaches it found it
abbrev pub in_window : Planner → Reads → (c s w : ℕ) → List Step → Row → Bool
in_window pl reads c s w past row = below (mark_of w (marks c past)) row.id.0 && found_at pl reads c s w row (first_reach c w row.id.0 past)

-- of these rows, in order, those in the window
abbrev pub window : Planner → Reads → (c s w : ℕ) → List Step → List Row → List Row
window pl reads c s w past rows = filter (in_window pl reads c s w past) rows

-- ---- what is finished for a want

-- the piece is one of the want w of s
abbrev pub row_in : (s w : ℕ) → Piece → List Row
row_in s w (piece.Row sub want row) = cond (sub.0 == s && want.0 == w) (row ∷ []) []
row_in s w (piece.Cmd read) = []
row_in s w (piece.Confirm sub) = []
row_in s w (piece.Remote reconnect) = []
row_in s w piece.Gone = []
row_in s w piece.Restart = []

abbrev pub row_worked : (s w : ℕ) → Option Piece → List Row
row_worked s w None = []
row_worked s w (Some p) = row_in s w p

-- the piece that was taken last
abbrev pub job : Seat → Option Piece
job s = slice_get s.pieces (s.taken - 1)

-- the rows of the want w of s of c whose pieces were finished, in order
abbrev pub finished : (c s w : ℕ) → List Step → List Row
finished c s w [] = []
finished c s w (Finish d puts plan ∷ past) = cond (d == c) (finished c s w past ++ row_worked s w (job (seat c past))) (finished c s w past)
finished c s w (_ ∷ past) = finished c s w past

-- ---- what is live among the pieces

-- the row, where the piece is one of the want w of s, and that want stands
abbrev pub row_of : (s w : ℕ) → Conn → Piece → List Row
row_of s w k p = cond (stands_want s w k) (row_in s w p) []

-- the rows of the want w of s among these pieces that aren't passed over, each judged on the connection after those before it
abbrev pub live_from : Planner → (s w n : ℕ) → Conn → List Piece → List Row
live_from pl s w n k [] = []
live_from pl s w n k (p ∷ ps) = row_of s w k p ++ live_from pl s w (suc n) (worked pl (suc n) k p) ps

abbrev pub live : Planner → (s w : ℕ) → List Piece → List Row
live pl s w ps = live_from pl s w 0 fresh ps
