-- The pieces of one connection, and which of them were taken and finished. Read over a journal, newest entry first.
use Rattle.std.specs.Prelude.{ℕ, suc, ◌==◌, Bool, true, false, cond, ◌&&◌, List, [], ◌∷◌, ◌++◌, drop, filter, Option, None, Some, bytes_eq, is_none, is_some, ltb}
use Rattle.std.specs.List.{list_any}
use Rattle.cable_base.specs.Names.{own_name}
use Rattle.cable_base.specs.declared.rows.Row.{Row}
use Rattle.cable_json.specs.Commands.{command_of}
use Rattle.cable_json.specs.Disconnects.{disconnect_of}
use Rattle.cable_model.specs.declared.pieces.Piece.{Piece}
use Rattle.cable_model.specs.declared.pieces.Piece.TheVariants as piece
use Rattle.cable_model.specs.declared.plans.Plan.{Plan}
use Rattle.cable_model.specs.Steps.{Step, Boot, Open, In, Drop, Stop, Take, Finish, Ask, Deliver, Beat}
use Rattle.cable_model.specs.Connection.{Want, Sub, Conn, fresh, changed, still}
use Rattle.cable_model.specs.Wants.{Mark, marks, mark_of, turn_mark, user_of}

abbrev pub is_closing : Piece → Bool
is_closing (piece.Cmd read) = false
is_closing (piece.Row sub want row) = false
is_closing (piece.Confirm sub) = false
is_closing (piece.Remote reconnect) = true
is_closing piece.Gone = true
is_closing piece.Restart = true

-- a closing piece was put
abbrev pub closing : List Piece → Bool
closing ps = list_any is_closing ps

-- after a closing piece nothing is put
abbrev pub put : List Piece → Piece → List Piece
put ps p = cond (closing ps) ps (ps ++ p ∷ [])

abbrev pub put_all : List Piece → List Piece → List Piece
put_all ps [] = ps
put_all ps (q ∷ qs) = put_all (put ps q) qs

-- ---- what a turn puts

-- whether the mark is there and below the id
abbrev pub below : Option ℕ → ℕ → Bool
below None id = false
below (Some mark) id = ltb mark id

abbrev pub row_piece : (s w : ℕ) → Row → Piece
row_piece s w row = piece.Row (record { 0 = s }) (record { 0 = w }) row

-- what a row puts for the holds of one subscription: those of exactly its name whose mark is below its id
abbrev pub hold_puts : List Mark → Row → ℕ → List Want → List Piece
hold_puts ms row s [] = []
hold_puts ms row s (w ∷ ws) =
    cond (bytes_eq w.name row.channel && below (mark_of w.number ms) row.id.0) (row_piece s w.number row ∷ hold_puts ms row s ws) (hold_puts ms row s ws)

-- what a row puts for the holds of the subscriptions, in their order
abbrev pub sub_puts : List Mark → Row → List Sub → List Piece
sub_puts ms row [] = []
sub_puts ms row (s ∷ ss) = hold_puts ms row s.number s.wants ++ sub_puts ms row ss

abbrev pub remote_put : Option Bool → List Piece
remote_put None = []
remote_put (Some reconnect) = piece.Remote reconnect ∷ []

-- what a row puts for the connection's own hold: a payload that is a disconnect closes the connection, another is passed over
abbrev pub own_puts : (user : Option (List ℕ)) → List Mark → Row → List Piece
own_puts None ms row = []
own_puts (Some user) ms row = cond (bytes_eq (own_name user) row.channel && below (mark_of 0 ms) row.id.0) (remote_put (disconnect_of row.payload)) []

-- what a row puts on a connection of this user. No subscription holds its own name, since that is reserved: only one of the two parts has pieces, and their order is a choice
abbrev pub row_puts : (user : Option (List ℕ)) → List Mark → List Sub → Row → List Piece
row_puts user ms subs row = sub_puts ms row subs ++ own_puts user ms row

abbrev pub rows_puts : (user : Option (List ℕ)) → List Mark → List Sub → List Row → List Piece
rows_puts user ms subs [] = []
rows_puts user ms subs (row ∷ rows) = row_puts user ms subs row ++ rows_puts user ms subs rows

-- the turn takes the first want, so the confirmation that is due with it
abbrev pub takes_now : List Mark → List Mark → Option ℕ → Bool
takes_now ms now None = false
takes_now ms now (Some first) = is_none (mark_of first ms) && is_some (mark_of first now)

-- the confirmations that a turn takes, in the order of the subscriptions that stand
abbrev pub confirm_puts : List Mark → List Mark → List Sub → List Piece
confirm_puts ms now [] = []
confirm_puts ms now (s ∷ ss) = cond (takes_now ms now s.due) (piece.Confirm (record { 0 = s.number }) ∷ confirm_puts ms now ss) (confirm_puts ms now ss)

-- what the Deliver of a turn that was not missed puts: the rows first, for the holds that earlier turns placed (`ms`), then the confirmations that this one takes (`now`)
abbrev pub deliver_puts : (user : Option (List ℕ)) → List Mark → List Mark → List Sub → List Row → List Piece
deliver_puts user ms now subs rows = rows_puts user ms subs rows ++ confirm_puts ms now subs

-- ---- a connection at a place of the journal

-- a piece with its place, counted from 1
pub record Placed : Type 0 where
  pub place : ℕ
  pub piece : Piece

-- these pieces, the first of which stands at the place behind n
abbrev pub numbered : ℕ → List Piece → List Placed
numbered n [] = []
numbered n (p ∷ ps) = record { place = suc n; piece = p } ∷ numbered (suc n) ps

pub record Seat : Type 0 where
  -- all pieces that were put
  pub pieces : List Piece
  -- the place of the last one that was taken
  pub taken : ℕ
  -- the place of the last one that was finished
  pub done : ℕ
  -- the connection after those that were finished
  pub conn : Conn

-- the pieces that wait: those behind the taken ones that aren't passed over
abbrev pub waiting : Seat → List Placed
waiting s = filter (λ p. still s.conn p.piece) (drop s.taken (numbered 0 s.pieces))

abbrev pub first_place : List Placed → ℕ → ℕ
first_place [] n = n
first_place (p ∷ ps) n = p.place

abbrev pub with_put : Seat → Piece → Seat
with_put s p = record { pieces = put s.pieces p; taken = s.taken; done = s.done; conn = s.conn }

abbrev pub with_all : Seat → List Piece → Seat
with_all s ps = record { pieces = put_all s.pieces ps; taken = s.taken; done = s.done; conn = s.conn }

-- the first waiting piece is the next one
abbrev pub with_job : Seat → Seat
with_job s = record { pieces = s.pieces; taken = first_place (waiting s) s.taken; done = s.done; conn = s.conn }

abbrev pub with_plan : Seat → Plan → Seat
with_plan s plan = record { pieces = s.pieces; taken = s.taken; done = s.taken; conn = changed plan.change s.taken s.conn }

-- what an entry makes of the connection c. A Stop puts on each live connection; one that is over has a closing piece, behind which nothing is put
abbrev pub stepped : ℕ → Step → List Step → Seat → Seat
stepped c (Boot last) past s = s
stepped c (Open d token user) past s = s
stepped c (In d text) past s = cond (d == c) (with_put s (piece.Cmd (command_of text))) s
stepped c (Drop d) past s = cond (d == c) (with_put s piece.Gone) s
stepped c Stop past s = cond (is_some (user_of c past)) (with_put s piece.Restart) s
stepped c (Take d) past s = cond (d == c) (with_job s) s
stepped c (Finish d puts plan) past s = cond (d == c) (with_plan s plan) s
stepped c (Ask turn) past s = s
stepped c (Deliver turn note) past s =
    cond note.failed s (with_all s (deliver_puts (user_of c past) (marks c past) (turn_mark c note past) s.conn.subs note.rows))
stepped c (Beat now) past s = s

abbrev pub unseated : Seat
unseated = record { pieces = []; taken = 0; done = 0; conn = fresh }

-- the connection c after a journal
abbrev pub seat : ℕ → List Step → Seat
seat c [] = unseated
seat c (e ∷ past) = stepped c e past (seat c past)
