-- What a turn makes of the connections of a node: room for its pieces, the pieces, and the marks of the wants that it takes.
use Rattle.std.specs.Prelude.{◌≡◌, ◌==◌, ◌+◌, ℕ, Bool, List, [], ◌∷◌, cond, filter, map, length, Option, None, Some, option_map}
use Rattle.std.specs.Map.{keys_of}
use Rattle.cable_base.specs.declared.numbers.SubNo.{SubNo}
use Rattle.cable_base.specs.declared.numbers.WantNo.{WantNo}
use Rattle.cable_base.specs.declared.numbers.RowId.{RowId}
use Rattle.cable_model.specs.declared.pieces.Piece.{Piece}
use Rattle.cable_model.specs.Pieces.{Placed}
use Rattle.conn_seat.specs.Seats.{Seated, Becomes, may_take_now}
use Rattle.conn_seat.specs.Tasks.{first_of, task_in}
use Rattle.conn_seat.specs.Turns.{with_pieces, placed_each}
use Rattle.node_seats.specs.declared.slots.Errand.{Errand}
use Rattle.node_seats.specs.declared.turning.Delivery.{Delivery}
use Rattle.node_seats.specs.declared.turning.Wanted.{Wanted}
use Rattle.node_seats.specs.Numbers.{Numbers, Opened, opened_at, seat_at, HasRoomAt}

-- ---- what a turn brings, by connection

abbrev pub is_for : ℕ → Delivery → Bool
is_for c d = d.conn.0 == c

-- the pieces for the connection c, in order
abbrev pub pieces_for : ℕ → List Delivery → List Piece
pieces_for c ds = map (λ (d : Delivery). d.piece) (filter (is_for c) ds)

abbrev pub is_by : ℕ → Wanted → Bool
is_by c w = w.conn.0 == c

-- those of the connection c, in order
abbrev pub wanted_by : ℕ → List Wanted → List Wanted
wanted_by c ws = filter (is_by c) ws

abbrev pub pair_of : Wanted → SubNo × WantNo
pair_of w = (w.sub, w.want)

-- the subscription and the want of each of those of c
abbrev pub pairs_by : ℕ → List Wanted → List (SubNo × WantNo)
pairs_by c ws = map pair_of (wanted_by c ws)

-- ---- what calls make of the numbers

-- what is kept of a number goes over by this relation, where it is a live connection, and else stays
abbrev pub TurnsOne : (Seated → Seated → Type 0) → Option Opened → Option Opened → Type 0
TurnsOne By None o = o ≡ None
TurnsOne By (Some Opened.Over) o = o ≡ Some Opened.Over
TurnsOne By (Some (Opened.Live s)) o = (t : Seated) × By s t × (o ≡ Some (Opened.Live t))

-- each live connection goes over by the relation of its number, and all else stays
pub record Turns (By : ℕ → Seated → Seated → Type 0) (v new : Numbers) : Type 0 where
  pub numbers : keys_of new ≡ keys_of v
  pub each : (c : ℕ) → TurnsOne (By c) (opened_at c v) (opened_at c new)

-- the room that a connection needs for these pieces: for each, and for a closing one behind them. Without pieces it needs none
abbrev pub room_for : List Piece → ℕ
room_for [] = 0
room_for (p ∷ ps) = length ps + 2

-- there is room on each live connection for the pieces that are for it, and for a closing one
abbrev pub HasRoomFor : List Delivery → Numbers → Type 0
HasRoomFor ds v = (c : ℕ) → HasRoomAt c (room_for (pieces_for c ds)) v

-- the same, where pieces are counted one after another: a number without pieces isn't counted
abbrev pub needed_in : List Piece → Option ℕ
needed_in [] = None
needed_in (p ∷ ps) = Some (length ps + 2)

abbrev pub one_more : Option ℕ → ℕ
one_more None = 2
one_more (Some n) = n + 1

abbrev pub or_none : Option ℕ → ℕ
or_none None = 0
or_none (Some n) = n

-- room is made, and nothing else
abbrev pub Roomier : Numbers → Numbers → Type 0
Roomier v new = Turns (λ c s t. Becomes s t) v new

-- the pieces for each live connection are put on it
abbrev pub Delivers : List Delivery → Numbers → Numbers → Type 0
Delivers ds v new = Turns (λ c s t. Becomes (with_pieces (pieces_for c ds) s) t) v new

-- the wants of each live connection get the mark
abbrev pub Places : RowId → List Wanted → Numbers → Numbers → Type 0
Places mark ws v new = Turns (λ c s t. t ≡ record s { subs = placed_each mark (pairs_by c ws) s.subs }) v new

-- ---- what is taken

-- what its worker is told of a piece that is taken
abbrev pub errand_of : Seated → Placed → Errand
errand_of s p = record { place = p.place; user = s.user; task = task_in s p }

-- .. of the piece that a take would take from the connection c, if a take would take one
abbrev pub errand_in : Option Seated → Option Errand
errand_in None = None
errand_in (Some s) = cond (may_take_now s) (option_map (errand_of s) (first_of s.waiting)) None

abbrev pub errand_at : ℕ → Numbers → Option Errand
errand_at c v = errand_in (seat_at c v)
