-- What calls make of a node's holds: those that a change ends, those that a turn places, and what rows put for them.
use Rattle.std.specs.Prelude.{◌≡◌, ⊤, ◌==◌, ◌++◌, ℕ, cond, List, [], ◌∷◌, map, filter, flat_map, Option, None, Some, ltb}
use Rattle.cable_base.specs.Names.{own_name}
use Rattle.cable_base.specs.declared.rows.Row.{Row}
use Rattle.cable_base.specs.declared.numbers.RowId.{RowId}
use Rattle.cable_base.specs.declared.numbers.WantNo.{WantNo}
use Rattle.cable_json.specs.Disconnects.{disconnect_of}
use Rattle.cable_model.specs.Connection.{among}
use Rattle.cable_model.specs.declared.pieces.Piece.{Piece}
use Rattle.cable_model.specs.declared.pieces.Piece.TheVariants as piece
use Rattle.cable_model.specs.declared.plans.Change.{Change}
use Rattle.cable_model.specs.declared.plans.Change.TheVariants as change
use Rattle.cable_model.specs.Pieces.{remote_put}
use Rattle.conn_core.specs.Subscriptions.{Subscription, has_identifier, has_number}
use Rattle.stream_set.specs.declared.entries.StreamEntry.{StreamEntry}
use Rattle.stream_set.specs.Streams.{is_wanted_as}
use Rattle.conn_seat.specs.Seats.{Seated}
use Rattle.node_seats.specs.declared.turning.Delivery.{Delivery}
use Rattle.node_seats.specs.declared.turning.Wanted.{Wanted}
use Rattle.node_seats.specs.Numbers.{Numbers, seat_at}
use Rattle.subscriber_map.specs.declared.holding.Hold.{Hold}
use Rattle.subscriber_map.specs.Holds.{IsNewAmong}
use Rattle.subscriber_map.specs.HoldMaps.{HoldMap, holds_at, with_hold_at, without_at}
use Rattle.node_turns.specs.declared.placing.Placing.{Placing}
use Rattle.node_turns.specs.Held.{conn_of}

-- ---- what a change ends

-- a name with the want of a connection that may hold it
abbrev pub NamedWant : Type 0
NamedWant = List ℕ × WantNo

abbrev pub named : StreamEntry → NamedWant
named e = (e.name, e.want)

abbrev pub named_in : Subscription → List NamedWant
named_in s = map named s.streams

-- the streams of the subscription that stop
abbrev pub named_stops : (stops : List (List ℕ)) → Subscription → List NamedWant
named_stops stops s = map named (filter (λ e. among stops e.name) s.streams)

abbrev pub when_named : (identifier : List ℕ) → (Subscription → List NamedWant) → Subscription → List NamedWant
when_named identifier of s = cond (has_identifier identifier s) (of s) []

abbrev pub own_want : WantNo
own_want = record { 0 = 0 }

-- the wants that a change of these subscriptions of a user ends, each with its name
abbrev pub ended_by : Change → (user : List ℕ) → List Subscription → List NamedWant
ended_by change.Nothing user subs = []
ended_by (change.Add identifier streams) user subs = []
ended_by (change.Streams identifier stops streams) user subs = flat_map (when_named identifier (named_stops stops)) subs
ended_by (change.Remove identifier) user subs = flat_map (when_named identifier named_in) subs
ended_by change.Close user subs = (own_name user, own_want) ∷ flat_map named_in subs

-- the holds of these wants of c go
abbrev pub without_all : ℕ → List NamedWant → HoldMap → HoldMap
without_all c [] m = m
without_all c (n ∷ ns) m = without_all c ns (without_at m n.0 (conn_of c) n.1)

-- the holds behind a change
abbrev pub released : ℕ → Change → (user : List ℕ) → List Subscription → HoldMap → HoldMap
released c change user subs m = without_all c (ended_by change user subs) m

-- ---- what a turn places

-- the name of the want among these streams
abbrev pub name_among : WantNo → List StreamEntry → Option (List ℕ)
name_among want [] = None
name_among want (e ∷ es) = cond (is_wanted_as want e) (Some e.name) (name_among want es)

-- .. among those of these subscriptions
abbrev pub name_wanted : Wanted → List Subscription → Option (List ℕ)
name_wanted w [] = None
name_wanted w (s ∷ subs) = cond (has_number w.sub s) (name_among w.want s.streams) (name_wanted w subs)

-- the name that the want stands for: the connection's own, or one of a stream
abbrev pub name_in : Wanted → Option Seated → Option (List ℕ)
name_in w None = None
name_in w (Some s) = cond (w.sub.0 == 0) (Some (own_name s.user)) (name_wanted w s.subs)

abbrev pub placing_as : RowId → Wanted → Option (List ℕ) → List Placing
placing_as mark w None = []
placing_as mark w (Some name) = record { name = name; hold = record { conn = w.conn; sub = w.sub; want = w.want; mark = mark } } ∷ []

-- the holds that these wants become with this mark: of each that stands on a live connection
abbrev pub placings_of : Numbers → RowId → List Wanted → List Placing
placings_of v mark [] = []
placings_of v mark (w ∷ ws) = placing_as mark w (name_in w (seat_at w.conn.0 v)) ++ placings_of v mark ws

abbrev pub with_placings : List Placing → HoldMap → HoldMap
with_placings [] m = m
with_placings (p ∷ ps) m = with_placings ps (with_hold_at m p.name p.hold)

-- each is new among the holds of its name, once those before it are placed
abbrev pub AreNew : List Placing → HoldMap → Type 0
AreNew [] m = ⊤
AreNew (p ∷ ps) m = IsNewAmong p.hold (holds_at m p.name) × AreNew ps (with_hold_at m p.name p.hold)

-- to take each away again gives the map as it was before it
abbrev pub AreUndone : List Placing → HoldMap → Type 0
AreUndone [] m = ⊤
AreUndone (p ∷ ps) m = (without_at (with_hold_at m p.name p.hold) p.name p.hold.conn p.hold.want ≡ m) × AreUndone ps (with_hold_at m p.name p.hold)

-- ---- what rows put

abbrev pub piece_for : Hold → Row → List Piece
piece_for h row = cond (h.sub.0 == 0) (remote_put (disconnect_of row.payload)) (piece.Row h.sub h.want row ∷ [])

-- what a row puts for a hold: nothing, where the mark isn't below its id
abbrev pub held_puts : Row → Hold → List Delivery
held_puts row h = cond (ltb h.mark.0 row.id.0) (map (λ (p : Piece). record { conn = h.conn; piece = p }) (piece_for h row)) []

-- what rows put, in their order, each for the holds of its name in theirs
abbrev pub rows_bring : HoldMap → List Row → List Delivery
rows_bring m [] = []
rows_bring m (row ∷ rows) = flat_map (held_puts row) (holds_at m row.channel) ++ rows_bring m rows
