-- What a delivered turn makes of a connection: the streams that it takes get their mark, and its pieces are put.
use Rattle.std.specs.Prelude.{◌≡◌, ⊤, ◌==◌, ◌&&◌, ℕ, Bool, true, false, cond, List, [], ◌∷◌, ◌++◌, map, Option, None, Some, option_map, is_none, bytes_eq, ltb, leb}
use Rattle.std.specs.List.{list_any}
use Rattle.cable_base.specs.declared.numbers.RowId.{RowId}
use Rattle.cable_base.specs.declared.numbers.SubNo.{SubNo}
use Rattle.cable_base.specs.declared.numbers.WantNo.{WantNo}
use Rattle.cable_base.specs.declared.rows.Row.{Row}
use Rattle.stream_set.specs.declared.entries.StreamEntry.{StreamEntry}
use Rattle.cable_model.specs.declared.pieces.Piece.{Piece}
use Rattle.cable_model.specs.declared.pieces.Piece.TheVariants as piece
use Rattle.cable_model.specs.Wants.{Mark, mark_of}
use Rattle.conn_core.specs.Marked.{row_id}
use Rattle.conn_core.specs.Subscriptions.{Subscription, placed_in}
use Rattle.conn_seat.specs.Seats.{Seated, with_piece}

-- pieces are put, one after another
abbrev pub with_pieces : List Piece → Seated → Seated
with_pieces [] v = v
with_pieces (p ∷ ps) v = with_pieces ps (with_piece p v)

abbrev pub or_mark : Option RowId → Option ℕ → Option RowId
or_mark (Some id) mark = Some id
or_mark None mark = option_map row_id mark

-- a stream without a mark gets the one that these turns give its want, if they give one
abbrev pub taken_stream : List Mark → StreamEntry → StreamEntry
taken_stream turns e = record e { mark = or_mark e.mark (mark_of e.want.0 turns) }

abbrev pub taken_sub : List Mark → Subscription → Subscription
taken_sub turns s = record s { streams = map (taken_stream turns) s.streams }

abbrev pub taken_by : List Mark → List Subscription → List Subscription
taken_by turns subs = map (taken_sub turns) subs

-- the streams that the turn takes get their mark, and its pieces are put
abbrev pub with_turn : List Mark → List Piece → Seated → Seated
with_turn turns qs v = with_pieces qs (record v { subs = taken_by turns v.subs })

-- ---- the wants that a turn took, placed one after another

abbrev pub is_pair : SubNo → WantNo → SubNo × WantNo → Bool
is_pair sub want t = (sub.0 == t.0.0) && (want.0 == t.1.0)

-- these wants get the mark, in turn
abbrev pub placed_each : RowId → List (SubNo × WantNo) → List Subscription → List Subscription
placed_each mark [] subs = subs
placed_each mark (t ∷ ts) subs = placed_each mark ts (placed_in t.0 t.1 mark subs)

-- among these wants are those of the streams that have no mark and were wanted up to `seen`, and none that was wanted later
abbrev pub AreTakenOf : ℕ → List (SubNo × WantNo) → SubNo → List StreamEntry → Type 0
AreTakenOf seen ts sub [] = ⊤
AreTakenOf seen ts sub (e ∷ es) = (is_none e.mark ≡ true → list_any (is_pair sub e.want) ts ≡ leb e.want.0 seen) × AreTakenOf seen ts sub es

abbrev pub AreTaken : ℕ → List (SubNo × WantNo) → List Subscription → Type 0
AreTaken seen ts [] = ⊤
AreTaken seen ts (s ∷ subs) = AreTakenOf seen ts s.number s.streams × AreTaken seen ts subs

-- ---- what a row puts for the streams that are held

abbrev pub is_below : Option RowId → RowId → Bool
is_below None id = false
is_below (Some mark) id = ltb mark.0 id.0

-- the stream has exactly the row's name, and its mark is below the row's id
abbrev pub gets : Row → StreamEntry → Bool
gets row e = bytes_eq e.name row.channel && is_below e.mark row.id

abbrev pub stream_puts : Row → SubNo → List StreamEntry → List Piece
stream_puts row sub [] = []
stream_puts row sub (e ∷ es) = cond (gets row e) (piece.Row sub e.want row ∷ stream_puts row sub es) (stream_puts row sub es)

abbrev pub row_puts_for : Row → List Subscription → List Piece
row_puts_for row [] = []
row_puts_for row (s ∷ subs) = stream_puts row s.number s.streams ++ row_puts_for row subs
