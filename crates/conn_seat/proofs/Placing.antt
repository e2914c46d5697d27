-- The wants that a turn took, placed one after another, and what rows put for the streams that are held.
use Rattle.std.proofs.Common.{ℕ, ◌≡◌, ◌==◌, Bool, true, false, cond, ◌&&◌, ◌||◌, List, [], ◌∷◌, map, Option, Some, None, refl, ap, sym, ◌∙◌, bytes_eq, is_none, leb}
use Rattle.std.specs.Prelude.{option_map}
use Rattle.std.specs.List.{list_any}
use Rattle.cable_base.specs.declared.numbers.RowId.{RowId}
use Rattle.cable_base.specs.declared.numbers.SubNo.{SubNo}
use Rattle.cable_base.specs.declared.numbers.WantNo.{WantNo}
use Rattle.cable_base.specs.declared.rows.Row.{Row}
use Rattle.stream_set.specs.declared.entries.StreamEntry.{StreamEntry}
use Rattle.stream_set.specs.Streams.{placed_one as placed_stream}
use Rattle.cable_model.specs.Steps.{Step}
use Rattle.cable_model.specs.Connection.{Want, Sub}
use Rattle.cable_model.specs.Wants.{Mark, marks, mark_of}
use Rattle.cable_model.specs.Pieces.{seat, below, row_piece, hold_puts, sub_puts}
use Rattle.conn_core.specs.Marked.{row_id, marked_want, marked_sub}
use Rattle.conn_core.specs.Subscriptions.{Subscription, placed_one}
use Rattle.conn_core.proofs.Mapped.{map-twice}
use Rattle.conn_seat.specs.Seats.{Seated}
use Rattle.conn_seat.specs.Seated.{SeatOf}
use Rattle.conn_seat.specs.Turns.{taken_stream, taken_sub, taken_by, is_pair, placed_each, AreTakenOf, AreTaken, is_below, stream_puts, row_puts_for}

-- ---- places

-- the stream gets the mark, where it has none and its want is one of these
abbrev placed_of : RowId → List (SubNo × WantNo) → SubNo → StreamEntry → StreamEntry
placed_of mark ts sub e = cond (is_none e.mark && list_any (is_pair sub e.want) ts) (record e { mark = Some mark }) e

abbrev placed_sub : RowId → List (SubNo × WantNo) → Subscription → Subscription
placed_sub mark ts s = record s { streams = map (placed_of mark ts s.number) s.streams }

map-same : {A B : Type 0} (f g : A → B) (xs : List A) → ((x : A) → f x ≡ g x) → map f xs ≡ map g xs
map-same f g [] h = refl
map-same f g (x ∷ xs) h = rw (h x, map-same f g xs h) refl

map-own : {A : Type 0} (f : A → A) (xs : List A) → ((x : A) → f x ≡ x) → map f xs ≡ xs
map-own f [] h = refl
map-own f (x ∷ xs) h = rw (h x, map-own f xs h) refl

none-placed : (mark : RowId) (sub : SubNo) (e : StreamEntry) → placed_of mark [] sub e ≡ e
none-placed mark sub e = go e.mark refl
  where
    go : (m : Option RowId) → e.mark ≡ m → placed_of mark [] sub e ≡ e
    go None m = rw m refl
    go (Some id) m = rw m refl

one-more : (mark : RowId) (t : SubNo × WantNo) (ts : List (SubNo × WantNo)) (sub : SubNo) (e : StreamEntry) → (sub.0 == t.0.0) ≡ true → placed_of mark ts sub (placed_stream t.1 mark e) ≡ placed_of mark (t ∷ ts) sub e
one-more mark t ts sub e n = go e.mark refl (e.want.0 == t.1.0) refl
  where
    go : (m : Option RowId) → e.mark ≡ m → (w : Bool) → (e.want.0 == t.1.0) ≡ w → placed_of mark ts sub (placed_stream t.1 mark e) ≡ placed_of mark (t ∷ ts) sub e
    go (Some id) m true w = rw (m, w) refl
    go (Some id) m false w = rw (m, w) refl
    go None m true w = rw (n, m, w) refl
    go None m false w = rw (n, m, w) refl

no-more : (mark : RowId) (t : SubNo × WantNo) (ts : List (SubNo × WantNo)) (sub : SubNo) (e : StreamEntry) → (sub.0 == t.0.0) ≡ false → placed_of mark ts sub e ≡ placed_of mark (t ∷ ts) sub e
no-more mark t ts sub e n = ap (λ b. cond (is_none e.mark && ((b && (e.want.0 == t.1.0)) || list_any (is_pair sub e.want) ts)) (record e { mark = Some mark }) e) (sym n)

sub-more : (mark : RowId) (t : SubNo × WantNo) (ts : List (SubNo × WantNo)) (s : Subscription) → placed_sub mark ts (placed_one t.0 t.1 mark s) ≡ placed_sub mark (t ∷ ts) s
sub-more mark t ts s = go (s.number.0 == t.0.0) refl
  where
    streams_as : List StreamEntry → Subscription
    streams_as es = record s { streams = es }

    go : (n : Bool) → (s.number.0 == t.0.0) ≡ n → placed_sub mark ts (placed_one t.0 t.1 mark s) ≡ placed_sub mark (t ∷ ts) s
    go true n =
        ap (λ b. placed_sub mark ts (cond b (record s { streams = map (placed_stream t.1 mark) s.streams }) s)) n
        ∙ ap streams_as
        (map-twice (placed_of mark ts s.number) (placed_stream t.1 mark) s.streams
        ∙ map-same (λ e. placed_of mark ts s.number (placed_stream t.1 mark e)) (placed_of mark (t ∷ ts) s.number) s.streams (λ e. one-more mark t ts s.number e n))
    go false n =
        ap (λ b. placed_sub mark ts (cond b (record s { streams = map (placed_stream t.1 mark) s.streams }) s)) n
        ∙ ap streams_as (map-same (placed_of mark ts s.number) (placed_of mark (t ∷ ts) s.number) s.streams (λ e. no-more mark t ts s.number e n))

each-placed : (mark : RowId) (ts : List (SubNo × WantNo)) (subs : List Subscription) → placed_each mark ts subs ≡ map (placed_sub mark ts) subs
each-placed mark [] subs = sym (map-own (placed_sub mark []) subs (λ s. ap (λ es. record s { streams = es }) (map-own (placed_of mark [] s.number) s.streams (none-placed mark s.number))))
each-placed mark (t ∷ ts) subs =
    each-placed mark ts (map (placed_one t.0 t.1 mark) subs)
    ∙ (map-twice (placed_sub mark ts) (placed_one t.0 t.1 mark) subs ∙ map-same (λ s. placed_sub mark ts (placed_one t.0 t.1 mark s)) (placed_sub mark (t ∷ ts)) subs (sub-more mark t ts))

-- ---- a turn

stream-taken : (seen : ℕ) (mark : RowId) (ts : List (SubNo × WantNo)) (sub : SubNo) (e : StreamEntry) → (is_none e.mark ≡ true → list_any (is_pair sub e.want) ts ≡ leb e.want.0 seen)
    → placed_of mark ts sub e ≡ taken_stream (record { seen = seen; last = mark.0 } ∷ []) e
stream-taken seen mark ts sub e h = go e.mark refl (leb e.want.0 seen) refl
  where
    go : (m : Option RowId) → e.mark ≡ m → (l : Bool) → leb e.want.0 seen ≡ l → placed_of mark ts sub e ≡ taken_stream (record { seen = seen; last = mark.0 } ∷ []) e
    go (Some id) m l l' = rw m refl
    go None m l l' =
        let none : is_none e.mark ≡ true = ap is_none m in
        let there : list_any (is_pair sub e.want) ts ≡ l = h none ∙ l' in
        each l l' there m
      where
        each : (l : Bool) → leb e.want.0 seen ≡ l → list_any (is_pair sub e.want) ts ≡ l → e.mark ≡ None → placed_of mark ts sub e ≡ taken_stream (record { seen = seen; last = mark.0 } ∷ []) e
        each true a b m = rw (m, a, b) refl
        each false a b m = rw (m, a, b) refl

streams-taken : (seen : ℕ) (mark : RowId) (ts : List (SubNo × WantNo)) (sub : SubNo) (es : List StreamEntry) → AreTakenOf seen ts sub es → map (placed_of mark ts sub) es ≡ map (taken_stream (record { seen = seen; last = mark.0 } ∷ [])) es
streams-taken seen mark ts sub [] h = refl
streams-taken seen mark ts sub (e ∷ es) h =
    ap (λ (d : StreamEntry). d ∷ map (placed_of mark ts sub) es) (stream-taken seen mark ts sub e h.0)
    ∙ ap (λ (ds : List StreamEntry). taken_stream (record { seen = seen; last = mark.0 } ∷ []) e ∷ ds) (streams-taken seen mark ts sub es h.1)

subs-taken : (seen : ℕ) (mark : RowId) (ts : List (SubNo × WantNo)) (subs : List Subscription) → AreTaken seen ts subs → map (placed_sub mark ts) subs ≡ taken_by (record { seen = seen; last = mark.0 } ∷ []) subs
subs-taken seen mark ts [] h = refl
subs-taken seen mark ts (s ∷ subs) h =
    ap (λ es. record s { streams = es } ∷ map (placed_sub mark ts) subs) (streams-taken seen mark ts s.number s.streams h.0)
    ∙ ap (λ (ss : List Subscription). taken_sub (record { seen = seen; last = mark.0 } ∷ []) s ∷ ss) (subs-taken seen mark ts subs h.1)

-- placing each want that a turn took is what the turn does to the streams
pub places-take : (seen : ℕ) (mark : RowId) (ts : List (SubNo × WantNo)) (subs : List Subscription) → AreTaken seen ts subs → placed_each mark ts subs ≡ taken_by (record { seen = seen; last = mark.0 } ∷ []) subs
places-take seen mark ts subs h = each-placed mark ts subs ∙ subs-taken seen mark ts subs h

-- ---- rows

below-same : (o : Option ℕ) (id : RowId) → is_below (option_map row_id o) id ≡ below o id.0
below-same None id = refl
below-same (Some m) id = refl

wants-get : (ms : List Mark) (row : Row) (s : ℕ) (ws : List Want) → stream_puts row (record { 0 = s }) (map (marked_want (λ w. mark_of w ms)) ws) ≡ hold_puts ms row s ws
wants-get ms row s [] = refl
wants-get ms row s (w ∷ ws) =
    rw (below-same (mark_of w.number ms) row.id)
    (ap (λ ps. cond (bytes_eq w.name row.channel && below (mark_of w.number ms) row.id.0) (row_piece s w.number row ∷ ps) ps) (wants-get ms row s ws))

subs-get : (ms : List Mark) (row : Row) (ss : List Sub) → row_puts_for row (map (marked_sub (λ w. mark_of w ms)) ss) ≡ sub_puts ms row ss
subs-get ms row [] = refl
subs-get ms row (s ∷ ss) = rw (wants-get ms row s.number s.wants, subs-get ms row ss) refl

pub rows-get : (c : ℕ) (past : List Step) (v : Seated) (row : Row) → SeatOf c past v → row_puts_for row v.subs ≡ sub_puts (marks c past) row (seat c past).conn.subs
rows-get c past v row h = ap (row_puts_for row) h.shows.conn.subs ∙ subs-get (marks c past) row (seat c past).conn.subs
