-- What changes and marks do to a connection is what they do to the fold of its pieces.
use Rattle.std.proofs.Common.{ℕ, zero, suc, ◌+◌, ◌≡◌, ◌==◌, ◌<◌, ◌≤◌, Bool, true, false, cond, not, ◌&&◌, ◌||◌, List, [], ◌∷◌, ◌++◌, length, map, Option, Some, None, refl, ap, sym, subst, ◌∙◌, arith, is_none}
use Rattle.std.specs.Prelude.{option_map}
use Rattle.std.specs.List.{filter, list_any}
use Rattle.std.specs.Str.{bytes_eq}
use Rattle.std.proofs.lemmas.Bool.Decides.{nat_tests}
use Rattle.std.proofs.lemmas.List.{map-append}
use Rattle.cable_base.specs.declared.numbers.RowId.{RowId}
use Rattle.cable_base.specs.declared.numbers.SubNo.{SubNo}
use Rattle.cable_base.specs.declared.numbers.WantNo.{WantNo}
use Rattle.stream_set.specs.declared.entries.StreamEntry.{StreamEntry}
use Rattle.stream_set.specs.Streams.{has_want, is_wanted_as, waits, waits_as, placed}
use Rattle.stream_set.specs.Streams.{placed_one as placed_entry}
use Rattle.stream_set.proofs.Apart.{or-first, or-second}
use Rattle.cable_model.specs.declared.plans.Change.{Change}
use Rattle.cable_model.specs.declared.plans.Change.TheVariants as change
use Rattle.cable_model.specs.Connection.{Want, Sub, Conn, wanted, first_above, among, without, streamed, changed}
use Rattle.conn_core.specs.Subscriptions.{Subscription, has_identifier, has_number, WantsApart, wanted_from, stopped, placed_one, placed_in, waits_in, restreamed_one, restreamed, removed}
use Rattle.conn_core.specs.Connections.{Connection, applied, over_behind, connection_behind}
use Rattle.conn_core.specs.Marked.{Marks, row_id, marked_want, marked_sub, IsMarked, UnmarkedAbove, with_mark}

-- ---- a change

filter-map : {X Y : Type 0} (f : X → Y) (p : Y → Bool) (xs : List X) → filter p (map f xs) ≡ map f (filter (λ x. p (f x)) xs)
filter-map f p [] = refl
filter-map {X} {Y} f p (x ∷ xs) = go (p (f x)) refl (filter-map f p xs)
  where
    go : (b : Bool) → p (f x) ≡ b → filter p (map f xs) ≡ map f (filter (λ x. p (f x)) xs) → filter p (map f (x ∷ xs)) ≡ map f (filter (λ x. p (f x)) (x ∷ xs))
    go true b ih = rw b (ap (λ (ys : List Y). f x ∷ ys) ih)
    go false b ih = rw b ih

new-wants : (marks : Marks) (made first : ℕ) (names : List (List ℕ)) → UnmarkedAbove made marks → first ≡ made + 1 → wanted_from first names ≡ map (marked_want marks) (wanted made names)
new-wants marks made first [] u e = refl
new-wants marks made first (name ∷ names) u e =
    let unmarked : marks (made + 1) ≡ None = u (made + 1) (omega arith) in
    rw (e, unmarked) (ap (λ (es : List StreamEntry). record { name = name; want = record { 0 = made + 1 }; mark = None } ∷ es) (new-wants marks (made + 1) (made + 1 + 1) names (λ w l. u w (omega arith)) refl))

one-restreamed : (marks : Marks) (made first : ℕ) (identifier : List ℕ) (stops streams : List (List ℕ)) (s : Sub) → UnmarkedAbove made marks → first ≡ made + 1
    → restreamed_one identifier stops streams first (marked_sub marks s) ≡ marked_sub marks (streamed made identifier stops streams s)
one-restreamed marks made first identifier stops streams s u e = go (bytes_eq s.identifier identifier) refl
  where
    go : (b : Bool) → bytes_eq s.identifier identifier ≡ b → restreamed_one identifier stops streams first (marked_sub marks s) ≡ marked_sub marks (streamed made identifier stops streams s)
    go true b =
        let all : stopped stops (map (marked_want marks) s.wants) ++ wanted_from first streams ≡ map (marked_want marks) (without stops s.wants ++ wanted made streams) =
        ap (λ (es : List StreamEntry). es ++ wanted_from first streams) (filter-map (marked_want marks) (λ (d : StreamEntry). not (among stops d.name)) s.wants)
        ∙ (ap (λ (es : List StreamEntry). map (marked_want marks) (without stops s.wants) ++ es) (new-wants marks made first streams u e) ∙ sym (map-append (marked_want marks) (without stops s.wants) (wanted made streams))) in
        rw b (ap (λ (es : List StreamEntry). record { number = record { 0 = s.number }; identifier = s.identifier; streams = es }) all)
    go false b = rw b refl

all-restreamed : (marks : Marks) (made first : ℕ) (identifier : List ℕ) (stops streams : List (List ℕ)) (ss : List Sub) → UnmarkedAbove made marks → first ≡ made + 1
    → restreamed identifier stops streams first (map (marked_sub marks) ss) ≡ map (marked_sub marks) (map (streamed made identifier stops streams) ss)
all-restreamed marks made first identifier stops streams [] u e = refl
all-restreamed marks made first identifier stops streams (s ∷ ss) u e =
    ap (λ (t : Subscription). t ∷ restreamed identifier stops streams first (map (marked_sub marks) ss)) (one-restreamed marks made first identifier stops streams s u e)
    ∙ ap (λ (ts : List Subscription). marked_sub marks (streamed made identifier stops streams s) ∷ ts) (all-restreamed marks made first identifier stops streams ss u e)

subs-step : (marks : Marks) (k : Conn) (d : Change) (sub : SubNo) (first : WantNo) → UnmarkedAbove k.made marks → first.0 ≡ k.made + 1 → applied d sub first (map (marked_sub marks) k.subs) ≡ map (marked_sub marks) (changed d sub.0 k).subs
subs-step marks k change.Nothing sub first u e = refl
subs-step marks k (change.Add identifier streams) sub first u e =
    let s : Sub = record { number = sub.0; identifier = identifier; wants = wanted k.made streams; due = first_above k.made streams } in
    ap (λ (es : List StreamEntry). map (marked_sub marks) k.subs ++ record { number = sub; identifier = identifier; streams = es } ∷ []) (new-wants marks k.made first.0 streams u e) ∙ sym (map-append (marked_sub marks) k.subs (s ∷ []))
subs-step marks k (change.Streams identifier stops streams) sub first u e = all-restreamed marks k.made first.0 identifier stops streams k.subs u e
subs-step marks k (change.Remove identifier) sub first u e = filter-map (marked_sub marks) (λ (t : Subscription). not (has_identifier identifier t)) k.subs
subs-step marks k change.Close sub first u e = refl

over-step : (k : Conn) (d : Change) (place : ℕ) → over_behind d k.over ≡ (changed d place k).over
over-step k change.Nothing place = refl
over-step k (change.Add identifier streams) place = refl
over-step k (change.Streams identifier stops streams) place = refl
over-step k (change.Remove identifier) place = refl
over-step k change.Close place = refl

pub marked-step : (marks : Marks) (k : Conn) (c : Connection) (d : Change) (sub : SubNo) (first : WantNo) → IsMarked marks k c → UnmarkedAbove k.made marks → first.0 ≡ k.made + 1 → IsMarked marks (changed d sub.0 k) (connection_behind d sub first c)
marked-step marks k c d sub first m u e = record { subs = ap (applied d sub first) m.subs ∙ subs-step marks k d sub first u e; over = ap (over_behind d) m.over ∙ over-step k d sub.0 }

-- ---- a mark

-- a want of another number has the mark that it had
other-mark : (want : WantNo) (mark : RowId) (marks : Marks) (w : Want) → (w.number == want.0) ≡ false → marked_want (with_mark want mark marks) w ≡ marked_want marks w
other-mark want mark marks w e = rw e refl

other-marks : (want : WantNo) (mark : RowId) (marks : Marks) (ws : List Want) → has_want want (map (marked_want marks) ws) ≡ false → map (marked_want (with_mark want mark marks)) ws ≡ map (marked_want marks) ws
other-marks want mark marks [] e = refl
other-marks want mark marks (w ∷ ws) e =
    let f = or-first (w.number == want.0) (has_want want (map (marked_want marks) ws)) e in
    let r = or-second (w.number == want.0) (has_want want (map (marked_want marks) ws)) e in
    ap (λ (d : StreamEntry). d ∷ map (marked_want (with_mark want mark marks)) ws) (other-mark want mark marks w f) ∙ ap (λ (ds : List StreamEntry). marked_want marks w ∷ ds) (other-marks want mark marks ws r)

-- a stream that wasn't wanted under the number is left alone
left-alone : (want : WantNo) (mark : RowId) (es : List StreamEntry) → has_want want es ≡ false → placed want mark es ≡ es
left-alone want mark [] e = refl
left-alone want mark (d ∷ es) e =
    let f = or-first (d.want.0 == want.0) (has_want want es) e in
    let r = or-second (d.want.0 == want.0) (has_want want es) e in
    rw f (ap (λ (ds : List StreamEntry). d ∷ ds) (left-alone want mark es r))

-- the want gets its mark
one-placed : (want : WantNo) (mark : RowId) (marks : Marks) (w : Want) → marks want.0 ≡ None → placed_entry want mark (marked_want marks w) ≡ marked_want (with_mark want mark marks) w
one-placed want mark marks w none = go (w.number == want.0) refl
  where
    go : (b : Bool) → (w.number == want.0) ≡ b → placed_entry want mark (marked_want marks w) ≡ marked_want (with_mark want mark marks) w
    go true b =
        let same : w.number ≡ want.0 = grind (arith, nat_tests) in
        let unmarked : marks w.number ≡ None = ap marks same ∙ none in
        rw (b, unmarked) refl
    go false b = rw b refl

all-placed : (want : WantNo) (mark : RowId) (marks : Marks) (ws : List Want) → marks want.0 ≡ None → placed want mark (map (marked_want marks) ws) ≡ map (marked_want (with_mark want mark marks)) ws
all-placed want mark marks [] none = refl
all-placed want mark marks (w ∷ ws) none =
    ap (λ (d : StreamEntry). d ∷ placed want mark (map (marked_want marks) ws)) (one-placed want mark marks w none) ∙ ap (λ (ds : List StreamEntry). marked_want (with_mark want mark marks) w ∷ ds) (all-placed want mark marks ws none)

and-true : (a b : Bool) → (a && b) ≡ true → (a ≡ true) × (b ≡ true)
and-true true b e = (refl, e)
and-true false b e = absurd cc

no-mark : (o : Option ℕ) → is_none (option_map row_id o) ≡ true → o ≡ None
no-mark None e = refl
no-mark (Some n) e = absurd cc

-- a want that waits has no mark, and it is there
waiting-unmarked : (want : WantNo) (marks : Marks) (ws : List Want) → waits want (map (marked_want marks) ws) ≡ true → marks want.0 ≡ None
waiting-unmarked want marks [] e = absurd cc
waiting-unmarked want marks (w ∷ ws) e = go (waits_as want (marked_want marks w)) refl (waiting-unmarked want marks ws)
  where
    go : (b : Bool) → waits_as want (marked_want marks w) ≡ b → (waits want (map (marked_want marks) ws) ≡ true → marks want.0 ≡ None) → marks want.0 ≡ None
    go true b ih =
        let both = and-true (w.number == want.0) (is_none (option_map row_id (marks w.number))) b in
        let number = both.0 in
        let same : w.number ≡ want.0 = grind (arith, nat_tests) in
        ap marks (sym same) ∙ no-mark (marks w.number) both.1
    go false b ih = let e' = rw b at e in ih e'

waiting-there : (want : WantNo) (es : List StreamEntry) → has_want want es ≡ false → waits want es ≡ false
waiting-there want [] e = refl
waiting-there want (d ∷ es) e =
    let f = or-first (d.want.0 == want.0) (has_want want es) e in
    let r = or-second (d.want.0 == want.0) (has_want want es) e in
    rw f (waiting-there want es r)

-- the subscription that has no such want is left alone
sub-alone : (sub : SubNo) (want : WantNo) (mark : RowId) (marks : Marks) (s : Sub) → has_want want (map (marked_want marks) s.wants) ≡ false → placed_one sub want mark (marked_sub marks s) ≡ marked_sub (with_mark want mark marks) s
sub-alone sub want mark marks s e = go (s.number == sub.0) refl
  where
    go : (b : Bool) → (s.number == sub.0) ≡ b → placed_one sub want mark (marked_sub marks s) ≡ marked_sub (with_mark want mark marks) s
    go true b = rw b (ap (λ (es : List StreamEntry). record { number = record { 0 = s.number }; identifier = s.identifier; streams = es }) (left-alone want mark (map (marked_want marks) s.wants) e ∙ sym (other-marks want mark marks s.wants e)))
    go false b = rw b (ap (λ (es : List StreamEntry). record { number = record { 0 = s.number }; identifier = s.identifier; streams = es }) (sym (other-marks want mark marks s.wants e)))

subs-alone : (sub : SubNo) (want : WantNo) (mark : RowId) (marks : Marks) (ss : List Sub) → list_any (λ t. has_want want t.streams) (map (marked_sub marks) ss) ≡ false → placed_in sub want mark (map (marked_sub marks) ss) ≡ map (marked_sub (with_mark want mark marks)) ss
subs-alone sub want mark marks [] e = refl
subs-alone sub want mark marks (s ∷ ss) e =
    let f = or-first (has_want want (map (marked_want marks) s.wants)) (list_any (λ (t : Subscription). has_want want t.streams) (map (marked_sub marks) ss)) e in
    let r = or-second (has_want want (map (marked_want marks) s.wants)) (list_any (λ (t : Subscription). has_want want t.streams) (map (marked_sub marks) ss)) e in
    ap (λ (t : Subscription). t ∷ placed_in sub want mark (map (marked_sub marks) ss)) (sub-alone sub want mark marks s f) ∙ ap (λ (ts : List Subscription). marked_sub (with_mark want mark marks) s ∷ ts) (subs-alone sub want mark marks ss r)

none-waits : (sub : SubNo) (want : WantNo) (subs : List Subscription) → list_any (λ t. has_want want t.streams) subs ≡ false → waits_in sub want subs ≡ false
none-waits sub want [] e = refl
none-waits sub want (s ∷ subs) e =
    let f = or-first (has_want want s.streams) (list_any (λ (t : Subscription). has_want want t.streams) subs) e in
    let r = or-second (has_want want s.streams) (list_any (λ (t : Subscription). has_want want t.streams) subs) e in
    rw (waiting-there want s.streams f, none-waits sub want subs r) (no (has_number sub s))
  where
    no : (b : Bool) → ((b && false) || false) ≡ false
    no true = refl
    no false = refl

pub subs-placed : (sub : SubNo) (want : WantNo) (mark : RowId) (marks : Marks) (ss : List Sub) → WantsApart (map (marked_sub marks) ss) → waits_in sub want (map (marked_sub marks) ss) ≡ true → placed_in sub want mark (map (marked_sub marks) ss) ≡ map (marked_sub (with_mark want mark marks)) ss
subs-placed sub want mark marks [] a e = absurd cc
subs-placed sub want mark marks (s ∷ ss) a e = go (has_want want (map (marked_want marks) s.wants)) refl (subs-placed sub want mark marks ss a.1)
  where
    go : (b : Bool) → has_want want (map (marked_want marks) s.wants) ≡ b
        → (waits_in sub want (map (marked_sub marks) ss) ≡ true → placed_in sub want mark (map (marked_sub marks) ss) ≡ map (marked_sub (with_mark want mark marks)) ss)
        → placed_in sub want mark (map (marked_sub marks) (s ∷ ss)) ≡ map (marked_sub (with_mark want mark marks)) (s ∷ ss)
    go true b ih =
        let rest = a.0 want b in
        let here = and-true (s.number == sub.0) (waits want (map (marked_want marks) s.wants)) (or-left _ _ (none-waits sub want (map (marked_sub marks) ss) rest) e) in
        let none = waiting-unmarked want marks s.wants here.1 in
        ap (λ (t : Subscription). t ∷ placed_in sub want mark (map (marked_sub marks) ss)) (rw here.0 (ap (λ (es : List StreamEntry). record { number = record { 0 = s.number }; identifier = s.identifier; streams = es }) (all-placed want mark marks s.wants none)))
        ∙ ap (λ (ts : List Subscription). marked_sub (with_mark want mark marks) s ∷ ts) (subs-alone sub want mark marks ss rest)
      where
        or-left : (a b : Bool) → b ≡ false → (a || b) ≡ true → a ≡ true
        or-left true b f t = refl
        or-left false b f t = absurd (cc (f, t))
    go false b ih =
        let e' = rw (waiting-there want (map (marked_want marks) s.wants) b) at e in
        ap (λ (t : Subscription). t ∷ placed_in sub want mark (map (marked_sub marks) ss)) (sub-alone sub want mark marks s b)
        ∙ ap (λ (ts : List Subscription). marked_sub (with_mark want mark marks) s ∷ ts) (ih (skip (s.number == sub.0) (waits_in sub want (map (marked_sub marks) ss)) e'))
      where
        skip : (b c : Bool) → ((b && false) || c) ≡ true → c ≡ true
        skip true c e = e
        skip false c e = e

pub marked-place : (marks : Marks) (k : Conn) (c : Connection) (sub : SubNo) (want : WantNo) (mark : RowId) → IsMarked marks k c → WantsApart c.subs → waits_in sub want c.subs ≡ true → IsMarked (with_mark want mark marks) k (record c { subs = placed_in sub want mark c.subs })
marked-place marks k c sub want mark m a w =
    record {
      subs = ap (placed_in sub want mark) m.subs ∙ subs-placed sub want mark marks k.subs (subst WantsApart m.subs a) (sym (ap (waits_in sub want) m.subs) ∙ w);
      over = m.over;
    }
