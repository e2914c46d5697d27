-- What calls on the live connections of a node make of them, one call after another.
use Rattle.std.proofs.Common.{◌≡◌, ℕ, ◌+◌, ◌<◌, List, [], ◌∷◌, ◌++◌, length, filter, map, take, get_or, Option, Some, None, Result, Ok, Err, IsOk, OnOk, refl, sym, ap, subst, ◌∙◌, arith, inl, inr}
use Rattle.std.specs.Ordering.{nat_cmp}
use Rattle.std.specs.BTreeMap.{is_at}
use Rattle.std.proofs.lemmas.Bool.{cases_eq}
use Rattle.std.proofs.lemmas.List.{map-append, take_more}
use Rattle.std.proofs.lemmas.List.Elements.{filter-append}
use Rattle.std.proofs.lemmas.Map.{keys-set_value}
use Rattle.cable_base.specs.declared.numbers.RowId.{RowId}
use Rattle.cable_base.specs.declared.numbers.SubNo.{SubNo}
use Rattle.cable_base.specs.declared.numbers.WantNo.{WantNo}
use Rattle.cable_model.specs.declared.pieces.Piece.{Piece}
use Rattle.conn_core.specs.Subscriptions.{Subscription, placed_in}
use Rattle.conn_seat.specs.Seats.{Seated, Becomes, with_piece}
use Rattle.conn_seat.specs.Turns.{with_pieces, placed_each}
use Rattle.conn_seat.proofs.Turning.{puts-on}
use Rattle.node_seats.specs.declared.turning.Delivery.{Delivery}
use Rattle.node_seats.specs.declared.turning.Wanted.{Wanted}
use Rattle.node_seats.specs.Numbers.{Numbers, Opened, Moves, Lives, opened_at, seat_at, seat_in}
use Rattle.node_seats.specs.Turned.{Turns, TurnsOne, Roomier, Delivers, Places, is_for, is_by, pieces_for, pairs_by, pair_of}
use Rattle.node_seats.proofs.Lookups.{found-there, found-elsewhere}
use Rattle.node_seats.proofs.Entries.{live, self, apart-test}

pub on-ok : {A E : Type 0} (P : Type 0) (r : Result A E) → IsOk r → OnOk r P → P
on-ok P (Ok x) is h = h
on-ok P (Err e) is h = absurd cc

-- ---- a connection

pub becomes-itself : (s : Seated) → Becomes s s
becomes-itself s = record { now = refl; spare = omega arith }

pub becomes-on : (s t u : Seated) → Becomes s t → Becomes t u → Becomes s u
becomes-on s t u a b = record { now = b.now ∙ ap (λ (x : Seated). let y : Seated = record x { spare = u.spare } in y) a.now; spare = let x = a.spare in let y = b.spare in omega (arith, x, y) }

-- room that was made before plays no part in puts
pub all-on : (qs : List Piece) (v old new : Seated) → Becomes v old → Becomes (with_pieces qs old) new → Becomes (with_pieces qs v) new
all-on [] v old new a b = becomes-on v old new a b
all-on (q ∷ qs) v old new a b = all-on qs (with_piece q v) (with_piece q old) new (puts-on q v old (with_piece q old) a (becomes-itself (with_piece q old))) b

pub pieces-more : (ps qs : List Piece) (v : Seated) → with_pieces (ps ++ qs) v ≡ with_pieces qs (with_pieces ps v)
pieces-more [] qs v = refl
pieces-more (p ∷ ps) qs v = pieces-more ps qs (with_piece p v)

pub placed-more : (mark : RowId) (ts us : List (SubNo × WantNo)) (subs : List Subscription) → placed_each mark (ts ++ us) subs ≡ placed_each mark us (placed_each mark ts subs)
placed-more mark [] us subs = refl
placed-more mark (t ∷ ts) us subs = placed-more mark ts us (placed_in t.0 t.1 mark subs)

-- ---- each of them

module _ (A B C : Seated → Seated → Type 0) (on : (s t u : Seated) → A s t → B t u → C s u) where
  one-on : (o p q : Option Opened) → TurnsOne A o p → TurnsOne B p q → TurnsOne C o q
  one-on None p q a b = subst (λ x. TurnsOne B x q) a b
  one-on (Some Opened.Over) p q a b = subst (λ x. TurnsOne B x q) a b
  one-on (Some (Opened.Live s)) p q a b = let m = subst (λ x. TurnsOne B x q) a.2 b in (m.0, on s a.0 m.0 a.1 m.1, m.2)

-- two calls are one
pub turns-on : (A B C : ℕ → Seated → Seated → Type 0) (v w x : Numbers) → ((c : ℕ) (s t u : Seated) → A c s t → B c t u → C c s u) → Turns A v w → Turns B w x → Turns C v x
turns-on A B C v w x on a b =
    record { numbers = b.numbers ∙ a.numbers; each = λ c. one-on (A c) (B c) (C c) (on c) (opened_at c v) (opened_at c w) (opened_at c x) (a.each c) (b.each c) }

pub one-same : (By : Seated → Seated → Type 0) (o : Option Opened) → ((s : Seated) → o ≡ Some (Opened.Live s) → By s s) → TurnsOne By o o
one-same By None same = refl
one-same By (Some Opened.Over) same = refl
one-same By (Some (Opened.Live s)) same = (s, same s refl, refl)

-- nothing is done
pub turns-none : (By : ℕ → Seated → Seated → Type 0) (v : Numbers) → ((c : ℕ) (s : Seated) → opened_at c v ≡ Some (Opened.Live s) → By c s s) → Turns By v v
turns-none By v same = record { numbers = refl; each = λ c. one-same (By c) (opened_at c v) (same c) }

-- a call on one of them
pub turns-one : (By : Seated → Seated → Type 0) (C : ℕ → Seated → Seated → Type 0) (n : ℕ) (v new : Numbers)
    → ((s t : Seated) → By s t → C n s t) → ((c : ℕ) (s : Seated) → (n ≡ c → ⊥) → C c s s) → Moves n (Lives By) v new → Turns C v new
turns-one By C n v new mine others m =
    let l = live By n v new m in
    record {
      numbers = ap (λ es. map (λ (e : ℕ × Opened). e.0) es) l.now ∙ keys-set_value (is_at (nat_cmp n)) v (Opened.Live l.new_seat);
      each = λ c. elim (cases_eq n c) [
        | inl e ↦ subst (λ (x : ℕ). TurnsOne (C x) (opened_at x v) (opened_at x new)) e
            (subst (λ (o : Option Opened). TurnsOne (C n) o (opened_at n new)) (sym l.found)
            (l.new_seat, mine l.old_seat l.new_seat l.moved_by, ap (opened_at n) l.now ∙ found-there n (Opened.Live l.new_seat) (Opened.Live l.old_seat) v l.found))
        | inr apart ↦ subst (λ (o : Option Opened). TurnsOne (C c) (opened_at c v) o) (sym (ap (opened_at c) l.now ∙ found-elsewhere n c (Opened.Live l.new_seat) v apart))
            (one-same (C c) (opened_at c v) (λ s at. others c s apart))
      ];
    }

-- one that isn't live isn't there
pub not-live : (c : ℕ) (v : Numbers) (s : Seated) → seat_at c v ≡ None → opened_at c v ≡ Some (Opened.Live s) → ⊥
not-live c v s none at = let e : None ≡ Some s = sym none ∙ ap seat_in at in cc

-- ---- room

pub rooms-on : (v w x : Numbers) → Roomier v w → Roomier w x → Roomier v x
rooms-on v w x a b = turns-on _ _ _ v w x (λ c s t u. becomes-on s t u) a b

pub rooms-none : (v : Numbers) → Roomier v v
rooms-none v = turns-none _ v (λ c s at. becomes-itself s)

pub rooms-one : (n : ℕ) (v new : Numbers) → Moves n (Lives Becomes) v new → Roomier v new
rooms-one n v new m = turns-one Becomes (λ c s t. Becomes s t) n v new (λ s t b. b) (λ c s apart. becomes-itself s) m

-- ---- deliveries

pub pieces-for-more : (c : ℕ) (ds es : List Delivery) → pieces_for c (ds ++ es) ≡ pieces_for c ds ++ pieces_for c es
pieces-for-more c ds es = ap (map (λ (d : Delivery). d.piece)) (filter-append (is_for c) ds es) ∙ map-append (λ (d : Delivery). d.piece) (filter (is_for c) ds) (filter (is_for c) es)

pub pieces-own : (d : Delivery) → pieces_for d.conn.0 (d ∷ []) ≡ d.piece ∷ []
pieces-own d = let e = self d.conn.0 in rw e refl

pub pieces-other : (c : ℕ) (d : Delivery) (ds : List Delivery) → (d.conn.0 ≡ c → ⊥) → pieces_for c (d ∷ ds) ≡ pieces_for c ds
pieces-other c d ds apart = let e = apart-test d.conn.0 c apart in rw e refl

pub delivers-none : (v : Numbers) → Delivers [] v v
delivers-none v = turns-none _ v (λ c s at. becomes-itself s)

pub delivers-on : (ds es : List Delivery) (v w x : Numbers) → Delivers ds v w → Delivers es w x → Delivers (ds ++ es) v x
delivers-on ds es v w x a b =
    turns-on _ _ _ v w x
    (λ c s t u f g.
    subst (λ (ps : List Piece). Becomes (with_pieces ps s) u) (sym (pieces-for-more c ds es))
    (subst (λ (y : Seated). Becomes y u) (sym (pieces-more (pieces_for c ds) (pieces_for c es) s)) (all-on (pieces_for c es) (with_pieces (pieces_for c ds) s) t u f g)))
    a b

pub delivers-one : (d : Delivery) (v new : Numbers) → Moves d.conn.0 (Lives (λ s t. Becomes (with_piece d.piece s) t)) v new → Delivers (d ∷ []) v new
delivers-one d v new m =
    turns-one (λ s t. Becomes (with_piece d.piece s) t) (λ c s t. Becomes (with_pieces (pieces_for c (d ∷ [])) s) t) d.conn.0 v new
    (λ s t b. subst (λ (ps : List Piece). Becomes (with_pieces ps s) t) (sym (pieces-own d)) b)
    (λ c s apart. subst (λ (ps : List Piece). Becomes (with_pieces ps s) s) (sym (pieces-other c d [] apart)) (becomes-itself s)) m

pub delivers-dead : (d : Delivery) (v : Numbers) → seat_at d.conn.0 v ≡ None → Delivers (d ∷ []) v v
delivers-dead d v none =
    turns-none _ v (λ c s at. elim (cases_eq d.conn.0 c) [
      | inl e ↦ absurd (not-live d.conn.0 v s none (subst (λ (x : ℕ). opened_at x v ≡ Some (Opened.Live s)) (sym e) at))
      | inr apart ↦ subst (λ (ps : List Piece). Becomes (with_pieces ps s) s) (sym (pieces-other c d [] apart)) (becomes-itself s)
    ])

-- ---- marks

pub pairs-more : (c : ℕ) (ws us : List Wanted) → pairs_by c (ws ++ us) ≡ pairs_by c ws ++ pairs_by c us
pairs-more c ws us = ap (map pair_of) (filter-append (is_by c) ws us) ∙ map-append pair_of (filter (is_by c) ws) (filter (is_by c) us)

pub pairs-own : (w : Wanted) → pairs_by w.conn.0 (w ∷ []) ≡ pair_of w ∷ []
pairs-own w = let e = self w.conn.0 in rw e refl

pub pairs-other : (c : ℕ) (w : Wanted) (ws : List Wanted) → (w.conn.0 ≡ c → ⊥) → pairs_by c (w ∷ ws) ≡ pairs_by c ws
pairs-other c w ws apart = let e = apart-test w.conn.0 c apart in rw e refl

-- what a connection becomes by these marks
abbrev pub marked_with : RowId → List (SubNo × WantNo) → Seated → Seated
marked_with mark ts s = record s { subs = placed_each mark ts s.subs }

pub places-none : (mark : RowId) (v : Numbers) → Places mark [] v v
places-none mark v = turns-none _ v (λ c s at. refl)

pub places-on : (mark : RowId) (ws us : List Wanted) (v w x : Numbers) → Places mark ws v w → Places mark us w x → Places mark (ws ++ us) v x
places-on mark ws us v w x a b =
    turns-on _ _ _ v w x
    (λ c s t u f g.
    g ∙ ap (marked_with mark (pairs_by c us)) f
    ∙ ap (λ (ss : List Subscription). let y : Seated = record s { subs = ss } in y) (sym (placed-more mark (pairs_by c ws) (pairs_by c us) s.subs) ∙ ap (λ ts. placed_each mark ts s.subs) (sym (pairs-more c ws us))))
    a b

pub places-one : (mark : RowId) (w : Wanted) (v new : Numbers) → Moves w.conn.0 (Lives (λ s t. t ≡ record s { subs = placed_in w.sub w.want mark s.subs })) v new → Places mark (w ∷ []) v new
places-one mark w v new m =
    turns-one (λ s t. t ≡ record s { subs = placed_in w.sub w.want mark s.subs }) (λ c s t. t ≡ record s { subs = placed_each mark (pairs_by c (w ∷ [])) s.subs }) w.conn.0 v new
    (λ s t b. b ∙ ap (λ ts. marked_with mark ts s) (sym (pairs-own w)))
    (λ c s apart. ap (λ ts. marked_with mark ts s) (sym (pairs-other c w [] apart))) m

pub places-dead : (mark : RowId) (w : Wanted) (v : Numbers) → seat_at w.conn.0 v ≡ None → Places mark (w ∷ []) v v
places-dead mark w v none =
    turns-none _ v (λ c s at. elim (cases_eq w.conn.0 c) [
      | inl e ↦ absurd (not-live w.conn.0 v s none (subst (λ (x : ℕ). opened_at x v ≡ Some (Opened.Live s)) (sym e) at))
      | inr apart ↦ ap (λ ts. marked_with mark ts s) (sym (pairs-other c w [] apart))
    ])

-- one want more
pub places-more : (mark : RowId) (ws : List Wanted) (i : ℕ) (d w : Wanted) (v old new : Numbers) → i < length ws → w ≡ get_or ws i d → Places mark (take i ws) v old → Places mark (w ∷ []) old new → Places mark (take (i + 1) ws) v new
places-more mark ws i d w v old new l is a b =
    subst (λ (us : List Wanted). Places mark us v new) (sym (take_more ws i d l ∙ ap (λ (x : Wanted). take i ws ++ x ∷ []) (sym is))) (places-on mark (take i ws) (w ∷ []) v old new a b)
