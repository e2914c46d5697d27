-- What placing one want makes of the holds of a connection's subscriptions.
use Rattle.std.proofs.Common.{◌≡◌, ℕ, suc, ◌<◌, ◌≤◌, ◌==◌, cond, Bool, true, false, List, [], ◌∷◌, ◌++◌, Option, Some, None, refl, ap, sym, subst, ◌∙◌}
use Rattle.std.proofs.Common.{arith, leb}
use Rattle.std.specs.List.{AllByRecursion}
use Rattle.std.specs.Str.{bytes_eq}
use Rattle.std.proofs.lemmas.Bool.Decides.{nat_tests}
use Rattle.std.proofs.lemmas.Slice.Eq.{bytes_eq-Decides}
use Rattle.cable_base.specs.declared.numbers.RowId.{RowId}
use Rattle.cable_base.specs.declared.numbers.SubNo.{SubNo}
use Rattle.cable_base.specs.declared.numbers.WantNo.{WantNo}
use Rattle.cable_base.proofs.Each.{All-append, All-implied}
use Rattle.stream_set.specs.declared.entries.StreamEntry.{StreamEntry}
use Rattle.stream_set.specs.Streams.{AreApart, has_name, has_want, is_wanted_as, placed, placed_one as placed_stream}
use Rattle.stream_set.proofs.Apart.{placed_one-name, placed_one-want, AreApart-placed}
use Rattle.conn_core.specs.Subscriptions.{Subscription, placed_in}
use Rattle.node_seats.specs.declared.turning.Wanted.{Wanted}
use Rattle.subscriber_map.specs.declared.holding.Hold.{Hold}
use Rattle.subscriber_map.specs.Holds.{is_before, with_hold}
use Rattle.node_turns.specs.Held.{conn_of, stream_holds, sub_holds}
use Rattle.node_turns.specs.Holding.{name_among, name_wanted}
use Rattle.node_turns.proofs.PlacingHolds.{IsOther, behind-all, before-all}

-- ---- what stands

-- the numbers of the subscriptions rise above b, and the streams of each are apart
abbrev pub Sits : ℕ → List Subscription → Type 0
Sits b [] = Unit {0}
Sits b (s ∷ subs) = (b < s.number.0) × AreApart s.streams × Sits s.number.0 subs

-- no stream that was wanted under this number or a later one has a mark
abbrev pub FreeAmong : ℕ → List StreamEntry → Type 0
FreeAmong n [] = Unit {0}
FreeAmong n (e ∷ es) = (n ≤ e.want.0 → e.mark ≡ None) × FreeAmong n es

abbrev pub Free : ℕ → List Subscription → Type 0
Free n [] = Unit {0}
Free n (s ∷ subs) = FreeAmong n s.streams × Free n subs

pub Sits-lower : (b d : ℕ) (subs : List Subscription) → d ≤ b → Sits b subs → Sits d subs
Sits-lower b d [] l h = tt
Sits-lower b d (s ∷ subs) l h = (omega arith, h.1, h.2)

-- ---- the holds that are there

-- a hold of this subscription, whose want has a lower number
abbrev pub Lies : ℕ → SubNo → ℕ → Hold → Type 0
Lies c sub n h = (h.conn ≡ conn_of c) × (h.sub ≡ sub) × (h.want.0 < n)

-- .. of one of a higher number
abbrev pub LiesAbove : ℕ → ℕ → ℕ → Hold → Type 0
LiesAbove c b n h = (h.conn ≡ conn_of c) × (b < h.sub.0) × (h.want.0 < n)

streams-lie : (c n : ℕ) (name : List ℕ) (sub : SubNo) (es : List StreamEntry) → FreeAmong n es → AllByRecursion (Lies c sub n) (stream_holds c name sub es)
streams-lie c n name sub [] f = tt
streams-lie c n name sub (e ∷ es) f = go (bytes_eq e.name name) refl e.mark refl (streams-lie c n name sub es f.1)
  where
    below : (m : RowId) → e.mark ≡ Some m → e.want.0 < n
    below m k = grind (arith, nat_tests)

    go : (b : Bool) → bytes_eq e.name name ≡ b → (o : Option RowId) → e.mark ≡ o → AllByRecursion (Lies c sub n) (stream_holds c name sub es)
        → AllByRecursion (Lies c sub n) (stream_holds c name sub (e ∷ es))
    go false b o k ih = rw b ih
    go true b None k ih = rw (b, k) ih
    go true b (Some m) k ih = rw (b, k) ((refl, refl, below m k), ih)

pub subs-lie : (c n b : ℕ) (name : List ℕ) (subs : List Subscription) → Sits b subs → Free n subs → AllByRecursion (LiesAbove c b n) (sub_holds c name subs)
subs-lie c n b name [] h f = tt
subs-lie c n b name (s ∷ subs) h f =
    All-append (LiesAbove c b n) (stream_holds c name s.number s.streams) (sub_holds c name subs)
    (All-implied (Lies c s.number n) (LiesAbove c b n) (stream_holds c name s.number s.streams)
    (λ x k. (k.0, subst (λ (t : SubNo). b < t.0) (sym k.1) h.0, k.2)) (streams-lie c n name s.number s.streams f.0))
    (subs-lie c n b name subs (Sits-lower s.number.0 b subs (omega arith) h.2) f.1)

-- ---- the streams of the want's subscription

-- the hold that the want becomes
abbrev pub hold_of : ℕ → SubNo → WantNo → RowId → Hold
hold_of c sub want mark = record { conn = conn_of c; sub = sub; want = want; mark = mark }

none-wanted : (want : WantNo) (es : List StreamEntry) → has_want want es ≡ false → name_among want es ≡ None
none-wanted want [] e = refl
none-wanted want (d ∷ es) e = grind (arith, none-wanted want es, e)

-- it isn't among them
not-placed : (want : WantNo) (mark : RowId) (es : List StreamEntry) → name_among want es ≡ None → placed want mark es ≡ es
not-placed want mark [] e = refl
not-placed want mark (d ∷ es) e = grind (arith, not-placed want mark es, e)

-- a name that is none of theirs has no hold
unnamed : (c : ℕ) (name : List ℕ) (sub : SubNo) (es : List StreamEntry) → has_name name es ≡ false → stream_holds c name sub es ≡ []
unnamed c name sub [] e = refl
unnamed c name sub (d ∷ es) e = grind (arith, unnamed c name sub es, e)

-- the name of one that is among them is one of theirs
named : (want : WantNo) (name : List ℕ) (es : List StreamEntry) → name_among want es ≡ Some name → has_name name es ≡ true
named want name [] e = absurd (cc (e))
named want name (d ∷ es) e = grind (arith, named want name es, bytes_eq-Decides d.name name, e)

-- before it is placed, its name has no hold there
pub was-none : (c n : ℕ) (sub : SubNo) (want : WantNo) (name : List ℕ) (es : List StreamEntry) → AreApart es → FreeAmong n es → want.0 ≡ n
    → name_among want es ≡ Some name → stream_holds c name sub es ≡ []
was-none c n sub want name [] a f w e = refl
was-none c n sub want name (d ∷ es) a f w e =
    let apart = a.0 in
    let free = f.0 in
    let none = unnamed c d.name sub es apart in
    let ih = was-none c n sub want name es a.2 f.1 w in
    grind (arith, nat_tests, ih, none, named want name es, bytes_eq-Decides d.name name, apart, free, e)

-- .. and then the one of the want
pub now-one : (c n : ℕ) (sub : SubNo) (want : WantNo) (mark : RowId) (name r : List ℕ) (es : List StreamEntry) → AreApart es → FreeAmong n es → want.0 ≡ n
    → name_among want es ≡ Some name
    → stream_holds c r sub (placed want mark es) ≡ cond (bytes_eq name r) (hold_of c sub want mark ∷ []) (stream_holds c r sub es)
now-one c n sub want mark name r [] a f w e = absurd (cc (e))
now-one c n sub want mark name r (d ∷ es) a f w e =
    let apart = a.0 in
    let number = a.1 in
    let free = f.0 in
    let ih = now-one c n sub want mark name r es a.2 f.1 w in
    grind (
      arith,
      nat_tests,
      ih,
      not-placed want mark es,
      none-wanted want es,
      unnamed c r sub es,
      named want name es,
      bytes_eq-Decides d.name r,
      bytes_eq-Decides name r,
      apart,
      number,
      free,
      e,
    )

-- ---- the subscriptions

pub placed-above : (b : ℕ) (sub : SubNo) (want : WantNo) (mark : RowId) (subs : List Subscription) → Sits b subs → sub.0 ≤ b
    → placed_in sub want mark subs ≡ subs
placed-above b sub want mark [] h l = refl
placed-above b sub want mark (s ∷ subs) h l =
    let other : (s.number.0 == sub.0) ≡ false = (let low = h.0 in grind (arith, nat_tests)) in
    rw other (ap (λ ss. s ∷ ss) (placed-above s.number.0 sub want mark subs h.2 (let low = h.0 in omega (arith, low))))

wanted-above : (b : ℕ) (w : Wanted) (subs : List Subscription) → Sits b subs → w.sub.0 ≤ b → name_wanted w subs ≡ None
wanted-above b w [] h l = refl
wanted-above b w (s ∷ subs) h l =
    let other : (s.number.0 == w.sub.0) ≡ false = (let low = h.0 in grind (arith, nat_tests)) in
    rw other (wanted-above s.number.0 w subs h.2 (let low = h.0 in omega (arith, low)))

-- a want that doesn't stand gets no mark
pub unplaced : (b : ℕ) (w : Wanted) (mark : RowId) (subs : List Subscription) → Sits b subs → name_wanted w subs ≡ None
    → placed_in w.sub w.want mark subs ≡ subs
unplaced b w mark [] h e = refl
unplaced b w mark (s ∷ subs) h e =
    let rest = placed-above s.number.0 w.sub w.want mark subs h.2 in
    grind (arith, nat_tests, unplaced s.number.0 w mark subs h.2, not-placed w.want mark s.streams, rest, e)

-- one that stands has no hold yet, nor has its subscription one of its name
pub newly-held : (c n b : ℕ) (w : Wanted) (mark : RowId) (name : List ℕ) (subs : List Subscription) → Sits b subs → Free n subs → w.want.0 ≡ n
    → name_wanted w subs ≡ Some name
    → AllByRecursion (IsOther (hold_of c w.sub w.want mark)) (sub_holds c name subs)
newly-held c n b w mark name [] h f l e = tt
newly-held c n b w mark name (s ∷ subs) h f l e = go (s.number.0 == w.sub.0) refl (newly-held c n s.number.0 w mark name subs h.2 f.1 l)
  where
    h_new : Hold
    h_new = hold_of c w.sub w.want mark

    go : (t : Bool) → (s.number.0 == w.sub.0) ≡ t → (name_wanted w subs ≡ Some name → AllByRecursion (IsOther h_new) (sub_holds c name subs))
        → AllByRecursion (IsOther h_new) (sub_holds c name (s ∷ subs))
    go true t ih =
        let e' = rw t at e in
        let none = was-none c n s.number w.want name s.streams h.1 f.0 l e' in
        let same : s.number.0 ≡ w.sub.0 = grind (arith, nat_tests) in
        rw none
        (All-implied (LiesAbove c s.number.0 n) (IsOther h_new) (sub_holds c name subs)
        (λ x k. (
          λ q.
              let q' : x.sub.0 ≡ w.sub.0 = ap (λ (y : SubNo). y.0) q in
              let k' = k.1 in omega (arith, k', q', same),
          λ q.
              let q' : x.want.0 ≡ w.want.0 = ap (λ (y : WantNo). y.0) q in
              let k' = k.2 in omega (arith, k', q', l),
        ))
        (subs-lie c n s.number.0 name subs h.2 f.1))
    go false t ih =
        let e' = rw t at e in
        All-append (IsOther h_new) (stream_holds c name s.number s.streams) (sub_holds c name subs)
        (All-implied (Lies c s.number n) (IsOther h_new) (stream_holds c name s.number s.streams)
        (λ x k. (
          λ q.
              let q' : s.number.0 ≡ w.sub.0 = ap (λ (y : SubNo). y.0) (sym k.1 ∙ q) in
              grind (arith, nat_tests),
          λ q.
              let q' : x.want.0 ≡ w.want.0 = ap (λ (y : WantNo). y.0) q in
              let k' = k.2 in omega (arith, k', q', l),
        ))
        (streams-lie c n name s.number s.streams f.0))
        (ih e')

-- .. and then it has one, in its place
pub then-held : (c n b : ℕ) (w : Wanted) (mark : RowId) (name r : List ℕ) (subs : List Subscription) → Sits b subs → Free n subs → w.want.0 ≡ n
    → name_wanted w subs ≡ Some name
    → sub_holds c r (placed_in w.sub w.want mark subs)
    ≡ cond (bytes_eq name r) (with_hold (hold_of c w.sub w.want mark) (sub_holds c r subs)) (sub_holds c r subs)
then-held c n b w mark name r [] h f l e = absurd (cc (e))
then-held c n b w mark name r (s ∷ subs) h f l e = go (s.number.0 == w.sub.0) refl (then-held c n s.number.0 w mark name r subs h.2 f.1 l)
  where
    h_new : Hold
    h_new = hold_of c w.sub w.want mark

    go : (t : Bool) → (s.number.0 == w.sub.0) ≡ t
        → (name_wanted w subs ≡ Some name
        → sub_holds c r (placed_in w.sub w.want mark subs) ≡ cond (bytes_eq name r) (with_hold h_new (sub_holds c r subs)) (sub_holds c r subs))
        → sub_holds c r (placed_in w.sub w.want mark (s ∷ subs))
        ≡ cond (bytes_eq name r) (with_hold h_new (sub_holds c r (s ∷ subs))) (sub_holds c r (s ∷ subs))
    go true t ih =
        let e' = rw t at e in
        let same : s.number.0 ≡ w.sub.0 = grind (arith, nat_tests) in
        let rest = placed-above s.number.0 w.sub w.want mark subs h.2 (omega arith) in
        let one = now-one c n s.number w.want mark name r s.streams h.1 f.0 l e' in
        rw (t, rest, one) (here same (bytes_eq name r) refl e')
      where
        here : s.number.0 ≡ w.sub.0 → (u : Bool) → bytes_eq name r ≡ u → name_among w.want s.streams ≡ Some name
            → cond (bytes_eq name r) (hold_of c s.number w.want mark ∷ []) (stream_holds c r s.number s.streams) ++ sub_holds c r subs
            ≡ cond (bytes_eq name r) (with_hold h_new (stream_holds c r s.number s.streams ++ sub_holds c r subs))
            (stream_holds c r s.number s.streams ++ sub_holds c r subs)
        here same false u e' = rw u refl
        here same true u e' =
            let is : name ≡ r = (bytes_eq-Decides name r).0 u in
            let none : stream_holds c r s.number s.streams ≡ [] = was-none c n s.number w.want r s.streams h.1 f.0 l (e' ∙ ap Some is) in
            let mine : s.number ≡ w.sub = (λ i. record { 0 = same i }) in
            let put = before-all h_new (sub_holds c r subs)
            (All-implied (LiesAbove c s.number.0 n) (λ x. is_before x h_new ≡ false) (sub_holds c r subs) (λ x k. not-before x k same)
            (subs-lie c n s.number.0 r subs h.2 f.1)) in
            rw (u, none, put) (ap (λ (x : SubNo). hold_of c x w.want mark ∷ sub_holds c r subs) mine)
          where
            not-before : (x : Hold) → LiesAbove c s.number.0 n x → s.number.0 ≡ w.sub.0 → is_before x h_new ≡ false
            not-before x k same =
                let conn : x.conn.0 ≡ c = ap (λ y. y.0) k.0 in
                let above = k.1 in
                grind (arith, nat_tests)
    go false t ih =
        let e' = rw t at e in
        rw t (put (bytes_eq name r) refl (ih e') (below e'))
      where
        below : name_wanted w subs ≡ Some name → s.number.0 < w.sub.0
        below e' = low (leb w.sub.0 s.number.0) refl
          where
            low : (u : Bool) → leb w.sub.0 s.number.0 ≡ u → s.number.0 < w.sub.0
            low true u =
                let none = wanted-above s.number.0 w subs h.2 (grind (arith, nat_tests)) in
                absurd (cc (none, e'))
            low false u = grind (arith, nat_tests)

        put : (u : Bool) → bytes_eq name r ≡ u
            → sub_holds c r (placed_in w.sub w.want mark subs) ≡ cond (bytes_eq name r) (with_hold h_new (sub_holds c r subs)) (sub_holds c r subs)
            → s.number.0 < w.sub.0
            → stream_holds c r s.number s.streams ++ sub_holds c r (placed_in w.sub w.want mark subs)
            ≡ cond (bytes_eq name r) (with_hold h_new (stream_holds c r s.number s.streams ++ sub_holds c r subs))
            (stream_holds c r s.number s.streams ++ sub_holds c r subs)
        put false u ih low = rw (ih, u) refl
        put true u ih low =
            rw (ih, u)
            (sym (behind-all h_new (stream_holds c r s.number s.streams) (sub_holds c r subs)
            (All-implied (Lies c s.number n) (λ x. is_before x h_new ≡ true) (stream_holds c r s.number s.streams) (λ x k. stands-before x k low)
            (streams-lie c n r s.number s.streams f.0))))
          where
            stands-before : (x : Hold) → Lies c s.number n x → s.number.0 < w.sub.0 → is_before x h_new ≡ true
            stands-before x k low =
                let conn : x.conn.0 ≡ c = ap (λ y. y.0) k.0 in
                let sub : x.sub.0 ≡ s.number.0 = ap (λ (y : SubNo). y.0) k.1 in
                grind (arith, nat_tests)

-- ---- what stays

pub placed-sits : (b : ℕ) (sub : SubNo) (want : WantNo) (mark : RowId) (subs : List Subscription) → Sits b subs → Sits b (placed_in sub want mark subs)
placed-sits b sub want mark [] h = tt
placed-sits b sub want mark (s ∷ subs) h = go (s.number.0 == sub.0) refl (placed-sits s.number.0 sub want mark subs h.2)
  where
    go : (t : Bool) → (s.number.0 == sub.0) ≡ t → Sits s.number.0 (placed_in sub want mark subs) → Sits b (placed_in sub want mark (s ∷ subs))
    go true t ih = rw t (h.0, AreApart-placed want mark s.streams h.1, ih)
    go false t ih = rw t (h.0, h.1, ih)

free-streams : (n : ℕ) (want : WantNo) (mark : RowId) (es : List StreamEntry) → want.0 ≡ n → FreeAmong n es → FreeAmong (suc n) (placed want mark es)
free-streams n want mark [] l f = tt
free-streams n want mark (e ∷ es) l f = go (is_wanted_as want e) refl (free-streams n want mark es l f.1)
  where
    go : (t : Bool) → is_wanted_as want e ≡ t → FreeAmong (suc n) (placed want mark es) → FreeAmong (suc n) (placed want mark (e ∷ es))
    go true t ih = (λ k. absurd (high k), ih)
      where
        high : suc n ≤ (placed_stream want mark e).want.0 → ⊥
        high k =
            let same : (placed_stream want mark e).want.0 ≡ e.want.0 = ap (λ (x : WantNo). x.0) (placed_one-want want mark e) in
            let is : e.want.0 ≡ want.0 = grind (arith, nat_tests) in
            omega (arith, k, same, is, l)
    go false t ih = rw t (λ k. f.0 (omega (arith, k)), ih)

free-more : (n : ℕ) (es : List StreamEntry) → FreeAmong n es → FreeAmong (suc n) es
free-more n [] f = tt
free-more n (e ∷ es) f = (λ k. f.0 (omega (arith, k)), free-more n es f.1)

pub placed-free : (n : ℕ) (sub : SubNo) (want : WantNo) (mark : RowId) (subs : List Subscription) → want.0 ≡ n → Free n subs
    → Free (suc n) (placed_in sub want mark subs)
placed-free n sub want mark [] l f = tt
placed-free n sub want mark (s ∷ subs) l f = go (s.number.0 == sub.0) refl (placed-free n sub want mark subs l f.1)
  where
    go : (t : Bool) → (s.number.0 == sub.0) ≡ t → Free (suc n) (placed_in sub want mark subs) → Free (suc n) (placed_in sub want mark (s ∷ subs))
    go true t ih = rw t (free-streams n want mark s.streams l f.0, ih)
    go false t ih = rw t (free-more n s.streams f.0, ih)

names-among : (w want : WantNo) (mark : RowId) (es : List StreamEntry) → name_among w (placed want mark es) ≡ name_among w es
names-among w want mark [] = refl
names-among w want mark (e ∷ es) =
    ap (λ (k : WantNo). cond (k.0 == w.0) (Some (placed_stream want mark e).name) (name_among w (placed want mark es))) (placed_one-want want mark e)
    ∙ (ap (λ k. cond (e.want.0 == w.0) (Some k) (name_among w (placed want mark es))) (placed_one-name want mark e)
    ∙ ap (λ o. cond (e.want.0 == w.0) (Some e.name) o) (names-among w want mark es))

pub placed-names : (w : Wanted) (sub : SubNo) (want : WantNo) (mark : RowId) (subs : List Subscription)
    → name_wanted w (placed_in sub want mark subs) ≡ name_wanted w subs
placed-names w sub want mark [] = refl
placed-names w sub want mark (s ∷ subs) = grind (arith, placed-names w sub want mark subs, names-among w.want want mark s.streams)
