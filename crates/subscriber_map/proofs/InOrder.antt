-- The holds of a name stay in their order, and each stays one, when one is put in its place or taken away.
use Rattle.std.proofs.Common.{◌≡◌, ◌≢◌, ℕ, zero, suc, ◌<◌, ◌≤◌, not, cond, Bool, true, false, List, [], ◌∷◌, ◌++◌, length, get_or, take, drop, inl, inr, refl, sym, ap, subst, arith}
use Rattle.std.specs.List.{All, AllWithin, filter}
use Rattle.std.specs.List.Sorted.{IsPartitionedBy, IsPartitionPoint}
use Rattle.std.proofs.lemmas.Bool.{cases_order}
use Rattle.std.proofs.lemmas.Bool.Decides.{nat_tests}
use Rattle.std.proofs.lemmas.List.Elements.{All-cons, All-head, All-tail, All-append, All-filter, All-weaker, filter_passes}
use Rattle.cable_base.specs.declared.numbers.ConnNo.{ConnNo}
use Rattle.cable_base.specs.declared.numbers.WantNo.{WantNo}
use Rattle.subscriber_map.specs.declared.holding.Hold.{Hold}
use Rattle.subscriber_map.specs.Holds.{is_before, is_of, AreInOrder, AreApart, AreHolds, IsNewAmong, with_hold, without}

-- ---- the order

pub before-trans : (a b c : Hold) → is_before a b ≡ true → is_before b c ≡ true → is_before a c ≡ true
before-trans a b c p q = grind (arith, nat_tests)

-- of two different subscriptions one stands before the other
before-other : (a b : Hold) → (a.conn.0 ≡ b.conn.0 → a.sub.0 ≡ b.sub.0 → ⊥) → is_before a b ≡ false → is_before b a ≡ true
before-other a b ne p = grind (arith, nat_tests)

in_order_at : (hs : List Hold) (i j : ℕ) (d : Hold) → AreInOrder hs → i < j → j < length hs → is_before (get_or hs i d) (get_or hs j d) ≡ true
in_order_at [] i j d o l m = absurd (omega arith)
in_order_at (h ∷ hs) zero zero d o l m = absurd (omega arith)
in_order_at (h ∷ hs) zero (suc j) d o l m = o.0 j d (omega arith)
in_order_at (h ∷ hs) (suc i) zero d o l m = absurd (omega arith)
in_order_at (h ∷ hs) (suc i) (suc j) d o l m = in_order_at hs i j d o.1 (omega arith) (omega arith)

AreInOrder-filter : (p : Hold → Bool) (hs : List Hold) → AreInOrder hs → AreInOrder (filter p hs)
AreInOrder-filter p [] o = tt
AreInOrder-filter p (h ∷ hs) o = go (p h) (AreInOrder-filter p hs o.1)
  where
    go : (b : Bool) → AreInOrder (filter p hs) → AreInOrder (cond b (h ∷ filter p hs) (filter p hs))
    go true r = (All-filter p (λ x. is_before h x ≡ true) hs o.0, r)
    go false r = r

AreApart-filter : (p : Hold → Bool) (hs : List Hold) → AreApart hs → AreApart (filter p hs)
AreApart-filter p [] o = tt
AreApart-filter p (h ∷ hs) o = go (p h) (AreApart-filter p hs o.1)
  where
    go : (b : Bool) → AreApart (filter p hs) → AreApart (cond b (h ∷ filter p hs) (filter p hs))
    go true r = (All-filter p (λ x. is_of h.conn h.want x ≡ false) hs o.0, r)
    go false r = r

-- what is left where some are taken away
pub AreHolds-without : (conn : ConnNo) (want : WantNo) (hs new : List Hold) → AreHolds hs → new ≡ without conn want hs → AreHolds new
AreHolds-without conn want hs new h e =
    rw e
    (record {
      order = AreInOrder-filter (λ x. not (is_of conn want x)) hs h.order;
      apart = AreApart-filter (λ x. not (is_of conn want x)) hs h.apart;
    })

AreInOrder-append : (xs ys : List Hold) → AreInOrder xs → AreInOrder ys → All (λ x. All (λ y. is_before x y ≡ true) ys) xs → AreInOrder (xs ++ ys)
AreInOrder-append [] ys o p a = p
AreInOrder-append (x ∷ xs) ys o p a = (
  All-append (λ y. is_before x y ≡ true) xs ys o.0 (All-head (λ x. All (λ y. is_before x y ≡ true) ys) x xs a),
  AreInOrder-append xs ys o.1 p (All-tail (λ x. All (λ y. is_before x y ≡ true) ys) x xs a),
)

AreApart-append : (xs ys : List Hold) → AreApart xs → AreApart ys → All (λ x. All (λ y. is_of x.conn x.want y ≡ false) ys) xs → AreApart (xs ++ ys)
AreApart-append [] ys o p a = p
AreApart-append (x ∷ xs) ys o p a = (
  All-append (λ y. is_of x.conn x.want y ≡ false) xs ys o.0 (All-head (λ x. All (λ y. is_of x.conn x.want y ≡ false) ys) x xs a),
  AreApart-append xs ys o.1 p (All-tail (λ x. All (λ y. is_of x.conn x.want y ≡ false) ys) x xs a),
)

-- ---- one more

-- those before a new hold stand before it, and all others behind it
behind : (hold : Hold) (hs : List Hold) → IsNewAmong hold hs → All (λ x. is_before hold x ≡ true) (filter (λ h. not (is_before h hold)) hs)
behind hold [] new = λ k d l. absurd (omega arith)
behind hold (h ∷ hs) new = go (is_before h hold) refl (behind hold hs (All-tail (λ x. x.conn ≡ hold.conn → (x.sub ≢ hold.sub) × (x.want ≢ hold.want)) h hs new))
  where
    apart : h.conn.0 ≡ hold.conn.0 → h.sub.0 ≡ hold.sub.0 → ⊥
    apart c s = (All-head (λ x. x.conn ≡ hold.conn → (x.sub ≢ hold.sub) × (x.want ≢ hold.want)) h hs new (λ i. record { 0 = c i })).0 (λ i. record { 0 = s i })

    go : (b : Bool) → is_before h hold ≡ b → All (λ x. is_before hold x ≡ true) (filter (λ x. not (is_before x hold)) hs) → All (λ x. is_before hold x ≡ true) (cond (not b) (h ∷ filter (λ x. not (is_before x hold)) hs) (filter (λ x. not (is_before x hold)) hs))
    go true e r = r
    go false e r = All-cons (λ x. is_before hold x ≡ true) h (filter (λ x. not (is_before x hold)) hs) (before-other h hold apart e) r

-- all of the first pass the test, none of the second does, and the first stand before a hold that stands before the second
across : (hold : Hold) (xs ys : List Hold) → All (λ x. is_before x hold ≡ true) xs → All (λ y. is_before hold y ≡ true) ys → All (λ x. All (λ y. is_before x y ≡ true) (hold ∷ ys)) xs
across hold xs ys p q = All-weaker (λ x. is_before x hold ≡ true) (λ x. All (λ y. is_before x y ≡ true) (hold ∷ ys)) (λ x b. All-cons (λ y. is_before x y ≡ true) hold ys b (All-weaker (λ y. is_before hold y ≡ true) (λ y. is_before x y ≡ true) (λ y c. before-trans x hold y b c) ys q)) xs p

AreInOrder-with_hold : (hold : Hold) (hs : List Hold) → AreInOrder hs → IsNewAmong hold hs → AreInOrder (with_hold hold hs)
AreInOrder-with_hold hold hs o new =
    let front = filter (λ h. is_before h hold) hs in
    let back = filter (λ h. not (is_before h hold)) hs in
    AreInOrder-append front (hold ∷ back)
    (AreInOrder-filter (λ h. is_before h hold) hs o)
    (behind hold hs new, AreInOrder-filter (λ h. not (is_before h hold)) hs o)
    (across hold front back (filter_passes (λ h. is_before h hold) hs) (behind hold hs new))

not_of : (hold x : Hold) → (x.conn ≡ hold.conn → (x.sub ≢ hold.sub) × (x.want ≢ hold.want)) → is_of x.conn x.want hold ≡ false
not_of hold x new =
    let apart : x.conn.0 ≡ hold.conn.0 → x.want.0 ≡ hold.want.0 → ⊥ = λ c w. (new (λ i. record { 0 = c i })).1 (λ i. record { 0 = w i }) in
    grind (arith, nat_tests)

pub of_not : (hold x : Hold) → (x.conn ≡ hold.conn → (x.sub ≢ hold.sub) × (x.want ≢ hold.want)) → is_of hold.conn hold.want x ≡ false
of_not hold x new =
    let apart : x.conn.0 ≡ hold.conn.0 → x.want.0 ≡ hold.want.0 → ⊥ = λ c w. (new (λ i. record { 0 = c i })).1 (λ i. record { 0 = w i }) in
    grind (arith, nat_tests)

-- the two parts of a list that a test makes are apart, as the list is
parts-apart : (p : Hold → Bool) (hs : List Hold) → AreApart hs → All (λ x. All (λ y. is_of x.conn x.want y ≡ false) (filter (λ h. not (p h)) hs)) (filter p hs)
parts-apart p [] a = λ k d l. absurd (omega arith)
parts-apart p (h ∷ hs) a = go (p h) (parts-apart p hs a.1)
  where
    F : Hold → List Hold → Type 0
    F x ys = All (λ y. is_of x.conn x.want y ≡ false) ys

    swapped : (x : Hold) → is_of h.conn h.want x ≡ false → is_of x.conn x.want h ≡ false
    swapped x e = grind (arith, nat_tests)

    go : (b : Bool) → All (λ x. All (λ y. is_of x.conn x.want y ≡ false) (filter (λ h. not (p h)) hs)) (filter p hs)
        → All (λ x. All (λ y. is_of x.conn x.want y ≡ false) (cond (not b) (h ∷ filter (λ h. not (p h)) hs) (filter (λ h. not (p h)) hs))) (cond b (h ∷ filter p hs) (filter p hs))
    go true r = All-cons (λ x. All (λ y. is_of x.conn x.want y ≡ false) (filter (λ h. not (p h)) hs)) h (filter p hs) (All-filter (λ h. not (p h)) (λ y. is_of h.conn h.want y ≡ false) hs a.0) r
    go false r = λ k d l. All-cons (λ y. is_of (get_or (filter p hs) k d).conn (get_or (filter p hs) k d).want y ≡ false) h (filter (λ h. not (p h)) hs) (swapped (get_or (filter p hs) k d) (All-filter p (λ y. is_of h.conn h.want y ≡ false) hs a.0 k d l)) (r k d l)

AreApart-with_hold : (hold : Hold) (hs : List Hold) → AreApart hs → IsNewAmong hold hs → AreApart (with_hold hold hs)
AreApart-with_hold hold hs a new =
    let p : Hold → Bool = λ h. is_before h hold in
    let q : Hold → Bool = λ h. not (is_before h hold) in
    let N : Hold → Type 0 = λ x. x.conn ≡ hold.conn → (x.sub ≢ hold.sub) × (x.want ≢ hold.want) in
    AreApart-append (filter p hs) (hold ∷ filter q hs)
    (AreApart-filter p hs a)
    (All-weaker N (λ y. is_of hold.conn hold.want y ≡ false) (of_not hold) (filter q hs) (All-filter q N hs new), AreApart-filter q hs a)
    (λ k d l. All-cons (λ y. is_of (get_or (filter p hs) k d).conn (get_or (filter p hs) k d).want y ≡ false) hold (filter q hs)
    (not_of hold (get_or (filter p hs) k d) (All-filter p N hs new k d l)) (parts-apart p hs a k d l))

pub AreHolds-with_hold : (hold : Hold) (hs new : List Hold) → AreHolds hs → IsNewAmong hold hs → new ≡ with_hold hold hs → AreHolds new
AreHolds-with_hold hold hs new h n e = rw e (record { order = AreInOrder-with_hold hold hs h.order n; apart = AreApart-with_hold hold hs h.apart n })

-- ---- the place

pub partitioned : (hold : Hold) (hs : List Hold) → AreHolds hs → IsPartitionedBy (λ h. is_before h hold) hs
partitioned hold hs h i j d l m b = elim (cases_order i j) [
  | inl e ↦ subst (λ k. is_before (get_or hs k d) hold ≡ true) (sym e) b
  | inr (inl lt) ↦ before-trans (get_or hs i d) (get_or hs j d) hold (in_order_at hs i j d h.order lt m) b
  | inr (inr gt) ↦ absurd (omega arith)
]

-- a list is cut at a place before which all pass and behind which none does
cut : (p : Hold → Bool) (hs : List Hold) (i : ℕ) → i ≤ length hs → AllWithin (λ h. p h ≡ true) hs 0 i → AllWithin (λ h. p h ≡ false) hs i (length hs) → (filter p hs ≡ take i hs) × (filter (λ h. not (p h)) hs ≡ drop i hs)
cut p [] zero l f b = (refl, refl)
cut p [] (suc i) l f b = absurd (omega arith)
cut p (h ∷ hs) zero l f b =
    let here : p h ≡ false = b zero h (omega arith) (omega arith) in
    let rest = cut p hs zero (omega arith) (λ k d m n. absurd (omega arith)) (λ k d m n. b (suc k) d (omega arith) (omega arith)) in
    (rw here rest.0, rw here (ap (λ xs. h ∷ xs) rest.1))
cut p (h ∷ hs) (suc i) l f b =
    let here : p h ≡ true = f zero h (omega arith) (omega arith) in
    let rest = cut p hs i (omega arith) (λ k d m n. f (suc k) d (omega arith) (omega arith)) (λ k d m n. b (suc k) d (omega arith) (omega arith)) in
    (rw here (ap (λ xs. h ∷ xs) rest.0), rw here rest.1)

pub put_in_place : (hold : Hold) (hs : List Hold) (i : ℕ) → i ≤ length hs → IsPartitionPoint (λ h. is_before h hold ≡ true) (λ h. is_before h hold ≡ false) hs i → take i hs ++ hold ∷ drop i hs ≡ with_hold hold hs
put_in_place hold hs i l p =
    let c = cut (λ h. is_before h hold) hs i l p.0 p.1 in
    rw (c.0, c.1) refl
