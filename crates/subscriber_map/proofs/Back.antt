-- A hold that was put in its place and is taken away again leaves no trace.
use Rattle.std.proofs.Common.{◌≡◌, ◌≢◌, ℕ, not, cond, Bool, true, false, List, [], ◌∷◌, ◌++◌, Some, None, unwrap_or, refl, sym, ap, ◌∙◌, arith}
use Rattle.std.specs.List.{All, filter}
use Rattle.std.specs.FinMap.{get, insert, get-insert, get-remove}
use Rattle.std.specs.Cmp.Lexicographic.{nat_list_cmp_total}
use Rattle.std.proofs.lemmas.Bool.Decides.{nat_tests}
use Rattle.std.proofs.lemmas.List.Elements.{All-head, All-tail}
use Rattle.subscriber_map.specs.declared.holding.Hold.{Hold}
use Rattle.subscriber_map.specs.Holds.{is_before, is_of, AreInOrder, AreHolds, IsNewAmong, with_hold, without}
use Rattle.subscriber_map.specs.HoldMaps.{HoldMap, holds_at, with_holds_at, with_hold_at, without_at}
use Rattle.subscriber_map.proofs.InOrder.{before-trans, of_not}
use Rattle.subscriber_map.proofs.ByName.{ties, tied, tied-self, twice, own, same_maps, with_some}

-- ---- the holds of one name

-- where one stands behind the hold, so do all that follow
none-before : (hold h : Hold) (hs : List Hold) → is_before h hold ≡ false → All (λ x. is_before h x ≡ true) hs → filter (λ x. is_before x hold) hs ≡ []
none-before hold h [] e a = refl
none-before hold h (x ∷ hs) e a = go (is_before x hold) refl (none-before hold h hs e (All-tail (λ y. is_before h y ≡ true) x hs a))
  where
    go : (b : Bool) → is_before x hold ≡ b → filter (λ y. is_before y hold) hs ≡ [] → filter (λ y. is_before y hold) (x ∷ hs) ≡ []
    go true b ih = let t = before-trans h x hold (All-head (λ y. is_before h y ≡ true) x hs a) b in absurd (cc (t, e))
    go false b ih = rw b ih

all-behind : (hold : Hold) (hs : List Hold) → filter (λ x. is_before x hold) hs ≡ [] → filter (λ x. not (is_before x hold)) hs ≡ hs
all-behind hold [] e = refl
all-behind hold (x ∷ hs) e = go (is_before x hold) refl (all-behind hold hs)
  where
    go : (b : Bool) → is_before x hold ≡ b → (filter (λ y. is_before y hold) hs ≡ [] → filter (λ y. not (is_before y hold)) hs ≡ hs) → filter (λ y. not (is_before y hold)) (x ∷ hs) ≡ x ∷ hs
    go true b ih = let e' = rw b at e in absurd (cc (e'))
    go false b ih = let e' = rw b at e in rw b (ap (λ ys. x ∷ ys) (ih e'))

parts-joined : (hold : Hold) (hs : List Hold) → AreInOrder hs → filter (λ x. is_before x hold) hs ++ filter (λ x. not (is_before x hold)) hs ≡ hs
parts-joined hold [] o = refl
parts-joined hold (x ∷ hs) o = go (is_before x hold) refl (parts-joined hold hs o.1)
  where
    go : (b : Bool) → is_before x hold ≡ b → filter (λ y. is_before y hold) hs ++ filter (λ y. not (is_before y hold)) hs ≡ hs
        → filter (λ y. is_before y hold) (x ∷ hs) ++ filter (λ y. not (is_before y hold)) (x ∷ hs) ≡ x ∷ hs
    go true b ih = rw b (ap (λ ys. x ∷ ys) ih)
    go false b ih =
        let none = none-before hold x hs b o.0 in
        rw (b, none) (ap (λ ys. x ∷ ys) (all-behind hold hs none))

none-goes : (hold : Hold) (hs : List Hold) → IsNewAmong hold hs → without hold.conn hold.want hs ≡ hs
none-goes hold [] n = refl
none-goes hold (x ∷ hs) n =
    let e = of_not hold x (All-head (λ y. y.conn ≡ hold.conn → (y.sub ≢ hold.sub) × (y.want ≢ hold.want)) x hs n) in
    rw e (ap (λ ys. x ∷ ys) (none-goes hold hs (All-tail (λ y. y.conn ≡ hold.conn → (y.sub ≢ hold.sub) × (y.want ≢ hold.want)) x hs n)))

filter-parts : (p : Hold → Bool) (xs : List Hold) (h : Hold) (ys : List Hold) → p h ≡ false → filter p (xs ++ h ∷ ys) ≡ filter p (xs ++ ys)
filter-parts p [] h ys e = rw e refl
filter-parts p (x ∷ xs) h ys e = go (p x) refl (filter-parts p xs h ys e)
  where
    go : (b : Bool) → p x ≡ b → filter p (xs ++ h ∷ ys) ≡ filter p (xs ++ ys) → filter p ((x ∷ xs) ++ h ∷ ys) ≡ filter p ((x ∷ xs) ++ ys)
    go true b ih = rw b (ap (λ zs. x ∷ zs) ih)
    go false b ih = rw b ih

self-of : (hold : Hold) → not (is_of hold.conn hold.want hold) ≡ false
self-of hold = grind (arith, nat_tests)

pub back-among : (hold : Hold) (hs : List Hold) → AreHolds hs → IsNewAmong hold hs → without hold.conn hold.want (with_hold hold hs) ≡ hs
back-among hold hs h n =
    filter-parts (λ x. not (is_of hold.conn hold.want x)) (filter (λ x. is_before x hold) hs) hold (filter (λ x. not (is_before x hold)) hs) (self-of hold)
    ∙ (ap (without hold.conn hold.want) (parts-joined hold hs h.order) ∙ none-goes hold hs n)

-- ---- the map

at-inserted : (m : HoldMap) (q : List ℕ) (hs : List Hold) → holds_at (insert m q hs) q ≡ hs
at-inserted m q hs = ap (λ o. unwrap_or o []) (get-insert nat_list_cmp_total m q hs q ∙ ap (λ b. cond b (Some hs) (get m q)) (tied-self q))

pub back-nowhere : (hold : Hold) (q : List ℕ) (m : HoldMap) → get m q ≡ None → without_at (with_hold_at m q hold) q hold.conn hold.want ≡ m
back-nowhere hold q m none =
    ap (λ hs. with_holds_at (with_hold_at m q hold) q (without hold.conn hold.want hs)) (at-inserted m q (with_hold hold (holds_at m q)))
    ∙ (ap (λ hs. with_holds_at (with_hold_at m q hold) q (without hold.conn hold.want (with_hold hold hs))) (ap (λ o. unwrap_or o []) none)
    ∙ (ap (λ b. with_holds_at (with_hold_at m q hold) q (cond b (hold ∷ []) [])) (self-of hold)
    ∙ same_maps _ _ (λ r.
    get-remove nat_list_cmp_total (with_hold_at m q hold) q r
    ∙ (ap (cond (ties r q) None) (get-insert nat_list_cmp_total m q (with_hold hold (holds_at m q)) r)
    ∙ (twice (ties r q) None (Some (with_hold hold (holds_at m q))) (get m r) ∙ own (ties r q) None (get m r) (λ t. ap (get m) (tied r q t) ∙ none))))))

pub back-there : (hold : Hold) (q : List ℕ) (m : HoldMap) (hs : List Hold) → get m q ≡ Some hs → hs ≢ [] → without hold.conn hold.want (with_hold hold hs) ≡ hs → without_at (with_hold_at m q hold) q hold.conn hold.want ≡ m
back-there hold q m hs found held back =
    ap (λ xs. with_holds_at (with_hold_at m q hold) q (without hold.conn hold.want xs)) (at-inserted m q (with_hold hold (holds_at m q)))
    ∙ (ap (λ xs. with_holds_at (with_hold_at m q hold) q (without hold.conn hold.want (with_hold hold xs))) (ap (λ o. unwrap_or o []) found)
    ∙ (ap (with_holds_at (with_hold_at m q hold) q) back ∙ (sym (with_some (with_hold_at m q hold) q hs held) ∙ rewritten)))
  where
    rewritten : insert (with_hold_at m q hold) q hs ≡ m
    rewritten = same_maps _ _ (λ r.
        get-insert nat_list_cmp_total (with_hold_at m q hold) q hs r
        ∙ (ap (cond (ties r q) (Some hs)) (get-insert nat_list_cmp_total m q (with_hold hold (holds_at m q)) r)
        ∙ (twice (ties r q) (Some hs) (Some (with_hold hold (holds_at m q))) (get m r) ∙ own (ties r q) (Some hs) (get m r) (λ t. ap (get m) (tied r q t) ∙ found))))
