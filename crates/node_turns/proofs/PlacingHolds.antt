-- One hold more of a name: what a look-up then finds, and what a connection then has.
use Rattle.std.proofs.Common.{◌≡◌, ◌≢◌, ℕ, not, cond, ltb, Bool, true, false, List, [], ◌∷◌, ◌++◌, Option, Some, unwrap_or, refl, ap, ◌∙◌, arith}
use Rattle.std.specs.List.{filter, AllByRecursion}
use Rattle.std.specs.Str.{bytes_eq}
use Rattle.std.specs.FinMap.{get, get-insert}
use Rattle.std.specs.Cmp.Lexicographic.{nat_list_cmp_total}
use Rattle.std.proofs.lemmas.Bool.Decides.{nat_tests}
use Rattle.std.proofs.lemmas.Slice.Eq.{bytes_eq-Decides}
use Rattle.std.proofs.lemmas.List.Elements.{All-cons, All-nil, filter-append}
use Rattle.subscriber_map.specs.declared.holding.Hold.{Hold}
use Rattle.subscriber_map.specs.Holds.{is_before, IsNewAmong, with_hold}
use Rattle.subscriber_map.specs.HoldMaps.{HoldMap, holds_at, with_hold_at}
use Rattle.subscriber_map.proofs.ByName.{ties_is}
use Rattle.node_turns.specs.Held.{is_on, holds_on}
use Rattle.std.proofs.lemmas.List.{append-nil}

-- ---- a look-up

looked-up : (b : Bool) (v : List Hold) (o : Option (List Hold)) → unwrap_or (cond b (Some v) o) [] ≡ cond b v (unwrap_or o [])
looked-up b v o = grind arith

same-name : (b : Bool) (m : HoldMap) (name r : List ℕ) (h : Hold) → bytes_eq name r ≡ b
    → cond b (with_hold h (holds_at m name)) (holds_at m r) ≡ cond b (with_hold h (holds_at m r)) (holds_at m r)
same-name b m name r h e = grind (arith, bytes_eq-Decides name r)

-- under its own name it is put in its place, and the others are left alone
pub holds-placed : (m : HoldMap) (name r : List ℕ) (h : Hold)
    → holds_at (with_hold_at m name h) r ≡ cond (bytes_eq name r) (with_hold h (holds_at m r)) (holds_at m r)
holds-placed m name r h =
    ap (λ o. unwrap_or o [])
    (get-insert nat_list_cmp_total m name (with_hold h (holds_at m name)) r
    ∙ ap (λ b. cond b (Some (with_hold h (holds_at m name))) (get m r)) (ties_is r name))
    ∙ (looked-up (bytes_eq name r) (with_hold h (holds_at m name)) (get m r) ∙ same-name (bytes_eq name r) m name r h refl)

-- ---- those of a connection

filter-swap : (p q : Hold → Bool) (hs : List Hold) → filter p (filter q hs) ≡ filter q (filter p hs)
filter-swap p q [] = refl
filter-swap p q (h ∷ hs) = grind (arith, filter-swap p q hs)

-- a test that all of them pass, or none
filter-all : (p q : Hold → Bool) (hs : List Hold) → ((h : Hold) → p h ≡ true → q h ≡ true) → filter p (filter q hs) ≡ filter p hs
filter-all p q [] f = refl
filter-all p q (h ∷ hs) f = grind (arith, filter-all p q hs f, f h)

filter-none : (p q : Hold → Bool) (hs : List Hold) → ((h : Hold) → p h ≡ true → q h ≡ false) → filter p (filter q hs) ≡ []
filter-none p q [] f = refl
filter-none p q (h ∷ hs) f = grind (arith, filter-none p q hs f, f h)

-- the connection's own
pub placed-on : (c : ℕ) (h : Hold) (hs : List Hold) → is_on c h ≡ true → holds_on c (with_hold h hs) ≡ with_hold h (holds_on c hs)
placed-on c h hs e =
    let front = filter (λ x. is_before x h) hs in
    let back = filter (λ x. not (is_before x h)) hs in
    filter-append (is_on c) front (h ∷ back)
    ∙ (ap (λ b. filter (is_on c) front ++ cond b (h ∷ filter (is_on c) back) (filter (is_on c) back)) e
    ∙ (ap (λ xs. xs ++ h ∷ filter (is_on c) back) (filter-swap (is_on c) (λ x. is_before x h) hs)
    ∙ ap (λ xs. filter (λ x. is_before x h) (holds_on c hs) ++ h ∷ xs) (filter-swap (is_on c) (λ x. not (is_before x h)) hs)))

-- another's
pub placed-off : (c : ℕ) (h : Hold) (hs : List Hold) → is_on c h ≡ false → holds_on c (with_hold h hs) ≡ holds_on c hs
placed-off c h hs e =
    filter-append (is_on c) front (h ∷ back)
    ∙ (ap (λ b. filter (is_on c) front ++ cond b (h ∷ filter (is_on c) back) (filter (is_on c) back)) e ∙ go (ltb c h.conn.0) refl)
  where
    front : List Hold
    front = filter (λ x. is_before x h) hs

    back : List Hold
    back = filter (λ x. not (is_before x h)) hs

    before : (x : Hold) → ltb c h.conn.0 ≡ true → is_on c x ≡ true → is_before x h ≡ true
    before x l o = grind (arith, nat_tests)

    behind : (x : Hold) → ltb c h.conn.0 ≡ false → is_on c x ≡ true → is_before x h ≡ false
    behind x l o = grind (arith, nat_tests)

    go : (b : Bool) → ltb c h.conn.0 ≡ b → filter (is_on c) front ++ filter (is_on c) back ≡ holds_on c hs
    go true b =
        ap (λ xs. xs ++ filter (is_on c) back) (filter-all (is_on c) (λ x. is_before x h) hs (λ x o. before x b o))
        ∙ (ap (λ xs. holds_on c hs ++ xs) (filter-none (is_on c) (λ x. not (is_before x h)) hs (λ x o. ap not (before x b o))) ∙ append-nil (holds_on c hs))
    go false b =
        ap (λ xs. xs ++ filter (is_on c) back) (filter-none (is_on c) (λ x. is_before x h) hs (λ x o. behind x b o))
        ∙ filter-all (is_on c) (λ x. not (is_before x h)) hs (λ x o. ap not (behind x b o))

-- ---- newness, and the place

abbrev pub IsOther : Hold → Hold → Type 0
IsOther h x = (x.sub ≢ h.sub) × (x.want ≢ h.want)

-- a hold is new among those of a name if it is among its connection's
pub new-among : (h : Hold) (hs : List Hold) → AllByRecursion (IsOther h) (holds_on h.conn.0 hs) → IsNewAmong h hs
new-among h [] a = All-nil (λ x. x.conn ≡ h.conn → IsOther h x)
new-among h (x ∷ hs) a = go (is_on h.conn.0 x) refl (new-among h hs)
  where
    go : (b : Bool) → is_on h.conn.0 x ≡ b → (AllByRecursion (IsOther h) (holds_on h.conn.0 hs) → IsNewAmong h hs) → IsNewAmong h (x ∷ hs)
    go true b ih = let a' = rw b at a in All-cons (λ y. y.conn ≡ h.conn → IsOther h y) x hs (λ _. a'.0) (ih a'.1)
    go false b ih =
        let a' = rw b at a in
        All-cons (λ y. y.conn ≡ h.conn → IsOther h y) x hs
        (λ e.
        let n : x.conn.0 ≡ h.conn.0 = ap (λ k. k.0) e in
        absurd (grind (arith, nat_tests)))
        (ih a')

-- behind those that stand before it
pub behind-all : (h : Hold) (xs ys : List Hold) → AllByRecursion (λ x. is_before x h ≡ true) xs → with_hold h (xs ++ ys) ≡ xs ++ with_hold h ys
behind-all h [] ys a = refl
behind-all h (x ∷ xs) ys a = rw a.0 (ap (λ zs. x ∷ zs) (behind-all h xs ys a.1))

none-before : (h : Hold) (ys : List Hold) → AllByRecursion (λ x. is_before x h ≡ false) ys → filter (λ x. is_before x h) ys ≡ []
none-before h [] a = refl
none-before h (y ∷ ys) a = rw a.0 (none-before h ys a.1)

all-behind : (h : Hold) (ys : List Hold) → AllByRecursion (λ x. is_before x h ≡ false) ys → filter (λ x. not (is_before x h)) ys ≡ ys
all-behind h [] a = refl
all-behind h (y ∷ ys) a = rw a.0 (ap (λ zs. y ∷ zs) (all-behind h ys a.1))

-- before those that don't
pub before-all : (h : Hold) (ys : List Hold) → AllByRecursion (λ x. is_before x h ≡ false) ys → with_hold h ys ≡ h ∷ ys
before-all h ys a = rw (none-before h ys a, all-behind h ys a) refl
