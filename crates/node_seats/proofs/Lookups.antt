-- What is found under a number, behind what calls make of the others.
use Rattle.std.proofs.Common.{◌≡◌, ℕ, ◌==◌, Bool, true, false, cond, ◌||◌, List, [], ◌∷◌, Option, Some, None, refl, sym, ap, ◌∙◌, arith}
use Rattle.std.specs.Prelude.{is_some, ltb}
use Rattle.std.specs.List.{AllByRecursion, list_any}
use Rattle.std.specs.List.Sorted.{IsStrictlySortedBy}
use Rattle.std.specs.Ordering.{nat_cmp, is_eq, match_ordering}
use Rattle.std.specs.declared.cmp.Ordering.{Ordering}
use Rattle.std.specs.declared.cmp.Ordering.TheVariants as order
use Rattle.std.specs.BTreeMap.{is_at, insert_entry}
use Rattle.std.specs.Map.{lookup, set_value, keys_of}
use Rattle.std.proofs.lemmas.Bool.Decides.{nat_tests}
use Rattle.std.proofs.lemmas.Cmp.{eq_by_cmp_equiv, nat_cmp_total}
use Rattle.std.proofs.lemmas.Map.{lookup-set_value}
use Rattle.cable_model.specs.Possible.{inserted}
use Rattle.node_seats.specs.Numbers.{Numbers, Opened, opened_at, with_new}

-- ---- tests of numbers

pub at-is : (c d : ℕ) → is_at (nat_cmp c) d ≡ (d == c)
at-is c d = grind (arith, nat_tests)

pub at-self : (c : ℕ) → is_at (nat_cmp c) c ≡ true
at-self c = grind (arith, nat_tests)

at-turned : (c d : ℕ) → is_at (nat_cmp d) c ≡ is_at (nat_cmp c) d
at-turned c d = grind (arith, nat_tests)

at-apart : (c d : ℕ) → (c ≡ d → ⊥) → is_at (nat_cmp c) d ≡ false
at-apart c d apart = by-test (is_at (nat_cmp c) d) refl
  where
    by-test : (b : Bool) → is_at (nat_cmp c) d ≡ b → b ≡ false
    by-test true at = absurd (apart (grind (arith, nat_tests, at)))
    by-test false at = refl

-- a number below all these isn't among them
pub below-all : (c : ℕ) (ks : List ℕ) → AllByRecursion (λ k. nat_cmp c k ≡ order.Less) ks → list_any (is_at (nat_cmp c)) ks ≡ false
below-all c [] below = refl
below-all c (k ∷ ks) below = let l = below.0 in rw l (below-all c ks below.1)

-- ---- a number that was opened

-- another thing is kept of c
pub at-set : {B : Type 0} (c d : ℕ) (o p : B) (v : List (ℕ × B)) → lookup (is_at (nat_cmp c)) v ≡ Some p
    → lookup (is_at (nat_cmp d)) (set_value (is_at (nat_cmp c)) v o) ≡ cond (is_at (nat_cmp c) d) (Some o) (lookup (is_at (nat_cmp d)) v)
at-set c d o p v at = lookup-set_value (eq_by_cmp_equiv nat_cmp_total) (is_at (nat_cmp c)) one d o v (ap is_some at)
  where
    one : (x y : ℕ) → is_at (nat_cmp c) x ≡ true → is_at (nat_cmp c) y ≡ is_at (nat_cmp x) y
    one x y e = let same : c ≡ x = grind (arith, nat_tests, e) in ap (λ (n : ℕ). is_at (nat_cmp n) y) same

pub found-there : {B : Type 0} (c : ℕ) (o p : B) (v : List (ℕ × B)) → lookup (is_at (nat_cmp c)) v ≡ Some p
    → lookup (is_at (nat_cmp c)) (set_value (is_at (nat_cmp c)) v o) ≡ Some o
found-there c o p v at = at-set c c o p v at ∙ ap (λ b. cond b (Some o) (lookup (is_at (nat_cmp c)) v)) (at-self c)

pub found-elsewhere : {B : Type 0} (c d : ℕ) (o : B) (v : List (ℕ × B)) → (c ≡ d → ⊥)
    → lookup (is_at (nat_cmp d)) (set_value (is_at (nat_cmp c)) v o) ≡ lookup (is_at (nat_cmp d)) v
found-elsewhere c d o [] apart = refl
found-elsewhere c d o (e ∷ es) apart = by-test (is_at (nat_cmp c) e.0) refl (found-elsewhere c d o es apart)
  where
    by-test : (b : Bool) → is_at (nat_cmp c) e.0 ≡ b → lookup (is_at (nat_cmp d)) (set_value (is_at (nat_cmp c)) es o) ≡ lookup (is_at (nat_cmp d)) es
        → lookup (is_at (nat_cmp d)) (cond b ((e.0, o) ∷ es) (e ∷ set_value (is_at (nat_cmp c)) es o)) ≡ lookup (is_at (nat_cmp d)) (e ∷ es)
    by-test true at ih = let same : c ≡ e.0 = grind (arith, nat_tests, at) in let f = at-apart d e.0 (λ g. apart (same ∙ sym g)) in rw f refl
    by-test false at ih = ap (cond (is_at (nat_cmp d) e.0) (Some e.1)) ih

-- ---- a number more

pub at-new : {B : Type 0} (c d : ℕ) (o : B) (v : List (ℕ × B))
    → lookup (is_at (nat_cmp d)) (insert_entry nat_cmp v c o) ≡ cond (is_at (nat_cmp c) d) (Some o) (lookup (is_at (nat_cmp d)) v)
at-new {B} c d o [] = ap (λ b. cond b (Some o) None) (at-turned c d)
at-new {B} c d o (e ∷ es) = by-order (nat_cmp c e.0) refl (at-new c d o es)
  where
    rest : Option B
    rest = lookup (is_at (nat_cmp d)) es

    here : (b : Bool) → cond b (Some o) rest ≡ cond b (Some o) (cond b (Some e.1) rest)
    here true = refl
    here false = refl

    later : (b : Bool) → is_at (nat_cmp c) d ≡ b → is_at (nat_cmp c) e.0 ≡ false
        → cond (is_at (nat_cmp d) e.0) (Some e.1) (cond b (Some o) rest) ≡ cond b (Some o) (cond (is_at (nat_cmp d) e.0) (Some e.1) rest)
    later true at apart = let same : c ≡ d = grind (arith, nat_tests, at) in let f = ap (λ (x : ℕ). is_at (nat_cmp x) e.0) (sym same) ∙ apart in rw f refl
    later false at apart = refl

    by-order : (r : Ordering) → nat_cmp c e.0 ≡ r → lookup (is_at (nat_cmp d)) (insert_entry nat_cmp es c o) ≡ cond (is_at (nat_cmp c) d) (Some o) rest
        → lookup (is_at (nat_cmp d)) (match_ordering r ((c, o) ∷ e ∷ es) ((e.0, o) ∷ es) (e ∷ insert_entry nat_cmp es c o))
        ≡ cond (is_at (nat_cmp c) d) (Some o) (cond (is_at (nat_cmp d) e.0) (Some e.1) rest)
    by-order order.Less is ih = ap (λ b. cond b (Some o) (cond (is_at (nat_cmp d) e.0) (Some e.1) rest)) (at-turned c d)
    by-order order.Equal is ih =
        let same : c ≡ e.0 = grind (arith, nat_tests, is) in
        let t = ap (is_at (nat_cmp d)) (sym same) ∙ at-turned c d in
        rw t (here (is_at (nat_cmp c) d))
    by-order order.Greater is ih = ap (cond (is_at (nat_cmp d) e.0) (Some e.1)) ih ∙ later (is_at (nat_cmp c) d) refl (ap is_eq is)

pub new-there : {B : Type 0} (c : ℕ) (o : B) (v : List (ℕ × B)) → lookup (is_at (nat_cmp c)) (insert_entry nat_cmp v c o) ≡ Some o
new-there c o v = at-new c c o v ∙ ap (λ b. cond b (Some o) (lookup (is_at (nat_cmp c)) v)) (at-self c)

pub new-elsewhere : {B : Type 0} (c d : ℕ) (o : B) (v : List (ℕ × B)) → (c ≡ d → ⊥)
    → lookup (is_at (nat_cmp d)) (insert_entry nat_cmp v c o) ≡ lookup (is_at (nat_cmp d)) v
new-elsewhere c d o v apart = at-new c d o v ∙ ap (λ b. cond b (Some o) (lookup (is_at (nat_cmp d)) v)) (at-apart c d apart)

-- ---- what is found under each

gone : {B : Type 0} (c : ℕ) (v : List (ℕ × B)) → AllByRecursion (λ k. nat_cmp c k ≡ order.Less) (keys_of v) → lookup (is_at (nat_cmp c)) v ≡ None
gone c [] below = refl
gone c (e ∷ es) below = let l = below.0 in rw l (gone c es below.1)

-- what holds of what is found holds of each entry
pub each-entry : {B : Type 0} (P : ℕ → B → Type 0) (v : List (ℕ × B)) → IsStrictlySortedBy nat_cmp (keys_of v)
    → ((c : ℕ) (o : B) → lookup (is_at (nat_cmp c)) v ≡ Some o → P c o) → AllByRecursion (λ (e : ℕ × B). P e.0 e.1) v
unfolding IsStrictlySortedBy
each-entry {B} P [] rising h = tt
each-entry {B} P (e ∷ es) rising h = (
  h e.0 e.1 (let t = at-self e.0 in rw t refl),
  each-entry P es rising.1 (λ c o at. h c o (by-test c o (is_at (nat_cmp c) e.0) refl at)),
)
  where
    by-test : (c : ℕ) (o : B) (b : Bool) → is_at (nat_cmp c) e.0 ≡ b → lookup (is_at (nat_cmp c)) es ≡ Some o
        → cond b (Some e.1) (lookup (is_at (nat_cmp c)) es) ≡ Some o
    by-test c o true is at =
        let same : e.0 ≡ c = grind (arith, nat_tests, is) in
        absurd (let no_way : None ≡ Some o = sym (gone e.0 es rising.0) ∙ ap (λ (x : ℕ). lookup (is_at (nat_cmp x)) es) same ∙ at in cc)
    by-test c o false is at = at

below-is : (c d : ℕ) → nat_cmp c d ≡ order.Less → ltb d c ≡ false
below-is c d e = grind (arith, nat_tests, e)

above-is : (c d : ℕ) → nat_cmp c d ≡ order.Greater → ltb d c ≡ true
above-is c d e = grind (arith, nat_tests, e)

pub new-keys : (c : ℕ) (o : Opened) (v : Numbers) → opened_at c v ≡ None → keys_of (with_new c o v) ≡ inserted c (keys_of v)
new-keys c o [] none = refl
new-keys c o (e ∷ es) none = by-order (nat_cmp c e.0) refl none (new-keys c o es)
  where
    by-order : (r : Ordering) → nat_cmp c e.0 ≡ r → cond (is_eq r) (Some e.1) (opened_at c es) ≡ None → (opened_at c es ≡ None → keys_of (with_new c o es) ≡ inserted c (keys_of es))
        → keys_of (match_ordering r ((c, o) ∷ e ∷ es) ((e.0, o) ∷ es) (e ∷ insert_entry nat_cmp es c o)) ≡ cond (ltb e.0 c) (e.0 ∷ inserted c (keys_of es)) (c ∷ e.0 ∷ keys_of es)
    by-order order.Less is none ih = let f = below-is c e.0 is in rw f refl
    by-order order.Equal is none ih = absurd cc
    by-order order.Greater is none ih = let f = above-is c e.0 is in rw f (ap (λ ks. e.0 ∷ ks) (ih none))

-- ---- whether it was opened

pub any-same : (f g : ℕ → Bool) → ((x : ℕ) → f x ≡ g x) → (xs : List ℕ) → list_any f xs ≡ list_any g xs
any-same f g same [] = refl
any-same f g same (x ∷ xs) = ap (λ b. b || list_any f xs) (same x) ∙ ap (λ b. g x || b) (any-same f g same xs)
