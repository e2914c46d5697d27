-- Lists in which no two elements are equal: joined, filtered, and of numbers that rise.
use Rattle.std.proofs.Common.{ℕ, ◌≡◌, ◌<◌, ◌≤◌, ◌==◌, Bool, true, false, List, [], ◌∷◌, ◌++◌, map, flat_map, refl, arith}
use Rattle.std.specs.List.{filter, AllByRecursion, IsDistinct}
use Rattle.std.proofs.lemmas.Bool.Decides.{nat_tests}
use Rattle.cable_base.proofs.Each.{All-append, All-back}
use Rattle.cable_base.proofs.Rises.{Rises, Rises-within}

-- each of the first differs from each of the others
abbrev pub Differs : {K : Type 0} → (K → K → Bool) → List K → List K → Type 0
Differs e xs ys = AllByRecursion (λ x. AllByRecursion (λ y. e x y ≡ false) ys) xs

pub All-front : {A : Type 0} (P : A → Type 0) (xs ys : List A) → AllByRecursion P (xs ++ ys) → AllByRecursion P xs
All-front P [] ys h = tt
All-front P (x ∷ xs) ys h = (h.0, All-front P xs ys h.1)

pub All-filter-map : {X K : Type 0} (P : K → Type 0) (f : X → K) (p : X → Bool) (xs : List X) → AllByRecursion P (map f xs) → AllByRecursion P (map f (filter p xs))
All-filter-map P f p [] h = tt
All-filter-map P f p (x ∷ xs) h = go (p x) refl (All-filter-map P f p xs h.1)
  where
    go : (b : Bool) → p x ≡ b → AllByRecursion P (map f (filter p xs)) → AllByRecursion P (map f (filter p (x ∷ xs)))
    go true b ih = rw b (h.0, ih)
    go false b ih = rw b ih

pub All-filter-flat : {X K : Type 0} (P : K → Type 0) (f : X → List K) (p : X → Bool) (xs : List X) → AllByRecursion P (flat_map f xs) → AllByRecursion P (flat_map f (filter p xs))
All-filter-flat P f p [] h = tt
All-filter-flat P f p (x ∷ xs) h = go (p x) refl (All-filter-flat P f p xs (All-back P (f x) (flat_map f xs) h))
  where
    go : (b : Bool) → p x ≡ b → AllByRecursion P (flat_map f (filter p xs)) → AllByRecursion P (flat_map f (filter p (x ∷ xs)))
    go true b ih = rw b (All-append P (f x) (flat_map f (filter p xs)) (All-front P (f x) (flat_map f xs) h) ih)
    go false b ih = rw b ih

pub distinct-filter : {X K : Type 0} (e : K → K → Bool) (f : X → K) (p : X → Bool) (xs : List X) → IsDistinct e (map f xs) → IsDistinct e (map f (filter p xs))
unfolding IsDistinct
distinct-filter e f p [] h = tt
distinct-filter e f p (x ∷ xs) h = go (p x) refl (distinct-filter e f p xs h.1)
  where
    go : (b : Bool) → p x ≡ b → IsDistinct e (map f (filter p xs)) → IsDistinct e (map f (filter p (x ∷ xs)))
    go true b ih = rw b (All-filter-map (λ y. e (f x) y ≡ false) f p xs h.0, ih)
    go false b ih = rw b ih

pub distinct-append : {K : Type 0} (e : K → K → Bool) (xs ys : List K) → IsDistinct e xs → IsDistinct e ys → Differs e xs ys → IsDistinct e (xs ++ ys)
unfolding IsDistinct
distinct-append e [] ys a b d = b
distinct-append e (x ∷ xs) ys a b d = (All-append (λ y. e x y ≡ false) xs ys a.0 d.0, distinct-append e xs ys a.1 b d.1)

pub distinct-front : {K : Type 0} (e : K → K → Bool) (xs ys : List K) → IsDistinct e (xs ++ ys) → IsDistinct e xs
unfolding IsDistinct
distinct-front e [] ys h = tt
distinct-front e (x ∷ xs) ys h = (All-front (λ y. e x y ≡ false) xs ys h.0, distinct-front e xs ys h.1)

pub distinct-back : {K : Type 0} (e : K → K → Bool) (xs ys : List K) → IsDistinct e (xs ++ ys) → IsDistinct e ys
unfolding IsDistinct
distinct-back e [] ys h = h
distinct-back e (x ∷ xs) ys h = distinct-back e xs ys h.1

pub distinct-parts : {K : Type 0} (e : K → K → Bool) (xs ys : List K) → IsDistinct e (xs ++ ys) → Differs e xs ys
unfolding IsDistinct
distinct-parts e [] ys h = tt
distinct-parts e (x ∷ xs) ys h = (All-back (λ y. e x y ≡ false) xs ys h.0, distinct-parts e xs ys h.1)

pub distinct-filter-flat : {X K : Type 0} (e : K → K → Bool) (f : X → List K) (p : X → Bool) (xs : List X) → IsDistinct e (flat_map f xs) → IsDistinct e (flat_map f (filter p xs))
distinct-filter-flat e f p [] h = h
distinct-filter-flat {K = K} e f p (x ∷ xs) h = go (p x) refl (distinct-filter-flat e f p xs (distinct-back e (f x) (flat_map f xs) h))
  where
    apart : (ys : List K) → Differs e ys (flat_map f xs) → Differs e ys (flat_map f (filter p xs))
    apart [] d = tt
    apart (y ∷ ys) d = (All-filter-flat (λ z. e y z ≡ false) f p xs d.0, apart ys d.1)

    go : (b : Bool) → p x ≡ b → IsDistinct e (flat_map f (filter p xs)) → IsDistinct e (flat_map f (filter p (x ∷ xs)))
    go true b ih = rw b (distinct-append e (f x) (flat_map f (filter p xs)) (distinct-front e (f x) (flat_map f xs) h) ih (apart (f x) (distinct-parts e (f x) (flat_map f xs) h)))
    go false b ih = rw b ih

-- ---- numbers that rise

pub Rises-above : {X : Type 0} (f : X → ℕ) (b : ℕ) (xs : List X) (e : ℕ) → Rises f b xs e → AllByRecursion (λ n. b < n) (map f xs)
Rises-above f b [] e h = tt
Rises-above f b (x ∷ xs) e h = (h.0, higher (map f xs) (Rises-above f (f x) xs e h.1))
  where
    higher : (ns : List ℕ) → AllByRecursion (λ n. f x < n) ns → AllByRecursion (λ n. b < n) ns
    higher [] a = tt
    higher (n ∷ ns) a = (let l = h.0 in let m = a.0 in omega arith, higher ns a.1)

pub Rises-most : {X : Type 0} (f : X → ℕ) (b : ℕ) (xs : List X) (e : ℕ) → Rises f b xs e → AllByRecursion (λ n. n ≤ e) (map f xs)
Rises-most f b [] e h = tt
Rises-most f b (x ∷ xs) e h = (Rises-within f (f x) xs e h.1, Rises-most f (f x) xs e h.1)

pub Rises-distinct : {X : Type 0} (f : X → ℕ) (b : ℕ) (xs : List X) (e : ℕ) → Rises f b xs e → IsDistinct (λ m n. m == n) (map f xs)
unfolding IsDistinct
Rises-distinct f b [] e h = tt
Rises-distinct f b (x ∷ xs) e h = (others (map f xs) (Rises-above f (f x) xs e h.1), Rises-distinct f (f x) xs e h.1)
  where
    others : (ns : List ℕ) → AllByRecursion (λ n. f x < n) ns → AllByRecursion (λ n. (f x == n) ≡ false) ns
    others [] a = tt
    others (n ∷ ns) a = (let l = a.0 in grind (arith, nat_tests), others ns a.1)

-- numbers up to a bound differ from those above it
pub bound-differs : (m : ℕ) (xs ys : List ℕ) → AllByRecursion (λ x. x ≤ m) xs → AllByRecursion (λ y. m < y) ys → Differs (λ a b. a == b) xs ys
bound-differs m [] ys a b = tt
bound-differs m (x ∷ xs) ys a b = (others ys b, bound-differs m xs ys a.1 b)
  where
    others : (ns : List ℕ) → AllByRecursion (λ n. m < n) ns → AllByRecursion (λ n. (x == n) ≡ false) ns
    others [] h = tt
    others (n ∷ ns) h = (let l = a.0 in let k = h.0 in grind (arith, nat_tests), others ns h.1)

pub empty-distinct : {K : Type 0} (e : K → K → Bool) → IsDistinct e []
unfolding IsDistinct
empty-distinct e = tt

-- which of two numbers comes first doesn't matter
pub differs-swap : (xs ys : List ℕ) → Differs (λ a b. a == b) xs ys → Differs (λ a b. a == b) ys xs
differs-swap xs [] d = tt
differs-swap xs (y ∷ ys) d = (others xs d, differs-swap xs ys (rest xs d))
  where
    others : (ns : List ℕ) → Differs (λ a b. a == b) ns (y ∷ ys) → AllByRecursion (λ n. (y == n) ≡ false) ns
    others [] e = tt
    others (n ∷ ns) e = (let l = e.0.0 in grind (arith, nat_tests), others ns e.1)

    rest : (ns : List ℕ) → Differs (λ a b. a == b) ns (y ∷ ys) → Differs (λ a b. a == b) ns ys
    rest [] e = tt
    rest (n ∷ ns) e = (e.0.1, rest ns e.1)
