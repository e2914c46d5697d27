-- Filters of a list, by tests that agree, and a list that rises cut at a number.
use Rattle.std.proofs.Common.{ℕ, ◌≡◌, ◌<◌, ◌≤◌, Bool, true, false, ◌&&◌, List, [], ◌∷◌, ◌++◌, refl, ap, ◌∙◌, arith, leb}
use Rattle.std.specs.List.{filter}
use Rattle.std.proofs.lemmas.Bool.Decides.{nat_tests}
use Rattle.cable_base.proofs.Rises.{Rises}

pub filter-twice : {A : Type 0} (p q : A → Bool) (xs : List A) → filter q (filter p xs) ≡ filter (λ x. p x && q x) xs
filter-twice p q [] = refl
filter-twice p q (x ∷ xs) = go (p x) refl (q x) refl (filter-twice p q xs)
  where
    go : (a : Bool) → p x ≡ a → (b : Bool) → q x ≡ b → filter q (filter p xs) ≡ filter (λ y. p y && q y) xs → filter q (filter p (x ∷ xs)) ≡ filter (λ y. p y && q y) (x ∷ xs)
    go true a true b ih = rw (a, b) (ap (λ ys. x ∷ ys) ih)
    go true a false b ih = rw (a, b) ih
    go false a b b' ih = rw a ih

pub filter-none : {A : Type 0} (p : A → Bool) (xs : List A) → ((x : A) → p x ≡ false) → filter p xs ≡ []
filter-none p [] h = refl
filter-none p (x ∷ xs) h = rw (h x) (filter-none p xs h)

pub filter-same : {A : Type 0} (p q : A → Bool) (xs : List A) → ((x : A) → p x ≡ q x) → filter p xs ≡ filter q xs
filter-same p q [] h = refl
filter-same p q (x ∷ xs) h = rw (h x, filter-same p q xs h) refl

-- a list that rises, cut at a number: up to it the test is p and q finds nothing, above it the test is q and p finds nothing
pub filter-cut : {A : Type 0} (f : A → ℕ) (cut : ℕ) (p q test : A → Bool) (b : ℕ) (xs : List A) (top : ℕ) → Rises f b xs top
    → ((x : A) → f x ≤ cut → (test x ≡ p x) × (q x ≡ false))
    → ((x : A) → cut < f x → (test x ≡ q x) × (p x ≡ false))
    → filter test xs ≡ filter p xs ++ filter q xs
filter-cut f cut p q test b [] top h low high = refl
filter-cut {A = A} f cut p q test b (x ∷ xs) top h low high = go (leb (f x) cut) refl (filter-cut f cut p q test (f x) xs top h.1 low high)
  where
    above : (d : ℕ) (ys : List A) → cut ≤ d → Rises f d ys top → filter p ys ≡ []
    above d [] l g = refl
    above d (y ∷ ys) l g = rw ((high y (omega arith)).1) (above (f y) ys (omega arith) g.1)

    low-case : f x ≤ cut → (t : Bool) → p x ≡ t → filter test xs ≡ filter p xs ++ filter q xs → filter test (x ∷ xs) ≡ filter p (x ∷ xs) ++ filter q (x ∷ xs)
    low-case l true t ih = rw ((low x l).0, (low x l).1, t) (ap (λ ys. x ∷ ys) ih)
    low-case l false t ih = rw ((low x l).0, (low x l).1, t) ih

    high-case : cut < f x → (t : Bool) → q x ≡ t → filter test xs ≡ filter p xs ++ filter q xs → filter test (x ∷ xs) ≡ filter p (x ∷ xs) ++ filter q (x ∷ xs)
    high-case l true t ih =
        let none = above (f x) xs (omega arith) h.1 in
        rw ((high x l).0, (high x l).1, t, none) (ap (λ ys. x ∷ ys) (ih ∙ ap (λ ys. ys ++ filter q xs) none))
    high-case l false t ih = rw ((high x l).0, (high x l).1, t) ih

    go : (c : Bool) → leb (f x) cut ≡ c → filter test xs ≡ filter p xs ++ filter q xs → filter test (x ∷ xs) ≡ filter p (x ∷ xs) ++ filter q (x ∷ xs)
    go true c ih = low-case (grind (arith, nat_tests)) (p x) refl ih
    go false c ih = high-case (grind (arith, nat_tests)) (q x) refl ih
