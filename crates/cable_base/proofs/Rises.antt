-- Lists whose numbers rise.
use Rattle.std.proofs.Common.{ℕ, zero, suc, ◌+◌, ◌<◌, ◌≤◌, ◌≡◌, Bool, true, false, List, [], ◌∷◌, ◌++◌, length, map, refl, arith}
use Rattle.std.specs.List.{filter}
use Rattle.std.specs.List.Sorted.{IsStrictlyIncreasing}

-- the numbers of xs rise, from above b up to at most e
abbrev pub Rises : {A : Type 0} → (A → ℕ) → ℕ → List A → ℕ → Type 0
Rises f b [] e = b ≤ e
Rises f b (x ∷ xs) e = (b < f x) × Rises f (f x) xs e

pub Rises-within : {A : Type 0} (f : A → ℕ) (b : ℕ) (xs : List A) (e : ℕ) → Rises f b xs e → b ≤ e
Rises-within f b [] e h = h
Rises-within f b (x ∷ xs) e h = let r = Rises-within f (f x) xs e h.1 in omega arith

pub Rises-from : {A : Type 0} (f : A → ℕ) (a b : ℕ) (xs : List A) (e : ℕ) → a ≤ b → Rises f b xs e → Rises f a xs e
Rises-from f a b [] e l h = omega arith
Rises-from f a b (x ∷ xs) e l h = (omega arith, h.1)

pub Rises-upto : {A : Type 0} (f : A → ℕ) (b : ℕ) (xs : List A) (d e : ℕ) → d ≤ e → Rises f b xs d → Rises f b xs e
Rises-upto f b [] d e l h = omega arith
Rises-upto f b (x ∷ xs) d e l h = (h.0, Rises-upto f (f x) xs d e l h.1)

pub Rises-append : {A : Type 0} (f : A → ℕ) (b : ℕ) (xs ys : List A) (m e : ℕ) → Rises f b xs m → Rises f m ys e → Rises f b (xs ++ ys) e
Rises-append f b [] ys m e h k = Rises-from f b m ys e h k
Rises-append f b (x ∷ xs) ys m e h k = (h.0, Rises-append f (f x) xs ys m e h.1 k)

-- what stands behind a number that rises lies above it
pub Rises-reaches : {A : Type 0} (f : A → ℕ) (b : ℕ) (xs ys : List A) (y : A) (e : ℕ) → Rises f b (xs ++ y ∷ ys) e → b < f y
Rises-reaches f b [] ys y e h = h.0
Rises-reaches f b (x ∷ xs) ys y e h = let l = Rises-reaches f (f x) xs ys y e h.1 in omega arith

pub Rises-filter : {A : Type 0} (f : A → ℕ) (p : A → Bool) (b : ℕ) (xs : List A) (e : ℕ) → Rises f b xs e → Rises f b (filter p xs) e
Rises-filter f p b [] e h = h
Rises-filter f p b (x ∷ xs) e h = go (p x) refl (Rises-filter f p (f x) xs e h.1)
  where
    go : (t : Bool) → p x ≡ t → Rises f (f x) (filter p xs) e → Rises f b (filter p (x ∷ xs)) e
    go true q ih = rw q (h.0, ih)
    go false q ih = rw q (Rises-from f b (f x) (filter p xs) e (omega arith) ih)

pub Rises-front : {A : Type 0} (f : A → ℕ) (b : ℕ) (xs ys : List A) (e : ℕ) → Rises f b (xs ++ ys) e → Rises f b xs e
Rises-front f b [] ys e h = Rises-within f b ys e h
Rises-front f b (x ∷ xs) ys e h = (h.0, Rises-front f (f x) xs ys e h.1)

-- what rises is strictly increasing
pub Rises-increasing : {A : Type 0} (f : A → ℕ) (b : ℕ) (xs : List A) (e : ℕ) → Rises f b xs e → IsStrictlyIncreasing (map f xs)
Rises-increasing f b [] e h k l = absurd (omega arith)
Rises-increasing f b (x ∷ []) e h k l = absurd (omega arith)
Rises-increasing f b (x ∷ y ∷ ys) e h zero l = h.1.0
Rises-increasing f b (x ∷ y ∷ ys) e h (suc k) l =
    let n : suc k + 1 ≡ suc (k + 1) = omega arith in rw n (Rises-increasing f (f x) (y ∷ ys) e h.1 k (omega arith))

-- what is strictly increasing behind b rises from it
pub increasing-rises : {A : Type 0} (f : A → ℕ) (b : ℕ) (xs : List A) → IsStrictlyIncreasing (b ∷ map f xs) → (e : ℕ) × Rises f b xs e
increasing-rises f b [] h = (b, omega arith)
increasing-rises f b (x ∷ xs) h =
    let r = increasing-rises f (f x) xs later in (r.0, (h 0 (omega arith), r.1))
  where
    later : IsStrictlyIncreasing (f x ∷ map f xs)
    later k l =
        let n : suc k + 1 ≡ suc (k + 1) = omega arith in
        let l' : suc k + 1 < length (b ∷ f x ∷ map f xs) = omega arith in
        let below = h (suc k) l' in
        rw n at below
