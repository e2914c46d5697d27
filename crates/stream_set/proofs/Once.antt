-- A test that passes at most once in a list, and what is removed, written and found at its place.
use Rattle.std.proofs.Common.{ℕ, zero, suc, ◌+◌, ◌≡◌, ◌<◌, ◌≤◌, Bool, true, false, cond, not, ◌||◌, List, [], ◌∷◌, ◌++◌, length, map, get_or, set, take, drop, Some, None, Option, refl, ap, sym, subst, ◌∙◌, arith, ltb}
use Rattle.std.specs.List.{filter, list_any, find, position, position_or_len, remove, slice_get}
use Rattle.std.proofs.lemmas.Bool.Decides.{nat_tests}
use Rattle.std.proofs.lemmas.List.Folds.{find_at}
use Rattle.std.proofs.lemmas.Option.{slice_get_read}
use Rattle.std.proofs.lemmas.List.Quantifiers.{position-Some}

-- the test passes at most once
abbrev pub IsOnce : {X : Type 0} → (X → Bool) → List X → Type 0
IsOnce p [] = Unit {0}
IsOnce p (x ∷ xs) = (p x ≡ true → list_any p xs ≡ false) × IsOnce p xs

-- the first place at which it passes is within the list exactly where it passes at all
pub within-any : {X : Type 0} (p : X → Bool) (xs : List X) → ltb (position_or_len p xs) (length xs) ≡ list_any p xs
within-any p [] = refl
within-any p (x ∷ xs) = go (p x) refl (within-any p xs)
  where
    go : (b : Bool) → p x ≡ b → ltb (position_or_len p xs) (length xs) ≡ list_any p xs → ltb (position_or_len p (x ∷ xs)) (length (x ∷ xs)) ≡ list_any p (x ∷ xs)
    go true b ih = rw b (grind (arith, nat_tests))
    go false b ih = rw b (let n : ltb (1 + position_or_len p xs) (suc (length xs)) ≡ ltb (position_or_len p xs) (length xs) = grind (arith, nat_tests) in n ∙ ih)

pub none-any : {X : Type 0} (p : X → Bool) (xs : List X) → position p xs ≡ None → list_any p xs ≡ false
none-any {X} p xs e = go (ltb (position_or_len p xs) (length xs)) refl
  where
    go : (t : Bool) → ltb (position_or_len p xs) (length xs) ≡ t → list_any p xs ≡ false
    go true t = let e' = rw t at e in absurd (cc (e'))
    go false t = sym (within-any p xs) ∙ t

pub some-any : {X : Type 0} (p : X → Bool) (xs : List X) (i : ℕ) → position p xs ≡ Some i → (list_any p xs ≡ true) × (i ≡ position_or_len p xs) × (i < length xs)
some-any {X} p xs i e = go (ltb (position_or_len p xs) (length xs)) refl
  where
    go : (t : Bool) → ltb (position_or_len p xs) (length xs) ≡ t → (list_any p xs ≡ true) × (i ≡ position_or_len p xs) × (i < length xs)
    go true t =
        let e' = rw t at e in
        let same : i ≡ position_or_len p xs = cc in
        (sym (within-any p xs) ∙ t, same, rw same (grind (arith, nat_tests)))
    go false t = let e' = rw t at e in absurd (cc (e'))

pub find-any : {X : Type 0} (p : X → Bool) (xs : List X) → list_any p xs ≡ false → find p xs ≡ None
find-any p [] e = refl
find-any p (x ∷ xs) e = go (p x) refl (find-any p xs)
  where
    go : (b : Bool) → p x ≡ b → (list_any p xs ≡ false → find p xs ≡ None) → find p (x ∷ xs) ≡ None
    go true b ih = let e' = rw b at e in absurd (cc (e'))
    go false b ih = let e' = rw b at e in rw b (ih e')

-- what is found stands at the place
pub find-place : {X : Type 0} (p : X → Bool) (xs : List X) (i : ℕ) → position p xs ≡ Some i → find p xs ≡ slice_get xs i
find-place p xs i e = find_at p xs ∙ ap (slice_get xs) (sym (some-any p xs i e).1)

-- ---- what doesn't pass anywhere leaves the list as it is

pub filter-none : {X : Type 0} (p : X → Bool) (xs : List X) → list_any p xs ≡ false → filter (λ x. not (p x)) xs ≡ xs
filter-none p [] e = refl
filter-none p (x ∷ xs) e = go (p x) refl (filter-none p xs)
  where
    go : (b : Bool) → p x ≡ b → (list_any p xs ≡ false → filter (λ x. not (p x)) xs ≡ xs) → filter (λ x. not (p x)) (x ∷ xs) ≡ x ∷ xs
    go true b ih = let e' = rw b at e in absurd (cc (e'))
    go false b ih = let e' = rw b at e in rw b (ap (λ ys. x ∷ ys) (ih e'))

pub map-none : {X : Type 0} (p : X → Bool) (g : X → X) (xs : List X) → list_any p xs ≡ false → map (λ x. cond (p x) (g x) x) xs ≡ xs
map-none p g [] e = refl
map-none {X} p g (x ∷ xs) e = go (p x) refl (map-none p g xs)
  where
    go : (b : Bool) → p x ≡ b → (list_any p xs ≡ false → map (λ x. cond (p x) (g x) x) xs ≡ xs) → map (λ x. cond (p x) (g x) x) (x ∷ xs) ≡ x ∷ xs
    go true b ih = let e' = rw b at e in absurd (cc (e'))
    go false b ih = let e' = rw b at e in rw b (ap (λ (ys : List X). x ∷ ys) (ih e'))

-- ---- at the one place where it passes

filter-at : {X : Type 0} (p : X → Bool) (xs : List X) (i : ℕ) → IsOnce p xs → i ≡ position_or_len p xs → i < length xs → filter (λ x. not (p x)) xs ≡ remove xs i
filter-at p [] i o e l = absurd (omega arith)
filter-at {X} p (x ∷ xs) i o e l = go (p x) refl i e l (filter-at p xs)
  where
    go : (b : Bool) → p x ≡ b → (i : ℕ) → i ≡ position_or_len p (x ∷ xs) → i < length (x ∷ xs) → ((i : ℕ) → IsOnce p xs → i ≡ position_or_len p xs → i < length xs → filter (λ x. not (p x)) xs ≡ remove xs i) → filter (λ x. not (p x)) (x ∷ xs) ≡ remove (x ∷ xs) i
    go true b zero e l ih = rw b (filter-none p xs (o.0 b))
    go true b (suc i) e l ih = let e' = rw b at e in absurd (omega arith)
    go false b zero e l ih = let e' = rw b at e in absurd (omega arith)
    go false b (suc i) e l ih = let e' = rw b at e in rw b (ap (λ (ys : List X). x ∷ ys) (ih i o.1 (omega arith) (omega arith)))

map-at : {X : Type 0} (p : X → Bool) (g : X → X) (xs : List X) (i : ℕ) (y : X) → IsOnce p xs → i ≡ position_or_len p xs → i < length xs → y ≡ get_or xs i y → map (λ x. cond (p x) (g x) x) xs ≡ set xs i (g y)
map-at p g [] i y o e l h = absurd (omega arith)
map-at {X} p g (x ∷ xs) i y o e l h = go (p x) refl i e l h (map-at p g xs)
  where
    go : (b : Bool) → p x ≡ b → (i : ℕ) → i ≡ position_or_len p (x ∷ xs) → i < length (x ∷ xs) → y ≡ get_or (x ∷ xs) i y
        → ((i : ℕ) (y : X) → IsOnce p xs → i ≡ position_or_len p xs → i < length xs → y ≡ get_or xs i y → map (λ x. cond (p x) (g x) x) xs ≡ set xs i (g y)) → map (λ x. cond (p x) (g x) x) (x ∷ xs) ≡ set (x ∷ xs) i (g y)
    go true b zero e l h ih = rw (b, h) (ap (λ (ys : List X). g x ∷ ys) (map-none p g xs (o.0 b)))
    go true b (suc i) e l h ih = let e' = rw b at e in absurd (omega arith)
    go false b zero e l h ih = let e' = rw b at e in absurd (omega arith)
    go false b (suc i) e l h ih = let e' = rw b at e in rw b (ap (λ (ys : List X). x ∷ ys) (ih i y o.1 (omega arith) (omega arith) h))

pub filter-place : {X : Type 0} (p : X → Bool) (xs : List X) (i : ℕ) → IsOnce p xs → position p xs ≡ Some i → filter (λ x. not (p x)) xs ≡ remove xs i
filter-place p xs i o e = let s = some-any p xs i e in filter-at p xs i o s.1 s.2

pub map-place : {X : Type 0} (p : X → Bool) (g : X → X) (xs : List X) (i : ℕ) (y : X) → IsOnce p xs → position p xs ≡ Some i → y ≡ get_or xs i y → map (λ x. cond (p x) (g x) x) xs ≡ set xs i (g y)
map-place p g xs i y o e h = let s = some-any p xs i e in map-at p g xs i y o s.1 s.2 h

pub found-place : {X : Type 0} (p : X → Bool) (xs : List X) (i : ℕ) (y : X) → position p xs ≡ Some i → y ≡ get_or xs i y → find p xs ≡ Some y
found-place p xs i y e h = find-place p xs i e ∙ slice_get_read xs (length xs) i y refl (some-any p xs i e).2 h

-- a call told the place in a list that is this one
pub place-is : {X : Type 0} (p : X → Bool) (seen xs : List X) (result answer : Option ℕ) → seen ≡ xs → result ≡ position p seen → result ≡ answer → position p xs ≡ answer
place-is p seen xs result answer s r a = ap (position p) (sym s) ∙ (sym r ∙ a)

-- what stands at the place passes
pub passes-place : {X : Type 0} (p : X → Bool) (xs : List X) (i : ℕ) (x : X) → position p xs ≡ Some i → x ≡ get_or xs i x → p x ≡ true
passes-place p xs i x e h = ap p h ∙ (position-Some p xs i x e).1
