-- A list that is seen through a function: what is found, removed and written at a place.
use Rattle.std.proofs.Common.{ℕ, zero, suc, ◌+◌, ◌≡◌, ◌<◌, ◌≤◌, Bool, true, false, cond, not, ◌&&◌, ◌||◌, List, [], ◌∷◌, ◌++◌, length, map, get_or, set, take, drop, Some, None, Option, refl, ap, sym, subst, ◌∙◌, arith, ltb, position}
use Rattle.std.specs.List.{filter, list_any, find, position_or_len, remove}
use Rattle.std.specs.Prelude.{option_map}
use Rattle.std.proofs.lemmas.List.{map-append, take-map, drop-map, map-set, get_or-map, length-map}
use Rattle.stream_set.proofs.Once.{IsOnce, none-any, some-any, filter-none, filter-place, map-none, map-place}

pub any-map : {X Y : Type 0} (f : X → Y) (p : Y → Bool) (xs : List X) → list_any p (map f xs) ≡ list_any (λ x. p (f x)) xs
any-map f p [] = refl
any-map f p (x ∷ xs) = ap (λ b. p (f x) || b) (any-map f p xs)

pub find-map : {X Y : Type 0} (f : X → Y) (p : Y → Bool) (xs : List X) → find p (map f xs) ≡ option_map f (find (λ x. p (f x)) xs)
find-map f p [] = refl
find-map {X} {Y} f p (x ∷ xs) = go (p (f x)) refl (find-map f p xs)
  where
    go : (b : Bool) → p (f x) ≡ b → find p (map f xs) ≡ option_map f (find (λ x. p (f x)) xs) → find p (map f (x ∷ xs)) ≡ option_map f (find (λ x. p (f x)) (x ∷ xs))
    go true b ih = rw b refl
    go false b ih = rw b ih

pub map-twice : {X Y Z : Type 0} (g : Y → Z) (f : X → Y) (xs : List X) → map g (map f xs) ≡ map (λ x. g (f x)) xs
map-twice g f [] = refl
map-twice g f (x ∷ xs) = ap (λ ys. g (f x) ∷ ys) (map-twice g f xs)

place-map : {X Y : Type 0} (f : X → Y) (p : Y → Bool) (xs : List X) → position_or_len p (map f xs) ≡ position_or_len (λ x. p (f x)) xs
place-map f p [] = refl
place-map f p (x ∷ xs) = ap (λ n. cond (not (p (f x))) (1 + n) 0) (place-map f p xs)

pub position-map : {X Y : Type 0} (f : X → Y) (p : Y → Bool) (xs : List X) → position p (map f xs) ≡ position (λ x. p (f x)) xs
position-map f p xs = rw (place-map f p xs, length-map) refl

pub remove-map : {X Y : Type 0} (f : X → Y) (xs : List X) (i : ℕ) → map f (remove xs i) ≡ remove (map f xs) i
remove-map f xs i = rw (map-append f (take i xs) (drop (suc i) xs), take-map f i xs, drop-map f (suc i) xs) refl

-- an element that passes a test nowhere else is removed
pub removed-place : {X Y : Type 0} (f : X → Y) (p : Y → Bool) (xs : List X) (i : ℕ) → IsOnce p (map f xs) → position (λ x. p (f x)) xs ≡ Some i → map f (remove xs i) ≡ filter (λ y. not (p y)) (map f xs)
removed-place f p xs i o e = remove-map f xs i ∙ sym (filter-place p (map f xs) i o (position-map f p xs ∙ e))

pub removed-nowhere : {X Y : Type 0} (f : X → Y) (p : Y → Bool) (xs : List X) → position (λ x. p (f x)) xs ≡ None → map f xs ≡ filter (λ y. not (p y)) (map f xs)
removed-nowhere f p xs e = sym (filter-none p (map f xs) (none-any p (map f xs) (position-map f p xs ∙ e)))

-- it is written
pub written-place : {X Y : Type 0} (f : X → Y) (p : Y → Bool) (g : Y → Y) (xs : List X) (i : ℕ) (x new : X) → IsOnce p (map f xs) → position (λ x. p (f x)) xs ≡ Some i → x ≡ get_or xs i x → f new ≡ g (f x)
    → map f (set xs i new) ≡ map (λ y. cond (p y) (g y) y) (map f xs)
written-place f p g xs i x new o e h n =
    let within = (some-any (λ x. p (f x)) xs i e).2 in
    let there : f x ≡ get_or (map f xs) i (f x) = ap f h ∙ sym (get_or-map f xs i x (f x) within) in
    map-set f xs i new ∙ (ap (set (map f xs) i) n ∙ sym (map-place p g (map f xs) i (f x) o (position-map f p xs ∙ e) there))

pub written-nowhere : {X Y : Type 0} (f : X → Y) (p : Y → Bool) (g : Y → Y) (xs : List X) → position (λ x. p (f x)) xs ≡ None → map f xs ≡ map (λ y. cond (p y) (g y) y) (map f xs)
written-nowhere f p g xs e = sym (map-none p g (map f xs) (none-any p (map f xs) (position-map f p xs ∙ e)))

-- it is the only one of which a second test tells
pub both-nowhere : {Y : Type 0} (p q : Y → Bool) (ys : List Y) → list_any p ys ≡ false → list_any (λ y. p y && q y) ys ≡ false
both-nowhere p q [] e = refl
both-nowhere p q (y ∷ ys) e = go (p y) refl (both-nowhere p q ys)
  where
    go : (b : Bool) → p y ≡ b → (list_any p ys ≡ false → list_any (λ y. p y && q y) ys ≡ false) → list_any (λ y. p y && q y) (y ∷ ys) ≡ false
    go true b ih = let e' = rw b at e in absurd (cc (e'))
    go false b ih = let e' = rw b at e in rw b (ih e')

or-nil : (b : Bool) → (b || false) ≡ b
or-nil true = refl
or-nil false = refl

both-at : {Y : Type 0} (p q : Y → Bool) (ys : List Y) (i : ℕ) (y : Y) → IsOnce p ys → i ≡ position_or_len p ys → i < length ys → y ≡ get_or ys i y → list_any (λ y. p y && q y) ys ≡ q y
both-at p q [] i y o e l h = absurd (omega arith)
both-at {Y} p q (x ∷ ys) i y o e l h = go (p x) refl i e l h (both-at p q ys)
  where
    go : (b : Bool) → p x ≡ b → (i : ℕ) → i ≡ position_or_len p (x ∷ ys) → i < length (x ∷ ys) → y ≡ get_or (x ∷ ys) i y
        → ((i : ℕ) (y : Y) → IsOnce p ys → i ≡ position_or_len p ys → i < length ys → y ≡ get_or ys i y → list_any (λ y. p y && q y) ys ≡ q y) → list_any (λ y. p y && q y) (x ∷ ys) ≡ q y
    go true b zero e l h ih = rw (b, both-nowhere p q ys (o.0 b)) (or-nil (q x) ∙ ap q (sym h))
    go true b (suc i) e l h ih = let e' = rw b at e in absurd (omega arith)
    go false b zero e l h ih = let e' = rw b at e in absurd (omega arith)
    go false b (suc i) e l h ih = let e' = rw b at e in rw b (ih i y o.1 (omega arith) (omega arith) h)

pub both-place : {X Y : Type 0} (f : X → Y) (p q : Y → Bool) (xs : List X) (i : ℕ) (x : X) → IsOnce p (map f xs) → position (λ x. p (f x)) xs ≡ Some i → x ≡ get_or xs i x → list_any (λ y. p y && q y) (map f xs) ≡ q (f x)
both-place f p q xs i x o e h =
    let within = (some-any (λ x. p (f x)) xs i e).2 in
    let there : f x ≡ get_or (map f xs) i (f x) = ap f h ∙ sym (get_or-map f xs i x (f x) within) in
    let at = some-any p (map f xs) i (position-map f p xs ∙ e) in
    both-at p q (map f xs) i (f x) o at.1 at.2 there
