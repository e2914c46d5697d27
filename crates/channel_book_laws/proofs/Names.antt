-- Names that stand among others, and the first name that stood before.
use Rattle.std.proofs.Common.{◌≡◌, ℕ, Bool, true, false, cond, ◌||◌, List, [], ◌∷◌, ◌++◌, Option, Some, None, refl, sym, ap, subst, append_assoc, append-nil, ◌⊎◌, inl, inr}
use Rattle.std.specs.Prelude.{Decides, bytes_eq}
use Rattle.std.specs.List.{list_any}
use Rattle.std.proofs.lemmas.Bool.{or_left, or_right}
use Rattle.std.proofs.lemmas.Slice.Eq.{bytes_eq-Decides}
use Rattle.channel_book.specs.Names.{is_named, first_repeat}
use Rattle.channel_book_laws.specs.Lists.{IsAmong}

abbrev pub itself : List ℕ → List ℕ
itself name = name

among_front : {X : Type 0} (x y : X) (xs : List X) → IsAmong xs y → IsAmong (x ∷ xs) y
among_front x y xs w = (x ∷ w.0, w.1, ap (λ zs. x ∷ zs) w.2)

no_split : {X : Type 0} (y : X) (before after : List X) → [] ≡ before ++ y ∷ after → ⊥
no_split y [] after e = absurd cc
no_split y (z ∷ before) after e = absurd cc

among_parts : {X : Type 0} (x y : X) (xs before after : List X) → x ∷ xs ≡ before ++ y ∷ after → (x ≡ y) ⊎ IsAmong xs y
among_parts x y xs [] after e = inl cc
among_parts x y xs (z ∷ before) after e = let rest : xs ≡ before ++ y ∷ after = cc in inr (before, after, rest)

-- the test whether a name stands among others
pub Decides-among : (names : List (List ℕ)) (name : List ℕ) → Decides (list_any (is_named itself name) names) (IsAmong names name)
Decides-among [] name = (λ t. absurd cc, λ w. absurd (no_split name w.0 w.1 w.2))
Decides-among (n ∷ names) name = let again = Decides-among names name in (to again.0 (bytes_eq n name) refl, from again.1)
  where
    to : (list_any (is_named itself name) names ≡ true → IsAmong names name) → (b : Bool) → bytes_eq n name ≡ b → (b || list_any (is_named itself name) names) ≡ true → IsAmong (n ∷ names) name
    to again true e t = ([], names, ap (λ (x : List ℕ). x ∷ names) ((bytes_eq-Decides n name).0 e))
    to again false e t = among_front n name names (again t)

    from : (IsAmong names name → list_any (is_named itself name) names ≡ true) → IsAmong (n ∷ names) name → (bytes_eq n name || list_any (is_named itself name) names) ≡ true
    from again w = elim (among_parts n name names w.0 w.1 w.2) [
      | inl same ↦ or_left (bytes_eq n name) (list_any (is_named itself name) names) ((bytes_eq-Decides n name).1 same)
      | inr more ↦ or_right (bytes_eq n name) (list_any (is_named itself name) names) (again more)
    ]

-- ---- names that are new

-- none of these names stands before it, among the first or these
abbrev pub AreNew : List (List ℕ) → List (List ℕ) → Type 0
AreNew first names = (before after : List (List ℕ)) (name : List ℕ) → names ≡ before ++ name ∷ after → ¬ IsAmong (first ++ before) name

pub new_none : (first : List (List ℕ)) → AreNew first []
new_none first before after name e = absurd (no_split name before after e)

pub new_front : (first names : List (List ℕ)) (n : List ℕ) → ¬ IsAmong first n → AreNew (first ++ n ∷ []) names → AreNew first (n ∷ names)
new_front first names n fresh new [] after name e among =
    let same : n ≡ name = cc in
    fresh (subst (λ (x : List ℕ). IsAmong first x) (sym same) (subst (λ (xs : List (List ℕ)). IsAmong xs name) (append-nil first) among))
new_front first names n fresh new (z ∷ before) after name e among =
    let same : z ≡ n = cc in
    let rest : names ≡ before ++ name ∷ after = cc in
    new before after name rest (rw append_assoc (subst (λ (x : List ℕ). IsAmong (first ++ x ∷ before) name) same among))

pub new_first : (first names : List (List ℕ)) (n : List ℕ) → AreNew first (n ∷ names) → ¬ IsAmong first n
new_first first names n new among = new [] names n refl (subst (λ (xs : List (List ℕ)). IsAmong xs n) (sym (append-nil first)) among)

pub new_rest : (first names : List (List ℕ)) (n : List ℕ) → AreNew first (n ∷ names) → AreNew (first ++ n ∷ []) names
new_rest first names n new before after name e among = new (n ∷ before) after name (ap (λ (xs : List (List ℕ)). n ∷ xs) e) (rw append_assoc at among)

-- ---- the first name that stood before

-- name is the first of these that stands before it, among the first or these
pub record Repeats (first names : List (List ℕ)) (name : List ℕ) : Type 0 where
  pub before : List (List ℕ)
  pub after : List (List ℕ)
  pub split : names ≡ before ++ name ∷ after
  pub stood : IsAmong (first ++ before) name
  pub new : AreNew first before

-- what the search says
abbrev pub Told : List (List ℕ) → List (List ℕ) → Option (List ℕ) → Type 0
Told first names None = AreNew first names
Told first names (Some name) = Repeats first names name

pub not_stood : (b : Bool) {P : Type 0} → Decides b P → b ≡ false → ¬ P
not_stood true d e p = absurd cc
not_stood false d e p = absurd (let no = d.1 p in cc)

pub told : (first names : List (List ℕ)) → Told first names (first_repeat itself first names)
told first [] = new_none first
told first (n ∷ names) = by_test (list_any (is_named itself n) first) refl (first_repeat itself (first ++ n ∷ []) names) (told (first ++ n ∷ []) names)
  where
    by_test : (b : Bool) → list_any (is_named itself n) first ≡ b → (more : Option (List ℕ)) → Told (first ++ n ∷ []) names more → Told first (n ∷ names) (cond b (Some n) more)
    by_test true e more again = record {
      before = [];
      after = names;
      split = refl;
      stood = subst (λ (xs : List (List ℕ)). IsAmong xs n) (sym (append-nil first)) ((Decides-among first n).0 e);
      new = new_none first;
    }
    by_test false e None again = new_front first names n (not_stood (list_any (is_named itself n) first) (Decides-among first n) e) again
    by_test false e (Some name) again = record {
      before = n ∷ again.before;
      after = again.after;
      split = ap (λ (xs : List (List ℕ)). n ∷ xs) again.split;
      stood = rw append_assoc at again.stood;
      new = new_front first again.before n (not_stood (list_any (is_named itself n) first) (Decides-among first n) e) again.new;
    }
