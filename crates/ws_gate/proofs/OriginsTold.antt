-- A request is foreign exactly where it isn't welcome.
use Rattle.std.proofs.Common.{◌≡◌, inl, inr, ℕ, ◌==◌, Bool, true, false, not, ◌&&◌, List, [], ◌∷◌, length, get_or, bytes_eq, Contains, Option, Some, None, refl, sym, ap, ◌∙◌, arith}
use Rattle.std.specs.List.{list_any}
use Rattle.std.proofs.lemmas.Bool.Decides.{nat_tests}
use Rattle.std.proofs.lemmas.List.Folds.{list_any_at}
use Rattle.std.proofs.lemmas.Map.Views.{Contains-from_any}
use Rattle.std.proofs.lemmas.Slice.Eq.{bytes_eq-Decides}
use Rattle.ws_gate.specs.Admissions.{is_unknown, is_foreign}
use Rattle.ws_gate.specs.Rulings.{IsWelcome}

known_any : (origins : List (List ℕ)) (origin : List ℕ) → Contains origins origin → list_any (bytes_eq origin) origins ≡ true
known_any origins origin is = list_any_at (bytes_eq origin) origins is.0 origin is.1 ((bytes_eq-Decides origin (get_or origins is.0 origin)).1 (sym is.2))

any_known : (origins : List (List ℕ)) (origin : List ℕ) → list_any (bytes_eq origin) origins ≡ true → Contains origins origin
any_known origins origin e = Contains-from_any {eq = bytes_eq} (λ x y. (bytes_eq-Decides x y).0) origin origins e

not_true : (b : Bool) → not b ≡ false → b ≡ true
not_true true e = refl
not_true false e = absurd cc

known : (origins : List (List ℕ)) (origin : Option (List ℕ)) → is_unknown origins origin ≡ false → IsWelcome origins origin
known origins None e = absurd cc
known origins (Some origin) e = inr (origin, refl, any_known origins origin (not_true (list_any (bytes_eq origin) origins) e))

unknown_not : (origins : List (List ℕ)) (origin : Option (List ℕ)) (name : List ℕ) → origin ≡ Some name → Contains origins name → is_unknown origins origin ≡ false
unknown_not origins origin name same is = ap (is_unknown origins) same ∙ ap not (known_any origins name is)

some : (first : List ℕ) (origins : List (List ℕ)) → (length (first ∷ origins) == 0) ≡ false
some first origins = grind (arith, nat_tests)

among_some : (first : List ℕ) (origins : List (List ℕ)) (origin : Option (List ℕ)) → is_foreign (first ∷ origins) origin ≡ is_unknown (first ∷ origins) origin
unfolding is_foreign
among_some first origins origin = ap (λ (b : Bool). not b && is_unknown (first ∷ origins) origin) (some first origins)

pub own_welcome : (origins : List (List ℕ)) (origin : Option (List ℕ)) → is_foreign origins origin ≡ false → IsWelcome origins origin
unfolding is_foreign
own_welcome [] origin e = inl refl
own_welcome (first ∷ origins) origin e = known (first ∷ origins) origin (sym (among_some first origins origin) ∙ e)

pub welcome_own : (origins : List (List ℕ)) (origin : Option (List ℕ)) → IsWelcome origins origin → is_foreign origins origin ≡ false
unfolding is_foreign
welcome_own [] origin is = refl
welcome_own (first ∷ origins) origin (inl none) = absurd cc
welcome_own (first ∷ origins) origin (inr (name, same, is)) = among_some first origins origin ∙ unknown_not (first ∷ origins) origin name same is
