-- A list is cut at the first byte of a kind, both ways.
use Rattle.std.proofs.Common.{◌≡◌, ℕ, suc, ◌+◌, List, [], ◌∷◌, ◌++◌, length, get_or, take, drop, Bool, true, false, ◌||◌, not, cond, Option, Some, None, refl, ap, subst, arith}
use Rattle.std.specs.Prelude.{nat_lt, ◌==◌}
use Rattle.std.specs.List.{list_any, position_or_len, before_first, after_first}
use Rattle.std.proofs.lemmas.Bool.{lt-ltb, eqb-true, ltb-true}
use Rattle.std.proofs.lemmas.Bool.Decides.{nat_tests}
use Rattle.std.proofs.lemmas.List.{length-append, take_at}
use Rattle.std.proofs.lemmas.List.Sums.{split_at_first, passes_at_first}

-- what stands before the first c, and behind it
abbrev pub cut_at : ℕ → List ℕ → Option (List ℕ × List ℕ)
cut_at c xs = cond (nat_lt (position_or_len (λ b. b == c) xs) (length xs)) (Some (before_first (λ b. b == c) xs, after_first (λ b. b == c) xs)) None

-- xs is the front, c and the rest, and there is no c in the front
pub record Cut (c : ℕ) (xs front rest : List ℕ) : Type 0 where
  pub parts : xs ≡ front ++ c ∷ rest
  pub none : list_any (λ b. b == c) front ≡ false

pub either_false : (a b : Bool) → (a || b) ≡ false → (a ≡ false) × (b ≡ false)
either_false true b e = absurd cc
either_false false b e = (refl, e)

none_step : {X : Type 0} (p : X → Bool) (x : X) (xs : List X) (b : Bool) → p x ≡ b → list_any p (before_first p xs) ≡ false → list_any p (take (cond (not b) (1 + position_or_len p xs) 0) (x ∷ xs)) ≡ false
none_step p x xs true e ih = refl
none_step p x xs false e ih = let n : 1 + position_or_len p xs ≡ suc (position_or_len p xs) = omega arith in rw (n, e) ih

-- no element passes before the first one that does
pub none_before : {X : Type 0} (p : X → Bool) (xs : List X) → list_any p (before_first p xs) ≡ false
none_before p [] = refl
none_before p (x ∷ xs) = none_step p x xs (p x) refl (none_before p xs)

pub some_is : (x y : List ℕ × List ℕ) → Some x ≡ Some y → x ≡ y
some_is x y e = cc

-- a cut that was found
pub cut_is : (c : ℕ) (xs front rest : List ℕ) → cut_at c xs ≡ Some (front, rest) → Cut c xs front rest
cut_is c xs front rest e = by_test (nat_lt (position_or_len (λ b. b == c) xs) (length xs)) refl e
  where
    by_test : (t : Bool) → nat_lt (position_or_len (λ b. b == c) xs) (length xs) ≡ t → cond {A = Option (List ℕ × List ℕ)} t (Some (before_first (λ b. b == c) xs, after_first (λ b. b == c) xs)) None ≡ Some (front, rest) → Cut c xs front rest
    by_test false t e = absurd cc
    by_test true t e =
        let within = ltb-true _ _ t in
        let whole = split_at_first (λ b. b == c) xs 0 within in
        let byte : get_or xs (position_or_len (λ b. b == c) xs) 0 ≡ c = eqb-true _ _ (passes_at_first (λ b. b == c) xs 0 within) in
        let pair = some_is (before_first (λ b. b == c) xs, after_first (λ b. b == c) xs) (front, rest) e in
        let fronts : before_first (λ b. b == c) xs ≡ front = ap (λ (p : List ℕ × List ℕ). p.0) pair in
        let rests : after_first (λ b. b == c) xs ≡ rest = ap (λ (p : List ℕ × List ℕ). p.1) pair in
        record {
          parts = subst (λ (f : List ℕ). xs ≡ f ++ c ∷ rest) fronts (subst (λ (r : List ℕ). xs ≡ before_first (λ b. b == c) xs ++ c ∷ r) rests (subst (λ (y : ℕ). xs ≡ before_first (λ b. b == c) xs ++ y ∷ after_first (λ b. b == c) xs) byte whole));
          none = subst (λ (f : List ℕ). list_any (λ b. b == c) f ≡ false) fronts (none_before (λ b. b == c) xs);
        }

pub eq_self : (c : ℕ) → (c == c) ≡ true
eq_self c = grind (arith, nat_tests)

at_first : (c : ℕ) (front rest : List ℕ) → list_any (λ b. b == c) front ≡ false → position_or_len (λ b. b == c) (front ++ c ∷ rest) ≡ length front
at_first c [] rest e = rw (eq_self c) refl
at_first c (b ∷ front) rest e =
    let h = either_false (b == c) (list_any (λ b. b == c) front) e in
    rw (h.0, at_first c front rest h.1) (omega arith)

behind : (c : ℕ) (front rest : List ℕ) → drop (length front + 1) (front ++ c ∷ rest) ≡ rest
behind c [] rest = refl
behind c (b ∷ front) rest = let e : length (b ∷ front) + 1 ≡ suc (length front + 1) = omega arith in rw e (behind c front rest)

-- a cut is found
pub cut_of : (c : ℕ) (front rest : List ℕ) → list_any (λ b. b == c) front ≡ false → cut_at c (front ++ c ∷ rest) ≡ Some (front, rest)
cut_of c front rest none =
    let n = at_first c front rest none in
    let within : nat_lt (length front) (length (front ++ c ∷ rest)) ≡ true = lt-ltb _ _ (omega (arith, length-append front (c ∷ rest))) in
    rw (n, within, take_at front (c ∷ rest) (length front) refl, behind c front rest) refl
