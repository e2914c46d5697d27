-- The classes of bytes outside strings, and what squeezing does at each.
use Rattle.std.proofs.Common.{◌≡◌, ℕ, Bool, true, false, ◌==◌, cond, List, ◌∷◌, refl, sym, subst, arith}
use Rattle.std.proofs.lemmas.Bool.{eqb-true}
use Rattle.std.proofs.lemmas.Bool.Decides.{nat_tests}
use Rattle.json.specs.Word.{is_operator, is_space}
use Rattle.json.specs.Lex.{Class, quote, backslash, operator, space, other, class}
use Rattle.cable_base.specs.declared.squeezing.Quoting.TheVariants.{Outside, Inside}
use Rattle.cable_base.specs.Squeeze.{squeezed_from}

-- ---- what a byte's class says of it

-- the class of a byte that is a quote, a backslash, an operator, a space or none of them
abbrev pub class_by : Bool → Bool → Bool → Bool → Class
class_by q b o s = cond q quote (cond b backslash (cond o operator (cond s space other)))

pub quote_is : (q b o s : Bool) → class_by q b o s ≡ quote → q ≡ true
quote_is true b o s e = refl
quote_is false true o s e = absurd cc
quote_is false false true s e = absurd cc
quote_is false false false true e = absurd cc
quote_is false false false false e = absurd cc

pub operator_is : (q b o s : Bool) → class_by q b o s ≡ operator → (o ≡ true) × (q ≡ false)
operator_is true b o s e = absurd cc
operator_is false true o s e = absurd cc
operator_is false false true s e = (refl, refl)
operator_is false false false true e = absurd cc
operator_is false false false false e = absurd cc

pub space_is : (q b o s : Bool) → class_by q b o s ≡ space → (s ≡ true) × (q ≡ false)
space_is true b o s e = absurd cc
space_is false true o s e = absurd cc
space_is false false true s e = absurd cc
space_is false false false true e = (refl, refl)
space_is false false false false e = absurd cc

pub other_is : (q b o s : Bool) → class_by q b o s ≡ other → (q ≡ false) × (s ≡ false)
other_is true b o s e = absurd cc
other_is false true o s e = absurd cc
other_is false false true s e = absurd cc
other_is false false false true e = absurd cc
other_is false false false false e = (refl, refl)

-- ---- what is kept

operator_no_space : (x : ℕ) → is_operator x ≡ true → is_space x ≡ false
operator_no_space x e = grind (arith, nat_tests)

kept_out : (x : ℕ) (xs : List ℕ) → (x == 34) ≡ false → is_space x ≡ false → squeezed_from Outside (x ∷ xs) ≡ x ∷ squeezed_from Outside xs
kept_out x xs q s = rw (s, q) refl

pub squeezed_from-quote : (x : ℕ) (xs : List ℕ) → class x ≡ quote → squeezed_from Outside (x ∷ xs) ≡ x ∷ squeezed_from Inside xs
squeezed_from-quote x xs e = subst (λ (y : ℕ). squeezed_from Outside (y ∷ xs) ≡ y ∷ squeezed_from Inside xs) (sym (eqb-true x 34 (quote_is (x == 34) (x == 92) (is_operator x) (is_space x) e))) refl

pub squeezed_from-operator : (x : ℕ) (xs : List ℕ) → class x ≡ operator → squeezed_from Outside (x ∷ xs) ≡ x ∷ squeezed_from Outside xs
squeezed_from-operator x xs e = let f = operator_is (x == 34) (x == 92) (is_operator x) (is_space x) e in kept_out x xs f.1 (operator_no_space x f.0)

pub squeezed_from-space : (x : ℕ) (xs : List ℕ) → class x ≡ space → squeezed_from Outside (x ∷ xs) ≡ squeezed_from Outside xs
squeezed_from-space x xs e = let f = space_is (x == 34) (x == 92) (is_operator x) (is_space x) e in rw (f.0, f.1) refl

pub squeezed_from-other : (x : ℕ) (xs : List ℕ) → class x ≡ other → squeezed_from Outside (x ∷ xs) ≡ x ∷ squeezed_from Outside xs
squeezed_from-other x xs e = let f = other_is (x == 34) (x == 92) (is_operator x) (is_space x) e in kept_out x xs f.0 f.1
