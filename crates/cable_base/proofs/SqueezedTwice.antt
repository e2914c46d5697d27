-- What is squeezed has nothing more to lose.
use Rattle.std.proofs.Common.{◌≡◌, ℕ, Bool, true, false, ◌==◌, List, [], ◌∷◌, refl, ap, subst, arith, cond}
use Rattle.std.proofs.lemmas.Bool.Decides.{nat_tests}
use Rattle.cable_base.specs.declared.squeezing.Quoting.{Quoting}
use Rattle.cable_base.specs.declared.squeezing.Quoting.TheVariants.{Outside, Inside, Escaped}
use Rattle.cable_base.specs.Squeeze.{squeezed_from, next_quoting, is_kept}

-- where a byte is dropped, the next stands where it stood
dropped_stays : (p : Quoting) (b : ℕ) → is_kept p b ≡ false → next_quoting p b ≡ p
dropped_stays Outside b e =
    let no_quote : (b == 34) ≡ false = grind (arith, nat_tests) in
    rw no_quote refl
dropped_stays Inside b e = absurd cc
dropped_stays Escaped b e = absurd cc

step : (p : Quoting) (b : ℕ) (bs : List ℕ) (kept : Bool) → is_kept p b ≡ kept → squeezed_from (next_quoting p b) (squeezed_from (next_quoting p b) bs) ≡ squeezed_from (next_quoting p b) bs
    → squeezed_from p (cond kept (b ∷ squeezed_from (next_quoting p b) bs) (squeezed_from (next_quoting p b) bs)) ≡ cond kept (b ∷ squeezed_from (next_quoting p b) bs) (squeezed_from (next_quoting p b) bs)
step p b bs true e again = rw e (ap (λ (t : List ℕ). b ∷ t) again)
step p b bs false e again = subst (λ (q : Quoting). squeezed_from q (squeezed_from (next_quoting p b) bs) ≡ squeezed_from (next_quoting p b) bs) (dropped_stays p b e) again

pub squeezed_from-twice : (p : Quoting) (bs : List ℕ) → squeezed_from p (squeezed_from p bs) ≡ squeezed_from p bs
squeezed_from-twice p [] = refl
squeezed_from-twice p (b ∷ bs) = step p b bs (is_kept p b) refl (squeezed_from-twice (next_quoting p b) bs)
