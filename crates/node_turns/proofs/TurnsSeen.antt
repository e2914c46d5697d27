-- Each turn found no more wants of a connection than the last one, and a want that none of them found has no mark.
use Rattle.std.proofs.Common.{ℕ, suc, ◌≡◌, ◌≤◌, Bool, true, false, List, [], ◌∷◌, ◌++◌, length, Some, None, Option, refl, sym, subst, arith}
use Rattle.std.specs.Prelude.{leb}
use Rattle.std.specs.List.{AllByRecursion}
use Rattle.std.proofs.lemmas.Bool.Decides.{nat_tests}
use Rattle.std.proofs.lemmas.List.{append-nil}
use Rattle.cable_base.proofs.Each.{All-append, All-implied}
use Rattle.cable_model.specs.Legal.{Legal}
use Rattle.cable_model.specs.Steps.{Step}
use Rattle.cable_model.specs.Wants.{Mark, mark_of, marks, turn_mark, user_of, made, at_ask}
use Rattle.cable_model.proofs.Holding.{marks-at_ask}
use Rattle.node_turns.specs.Wished.{taken_count, wants_of}
use Rattle.node_turns.proofs.WantsCounted.{legal-at_ask, wants-length, count-last, count-within}

pub above-none : (k w : ℕ) (ms : List Mark) → AllByRecursion (λ (t : Mark). suc t.seen ≤ k) ms → k ≤ w → mark_of w ms ≡ None
above-none k w [] h l = refl
above-none k w (t ∷ ts) h l = let g = h.0 in let f : leb w t.seen ≡ false = grind (arith, nat_tests) in rw f (above-none k w ts h.1 l)

-- each turn found no more than the last one
pub seens : (c : ℕ) (past : List Step) → Legal past → AllByRecursion (λ (t : Mark). suc t.seen ≤ taken_count (marks c past)) (marks c past)
seens c [] l = tt
seens c (Step.Deliver turn note ∷ past) l = go (user_of c (at_ask past)) refl note.failed refl (seens c past l.1)
  where
    go : (u : Option (List ℕ)) → user_of c (at_ask past) ≡ u → (f : Bool) → note.failed ≡ f
        → AllByRecursion (λ (t : Mark). suc t.seen ≤ taken_count (marks c past)) (marks c past)
        → AllByRecursion (λ (t : Mark). suc t.seen ≤ taken_count (marks c past ++ turn_mark c note past)) (marks c past ++ turn_mark c note past)
    go None u f f' ih = rw (u, append-nil (marks c past)) ih
    go (Some x) u true f ih = rw (u, f, append-nil (marks c past)) ih
    go (Some x) u false f ih =
        let t : Mark = record { seen = made c (at_ask past); last = note.last.0 } in
        let mark : turn_mark c note past ≡ t ∷ [] = rw (u, f) refl in
        let count = count-last (marks c past) t in
        let found_is = wants-length c x (at_ask past) (legal-at_ask past l.1) u in
        let before : taken_count (marks c past) ≤ length (wants_of c (at_ask past)) =
        subst (λ ms. taken_count ms ≤ length (wants_of c (at_ask past))) (sym (marks-at_ask c past l.0.0))
        (count-within c (at_ask past) (legal-at_ask past l.1)) in
        let most : taken_count (marks c past) ≤ suc (made c (at_ask past)) = omega (arith, before, found_is) in
        rw (mark, count)
        (All-append (λ (m : Mark). suc m.seen ≤ suc (made c (at_ask past))) (marks c past) (t ∷ [])
        (All-implied (λ (m : Mark). suc m.seen ≤ taken_count (marks c past)) (λ (m : Mark). suc m.seen ≤ suc (made c (at_ask past))) (marks c past)
        (λ m g. omega (arith, g, most)) ih) (omega arith, tt))
seens c (_ ∷ past) l = seens c past l.1
