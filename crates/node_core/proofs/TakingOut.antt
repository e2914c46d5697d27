-- What is taken out of what is queued on a connection is the first of the journal's lines that wasn't.
use Rattle.std.proofs.Common.{◌≡◌, ◌≤◌, ◌+◌, ℕ, zero, suc, ◌==◌, Bool, true, false, List, [], ◌∷◌, map, drop, length, Option, Some, None, refl, sym, ap, subst, ◌∙◌, arith}
use Rattle.std.specs.Prelude.{slice_get, MatchOption}
use Rattle.std.proofs.lemmas.Bool.Decides.{nat_tests}
use Rattle.cable_model.specs.Steps.{Step}
use Rattle.cable_model.specs.Transcript.{queued}
use Rattle.conn_seat.specs.declared.outs.Out.{Out}
use Rattle.node_seats.specs.Outboxes.{OutboxesState, TakesOut, queue_at, taken_at}
use Rattle.node_core.specs.Nodes.{IsQueued, AreQueued, line_on}

-- what stands behind the first `t` of a list
pub record Next {A : Type 0} (t : ℕ) (xs : List A) (y : A) (ys : List A) : Type 0 where
  pub rest : ys ≡ drop (suc t) xs
  pub first : slice_get xs t ≡ Some y
  pub within : t + 1 ≤ length xs

next : {A : Type 0} (t : ℕ) (xs : List A) (y : A) (ys : List A) → y ∷ ys ≡ drop t xs → Next t xs y ys
next zero [] y ys e = absurd cc
next (suc t) [] y ys e = absurd cc
next zero (x ∷ xs) y ys e = record { rest = cc; first = cc; within = omega arith }
next (suc t) (x ∷ xs) y ys e =
    let n = next t xs y ys e in
    let w = n.within in
    record { rest = n.rest; first = n.first; within = omega (arith, w) }

-- nothing stands behind the first `t`
pub none-behind : {A : Type 0} (t : ℕ) (xs : List A) → [] ≡ drop t xs → length xs ≤ t
none-behind zero [] e = omega arith
none-behind (suc t) [] e = omega arith
none-behind zero (x ∷ xs) e = absurd cc
none-behind (suc t) (x ∷ xs) e = let n = none-behind t xs e in omega (arith, n)

module _ (c : ℕ) (past : List Step) (v new : OutboxesState) (h : AreQueued past v) where
  taken-first : (x : Out) → queue_at c v ≡ x ∷ queue_at c new → Next (taken_at c v) (queued c past) (line_on c x) (map (line_on c) (queue_at c new))
  taken-first x e = next (taken_at c v) (queued c past) (line_on c x) (map (line_on c) (queue_at c new)) (sym (ap (map (line_on c)) e) ∙ (h c).left)

  pub takes-out : (o : Option Out) → TakesOut c o v new → AreQueued past new
  takes-out None t = subst (AreQueued past) (sym (t.none refl).1) h
  takes-out (Some x) t = λ d. by-test d (d == c) refl
    where
      by-test : (d : ℕ) (b : Bool) → (d == c) ≡ b → IsQueued d past new
      by-test d true e =
          let same : c ≡ d = grind (arith, nat_tests) in
          let f = t.first x refl in
          let n = taken-first x f.0 in
          subst (λ (d : ℕ). IsQueued d past new) same
          (record {
            within = rw f.1 n.within;
            left = n.rest ∙ ap (λ (k : ℕ). drop k (queued c past)) (let m : suc (taken_at c v) ≡ taken_at c new = omega (arith, f.1) in m);
          })
      by-test d false e =
          record {
            within = subst (λ (n : ℕ). n ≤ length (queued d past)) (sym (t.taken d e)) (h d).within;
            left = ap (map (line_on d)) (t.queue d e) ∙ (h d).left ∙ ap (λ (n : ℕ). drop n (queued d past)) (sym (t.taken d e));
          }

  pub first-out : (o : Option Out) → TakesOut c o v new
      → MatchOption o (length (queued c past) ≤ taken_at c v) (λ out. slice_get (queued c past) (taken_at c v) ≡ Some (line_on c out))
  first-out None t = none-behind (taken_at c v) (queued c past) (sym (ap (map (line_on c)) (t.none refl).0) ∙ (h c).left)
  first-out (Some x) t = (taken-first x (t.first x refl).0).first
