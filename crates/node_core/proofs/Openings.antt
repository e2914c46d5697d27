-- What a number that can be opened is in what is kept.
use Rattle.std.proofs.Common.{◌≡◌, ◌<◌, ℕ, Bool, true, false, not, cond, List, Option, Some, None, Result, Ok, Err, refl, sym, ap, ◌∙◌, arith}
use Rattle.std.specs.Prelude.{ltb, is_some, IfErr}
use Rattle.std.proofs.lemmas.Bool.Decides.{nat_tests}
use Rattle.cable_model.specs.Limits.{most_connections}
use Rattle.cable_model.specs.Possible.{is_opened, live_count}
use Rattle.cable_model.specs.Steps.{Step}
use Rattle.node_seats.specs.Numbers.{Numbers, opened_at, live_among}
use Rattle.node_seats.specs.AreSeats.{AreSeats}
use Rattle.node_seats.proofs.Onward.{unused-is, used-is}
use Rattle.node_seats.proofs.Counting.{live-count}
use Rattle.node_core.specs.declared.opening.OpenFault.{OpenFault}
use Rattle.node_core.specs.declared.opening.OpenFault.TheVariants as fault
use Rattle.node_core.specs.Opening.{RefusesOpen, open_fault}

-- no cause stands against it
pub record CanOpen (c : ℕ) (past : List Step) : Type 0 where
  pub unused : is_opened c past ≡ false
  pub room : ltb (live_count past) most_connections ≡ true

pub can-open : (c : ℕ) (past : List Step) → open_fault c past ≡ None → CanOpen c past
can-open c past none = by-tests (is_opened c past) refl (ltb (live_count past) most_connections) refl none
  where
    by-tests : (o : Bool) → is_opened c past ≡ o → (l : Bool) → ltb (live_count past) most_connections ≡ l
        → cond o (Some fault.Used) (cond l None (Some fault.Full)) ≡ None → CanOpen c past
    by-tests false unused true room e = record { unused = unused; room = room }
    by-tests false unused false room e = absurd cc
    by-tests true unused l room e = absurd cc

pub unused-at : (c : ℕ) (past : List Step) (v : Numbers) → AreSeats past v → CanOpen c past → opened_at c v ≡ None
unused-at c past v a can = unused-is past v c a can.unused

pub room-for : (c : ℕ) (past : List Step) (v : Numbers) → AreSeats past v → CanOpen c past → live_among v < most_connections
room-for c past v a can = let l = live-count past v a in let r = can.room in grind (arith, nat_tests, l, r)

-- ---- what is answered

pub is-used : (c : ℕ) (past : List Step) → is_opened c past ≡ true → open_fault c past ≡ Some fault.Used
is-used c past e = rw e refl

pub is-full : (c : ℕ) (past : List Step) → is_opened c past ≡ false → ltb (live_count past) most_connections ≡ false → open_fault c past ≡ Some fault.Full
is-full c past e f = rw (e, f) refl

pub refuses-open : (A : Type 0) (o : Option OpenFault) (f : OpenFault) → o ≡ Some f → RefusesOpen {A = A} o (Err f)
refuses-open A o f e = rw e refl

pub used-at : (c : ℕ) (past : List Step) (v : Numbers) → AreSeats past v → (b answer : Bool) → answer ≡ is_some (opened_at c v) → answer ≡ b → is_opened c past ≡ b
used-at c past v a b answer is e = sym (used-is past v c a) ∙ (sym is ∙ e)

pub full-at : (past : List Step) (v : Numbers) → AreSeats past v → (b answer : Bool) → answer ≡ not (ltb (live_among v) most_connections) → answer ≡ b → ltb (live_count past) most_connections ≡ not b
full-at past v a b answer is e =
    ap (λ (n : ℕ). ltb n most_connections) (sym (live-count past v a)) ∙ (sym (twice (ltb (live_among v) most_connections)) ∙ ap not (sym is ∙ e))
  where
    twice : (x : Bool) → not (not x) ≡ x
    twice true = refl
    twice false = refl

pub may-open : (c : ℕ) (past : List Step) → is_opened c past ≡ false → ltb (live_count past) most_connections ≡ true → open_fault c past ≡ None
may-open c past e f = rw (e, f) refl

pub wants-memory : (A : Type 0) (o : Option OpenFault) (r : Result A OpenFault) → o ≡ None → IfErr r (λ e. e ≡ fault.OutOfMemory) → RefusesOpen {A = A} o r
wants-memory A o r e h = rw e h

pub nothing-wanting : (A : Type 0) (o : Option OpenFault) (x : A) → o ≡ None → RefusesOpen {A = A} o (Ok x)
nothing-wanting A o x e = rw e tt
