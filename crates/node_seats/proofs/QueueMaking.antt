-- Room that is made on one connection after the other.
use Rattle.std.proofs.Common.{◌≡◌, ◌≤◌, ◌<◌, ◌+◌, ◌==◌, ◌||◌, ℕ, Bool, true, false, List, take, get_or, length, refl, sym, subst, ◌∙◌, arith}
use Rattle.std.specs.List.{list_any}
use Rattle.std.proofs.lemmas.Bool.Decides.{nat_tests}
use Rattle.std.proofs.lemmas.List.Folds.{list_any_more}
use Rattle.cable_base.specs.declared.numbers.ConnNo.{ConnNo}
use Rattle.node_seats.specs.Outboxes.{OutboxesState, WidensAll, room_at}

pub roomier-still : (u v w : OutboxesState) → WidensAll u v → WidensAll v w → WidensAll u w
roomier-still u v w r s = record {
  queue = λ c. s.queue c ∙ r.queue c;
  taken = λ c. s.taken c ∙ r.taken c;
  room = λ c. omega (arith, r.room c, s.room c);
  forgotten = λ c. s.forgotten c ∙ r.forgotten c;
}

-- there is room on those that were passed, and on one more
pub room-more : (v w : OutboxesState) (conns : List ConnNo) (i : ℕ) (d : ConnNo) → ((c : ℕ) → list_any (λ x. x.0 == c) (take i conns) ≡ true → 1 ≤ room_at c v) → WidensAll v w → i < length conns
    → 1 ≤ room_at (get_or conns i d).0 w → (c : ℕ) → list_any (λ x. x.0 == c) (take (i + 1) conns) ≡ true → 1 ≤ room_at c w
room-more v w conns i d before r below here c any = by-test (list_any (λ x. x.0 == c) (take i conns)) refl ((get_or conns i d).0 == c) refl (sym (list_any_more (λ x. x.0 == c) conns i d below) ∙ any)
  where
    by-test : (a : Bool) → list_any (λ x. x.0 == c) (take i conns) ≡ a → (b : Bool) → ((get_or conns i d).0 == c) ≡ b → (a || b) ≡ true → 1 ≤ room_at c w
    by-test true passed b same either = omega (arith, before c passed, r.room c)
    by-test false passed true same either = let e : (get_or conns i d).0 ≡ c = grind (arith, nat_tests) in subst (λ (n : ℕ). 1 ≤ room_at n w) e here
    by-test false passed false same either = absurd (cc)
