use Rattle.std.proofs.Common.{ℕ, List, refl, sym, subst, ◌∙◌}
use Rattle.node_seats.specs.Slots.{numbers_of}
use Rattle.node_seats.proofs.Stopping.{Stopping, stop-begins, stop-ends, stop-next, tidy-stopped}
use Rattle.node_seats.proofs.seats.restart_all.Goals as goal

pub loop-number-init : goal.loop-number-init
loop-number-init c =
    let gives = c.into_iter-number-iterator.ensures.into_iter_gives in
    let v = numbers_of c.args.by_number.now.entries in
    record { stopping = subst (λ (ns : List ℕ). Stopping ns v v) (sym gives.0) (stop-begins v c.args.live.now gives.4 c.requires); outs = refl }

pub loop-number-preserved : goal.loop-number-preserved
loop-number-preserved c =
    let v = numbers_of c.args.by_number.now.entries in
    let old = numbers_of c.loop-number.by_number.entries in
    let s = c.loop-number.invariant.stopping in
    record {
      stopping =
          stop-next c.in-Some.number.now c.next.new.self v old _ (c.restart.ensures.stops s.roomy)
          (subst (λ (ns : List ℕ). Stopping ns v old) c.in-Some.ensures.steps s);
      outs = c.restart.ensures.outs ∙ c.loop-number.invariant.outs;
    }

pub returns-clause-stops : goal.returns-clause-stops
returns-clause-stops c =
    let v = numbers_of c.args.by_number.now.entries in
    let new = numbers_of c.loop-number.by_number.entries in
    stop-ends v new _ c.requires (subst (λ (ns : List ℕ). Stopping ns v new) c.in-None.ensures.steps.0 c.loop-number.invariant.stopping)

pub returns-clause-tidy : goal.returns-clause-tidy
returns-clause-tidy c =
    let v = numbers_of c.args.by_number.now.entries in
    let new = numbers_of c.loop-number.by_number.entries in
    tidy-stopped v new _ c.requires (subst (λ (ns : List ℕ). Stopping ns v new) c.in-None.ensures.steps.0 c.loop-number.invariant.stopping)
