use Rattle.std.proofs.Common.{◌∙◌}
use Rattle.node_seats.proofs.Rooming.{make-one, make-all}
use Rattle.node_seats.proofs.seats.Seats.reserve_needed.Goals as goal

pub loop-number-preserved : goal.loop-number-preserved
loop-number-preserved c = record {
  making = make-one _ _ _ _ _ _ _ _ c.in-Some.ensures.steps c.loop-number.invariant.making c.reserve_live.ensures.same c.in_ok-reserve_live.ensures.ok;
  outs = c.reserve_live.ensures.outs ∙ c.loop-number.invariant.outs;
}

pub returns-clause-ok : goal.returns-clause-ok
returns-clause-ok c = make-all _ _ _ _ c.in-None.ensures.steps.0 c.loop-number.invariant.making
