use Rattle.std.proofs.Common.{◌∙◌}
use Rattle.node_seats.proofs.Rooming.{put-one}
use Rattle.node_seats.proofs.seats.Seats.put_all.Goals as goal

pub loop-delivery-preserved : goal.loop-delivery-preserved
loop-delivery-preserved c = record {
  put = put-one _ _ _ _ _ _ _ c.in-Some.ensures.steps.0 c.loop-delivery.invariant.put c.put_live.ensures.delivers;
  outs = c.put_live.ensures.outs ∙ c.loop-delivery.invariant.outs;
}
