use Rattle.std.proofs.Common.{refl, ◌∙◌}
use Rattle.node_seats.proofs.Composing.{places-more}
use Rattle.node_seats.proofs.seats.Seats.place_all.Goals as goal

pub loop-wanted-preserved : goal.loop-wanted-preserved
loop-wanted-preserved c = record {
  placed = places-more _ _ _ _ _ _ _ _ c.loop-wanted-test.true refl c.loop-wanted.invariant.placed c.place_live.ensures.places;
  outs = c.place_live.ensures.outs ∙ c.loop-wanted.invariant.outs;
}
