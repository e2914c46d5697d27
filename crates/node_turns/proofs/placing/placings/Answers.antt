use Rattle.std.proofs.Common.{refl}
use Rattle.node_turns.proofs.PlacingSteps.{placings-more}
use Rattle.node_turns.proofs.placing.placings.Goals as goal

pub loop-wanted-preserved : goal.loop-wanted-preserved
loop-wanted-preserved c =
    placings-more c.args.seats.now.entries c.args.mark c.args.wants.now c.loop-wanted.wanted-index _ _ _ _ _ c.loop-wanted-test.true refl
    c.in_ok-add_placing.ensures c.loop-wanted.invariant
