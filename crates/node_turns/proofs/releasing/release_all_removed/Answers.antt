use Rattle.node_turns.specs.Holding.{named_in, when_named}
use Rattle.node_turns.proofs.Released.{sub-more}
use Rattle.node_turns.proofs.releasing.release_all_removed.Goals as goal

pub loop-sub-preserved : goal.loop-sub-preserved
loop-sub-preserved c =
    sub-more (when_named c.args.identifier.now named_in) c.args.conn.0 c.args.subs.now c.loop-sub.sub-index _ _ _ _ c.loop-sub-test.true c.sub-item.is
    c.loop-sub.invariant c.release_removed.ensures
