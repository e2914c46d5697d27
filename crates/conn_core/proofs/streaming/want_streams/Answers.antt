use Rattle.conn_core.proofs.Wanting.{below-fresh, want-begins, want-step, want-ends}
use Rattle.conn_core.proofs.streaming.want_streams.Goals as goal

pub want_kept-requires-clause-fresh : goal.want_kept-requires-clause-fresh
want_kept-requires-clause-fresh c = below-fresh _ _ c.loop-name.invariant.below

pub loop-name-preserved : goal.loop-name-preserved
loop-name-preserved c =
    want-step _ _ _ _ _ c.in-Some.name _ _ _ _ _ _ c.in-Some.ensures.steps.0 c.loop-name.invariant c.want_kept.ensures.answer c.want_kept.ensures.added c.want_kept.ensures.spent
