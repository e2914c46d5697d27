use Rattle.node_parts_tests.proofs.FirstChanges.{finishes-first}
use Rattle.node_parts_tests.proofs.seat_fixtures.finishes.Goals as goal

pub finish-requires-clause-can : goal.finish-requires-clause-can
finish-requires-clause-can c = finishes-first c.args.plan.now.change c.args.conn.0 _ _ c.requires (c.has_first_out.ensures c.if-not-has_first_out.false) c.in_ok-reserve_plan.ensures.ok
