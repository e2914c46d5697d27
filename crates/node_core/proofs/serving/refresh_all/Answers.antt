use Rattle.std.proofs.Common.{refl, arith}
use Rattle.node_core.proofs.Refreshing.{looks-none, looks-more}
use Rattle.node_core.proofs.serving.refresh_all.Goals as goal

pub loop-conn-init : goal.loop-conn-init
loop-conn-init c = (looks-none c.args.seats.now.entries c.args.ready.now.waiting c.args.ready.now.waiting refl, omega (arith, c.requires))

pub loop-conn-preserved : goal.loop-conn-preserved
loop-conn-preserved c = (
  looks-more c.args.seats.now.entries c.args.conns.now c.loop-conn.conn-index _ _ c.args.ready.now.waiting c.loop-conn.ready.waiting c.refresh.new.ready.waiting c.loop-conn-test.true refl c.loop-conn.invariant.0 c.refresh.ensures.refreshes,
  omega (arith, c.refresh.ensures.spare, c.loop-conn.invariant.1),
)
