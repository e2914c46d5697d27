use Rattle.node_core.proofs.Drained.{drained}
use Rattle.node_core.proofs.nodes.Node.is_drained.Goals as goal

pub returns : goal.returns
returns c =
    let queued = c.self.invariant.stands.queues c.args.conn.0 in
    rw (← c.self.view_is)
    (drained c.args.conn.0 _ c.self.inside.seats.outs queued c.is_drained.result c.is_drained.ensures.0 c.is_drained.ensures.1)
