use Rattle.node_core.proofs.Standing.{queues-now}
use Rattle.node_core.proofs.TakingOut.{takes-out, first-out}
use Rattle.node_core.proofs.nodes.Node.take_out.Goals as goal

pub invariant_of-self : goal.invariant_of-self
invariant_of-self c =
    let outs = c.self.inside.seats.outs in
    let new = c.take_out.new.self.outs in record {
      stands = rw c.take_out.ensures.entries
          (queues-now new c.self.invariant.stands (takes-out c.args.conn.0 _ outs new c.self.invariant.stands.queues c.take_out.result c.take_out.ensures.out)
          c.take_out.ensures.out.forgotten);
      turn_room = c.self.invariant.turn_room;
      ready = rw c.take_out.ensures.entries c.self.invariant.ready;
    }

pub returns-clause-out : goal.returns-clause-out
returns-clause-out c =
    let outs = c.self.inside.seats.outs in
    rw (← c.self.view_is)
    (first-out c.args.conn.0 _ outs c.take_out.new.self.outs c.self.invariant.stands.queues c.take_out.result c.take_out.ensures.out)
