use Rattle.node_core.proofs.StayingReady.{first-ready, ready-is}
use Rattle.node_core.proofs.nodes.Node.next_ready.Goals as goal

pub returns-clause-ready : goal.returns-clause-ready
returns-clause-ready c = rw (← c.self.view_is) (record { each = ready-is c.self.invariant.stands c.self.inside.ready.waiting c.self.invariant.ready; once = c.front.ensures.once })

pub returns-clause-answer : goal.returns-clause-answer
returns-clause-answer c = rw (← c.self.view_is) (first-ready c.self.invariant.stands _ c.front.result c.self.invariant.ready c.front.ensures.first)
