use Rattle.node_core.proofs.TakingNext.{none-served, takes-first-ready}
use Rattle.node_core.proofs.nodes.Node.take_next.Goals as goal

pub returns-in-Some-clause-ok : goal.returns-in-Some-clause-ok
returns-in-Some-clause-ok c = takes-first-ready c.args.self.now c.take.new.self c.in-Some.conn c.take.result c.in-Some.ensures.first c.take.ensures.ok c.take.ensures.job

pub returns-in-None-clause-goes : goal.returns-in-None-clause-goes
returns-in-None-clause-goes c = none-served c.args.self.now c.in-None.ensures.first
