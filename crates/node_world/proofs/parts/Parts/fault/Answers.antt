use Rattle.cable_model.specs.Script.{rules_of}
use Rattle.node_world.specs.Parts.{held}
use Rattle.node_world.proofs.FollowingTable.{fault_steps}
use Rattle.node_world.proofs.parts.Parts.fault.Goals as goal

pub returns-clause-steps : goal.returns-clause-steps
returns-clause-steps c = rw c.silent.ensures (fault_steps (rules_of c.args.self.now.book) (held c.args.self.now) c.fail_next.new.self c.fail_next.ensures)
