use Rattle.std.proofs.Common.{◌∙◌}
use Rattle.node_seats.proofs.Counting.{over-is}
use Rattle.node_core.proofs.nodes.Node.is_over.Goals as goal

pub returns : goal.returns
returns c = rw (← c.self.view_is) (c.is_over.ensures ∙ over-is _ c.self.inside.seats.entries c.args.conn.0 c.self.invariant.stands.numbers)
