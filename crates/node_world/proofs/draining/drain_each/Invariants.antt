use Rattle.std.proofs.Common.{drop}
use Rattle.node_world.proofs.Drained.{Drains}
use Rattle.node_world.proofs.draining.drain_each.Given as goal

-- all but those that are to come is taken out
abbrev pub invariant-loop-conn : goal.invariant-loop-conn
invariant-loop-conn l = Drains l.fn.node l.node l.conns (drop l.conn-index l.conns) l.lines
