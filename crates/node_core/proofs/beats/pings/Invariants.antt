use Rattle.std.proofs.Common.{◌≡◌, map, take}
use Rattle.node_core.specs.Nodes.{ping_of}
use Rattle.node_core.proofs.beats.pings.Given as goal

-- the pings so far are those of the connections so far
abbrev pub invariant-loop-conn : goal.invariant-loop-conn
invariant-loop-conn l = l.queued.items ≡ map (ping_of l.now.0) (take l.conn-index l.conns)
