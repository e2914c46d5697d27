use Rattle.std.proofs.Common.{◌≤◌, ◌+◌, length, take}
use Rattle.node_core.specs.Serving.{Refreshes}
use Rattle.node_core.proofs.serving.refresh_all.Given as goal

-- the connections so far were looked at, and there is room for the others
abbrev pub invariant-loop-conn : goal.invariant-loop-conn
invariant-loop-conn l = Refreshes l.seats.entries (take l.conn-index l.conns) l.initial.ready.waiting l.ready.waiting × (length l.conns ≤ l.ready.spare + l.conn-index)
