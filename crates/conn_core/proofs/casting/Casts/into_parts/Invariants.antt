use Rattle.std.proofs.Common.{◌≡◌, ◌++◌, take}
use Rattle.conn_core.proofs.casting.Casts.into_parts.Given as goal

-- the faults so far stand behind the notes
abbrev pub invariant-loop-fault : goal.invariant-loop-fault
invariant-loop-fault l = l.notes ≡ l.fn.self.notes ++ take l.fault-index l.fault-items
