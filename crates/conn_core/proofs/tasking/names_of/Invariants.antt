use Rattle.std.proofs.Common.{◌≡◌, map, take}
use Rattle.stream_set.specs.declared.entries.StreamEntry.{StreamEntry}
use Rattle.conn_core.proofs.tasking.names_of.Given as goal

-- the names so far
abbrev pub invariant-loop-entry : goal.invariant-loop-entry
invariant-loop-entry l = l.names ≡ map (λ (e : StreamEntry). e.name) (take l.entry-index l.entries)
