use Rattle.std.proofs.Common.{◌≡◌, ◌++◌, map, take}
use Rattle.conn_seat.specs.declared.outs.Out.TheVariants as out
use Rattle.node_core.proofs.finishing.add_notes.Given as goal

-- the notes so far
abbrev pub invariant-loop-note : goal.invariant-loop-note
invariant-loop-note l = l.outs.items ≡ l.initial.outs.items ++ map out.Note (take l.note-index l.notes)
