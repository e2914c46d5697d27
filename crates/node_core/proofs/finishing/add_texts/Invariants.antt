use Rattle.std.proofs.Common.{◌≡◌, ◌++◌, map, take}
use Rattle.conn_seat.specs.declared.outs.Out.TheVariants as out
use Rattle.node_core.proofs.finishing.add_texts.Given as goal

-- the texts so far
abbrev pub invariant-loop-text : goal.invariant-loop-text
invariant-loop-text l = l.outs.items ≡ l.initial.outs.items ++ map out.Text (take l.text-index l.texts)
