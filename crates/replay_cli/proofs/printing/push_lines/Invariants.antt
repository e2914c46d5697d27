use Rattle.std.proofs.Common.{◌≡◌, ◌++◌, drop}
use Rattle.cable_model.specs.Transcript.{lines_text}
use Rattle.replay_cli.proofs.printing.push_lines.Given as goal

-- the lines so far, and those of the rest
abbrev pub invariant-loop-line : goal.invariant-loop-line
invariant-loop-line l = l.out.items ++ lines_text (drop l.line-index l.lines) ≡ l.fn.out.items ++ lines_text l.lines
