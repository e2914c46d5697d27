use Rattle.std.proofs.Common.{◌≡◌, drop}
use Rattle.cable_model.specs.Transcript.{with_lines}
use Rattle.replay_cli.proofs.running.count_lines.Given as goal

-- the lines so far are counted, and with the rest it is all of them
abbrev pub invariant-loop-line : goal.invariant-loop-line
invariant-loop-line l = with_lines l.totals (drop l.line-index l.lines) ≡ with_lines l.fn.totals l.lines
