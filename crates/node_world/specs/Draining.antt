-- What is queued on a connection and isn't taken out.
use Rattle.std.specs.Prelude.{◌≡◌, ℕ, true, List, drop}
use Rattle.cable_model.specs.declared.lines.Line.{Line}
use Rattle.cable_model.specs.Possible.{is_over}
use Rattle.cable_model.specs.Transcript.{queued}
use Rattle.node_core.specs.Nodes.{NodeState, is_forgotten, past, taken_out}

abbrev pub left_on : NodeState → ℕ → List Line
left_on n c = drop (taken_out c n) (queued c (past n))

-- a connection that is over is forgotten
abbrev pub IsForgottenOver : ℕ → NodeState → Type 0
IsForgottenOver c n = is_over c (past n) ≡ true → is_forgotten c n ≡ true
