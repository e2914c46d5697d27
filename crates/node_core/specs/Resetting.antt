-- When a node's log can begin again.
use Rattle.std.specs.Prelude.{Bool, true, false, not, ◌&&◌}
use Rattle.std.specs.List.{list_any}
use Rattle.cable_model.specs.declared.journals.Entry.{Entry}
use Rattle.cable_model.specs.declared.journals.Entry.TheVariants as entry
use Rattle.cable_model.specs.Possible.{is_out}
use Rattle.node_core.specs.Journals.{log_in}
use Rattle.node_core.specs.Nodes.{NodeState, past}

-- an entry of a connection, whichever it is
abbrev pub is_of_one : Entry → Bool
is_of_one (entry.Boot last) = false
is_of_one (entry.Open conn token) = true
is_of_one (entry.In conn text) = true
is_of_one (entry.Drop conn) = true
is_of_one entry.Stop = false
is_of_one (entry.Take conn) = true
is_of_one (entry.Finish conn puts) = true
is_of_one (entry.Ask turn) = false
is_of_one (entry.Deliver turn note) = false
is_of_one (entry.Beat now) = false

-- no turn is out, and the log that is stored has no entry of a connection: each that it had was forgotten
abbrev pub may_reset : NodeState → Bool
may_reset n = not (is_out (past n)) && not (list_any is_of_one (log_in n.stored))
