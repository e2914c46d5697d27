use Rattle.std.proofs.Common.{◌≡◌, ◌++◌, drop}
use Rattle.cable_model.specs.Printed.{printed_events}
use Rattle.replay_cli.proofs.printing.push_events.Given as goal

-- the events so far, and those of the rest
abbrev pub invariant-loop-event : goal.invariant-loop-event
invariant-loop-event l = l.out.items ++ printed_events (drop l.event-index l.events) ≡ l.fn.out.items ++ printed_events l.events
