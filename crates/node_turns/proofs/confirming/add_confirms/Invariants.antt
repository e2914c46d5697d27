use Rattle.std.proofs.Common.{◌≡◌, ◌++◌, drop}
use Rattle.node_turns.specs.Wants.{confirms_of}
use Rattle.node_turns.proofs.confirming.add_confirms.Given as goal

abbrev pub invariant-loop-wanted : goal.invariant-loop-wanted
invariant-loop-wanted l =
    l.deliveries.items ++ confirms_of l.seats.entries (drop l.wanted-index l.wants) ≡ l.fn.deliveries.items ++ confirms_of l.seats.entries l.wants
