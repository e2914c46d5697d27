use Rattle.std.proofs.Common.{◌≡◌, ◌++◌, drop, flat_map}
use Rattle.node_turns.specs.Holding.{held_puts}
use Rattle.node_turns.proofs.bringing.add_for_holds.Given as goal

-- what was added, and what the holds left put behind it, make up the whole
abbrev pub invariant-loop-hold : goal.invariant-loop-hold
invariant-loop-hold l =
    l.deliveries.items ++ flat_map (held_puts l.row) (drop l.hold-index l.holds) ≡ l.fn.deliveries.items ++ flat_map (held_puts l.row) l.holds
