use Rattle.std.proofs.Common.{◌≡◌, ◌++◌, drop}
use Rattle.node_turns.specs.Holding.{placings_of}
use Rattle.node_turns.proofs.placing.placings.Given as goal

-- those so far and those of the rest are all
abbrev pub invariant-loop-wanted : goal.invariant-loop-wanted
invariant-loop-wanted l = l.placings.items ++ placings_of l.seats.entries l.mark (drop l.wanted-index l.wants) ≡ placings_of l.seats.entries l.mark l.wants
