use Rattle.std.proofs.Common.{◌≡◌, take}
use Rattle.node_turns.specs.Holding.{AreUndone, with_placings}
use Rattle.node_turns.proofs.placing.hold_all.Given as goal

-- the first ones are added, and can be taken back
abbrev pub invariant-loop-i : goal.invariant-loop-i
invariant-loop-i l = record {
  holds : l.holders ≡ with_placings (take l.i l.placings) l.fn.holders;
  undone : AreUndone (take l.i l.placings) l.fn.holders;
}
