use Rattle.std.proofs.Common.{◌≡◌, ◌≤◌, length, take}
use Rattle.subscriber_map.specs.HoldMaps.{HoldMap}
use Rattle.node_turns.specs.Holding.{AreUndone, with_placings}
use Rattle.node_turns.proofs.placing.take_back.Given as goal

-- those behind the first `left` are taken back
abbrev pub invariant-loop-left : goal.invariant-loop-left
invariant-loop-left l = record {
  within : l.left ≤ length l.placings;
  holds : (m : HoldMap) → AreUndone l.placings m → l.fn.holders ≡ with_placings l.placings m → l.holders ≡ with_placings (take l.left l.placings) m;
}

abbrev pub decreases-loop-left : goal.decreases-loop-left
decreases-loop-left l = l.left
