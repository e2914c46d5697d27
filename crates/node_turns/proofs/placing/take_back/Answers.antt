use Rattle.std.proofs.Common.{◌≡◌, ◌-◌, ◌+◌, take, arith, ap, sym, ◌∙◌}
use Rattle.subscriber_map.specs.HoldMaps.{without_at}
use Rattle.node_turns.specs.Holding.{with_placings}
use Rattle.node_turns.proofs.PlacingSteps.{undone-last}
use Rattle.node_turns.proofs.placing.take_back.Goals as goal

pub loop-left-preserved : goal.loop-left-preserved
loop-left-preserved c = record {
  within = omega arith;
  holds = λ m u h.
      let n : c.loop-left.left - 1 + 1 ≡ c.loop-left.left = omega arith in
      let p = c.index-placings-left.result in
      let before = c.loop-left.invariant.holds m u h in
      (rw c.as_str.ensures at c.remove.ensures.left)
      ∙ (ap (λ x. without_at x p.name p.hold.conn p.hold.want) (before ∙ ap (λ k. with_placings (take k c.args.placings.now) m) (sym n))
      ∙ undone-last c.args.placings.now (c.loop-left.left - 1) p m (omega arith) c.index-placings-left.is u);
}
