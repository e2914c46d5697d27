use Rattle.std.proofs.Common.{◌≡◌, ap, sym, subst, ◌∙◌}
use Rattle.subscriber_map.specs.Holds.{IsNewAmong}
use Rattle.subscriber_map.specs.HoldMaps.{holds_at, with_hold_at, without_at}
use Rattle.node_turns.proofs.PlacingSteps.{new-at, with-more, undone-more}
use Rattle.node_turns.proofs.placing.hold_all.Goals as goal

pub add-requires : goal.add-requires
add-requires c =
    let p = c.index-placings-i.result in
    rw c.as_str.ensures
    (subst (λ m. IsNewAmong p.hold (holds_at m p.name)) (sym c.loop-i.invariant.holds)
    (new-at c.args.placings.now c.loop-i.i p c.args.holders.now c.loop-i-test.true c.index-placings-i.is c.requires.new))

pub loop-i-preserved : goal.loop-i-preserved
loop-i-preserved c =
    let p = c.index-placings-i.result in
    record {
      holds = (rw c.as_str.ensures at c.in_default.ensures.ok)
          ∙ (ap (λ m. with_hold_at m p.name p.hold) c.loop-i.invariant.holds
          ∙ sym (with-more c.args.placings.now c.loop-i.i p c.args.holders.now c.loop-i-test.true c.index-placings-i.is));
      undone = undone-more c.args.placings.now c.loop-i.i p c.args.holders.now c.loop-i-test.true c.index-placings-i.is
          (subst (λ m. without_at (with_hold_at m p.name p.hold) p.name p.hold.conn p.hold.want ≡ m) c.loop-i.invariant.holds
          (rw c.as_str.ensures at c.add.ensures.back)) c.loop-i.invariant.undone;
    }
