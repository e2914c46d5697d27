use Rattle.std.proofs.Common.{◌∙◌, subst}
use Rattle.subscriber_map.specs.Holds.{AreHolds}
use Rattle.subscriber_map.proofs.InOrder.{AreHolds-with_hold}
use Rattle.subscriber_map.proofs.Back.{back-among}
use Rattle.subscriber_map.proofs.holding.Holds.add.Goals as goal

pub invariant_of-self-2 : goal.invariant_of-self-2
invariant_of-self-2 c =
    AreHolds-with_hold c.args.hold c.self.inside.items.items c.insert.new.self.items c.self.invariant (rw c.self.view_is c.requires)
    (c.in_ok-insert.ensures.items ∙ rw c.deref.ensures.value at c.place_for-place.ensures.place)

pub returns-in_err-insert-clause-back : goal.returns-in_err-insert-clause-back
returns-in_err-insert-clause-back c = back-among c.args.hold c.args.self.now (subst AreHolds c.self.view_is c.self.invariant) c.requires

pub returns-clause-back : goal.returns-clause-back
returns-clause-back c = back-among c.args.hold c.args.self.now (subst AreHolds c.self.view_is c.self.invariant) c.requires
