use Rattle.std.proofs.Common.{Some, None, sym, ◌∙◌}
use Rattle.subscriber_map.proofs.ByName.{holds_got}
use Rattle.subscriber_map.proofs.mapping.SubscriberMap.holders.Goals as goal

pub returns-in-Some-clause-holds : goal.returns-in-Some-clause-holds
returns-in-Some-clause-holds g c = c.as_slice.ensures.items ∙ sym (holds_got c.args.name.now c.self.inside.names.entries c.args.self.now (Some c.in-Some.held.now) c.self.view_is c.in-Some.ensures.value)

pub returns-in-None-clause-holds : goal.returns-in-None-clause-holds
returns-in-None-clause-holds g c = sym (holds_got c.args.name.now c.self.inside.names.entries c.args.self.now None c.self.view_is c.in-None.ensures.value)
