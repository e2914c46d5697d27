use Rattle.std.proofs.Common.{◌∙◌, ap, not, rules}
use Rattle.std.proofs.lemmas.Fn.{filter_same}
use Rattle.subscriber_map.proofs.InOrder.{AreHolds-without}
use Rattle.subscriber_map.specs.Holds.{is_of, without}
use Rattle.subscriber_map.proofs.holding.Holds.remove.Goals as goal

pub invariant_of-self : goal.invariant_of-self
invariant_of-self c =
    AreHolds-without c.args.conn c.args.want c.self.inside.items.items c.retain.new.self.items c.self.invariant
    (filter_same _ (λ h. not (is_of c.args.conn c.args.want h)) _ (λ x b f' k. search rules) _ _ c.retain.ensures.filtered)

pub returns-clause-left : goal.returns-clause-left
returns-clause-left c =
    filter_same _ (λ h. not (is_of c.args.conn c.args.want h)) _ (λ x b f' k. search rules) _ _ c.retain.ensures.filtered ∙ ap (without c.args.conn c.args.want) c.self.view_is
