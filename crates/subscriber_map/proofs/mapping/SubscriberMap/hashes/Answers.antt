use Rattle.std.proofs.Common.{ap, map, ◌∙◌}
use Rattle.subscriber_map.proofs.Shuffled.{hashes_shuffled, all_pushed}
use Rattle.subscriber_map.proofs.NamesInOrder.{names_held}
use Rattle.subscriber_map.proofs.mapping.SubscriberMap.hashes.Goals as goal

pub returns-clause-hashes : goal.returns-clause-hashes
returns-clause-hashes c =
    hashes_shuffled c.self.inside.names.entries c.loop-held.hashes.items c.args.self.now c.self.view_is c.len.ensures.unique c.self.invariant
    (all_pushed (λ h. h.hash) c.loop-held.hashes.items c.loop-held.held-iterator c.into_iter-held-iterator.result c.loop-held.invariant c.in-None.ensures.steps.0
    ∙ ap (map (λ h. h.hash)) (c.into_iter-held-iterator.ensures.into_iter_gives ∙ c.values-held-items.ensures.rest))

pub returns-clause-held : goal.returns-clause-held
returns-clause-held c = names_held c.self.inside.names.entries c.args.self.now c.self.view_is c.self.invariant
