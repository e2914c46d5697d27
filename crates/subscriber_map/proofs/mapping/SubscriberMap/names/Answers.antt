use Rattle.std.proofs.Common.{◌≡◌, ◌≢◌, [], ℕ, List, ap, map, string_bytes, subst, sym, ◌∙◌}
use Rattle.std.specs.List.{All}
use Rattle.subscriber_map.specs.HoldMaps.{holds_at}
use Rattle.subscriber_map.specs.Entries.{names_of}
use Rattle.subscriber_map.proofs.Shuffled.{all_pushed}
use Rattle.subscriber_map.proofs.NamesInOrder.{names_are, names_held}
use Rattle.subscriber_map.proofs.mapping.SubscriberMap.names.Goals as goal

pub returns-clause-names : goal.returns-clause-names
returns-clause-names c =
    let copied : c.loop-name.names.items ≡ names_of c.self.inside.names.entries =
    all_pushed string_bytes c.loop-name.names.items c.loop-name.name-iterator c.into_iter-name-iterator.result c.loop-name.invariant c.in-None.ensures.steps.0
    ∙ ap (map string_bytes) (c.into_iter-name-iterator.ensures.into_iter_gives ∙ c.keys-name-items.ensures.rest) in
    names_are c.self.inside.names.entries c.loop-name.names.items c.of.result c.args.self.now c.self.view_is c.len.ensures.unique copied (rw c.of.ensures c.sort_names.ensures.same) (rw c.of.ensures c.sort_names.ensures.sorted)

pub returns-clause-held : goal.returns-clause-held
returns-clause-held c = subst (All (λ (n : List ℕ). holds_at c.args.self.now n ≢ [])) (sym (returns-clause-names c)) (names_held c.self.inside.names.entries c.args.self.now c.self.view_is c.self.invariant)
