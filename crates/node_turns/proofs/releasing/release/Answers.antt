use Rattle.std.proofs.Common.{ℕ, List, ap, ◌∙◌}
use Rattle.std.specs.List.{flat_map}
use Rattle.conn_core.specs.Subscriptions.{Subscription}
use Rattle.subscriber_map.specs.HoldMaps.{HoldMap, without_at}
use Rattle.node_turns.specs.Holding.{named_in, own_want, without_all}
use Rattle.node_turns.proofs.releasing.release.Goals as goal

pub returns-in-Close : goal.returns-in-Close
returns-in-Close c =
    rw c.in-Close.is
    (c.release_subs.ensures
    ∙ (ap (λ (ss : List Subscription). without_all c.args.conn.0 (flat_map named_in ss) c.remove.new.self) c.subs-in-Close.ensures.subs
    ∙ ap (λ (m : HoldMap). without_all c.args.conn.0 (flat_map named_in c.args.seat.now.subs) m)
    (c.remove.ensures.left ∙ ap (λ (u : List ℕ). without_at c.args.holders.now u c.args.conn own_want) (c.as_str-in-Close.ensures ∙ c.own.ensures))))
