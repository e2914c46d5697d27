use Rattle.std.proofs.Common.{sym, subst}
use Rattle.conn_core.specs.Subscriptions.{SubParts, WantsBelow}
use Rattle.conn_core.proofs.Wanting.{below-stopped}
use Rattle.conn_core.proofs.subscriptions.Sub.restream.Goals as goal

pub want_streams-requires-clause-below : goal.want_streams-requires-clause-below
want_streams-requires-clause-below c =
    rw c.stop_streams.ensures.entries (below-stopped c.args.first.0 c.args.stops.now c.self.inside.streams.entries (subst (λ (v : SubParts). WantsBelow c.args.first.0 v.streams.entries) (sym c.self.view_is) c.requires.below))
