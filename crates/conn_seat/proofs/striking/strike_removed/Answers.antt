use Rattle.conn_core.specs.Subscriptions.{shown}
use Rattle.conn_seat.specs.Ends.{is_removed_with}
use Rattle.conn_seat.proofs.Struck.{unstruck-yet, strike-more}
use Rattle.conn_seat.proofs.striking.strike_removed.Goals as goal

pub loop-sub-init : goal.loop-sub-init
loop-sub-init c = unstruck-yet (λ s. is_removed_with c.args.identifier.now (shown s)) c.args.subs.now c.args.inbox.now

pub loop-sub-preserved : goal.loop-sub-preserved
loop-sub-preserved c = strike-more (λ s. is_removed_with c.args.identifier.now (shown s)) c.args.subs.now c.loop-sub.sub-index _ _ _ _ c.loop-sub-test.true c.sub-item.is c.loop-sub.invariant c.strike_named.ensures
