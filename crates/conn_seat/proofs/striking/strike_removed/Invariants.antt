use Rattle.std.proofs.Common.{not, take}
use Rattle.std.specs.List.{list_any}
use Rattle.run_queue.specs.Inboxes.{Filters}
use Rattle.conn_core.specs.Subscriptions.{shown}
use Rattle.conn_seat.specs.Ends.{is_removed_with}
use Rattle.conn_seat.proofs.striking.strike_removed.Given as goal

-- the pieces of the subscriptions so far are struck
abbrev pub invariant-loop-sub : goal.invariant-loop-sub
invariant-loop-sub l = Filters (λ p. not (list_any (λ s. is_removed_with l.identifier (shown s) p) (take l.sub-index l.subs))) l.fn.inbox l.inbox
