use Rattle.std.proofs.Common.{not, take}
use Rattle.std.specs.List.{list_any}
use Rattle.run_queue.specs.Inboxes.{Filters}
use Rattle.conn_core.specs.Subscriptions.{shown}
use Rattle.conn_seat.specs.Ends.{is_stopped_in}
use Rattle.conn_seat.proofs.striking.strike_stops.Given as goal

-- the rows for streams of the subscriptions so far are struck
abbrev pub invariant-loop-sub : goal.invariant-loop-sub
invariant-loop-sub l = Filters (λ p. not (list_any (λ s. is_stopped_in l.identifier l.stops (shown s) p) (take l.sub-index l.subs))) l.fn.inbox l.inbox
