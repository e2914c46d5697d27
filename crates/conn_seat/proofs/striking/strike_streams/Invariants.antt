use Rattle.std.proofs.Common.{not, take}
use Rattle.std.specs.List.{list_any}
use Rattle.run_queue.specs.Inboxes.{Filters}
use Rattle.conn_seat.specs.Ends.{is_row_stopped}
use Rattle.conn_seat.proofs.striking.strike_streams.Given as goal

-- the rows for the streams so far are struck
abbrev pub invariant-loop-stream : goal.invariant-loop-stream
invariant-loop-stream l = Filters (λ p. not (list_any (λ e. is_row_stopped l.stops e p) (take l.stream-index l.streams))) l.fn.inbox l.inbox
