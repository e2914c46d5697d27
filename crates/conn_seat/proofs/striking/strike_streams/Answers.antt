use Rattle.conn_seat.specs.Ends.{is_row_stopped}
use Rattle.conn_seat.proofs.Struck.{unstruck-yet, strike-more}
use Rattle.conn_seat.proofs.striking.strike_streams.Goals as goal

pub loop-stream-init : goal.loop-stream-init
loop-stream-init c = unstruck-yet (is_row_stopped c.args.stops.now) c.args.streams.now c.args.inbox.now

pub loop-stream-preserved : goal.loop-stream-preserved
loop-stream-preserved c = strike-more (is_row_stopped c.args.stops.now) c.args.streams.now c.loop-stream.stream-index _ _ _ _ c.loop-stream-test.true c.stream-item.is c.loop-stream.invariant c.strike_stream.ensures
