use Rattle.std.proofs.Common.{map}
use Rattle.std.specs.List.{filter}
use Rattle.cable_model.specs.Connection.{among}
use Rattle.node_turns.specs.Holding.{named}
use Rattle.node_turns.proofs.Released.{one-more, stops-append}
use Rattle.node_turns.proofs.releasing.release_stops.Goals as goal

pub loop-stream-preserved : goal.loop-stream-preserved
loop-stream-preserved c =
    one-more (λ es. map named (filter (λ e. among c.args.stops.now e.name) es))
    (stops-append c.args.stops.now) c.args.conn.0 c.args.streams.now c.loop-stream.stream-index _ _ _ _ c.loop-stream-test.true c.stream-item.is
    c.loop-stream.invariant c.release_stop.ensures
