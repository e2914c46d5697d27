use Rattle.std.proofs.Common.{ℕ, List, map, ap, ◌∙◌}
use Rattle.subscriber_map.specs.HoldMaps.{without_at}
use Rattle.node_turns.specs.Holding.{named}
use Rattle.node_turns.proofs.Released.{one-more, names-append}
use Rattle.node_turns.proofs.releasing.release_streams.Goals as goal

pub loop-stream-preserved : goal.loop-stream-preserved
loop-stream-preserved c =
    one-more (map named) names-append c.args.conn.0 c.args.streams.now c.loop-stream.stream-index c.stream-item.result c.args.holders.now c.loop-stream.holders
    c.remove.new.self c.loop-stream-test.true c.stream-item.is c.loop-stream.invariant
    (c.remove.ensures.left ∙ ap (λ (n : List ℕ). without_at c.loop-stream.holders n c.args.conn c.stream-item.result.want) c.as_str.ensures)
