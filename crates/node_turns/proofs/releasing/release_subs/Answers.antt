use Rattle.std.proofs.Common.{List, map, ap, ◌∙◌}
use Rattle.stream_set.specs.declared.entries.StreamEntry.{StreamEntry}
use Rattle.stream_set.specs.Streams.{Streams}
use Rattle.node_turns.specs.Holding.{named, named_in, without_all}
use Rattle.node_turns.proofs.Released.{sub-more}
use Rattle.node_turns.proofs.releasing.release_subs.Goals as goal

pub loop-sub-preserved : goal.loop-sub-preserved
loop-sub-preserved c =
    sub-more named_in c.args.conn.0 c.args.subs.now c.loop-sub.sub-index c.sub-item.result c.args.holders.now c.loop-sub.holders c.release_streams.new.holders
    c.loop-sub-test.true c.sub-item.is c.loop-sub.invariant
    (c.release_streams.ensures
    ∙ ap (λ (es : List StreamEntry). without_all c.args.conn.0 (map named es) c.loop-sub.holders)
    (c.entries.ensures.entries ∙ ap (λ (s : Streams). s.entries) c.streams.ensures))
