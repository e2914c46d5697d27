use Rattle.std.proofs.Common.{◌∙◌, ap, sym, arith}
use Rattle.stream_set.specs.Streams.{without}
use Rattle.conn_core.proofs.Wanting.{stopped-none, stopped-more}
use Rattle.conn_core.proofs.streaming.stop_streams.Goals as goal

pub loop-stop-init : goal.loop-stop-init
loop-stop-init c = record { entries = sym (stopped-none c.args.streams.now.entries); spare = omega arith }

pub loop-stop-preserved : goal.loop-stop-preserved
loop-stop-preserved c =
    record {
      entries = c.stop.ensures.entries ∙ (ap (λ n. without n c.loop-stop.streams.entries) c.as_str.ensures ∙ (ap (without c.stop-item.result) c.loop-stop.invariant.entries ∙ stopped-more c.args.stops.now c.loop-stop.stop-index c.stop-item.result c.args.streams.now.entries c.loop-stop-test.true c.stop-item.is));
      spare = omega (arith, c.stop.ensures.spare, c.loop-stop.invariant.spare);
    }
