use Rattle.std.proofs.Common.{◌≡◌, ◌+◌, length, take, sym, ◌∙◌, arith}
use Rattle.std.proofs.lemmas.Result.{err_from_is_err_and}
use Rattle.replay_cli.proofs.PiecesGiven.{reached_flushed, reached_more, flush_refused, read_refused, read_failed, read_whole, read_too_much}
use Rattle.replay_cli.proofs.replaying.Replaying.read_all.Goals as goal

pub returns-in_err-flush-clause-reads : goal.returns-in_err-flush-clause-reads
returns-in_err-flush-clause-reads g c =
    let p = err_from_is_err_and c.from_residual.result c.from_residual.ensures.1 in
    let k = c.loop.invariant in
    rw (p.1, p.2)
    (flush_refused c.args.self.now.mode _ (g.S.Source.left c.loop.source) _ (g.K.Sink.taken c.loop.sink) _ (g.S.Source.ends c.args.source.now) (g.S.Source.ends c.loop.source) (g.S.Source.faults c.args.source.now)
    (g.S.Source.faults c.loop.source) _ (g.K.Sink.faults c.loop.sink) _ c.loop.given c.loop.self c.flush.new.self c.in_err-flush.field-0.0 k.mode k.sink_faults k.few k.reached c.in_err-flush.ensures.wrote)

pub returns-in-Err-clause-reads : goal.returns-in-Err-clause-reads
returns-in-Err-clause-reads g c =
    let k = c.loop.invariant in
    let r = reached_flushed _ _ _ _ _ (g.K.Sink.faults c.loop.sink) (g.K.Sink.faults c.flush.new.sink) c.loop.given c.loop.self c.flush.new.self k.reached c.in_ok-flush.ensures.wrote in
    read_failed c.args.self.now.mode _ (g.S.Source.left c.loop.source) (g.S.Source.left c.next_piece.new.self) _ (g.K.Sink.taken c.flush.new.sink) (g.S.Source.ends c.args.source.now) (g.S.Source.ends c.next_piece.new.self)
    _ (g.S.Source.faults c.loop.source) _ (g.K.Sink.faults c.args.sink.now) (g.K.Sink.faults c.flush.new.sink) c.loop.given c.flush.new.self k.faults k.few r c.in-Err.ensures.bytes c.in-Err.ensures.cause.failed

pub returns-then-count-eq0-clause-reads : goal.returns-then-count-eq0-clause-reads
returns-then-count-eq0-clause-reads g c =
    let k = c.loop.invariant in
    let r = reached_flushed _ _ _ _ _ (g.K.Sink.faults c.loop.sink) (g.K.Sink.faults c.flush.new.sink) c.loop.given c.loop.self c.flush.new.self k.reached c.in_ok-flush.ensures.wrote in
    let b = c.in-Ok.ensures.bytes in
    read_whole c.args.self.now.mode _ (g.S.Source.left c.loop.source) (g.S.Source.left c.next_piece.new.self) _ (g.K.Sink.taken c.flush.new.sink) (g.S.Source.ends c.args.source.now) (g.S.Source.ends c.loop.source)
    (g.S.Source.ends c.next_piece.new.self) (g.S.Source.faults c.args.source.now) (g.S.Source.faults c.next_piece.new.self) (g.K.Sink.faults c.args.sink.now) (g.K.Sink.faults c.flush.new.sink) c.loop.given c.flush.new.self
    k.ends k.few r (rw c.if-count-eq0.true at b.0) (b.1 c.if-count-eq0.true (omega arith)) (c.in-Ok.ensures.end.ended c.if-count-eq0.true (omega arith))

pub returns-then-given-count-clause-reads : goal.returns-then-given-count-clause-reads
returns-then-given-count-clause-reads g c =
    let k = c.loop.invariant in
    let r = reached_flushed _ _ _ _ _ (g.K.Sink.faults c.loop.sink) (g.K.Sink.faults c.flush.new.sink) c.loop.given c.loop.self c.flush.new.self k.reached c.in_ok-flush.ensures.wrote in
    let n : length (take c.in-Ok.count c.next_piece.new.buf) ≡ c.in-Ok.count = sym c.in-Ok.ensures.bound.1 in
    read_too_much c.args.self.now.mode _ (g.S.Source.left c.loop.source) (g.S.Source.left c.next_piece.new.self) _ (g.K.Sink.taken c.flush.new.sink) (g.S.Source.ends c.args.source.now) (g.S.Source.ends c.next_piece.new.self)
    (g.S.Source.faults c.args.source.now) (g.S.Source.faults c.next_piece.new.self) (g.K.Sink.faults c.args.sink.now) (g.K.Sink.faults c.flush.new.sink) c.loop.given (take c.in-Ok.count c.next_piece.new.buf) c.flush.new.self
    k.few (omega (arith, n, c.if-given-count.true, k.few)) r c.in-Ok.ensures.bytes.0

pub returns-in_err-take_piece-clause-reads : goal.returns-in_err-take_piece-clause-reads
returns-in_err-take_piece-clause-reads g c =
    let p = err_from_is_err_and c.from_residual-in_err-take_piece.result c.from_residual-in_err-take_piece.ensures.1 in
    let k = c.loop.invariant in
    let r = reached_flushed _ _ _ _ _ (g.K.Sink.faults c.loop.sink) (g.K.Sink.faults c.flush.new.sink) c.loop.given c.loop.self c.flush.new.self k.reached c.in_ok-flush.ensures.wrote in
    let n : length (take c.in-Ok.count c.next_piece.new.buf) ≡ c.in-Ok.count = sym c.in-Ok.ensures.bound.1 in
    rw (p.1, p.2)
    (read_refused c.args.self.now.mode _ (g.S.Source.left c.loop.source) (g.S.Source.left c.next_piece.new.self) _ (g.K.Sink.taken c.flush.new.sink) _ (g.S.Source.ends c.args.source.now) (g.S.Source.ends c.next_piece.new.self)
    (g.S.Source.faults c.args.source.now) (g.S.Source.faults c.next_piece.new.self) _ (g.K.Sink.faults c.flush.new.sink) _ c.loop.given (take c.in-Ok.count c.next_piece.new.buf) c.flush.new.self c.take_piece.new.self
    c.in_err-take_piece.field-0.0 (c.flush.ensures.mode ∙ k.mode) (omega (arith, k.sink_faults, c.flush.ensures.faults)) (omega (arith, n, c.if-given-count.false, k.few)) r c.in-Ok.ensures.bytes.0 c.in_err-take_piece.ensures.takes)

pub loop-preserved : goal.loop-preserved
loop-preserved g c =
    let k = c.loop.invariant in
    let r = reached_flushed _ _ _ _ _ (g.K.Sink.faults c.loop.sink) (g.K.Sink.faults c.flush.new.sink) c.loop.given c.loop.self c.flush.new.self k.reached c.in_ok-flush.ensures.wrote in
    let n : length (take c.in-Ok.count c.next_piece.new.buf) ≡ c.in-Ok.count = sym c.in-Ok.ensures.bound.1 in
    record {
      reached = reached_more _ _ _ _ (g.K.Sink.taken c.flush.new.sink) _ (g.K.Sink.faults c.flush.new.sink) (g.K.Sink.faults c.take_piece.new.sink) c.loop.given (c.loop.given + c.in-Ok.count)
          (take c.in-Ok.count c.next_piece.new.buf) c.flush.new.self c.take_piece.new.self r c.in-Ok.ensures.bytes.0 c.in_ok-take_piece.ensures.takes (omega (arith, n));
      some = omega (arith, k.some, c.if-count-eq0.false);
      few = omega (arith, k.few, c.if-given-count.false);
      mode = c.take_piece.ensures.mode ∙ c.flush.ensures.mode ∙ k.mode;
      ends = omega (arith, k.ends, c.next_piece.ensures.end.later);
      faults = omega (arith, k.faults, c.next_piece.ensures.cause.later);
      sink_faults = omega (arith, k.sink_faults, c.flush.ensures.faults, c.take_piece.ensures.faults);
    }
