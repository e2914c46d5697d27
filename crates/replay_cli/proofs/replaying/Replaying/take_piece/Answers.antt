use Rattle.std.proofs.Common.{◌∙◌, arith}
use Rattle.std.proofs.lemmas.Result.{err_from_is_err_and}
use Rattle.replay_cli.proofs.PiecesTaken.{came_line, refused_at, came_whole, begun_none}
use Rattle.replay_cli.proofs.replaying.Replaying.take_piece.Goals as goal

pub returns-in_err-take_whole-clause-takes : goal.returns-in_err-take_whole-clause-takes
returns-in_err-take_whole-clause-takes g c =
    let p = err_from_is_err_and c.from_residual.result c.from_residual.ensures.1 in
    rw (p.1, p.2)
    (refused_at _ _ _ _ (g.K.Sink.faults c.loop-front.sink) _ c.args.piece.now c.loop-front.rest.now c.in-Some.front.now c.in-Some.behind.now c.args.self.now c.loop-front.self c.take_whole.new.self c.in_err-take_whole.field-0.0
    c.loop-front.invariant.faults c.loop-front.invariant.mode c.in-Some.ensures c.loop-front.invariant.came c.in_err-take_whole.ensures.takes)

pub loop-front-preserved : goal.loop-front-preserved
loop-front-preserved g c =
    record {
      came = came_line _ _ _ _ (g.K.Sink.faults c.loop-front.sink) _ c.args.piece.now c.loop-front.rest.now c.in-Some.front.now c.in-Some.behind.now c.args.self.now c.loop-front.self c.take_whole.new.self
          c.loop-front.invariant.faults c.loop-front.invariant.mode c.in-Some.ensures c.loop-front.invariant.came c.in_ok-take_whole.ensures.takes;
      begun = begun_none c.take_whole.new.self.line.items c.in_ok-take_whole.ensures.clears;
      mode = c.take_whole.ensures.mode ∙ c.loop-front.invariant.mode;
      faults = omega (arith, c.take_whole.ensures.faults, c.loop-front.invariant.faults);
    }

pub returns-clause-takes : goal.returns-clause-takes
returns-clause-takes g c =
    came_whole _ _ _ _ c.args.piece.now c.loop-front.rest.now c.args.self.now c.loop-front.self c.extend_line.new.self c.extend_line.result
    c.loop-front.invariant.faults c.loop-front.invariant.mode c.in_default.ensures c.loop-front.invariant.came c.extend_line.ensures
