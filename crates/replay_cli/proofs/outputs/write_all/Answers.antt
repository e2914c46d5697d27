use Rattle.std.proofs.Common.{arith, length-drop}
use Rattle.std.proofs.lemmas.List.{take_rest}
use Rattle.std.proofs.lemmas.Result.{err_from_is_err_and}
use Rattle.replay_cli.proofs.WholeOutputs.{write_step, write_refused, err_is}
use Rattle.replay_cli.proofs.outputs.write_all.Goals as goal

pub returns-in_err-at-clause-wrote : goal.returns-in_err-at-clause-wrote
returns-in_err-at-clause-wrote g c =
    let p = err_from_is_err_and c.from_residual.result c.from_residual.ensures.1 in
    rw (p.1, p.2)
    (write_refused _ (g.K.Sink.taken c.loop-at.sink) _ _ (g.K.Sink.faults c.loop-at.sink) _ c.args.bytes.now c.loop-at.at c.in_err-at.field-0.0
    c.loop-at.invariant.took c.in_err-at.ensures.bytes c.loop-at.invariant.faults (λ e. c.in_err-at.ensures.cause.failed (err_is c.in_err-at.field-0.0 _ e)))

pub loop-at-preserved : goal.loop-at-preserved
loop-at-preserved g c =
    record {
      took = write_step _ (g.K.Sink.taken c.loop-at.sink) _ c.args.bytes.now c.loop-at.at c.in_ok-at.field-0 c.loop-at.invariant.took c.in_ok-at.ensures.bytes;
      within = let most = rw take_rest at c.in_ok-at.ensures.some.most in omega (arith, length-drop c.loop-at.at c.args.bytes.now);
      faults = omega (arith, c.put.ensures.cause.later);
    }
