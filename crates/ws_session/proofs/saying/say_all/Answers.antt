use Rattle.std.proofs.Common.{◌∙◌, Some, sym, subst}
use Rattle.std.proofs.lemmas.Result.{err_from_is_err_and}
use Rattle.ws_session.specs.Halves.{is_text}
use Rattle.ws_session.proofs.SaysMore.{any-else, any-then, one-more, says-lost}
use Rattle.ws_session.proofs.saying.say_all.Goals as goal
use Rattle.ws_session.proofs.saying.say_all.Goals.{then-any, else-any}

pub returns-in_err-text-clause-err : goal.returns-in_err-text-clause-err
returns-in_err-text-clause-err g c =
    let p = err_from_is_err_and c.from_residual.result c.from_residual.ensures.1 in
    rw (p.1, p.2)
    (says-lost _ c.args.conn (record { link = c.args.link.now; desk = c.args.desk.now }) c.loop.any c.loop.counter
    (record { link = c.loop.link; desk = c.loop.desk }) c.in-Some.out c.take_out.new.self c.in_err-text.field-0.0
    (record { link = c.send.new.link; desk = c.send.new.desk })
    c.loop.invariant c.in-Some.ensures.takes_out c.in_err-text.ensures.err)

pub loop-preserved : goal.loop-preserved
loop-preserved g c =
    one-more _ c.args.conn _ c.loop.any c.if-any.any c.loop.counter (record { link = c.loop.link; desk = c.loop.desk }) c.in-Some.out _ c.loop.invariant
    (subst (λ d. g.D.Desk.takes_out c.loop.desk c.args.conn (Some c.in-Some.out) d)
    (sym c.in_ok-text.ensures.desk) c.in-Some.ensures.takes_out) c.in_ok-text.ensures.ok
    (elim c.if-any.branch [
      | then-any w ↦ any-then c.loop.any c.if-any.any (is_text c.in-Some.out) w.if-any.true w.any-is
      | else-any w ↦ any-else c.loop.any c.if-any.any (is_text c.in-Some.out) w.if-any.false (w.any-is ∙ c.in_ok-text.ensures.text)
    ])
