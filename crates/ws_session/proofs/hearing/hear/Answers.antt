use Rattle.std.proofs.Common.{refl, sym}
use Rattle.std.proofs.lemmas.Result.{err_from_is_err_and}
use Rattle.ws_session.specs.declared.outcomes.PumpFault.TheVariants as fault
use Rattle.ws_session.proofs.HalfHeard.{asked-in-vain, got-given, got-kept, heard-in-vain, heard-on}
use Rattle.ws_session.proofs.hearing.hear.Goals as goal
use Rattle.ws_session.proofs.hearing.hear.Goals.{in-Some, in-None+in_ok-got-in-None}

pub returns-in_err-got-in-None-clause-err : goal.returns-in_err-got-in-None-clause-err
returns-in_err-got-in-None-clause-err g c =
    let p = err_from_is_err_and c.from_residual.result c.from_residual.ensures.1 in
    rw (p.1, p.2)
    (asked-in-vain _ c.args.conn c.args.kept.now _ c.in_err-got-in-None.field-0.0 c.take.new.self
    (record { link = c.ask.new.link; desk = c.ask.new.desk }) (sym c.in-None.ensures.value) c.take.ensures.after c.in_err-got-in-None.ensures.err)

pub returns-in_err-pass_on-clause-err : goal.returns-in_err-pass_on-clause-err
returns-in_err-pass_on-clause-err g c =
    let p = err_from_is_err_and c.from_residual-in_err-pass_on.result c.from_residual-in_err-pass_on.ensures.1 in
    rw (p.1, p.2)
    (heard-in-vain _ c.args.conn c.args.kept.now _ c.match-take.got
    (record { link = c.match-take.link; desk = c.match-take.desk }) c.in_err-pass_on.ensures.0 c.pass_on.new.kept
    c.in_err-pass_on.field-0.0 fault.OutOfMemory c.pass_on.new.desk
    (elim c.match-take.branch [
      | in-Some w ↦ got-kept _ c.args.kept.now _ c.match-take.got _ w.in-Some.text (sym w.in-Some.ensures.value) w.got-is w.link-is w.desk-is
      | in-None+in_ok-got-in-None w ↦ got-given _ c.args.kept.now _ c.match-take.got _ _ _ _
          (sym w.in-None.ensures.value) w.in_ok-got-in-None.ensures.ok w.in_ok-got-in-None.ensures.desk w.got-is w.link-is w.desk-is
    ])
    c.in_err-pass_on.ensures.1 refl)

pub returns-clause-ok : goal.returns-clause-ok
returns-clause-ok g c =
    heard-on _ c.args.conn c.args.kept.now _ c.match-take.got
    (record { link = c.match-take.link; desk = c.match-take.desk }) c.in_ok-pass_on.ensures.0 c.pass_on.new.kept c.heard_in-heard.result
    c.pass_on.new.desk
    (elim c.match-take.branch [
      | in-Some w ↦ got-kept _ c.args.kept.now _ c.match-take.got _ w.in-Some.text (sym w.in-Some.ensures.value) w.got-is w.link-is w.desk-is
      | in-None+in_ok-got-in-None w ↦ got-given _ c.args.kept.now _ c.match-take.got _ _ _ _
          (sym w.in-None.ensures.value) w.in_ok-got-in-None.ensures.ok w.in_ok-got-in-None.ensures.desk w.got-is w.link-is w.desk-is
    ])
    c.in_ok-pass_on.ensures.1 c.heard_in-heard.ensures
