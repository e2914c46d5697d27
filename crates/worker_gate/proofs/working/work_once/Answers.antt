use Rattle.std.proofs.Common.{rules, refl}
use Rattle.worker_gate.proofs.Ending.{stopped-once, worked}
use Rattle.worker_gate.proofs.working.work_once.Goals as goal

pub returns-in_err-end_work : goal.returns-in_err-end_work
returns-in_err-end_work g c =
    stopped-once _ _ _ _ (record { desk = c.take_next.new.self; store = c.args.store.now }) _ c.in-Some.job c.in-Ok.work c.from_residual-in_err-end_work.result
    (record { taken = (search rules); store_is = refl }) c.in-Ok.ensures.ok c.in_err-end_work.ensures c.from_residual-in_err-end_work.ensures.0

pub returns : goal.returns
returns g c =
    worked _ _ _ _ (record { desk = c.take_next.new.self; store = c.args.store.now }) _ c.in-Some.job c.in-Ok.work
    (record { taken = (search rules); store_is = refl }) c.in-Ok.ensures.ok c.in_ok-end_work.ensures
