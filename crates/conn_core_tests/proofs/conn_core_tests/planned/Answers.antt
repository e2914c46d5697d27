use Rattle.conn_core_tests.proofs.Working.{plan-can}
use Rattle.conn_core_tests.proofs.conn_core_tests.planned.Goals as goal

pub returns : goal.returns
returns g c =
    plan-can (g.C.Callbacks.answers c.args.app.now) c.user.result.now c.args.conn.now.subs c.in_ok-subscribe.field-0
    c.in_ok-task.task c.in_ok-plan.field-0 c.in_ok-task.ensures c.in_ok-plan.ensures.plan
