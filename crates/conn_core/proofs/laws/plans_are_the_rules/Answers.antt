use Rattle.std.proofs.Common.{ap}
use Rattle.cable_model.specs.Plans.{plan_for}
use Rattle.conn_core.proofs.MarkedTasks.{marked-task}
use Rattle.conn_core.proofs.laws.plans_are_the_rules.Goals as goal

pub returns : goal.returns
returns c = λ marks k d callbacks user p m. ap (plan_for callbacks user) (marked-task marks k d p m)
