use Rattle.conn_core.proofs.PlansApply.{plan-applies}
use Rattle.conn_core.proofs.laws.plans_can_be_applied.Goals as goal

pub returns : goal.returns
returns c = plan-applies
