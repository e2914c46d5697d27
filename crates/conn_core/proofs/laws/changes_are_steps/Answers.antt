use Rattle.conn_core.proofs.MarkedSteps.{marked-step}
use Rattle.conn_core.proofs.laws.changes_are_steps.Goals as goal

pub returns : goal.returns
returns c = marked-step
