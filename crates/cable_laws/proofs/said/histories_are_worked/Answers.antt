use Rattle.cable_laws.proofs.Finishes.{history-worked}
use Rattle.cable_laws.proofs.said.histories_are_worked.Goals as goal

pub returns : goal.returns
returns c = history-worked
