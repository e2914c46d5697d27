use Rattle.cable_laws.proofs.CommandFaults.{answered, broken}
use Rattle.cable_laws.proofs.commands.commands_have_their_first_fault.Goals as goal

pub returns : goal.returns
returns c = λ text f. (broken text f, answered text f)
