use Rattle.cable_script.proofs.FirstFaults.{answered, broken}
use Rattle.cable_script.proofs.laws.lines_have_their_first_fault.Goals as goal

pub returns : goal.returns
returns c = λ line f. (broken line f, answered line f)
