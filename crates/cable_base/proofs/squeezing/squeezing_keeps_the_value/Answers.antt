use Rattle.cable_base.proofs.SameReading.{read-squeezed, IsSqueezedJson-squeezed}
use Rattle.cable_base.proofs.squeezing.squeezing_keeps_the_value.Goals as goal

pub returns-clause-value : goal.returns-clause-value
returns-clause-value c = read-squeezed

pub returns-clause-squeezed : goal.returns-clause-squeezed
returns-clause-squeezed c = IsSqueezedJson-squeezed
