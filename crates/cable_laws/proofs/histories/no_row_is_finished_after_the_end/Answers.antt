use Rattle.cable_laws.proofs.Ending.{none-after-end}
use Rattle.cable_laws.proofs.histories.no_row_is_finished_after_the_end.Goals as goal

pub returns : goal.returns
returns c = none-after-end
