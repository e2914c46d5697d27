use Rattle.cable_base.proofs.Rises.{increasing-rises}
use Rattle.cable_model.proofs.Delivered.{id_of}
use Rattle.cable_laws.proofs.Windows.{windows}
use Rattle.cable_laws.proofs.histories.finished_rows_are_the_window.Goals as goal

pub returns : goal.returns
returns c = λ pl reads rows conn s w past ids a l. let rise = increasing-rises id_of 0 rows ids in windows pl reads rows rise.0 conn s w past rise.1 a l
