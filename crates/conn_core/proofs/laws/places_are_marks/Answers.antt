use Rattle.conn_core.proofs.MarkedSteps.{marked-place}
use Rattle.conn_core.proofs.laws.places_are_marks.Goals as goal

pub returns : goal.returns
returns c = marked-place
