use Rattle.conn_seat.proofs.Sitting.{sits-closing, sits-finish}
use Rattle.conn_seat.proofs.laws.finishes_are_entries.Goals as goal

pub returns-clause-closing : goal.returns-clause-closing
returns-clause-closing c = sits-closing

pub returns-clause-entry : goal.returns-clause-entry
returns-clause-entry c = sits-finish
