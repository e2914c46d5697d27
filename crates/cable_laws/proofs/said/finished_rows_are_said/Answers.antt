use Rattle.cable_laws.proofs.RowsSaid.{rows-said, events-say}
use Rattle.cable_laws.proofs.said.finished_rows_are_said.Goals as goal

pub returns : goal.returns
returns c = record { journal = rows-said; event = events-say }
