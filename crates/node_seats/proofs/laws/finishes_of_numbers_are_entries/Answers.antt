use Rattle.node_seats.proofs.Entries.{finishes}
use Rattle.node_seats.proofs.laws.finishes_of_numbers_are_entries.Goals as goal

pub returns : goal.returns
returns c = finishes
