use Rattle.node_seats.proofs.Delivering.{turn-missed, turn-found}
use Rattle.node_seats.proofs.laws.turns_of_numbers_are_entries.Goals as goal

pub returns-clause-missed : goal.returns-clause-missed
returns-clause-missed c = turn-missed

pub returns-clause-found : goal.returns-clause-found
returns-clause-found c = turn-found
