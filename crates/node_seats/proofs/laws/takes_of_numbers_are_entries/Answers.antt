use Rattle.node_seats.proofs.Entries.{takes, takes-none}
use Rattle.node_seats.proofs.laws.takes_of_numbers_are_entries.Goals as goal

pub returns-clause-entry : goal.returns-clause-entry
returns-clause-entry c = takes

pub returns-clause-none : goal.returns-clause-none
returns-clause-none c = takes-none
