use Rattle.node_seats.proofs.Entries.{rooms, prepares, texts, drops}
use Rattle.node_seats.proofs.Opening.{stops}
use Rattle.node_seats.proofs.laws.puts_on_numbers_are_entries.Goals as goal

pub returns-clause-room : goal.returns-clause-room
returns-clause-room c = rooms

pub returns-clause-plan : goal.returns-clause-plan
returns-clause-plan c = prepares

pub returns-clause-text : goal.returns-clause-text
returns-clause-text c = texts

pub returns-clause-gone : goal.returns-clause-gone
returns-clause-gone c = drops

pub returns-clause-stop : goal.returns-clause-stop
returns-clause-stop c = stops
