use Rattle.node_seats.proofs.Opening.{opened-with, refused}
use Rattle.node_seats.proofs.laws.opens_are_entries.Goals as goal

pub returns-clause-user : goal.returns-clause-user
returns-clause-user c = opened-with

pub returns-clause-refused : goal.returns-clause-refused
returns-clause-refused c = refused
