use Rattle.conn_seat.proofs.Turning.{sits-missed, sits-found}
use Rattle.conn_seat.proofs.laws.turns_are_entries.Goals as goal

pub returns-clause-missed : goal.returns-clause-missed
returns-clause-missed c = sits-missed

pub returns-clause-found : goal.returns-clause-found
returns-clause-found c = sits-found
