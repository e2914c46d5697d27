use Rattle.conn_seat.proofs.Sitting.{sits-text, sits-gone, sits-restart}
use Rattle.conn_seat.proofs.laws.puts_are_entries.Goals as goal

pub returns-clause-text : goal.returns-clause-text
returns-clause-text c = sits-text

pub returns-clause-gone : goal.returns-clause-gone
returns-clause-gone c = sits-gone

pub returns-clause-restart : goal.returns-clause-restart
returns-clause-restart c = sits-restart
