use Rattle.conn_seat.proofs.Turning.{puts-on}
use Rattle.conn_seat.proofs.laws.room_plays_no_part.Goals as goal

pub returns-clause-put : goal.returns-clause-put
returns-clause-put c = puts-on
