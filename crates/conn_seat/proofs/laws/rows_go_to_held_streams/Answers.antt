use Rattle.conn_seat.proofs.Placing.{rows-get}
use Rattle.conn_seat.proofs.laws.rows_go_to_held_streams.Goals as goal

pub returns : goal.returns
returns c = rows-get
