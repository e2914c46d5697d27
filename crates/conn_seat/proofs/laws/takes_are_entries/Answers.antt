use Rattle.conn_seat.proofs.Sitting.{sits-take}
use Rattle.conn_seat.proofs.laws.takes_are_entries.Goals as goal

pub returns : goal.returns
returns c = sits-take
