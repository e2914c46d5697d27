use Rattle.conn_seat.proofs.Placing.{places-take}
use Rattle.conn_seat.proofs.laws.places_are_the_turns.Goals as goal

pub returns : goal.returns
returns c = places-take
