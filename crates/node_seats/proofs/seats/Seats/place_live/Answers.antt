use Rattle.node_seats.proofs.Composing.{places-one}
use Rattle.node_seats.proofs.seats.Seats.place_live.Goals as goal

pub returns-then-is_some-clause-places : goal.returns-then-is_some-clause-places
returns-then-is_some-clause-places c = places-one c.args.mark c.args.wanted.now _ _ c.place.ensures.placed
