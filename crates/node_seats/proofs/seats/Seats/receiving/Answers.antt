use Rattle.std.proofs.Common.{◌≡◌, subst}
use Rattle.node_seats.specs.Numbers.{NodeSeats, receiving_among}
use Rattle.node_seats.proofs.Living.{live-receiving, receiving_of}
use Rattle.node_seats.proofs.seats.Seats.receiving.Goals as goal

pub loop-number-init : goal.loop-number-init
loop-number-init c =
    let gives = c.into_iter-number-iterator.ensures.into_iter_gives in
    rw (c.new-numbers.ensures.items, gives.0)
    (subst (λ (x : NodeSeats). receiving_of c.self.inside.live.keys x.entries ≡ receiving_among x.entries) c.self.view_is
    (live-receiving _ _ gives.4 c.self.invariant))
