use Rattle.std.proofs.Common.{◌≡◌, ap, ◌∙◌, arith}
use Rattle.std.proofs.lemmas.Bool.Decides.{nat_tests}
use Rattle.node_seats.specs.Numbers.{NodeSeats, live_among}
use Rattle.node_seats.proofs.Living.{live-count}
use Rattle.node_seats.proofs.seats.Seats.is_full.Goals as goal

pub returns : goal.returns
returns c =
    let count : c.len.result ≡ live_among c.args.self.now.entries =
    c.len.ensures.len ∙ live-count _ _ c.len.ensures.ordered c.self.invariant ∙ ap (λ (x : NodeSeats). live_among x.entries) c.self.view_is in
    rw count (grind (arith, nat_tests))
