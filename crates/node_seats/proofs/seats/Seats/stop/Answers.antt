use Rattle.std.proofs.Common.{ap, ◌∙◌, subst}
use Rattle.node_seats.specs.Numbers.{NodeSeats, Stops}
use Rattle.node_seats.specs.Outboxes.{OutboxesState}
use Rattle.node_seats.specs.Slots.{numbers_of}
use Rattle.node_seats.proofs.seats.Seats.stop.Goals as goal

pub returns : goal.returns
returns c = record {
  stops = subst (λ (x : NodeSeats). Stops x.entries (numbers_of c.restart_all.new.by_number.entries)) c.self.view_is c.restart_all.ensures.stops;
  outs =
      ap (λ es. let v : OutboxesState = record { entries = es } in v) c.restart_all.ensures.outs ∙ ap (λ (x : NodeSeats). x.outs) c.self.view_is;
}
