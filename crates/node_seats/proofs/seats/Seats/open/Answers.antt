use Rattle.std.specs.Prelude.{is_some}
use Rattle.std.proofs.Common.{Option, refl, sym, ap, subst, ◌∙◌, arith}
use Rattle.node_seats.specs.Numbers.{NodeSeats, Opened, opened_at, seat_in}
use Rattle.node_seats.specs.Outboxes.{Greets}
use Rattle.node_seats.proofs.Composing.{becomes-on}
use Rattle.node_seats.proofs.Moving.{tidy-opened}
use Rattle.node_seats.proofs.OneQueue.{greets}
use Rattle.node_seats.proofs.Shown.{new-opened, new-outbox, risen}
use Rattle.node_seats.proofs.seats.Seats.open.Goals as goal

pub keep_live-requires : goal.keep_live-requires
keep_live-requires c =
    let none = ap (λ (x : NodeSeats). opened_at c.args.conn.0 x.entries) c.self.view_is ∙ c.requires.unused in
    c.self.invariant.indexed c.args.conn.0 ∙ ap (λ (o : Option Opened). is_some (seat_in o)) none

pub invariant_of-self-2 : goal.invariant_of-self-2
invariant_of-self-2 c =
    let now = new-opened c.args.conn.0 _ _ _ _ _ refl c.in_ok-keep_live.ensures.ok c.in_ok-slot.ensures.seat in
    tidy-opened c.args.conn.0 _ _ c.reserve.new.self _ _ now (risen _ c.in_ok-keep_live.ensures.rising) c.in_ok-keep_live.ensures.entered
    (λ unshut. omega (arith, c.in_ok-reserve.ensures.ok)) c.self.invariant

pub returns-clause-ok : goal.returns-clause-ok
returns-clause-ok c = (
  c.reserve.new.self,
  becomes-on _ _ _ c.in_ok-seat.ensures c.in_ok-reserve.ensures.same,
  new-opened c.args.conn.0 _ _ _ _ _ c.self.view_is c.in_ok-keep_live.ensures.ok c.in_ok-slot.ensures.seat,
)

pub returns-clause-queues : goal.returns-clause-queues
returns-clause-queues c =
    greets c.args.conn c.args.greeting _ _ _ (new-outbox c.args.conn.0 _ _ _ _ c.self.view_is c.requires.unused c.in_ok-keep_live.ensures.ok)
    (subst (Greets c.args.greeting) (sym c.in_ok-slot.ensures.outbox) c.in_ok-outbox.ensures)

pub returns-clause-rising : goal.returns-clause-rising
returns-clause-rising c = risen _ c.in_ok-keep_live.ensures.rising
