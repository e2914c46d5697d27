use Rattle.std.proofs.Common.{refl, ap, ◌∙◌}
use Rattle.std.proofs.lemmas.Result.{on_ok_weaker, on_err_weaker}
use Rattle.node_seats.specs.Numbers.{NodeSeats, Opened, opened_at}
use Rattle.node_seats.specs.Slots.{numbers_of}
use Rattle.node_seats.proofs.Moving.{tidy-refused}
use Rattle.node_seats.proofs.OneQueue.{greets}
use Rattle.node_seats.proofs.Shown.{new-opened, new-outbox, risen, shown}
use Rattle.node_seats.proofs.seats.Seats.refuse.Goals as goal

pub invariant_of-self : goal.invariant_of-self
invariant_of-self c =
    let none = ap (λ (x : NodeSeats). opened_at c.args.conn.0 x.entries) c.self.view_is ∙ c.requires.unused in
    tidy-refused c.args.conn.0 _ _ _ c.keep.result none
    (on_ok_weaker c.keep.result (λ now. new-opened c.args.conn.0 _ Opened.Over _ _ _ refl now refl) c.keep.ensures.ok)
    (on_err_weaker c.keep.result (ap numbers_of) c.keep.ensures.err) (risen _ c.keep.ensures.rising) c.self.invariant

pub returns : goal.returns
returns c = record {
  ok = on_ok_weaker c.keep.result (λ now. new-opened c.args.conn.0 _ Opened.Over _ _ _ c.self.view_is now refl) c.keep.ensures.ok;
  queues =
      on_ok_weaker c.keep.result
      (λ now. greets c.args.conn c.args.greeting _ _ _ (new-outbox c.args.conn.0 _ _ _ _ c.self.view_is c.requires.unused now) c.in_ok-outbox.ensures)
      c.keep.ensures.ok;
  rising = on_ok_weaker c.keep.result (λ now. risen _ c.keep.ensures.rising) c.keep.ensures.ok;
  err = on_err_weaker c.keep.result (λ same. ap shown same ∙ c.self.view_is) c.keep.ensures.err;
}
