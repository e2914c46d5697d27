use Rattle.std.proofs.Common.{ℕ, sym, ap, ◌∙◌}
use Rattle.std.specs.BTreeMap.{BTreeMap}
use Rattle.node_seats.specs.declared.slots.Slot.{Slot}
use Rattle.node_seats.specs.Numbers.{NodeSeats}
use Rattle.node_seats.proofs.Faces.{wrote}
use Rattle.node_seats.proofs.OneQueue.{takes, takes-none}
use Rattle.node_seats.proofs.Shown.{one-outbox, opened-same, outbox-missing, outbox-same, shown, tidy-still}
use Rattle.node_seats.proofs.seats.Seats.take_out.Goals as goal

pub invariant_of-self-2 : goal.invariant_of-self-2
invariant_of-self-2 c =
    let w = wrote c.args.conn.0 _ _ _ _ c.in_ok-get_mut.ensures.value (c.get_mut.follows.holds c.take_out.new.self).0 in
    tidy-still _ _ _ _ _ w _ c.take_out.ensures.opened c.self.invariant

pub returns : goal.returns
returns c =
    let w = wrote c.args.conn.0 _ _ _ _ c.in_ok-get_mut.ensures.value (c.get_mut.follows.holds c.take_out.new.self).0 in
    record {
      entries = opened-same _ _ _ _ _ w _ c.self.view_is c.take_out.ensures.opened;
      out = takes _ _ _ _ _ (one-outbox _ _ _ _ _ w _ c.self.view_is) c.take_out.result c.take_out.ensures.taken (outbox-same _ _ _ _ _ w _ c.self.view_is);
    }

pub returns-in_err-get_mut-clause-out : goal.returns-in_err-get_mut-clause-out
returns-in_err-get_mut-clause-out c =
    takes-none c.args.conn.0 _ _ _ c.from_residual.ensures (outbox-missing c.args.conn.0 _ _ c.self.view_is (sym c.in_err-get_mut.ensures.value))
    (ap (λ (m : BTreeMap ℕ Slot). (shown m.entries).outs) c.get_mut.follows.holds-at-none ∙ ap (λ (x : NodeSeats). x.outs) c.self.view_is)
