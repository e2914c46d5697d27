use Rattle.std.proofs.Common.{◌≤◌, sym, ap, subst, arith}
use Rattle.conn_seat.specs.Outboxes.{OutboxState}
use Rattle.node_seats.proofs.Faces.{wrote}
use Rattle.node_seats.proofs.OneQueue.{queues-one, spends-one}
use Rattle.node_seats.proofs.Shown.{one-outbox, opened-same, outbox-found, outbox-missing, tidy-still}
use Rattle.node_seats.proofs.seats.Seats.queue.Goals as goal

pub queue-requires : goal.queue-requires
queue-requires c = subst (λ (o : OutboxState). 1 ≤ o.room) (outbox-found _ _ _ c.self.view_is _ (sym c.in-Some.ensures.value)) c.requires.room

pub invariant_of-self : goal.invariant_of-self
invariant_of-self c =
    let w = wrote c.args.more.conn.0 _ _ _ _ c.in-Some.ensures.value (c.get_mut.follows.holds c.queue.new.self).0 in
    tidy-still _ _ _ _ _ w _ c.queue.ensures.opened c.self.invariant

pub returns : goal.returns
returns c =
    let w = wrote c.args.more.conn.0 _ _ _ _ c.in-Some.ensures.value (c.get_mut.follows.holds c.queue.new.self).0 in
    let one = one-outbox _ _ _ _ _ w _ c.self.view_is in
    record {
      entries = opened-same _ _ _ _ _ w _ c.self.view_is c.queue.ensures.opened;
      queues = queues-one c.args.more _ _ _ _ one c.queue.ensures.queued;
      spends = spends-one c.args.more _ _ _ _ one c.queue.ensures.queued;
    }

pub unreachable-requires : goal.unreachable-requires
unreachable-requires c =
    let none = ap (λ (o : OutboxState). o.room) (outbox-missing c.args.more.conn.0 _ _ c.self.view_is (sym c.in_default.ensures.value)) in
    omega (arith, none, c.requires.room)
