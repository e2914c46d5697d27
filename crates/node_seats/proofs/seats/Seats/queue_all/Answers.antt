use Rattle.std.proofs.Common.{◌≡◌, ◌++◌, [], List, sym, ap, subst, ◌∙◌, arith, append-nil, drop_of_length-le}
use Rattle.node_seats.specs.declared.queues.Queued.{Queued}
use Rattle.node_seats.specs.Outboxes.{CanQueue, queue_at, outs_for}
use Rattle.node_seats.proofs.Queueing.{room-first, room-rest, queue-rest}
use Rattle.node_seats.proofs.seats.Seats.queue_all.Goals as goal

pub queue-requires : goal.queue-requires
queue-requires c = record {
  room = room-first c.in-Some.one c.next.new.self.rest.items c.loop-one.self.outs
      (subst (λ (qs : List Queued). CanQueue qs c.loop-one.self.outs) c.in-Some.ensures.steps.0 c.loop-one.invariant.room);
}

pub loop-one-preserved : goal.loop-one-preserved
loop-one-preserved c =
    let one = c.in-Some.one in
    let rest : List Queued = c.next.new.self.rest.items in
    let old = c.loop-one.self.outs in
    let new = c.queue.new.self.outs in
    let steps = c.in-Some.ensures.steps.0 in
    record {
      entries = c.queue.ensures.entries ∙ c.loop-one.invariant.entries;
      room = room-rest one rest old new c.queue.ensures.spends (subst (λ (qs : List Queued). CanQueue qs old) steps c.loop-one.invariant.room);
      queue = λ d. queue-rest one rest old new c.queue.ensures.queues d ∙ ap (λ qs. queue_at d old ++ outs_for d qs) (sym steps) ∙ c.loop-one.invariant.queue d;
      taken = λ d. c.queue.ensures.queues.taken d ∙ c.loop-one.invariant.taken d;
      forgotten = λ d. c.queue.ensures.queues.forgotten d ∙ c.loop-one.invariant.forgotten d;
    }

pub returns : goal.returns
returns c =
    let rest = c.loop-one.one-iterator.rest in
    let last = c.loop-one.self.outs in
    let none : rest.items ≡ [] = drop_of_length-le rest.items {i = 0} (omega (arith, c.in-None.ensures.steps.0)) in
    record {
      entries = c.loop-one.invariant.entries;
      queues = record {
        queue = λ d. sym (append-nil (queue_at d last)) ∙ ap (λ qs. queue_at d last ++ outs_for d qs) (sym none) ∙ c.loop-one.invariant.queue d;
        taken = c.loop-one.invariant.taken;
        forgotten = c.loop-one.invariant.forgotten;
      };
    }
