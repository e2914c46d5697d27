use Rattle.std.proofs.Common.{rules, ◌∙◌, List, [], map, refl, sym, ap, subst}
use Rattle.node_core.specs.Nodes.{ping_of}
use Rattle.node_seats.specs.declared.queues.Queued.{Queued}
use Rattle.node_seats.specs.Numbers.{may_take_at}
use Rattle.node_seats.specs.Outboxes.{CanQueue}
use Rattle.node_core.proofs.Pinging.{receivers-opened}
use Rattle.node_core.proofs.Speaking.{beats, beat-room}
use Rattle.node_core.proofs.Refreshing.{looks-none}
use Rattle.node_core.proofs.Standing.{room-out, room-left}
use Rattle.node_core.proofs.StayingReady.{goes-nowhere, goes-on}
use Rattle.node_core.proofs.Logging.{logs}
use Rattle.node_core.proofs.nodes.Node.beat.Goals as goal

pub reserve_each-requires : goal.reserve_each-requires
reserve_each-requires c = record { opened = rw (c.deref-2.ensures.value, c.in_ok-conns.ensures) (receivers-opened c.self.inside.seats.entries) }

pub queue_all-requires : goal.queue_all-requires
queue_all-requires c =
    let enough = rw (c.deref-2.ensures.value, c.in_ok-conns.ensures) at c.in_ok-reserve_each.ensures.ok in
    let room = beat-room c.args.now.0 c.reserve_each.new.self.outs c.self.invariant.stands enough in
    record {
      room = subst (λ (qs : List Queued). CanQueue qs c.reserve_each.new.self.outs)
          (sym (c.in_ok-queued.ensures ∙ ap (map (ping_of c.args.now.0)) (c.deref.ensures.value ∙ c.in_ok-conns.ensures))) room;
    }

pub invariant_of-self-2 : goal.invariant_of-self-2
invariant_of-self-2 c =
    let said = rw (c.in_ok-queued.ensures, c.deref.ensures.value, c.in_ok-conns.ensures) at c.queue_all.ensures.queues in
    let roomy = room-out c.reserve_each.new.self.outs c.self.invariant.stands c.in_ok-reserve_each.ensures.same in record {
      stands = rw (c.enter.ensures.entered, c.in_ok-reserve.ensures.kept, c.queue_all.ensures.entries, c.in_ok-reserve_each.ensures.entries)
          (beats c.args.now.0 _ roomy said);
      turn_room = room-left _ c.reserve.new.self c.enter.new.self
          c.in_ok-reserve.ensures.room c.enter.ensures.spare;
      ready = rw (c.queue_all.ensures.entries, c.in_ok-reserve_each.ensures.entries) c.self.invariant.ready;
    }

pub returns-clause-goes : goal.returns-clause-goes
returns-clause-goes c =
    let entries = c.queue_all.ensures.entries ∙ c.in_ok-reserve_each.ensures.entries in
    rw (← c.self.view_is)
    (goes-on _ _ c.self.inside.seats.entries [] c.self.inside.ready.waiting (invariant_of-self-2 c).stands
    (λ d. c.queue_all.ensures.queues.taken d ∙ c.in_ok-reserve_each.ensures.same.taken d)
    (λ d. c.queue_all.ensures.queues.forgotten d ∙ c.in_ok-reserve_each.ensures.same.forgotten d)
    (λ d e. ap (may_take_at d.0) entries) c.self.invariant.ready refl
    (looks-none _ _ _ refl)
    (logs _ _ _ _ _ _ c.in_ok-reserve.ensures.kept c.in_ok-reserve.ensures.stored c.enter.ensures.kept c.enter.ensures.stored))

pub returns-in_err-conns-clause-goes : goal.returns-in_err-conns-clause-goes
returns-in_err-conns-clause-goes c = rw (← c.self.view_is) (goes-nowhere _ _ c.self.invariant.stands c.self.invariant.ready (search rules))

pub returns-in_err-queued-clause-goes : goal.returns-in_err-queued-clause-goes
returns-in_err-queued-clause-goes c = rw (← c.self.view_is) (goes-nowhere _ _ c.self.invariant.stands c.self.invariant.ready (search rules))

pub returns-in_err-reserve_each-clause-goes : goal.returns-in_err-reserve_each-clause-goes
returns-in_err-reserve_each-clause-goes c = rw (← c.self.view_is) (goes-nowhere _ _ c.self.invariant.stands c.self.invariant.ready (search rules))

pub returns-in_err-reserve-clause-goes : goal.returns-in_err-reserve-clause-goes
returns-in_err-reserve-clause-goes c = rw (← c.self.view_is) (goes-nowhere _ _ c.self.invariant.stands c.self.invariant.ready (search rules))
