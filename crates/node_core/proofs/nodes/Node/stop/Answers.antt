use Rattle.std.proofs.Common.{rules, ap}
use Rattle.node_seats.specs.Outboxes.{forgotten_at, taken_at}
use Rattle.node_core.proofs.StayingReady.{alike-stopped, goes-nowhere, goes-on, still-ready}
use Rattle.node_core.proofs.Standing.{restarts, room-left}
use Rattle.node_core.proofs.Logging.{logs}
use Rattle.node_core.proofs.nodes.Node.stop.Goals as goal

pub invariant_of-self-2 : goal.invariant_of-self-2
invariant_of-self-2 c =
    let look = rw (c.deref.ensures.value, c.in_ok-conns.ensures) at c.refresh_all.ensures in record {
      stands = rw (c.enter.ensures.entered, c.in_ok-reserve-2.ensures.kept, c.stop.ensures.outs) (restarts _ c.self.invariant.stands c.stop.ensures.stops);
      turn_room = room-left _ c.reserve-2.new.self c.enter.new.self
          c.in_ok-reserve-2.ensures.room c.enter.ensures.spare;
      ready = still-ready c.self.inside.seats.entries c.stop.new.self.entries _ _ _ _
          (alike-stopped _ _ _ c.self.invariant.stands.numbers c.stop.ensures.stops) c.self.invariant.ready c.in_ok-reserve.ensures.same.waiting look;
    }

pub returns-clause-goes : goal.returns-clause-goes
returns-clause-goes c =
    let look = rw (c.deref.ensures.value, c.in_ok-conns.ensures) at c.refresh_all.ensures in
    rw (← c.self.view_is)
    (goes-on _ _ c.self.inside.seats.entries _ c.reserve.new.self.waiting (invariant_of-self-2 c).stands
    (λ d. ap (taken_at d) c.stop.ensures.outs) (λ d. ap (forgotten_at d) c.stop.ensures.outs)
    (alike-stopped _ _ _ c.self.invariant.stands.numbers c.stop.ensures.stops) c.self.invariant.ready c.in_ok-reserve.ensures.same.waiting look
    (logs _ _ _ _ _ _ c.in_ok-reserve-2.ensures.kept c.in_ok-reserve-2.ensures.stored c.enter.ensures.kept c.enter.ensures.stored))

pub returns-in_err-conns-clause-goes : goal.returns-in_err-conns-clause-goes
returns-in_err-conns-clause-goes c = rw (← c.self.view_is) (goes-nowhere _ _ c.self.invariant.stands c.self.invariant.ready (search rules))

pub returns-in_err-reserve-clause-goes : goal.returns-in_err-reserve-clause-goes
returns-in_err-reserve-clause-goes c = rw (← c.self.view_is) (goes-nowhere _ _ c.self.invariant.stands c.self.invariant.ready (search rules))

pub returns-in_err-reserve-2-clause-goes : goal.returns-in_err-reserve-2-clause-goes
returns-in_err-reserve-2-clause-goes c = rw (← c.self.view_is) (goes-nowhere _ _ c.self.invariant.stands c.self.invariant.ready (search rules))
