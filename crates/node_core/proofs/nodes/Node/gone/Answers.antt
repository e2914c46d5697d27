use Rattle.std.proofs.Common.{rules, ◌∙◌, [], ◌∷◌, sym, ap}
use Rattle.node_seats.specs.Outboxes.{forgotten_at, taken_at}
use Rattle.node_core.proofs.StayingReady.{alike-moved, goes-nowhere, goes-on, still-ready}
use Rattle.node_core.proofs.Telling.{worked, receiving-at}
use Rattle.node_core.proofs.Standing.{goes, room-left}
use Rattle.node_core.proofs.Logging.{logs}
use Rattle.node_core.proofs.nodes.Node.gone.Goals as goal

pub returns-then-not-is_receiving-clause-answer : goal.returns-then-not-is_receiving-clause-answer
returns-then-not-is_receiving-clause-answer c =
    rw (← c.self.view_is)
    (sym (sym c.is_receiving.ensures ∙ c.if-not-is_receiving.true)
    ∙ receiving-at _ c.self.inside.seats.entries c.args.conn.0 (worked _ c.self.invariant.stands.legal) c.self.invariant.stands.numbers)

pub invariant_of-self-2 : goal.invariant_of-self-2
invariant_of-self-2 c =
    let is = receiving-at _ c.self.inside.seats.entries c.args.conn.0 (worked _ c.self.invariant.stands.legal) c.self.invariant.stands.numbers in record {
      stands = rw (c.enter.ensures.entered, c.in_ok-reserve-2.ensures.kept, c.in_ok-put.ensures.outs)
          (goes c.args.conn.0 _ c.self.invariant.stands (sym is ∙ (sym c.is_receiving.ensures ∙ c.if-not-is_receiving.false)) c.in_ok-put.ensures.ok);
      turn_room = room-left _ c.reserve-2.new.self c.enter.new.self
          c.in_ok-reserve-2.ensures.room c.enter.ensures.spare;
      ready = still-ready c.self.inside.seats.entries c.put.new.self.entries (c.args.conn ∷ []) _ _ _ (alike-moved c.args.conn _ _ _ c.in_ok-put.ensures.ok)
          c.self.invariant.ready c.in_ok-reserve.ensures.same.waiting c.refresh.ensures.refreshes;
    }

pub returns-clause-answer : goal.returns-clause-answer
returns-clause-answer c =
    rw (← c.self.view_is)
    (sym (sym c.is_receiving.ensures ∙ c.if-not-is_receiving.false)
    ∙ receiving-at _ c.self.inside.seats.entries c.args.conn.0 (worked _ c.self.invariant.stands.legal) c.self.invariant.stands.numbers)

pub returns-clause-goes : goal.returns-clause-goes
returns-clause-goes c =
    rw (← c.self.view_is)
    (goes-on _ _ c.self.inside.seats.entries (c.args.conn ∷ []) c.reserve.new.self.waiting (invariant_of-self-2 c).stands
    (λ d. ap (taken_at d) c.in_ok-put.ensures.outs) (λ d. ap (forgotten_at d) c.in_ok-put.ensures.outs)
    (alike-moved c.args.conn _ _ _ c.in_ok-put.ensures.ok) c.self.invariant.ready c.in_ok-reserve.ensures.same.waiting c.refresh.ensures.refreshes
    (logs _ _ _ _ _ _ c.in_ok-reserve-2.ensures.kept c.in_ok-reserve-2.ensures.stored c.enter.ensures.kept c.enter.ensures.stored))

pub returns-then-not-is_receiving-clause-goes : goal.returns-then-not-is_receiving-clause-goes
returns-then-not-is_receiving-clause-goes c = rw (← c.self.view_is) (goes-nowhere _ _ c.self.invariant.stands c.self.invariant.ready (search rules))

pub returns-in_err-reserve-clause-goes : goal.returns-in_err-reserve-clause-goes
returns-in_err-reserve-clause-goes c = rw (← c.self.view_is) (goes-nowhere _ _ c.self.invariant.stands c.self.invariant.ready (search rules))

pub returns-in_err-reserve-2-clause-goes : goal.returns-in_err-reserve-2-clause-goes
returns-in_err-reserve-2-clause-goes c = rw (← c.self.view_is) (goes-nowhere _ _ c.self.invariant.stands c.self.invariant.ready (search rules))
