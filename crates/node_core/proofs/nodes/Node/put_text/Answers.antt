use Rattle.std.proofs.Common.{rules, ◌∙◌, [], ◌∷◌, ap, subst}
use Rattle.cable_model.specs.declared.pieces.Piece.{Piece}
use Rattle.conn_seat.specs.Seats.{Becomes, with_piece}
use Rattle.node_seats.specs.Numbers.{Moves, Lives}
use Rattle.node_seats.specs.Outboxes.{forgotten_at, taken_at}
use Rattle.node_core.proofs.StayingReady.{alike-moved, alike-room, goes-nowhere, goes-on, still-ready, still-so}
use Rattle.node_core.proofs.Telling.{worked, fault-at, fault-seat}
use Rattle.node_core.proofs.Standing.{arrives, room-in, room-stays, room-left}
use Rattle.node_core.proofs.Logging.{logs}
use Rattle.node_core.proofs.nodes.Node.put_text.Goals as goal

pub put-requires : goal.put-requires
put-requires c =
    let none = rw (← c.self.view_is) at c.requires in
    let fault = fault-at _ c.self.inside.seats.entries c.args.conn.0 c.args.text.now (worked _ c.self.invariant.stands.legal) c.self.invariant.stands.numbers in
    record { live = fault-seat _ c.args.text.now (fault ∙ none) }

pub invariant_of-self-in_err-put : goal.invariant_of-self-in_err-put
invariant_of-self-in_err-put c = record {
  stands = rw (c.in_ok-reserve-2.ensures.kept, c.in_err-put.ensures.outs) (room-in c.args.conn.0 _ c.self.invariant.stands c.in_err-put.ensures.err);
  turn_room = room-stays c.self.inside.journal c.reserve-2.new.self c.self.invariant.turn_room
      c.in_ok-reserve-2.ensures.kept c.in_ok-reserve-2.ensures.stays;
  ready = still-so c.self.inside.seats.entries c.put.new.self.entries _ _ (alike-room c.args.conn.0 _ _ c.in_err-put.ensures.err)
      c.self.invariant.ready c.in_ok-reserve.ensures.same.waiting;
}

pub invariant_of-self-2 : goal.invariant_of-self-2
invariant_of-self-2 c =
    let none = rw (← c.self.view_is) at c.requires in
    let moved = subst (λ (p : Piece). Moves c.args.conn.0 (Lives (λ s t. Becomes (with_piece p s) t)) c.self.inside.seats.entries c.put.new.self.entries)
    c.in_ok-piece.ensures c.in_ok-put.ensures.ok in record {
      stands = rw (c.enter.ensures.entered, c.in_ok-reserve-2.ensures.kept, c.in_ok-text.ensures, c.in_ok-put.ensures.outs)
          (arrives c.args.conn.0 c.args.text.now _ c.self.invariant.stands none moved);
      turn_room = room-left _ c.reserve-2.new.self c.enter.new.self
          c.in_ok-reserve-2.ensures.room c.enter.ensures.spare;
      ready = still-ready c.self.inside.seats.entries c.put.new.self.entries (c.args.conn ∷ []) _ _ _ (alike-moved c.args.conn _ _ _ c.in_ok-put.ensures.ok)
          c.self.invariant.ready c.in_ok-reserve.ensures.same.waiting c.refresh.ensures.refreshes;
    }

pub returns-clause-goes : goal.returns-clause-goes
returns-clause-goes c =
    rw (← c.self.view_is)
    (goes-on _ _ c.self.inside.seats.entries (c.args.conn ∷ []) c.reserve.new.self.waiting (invariant_of-self-2 c).stands
    (λ d. ap (taken_at d) c.in_ok-put.ensures.outs) (λ d. ap (forgotten_at d) c.in_ok-put.ensures.outs)
    (alike-moved c.args.conn _ _ _ c.in_ok-put.ensures.ok) c.self.invariant.ready c.in_ok-reserve.ensures.same.waiting c.refresh.ensures.refreshes
    (logs _ _ _ _ _ _ c.in_ok-reserve-2.ensures.kept c.in_ok-reserve-2.ensures.stored c.enter.ensures.kept c.enter.ensures.stored))

pub returns-in_err-piece-clause-goes : goal.returns-in_err-piece-clause-goes
returns-in_err-piece-clause-goes c = rw (← c.self.view_is) (goes-nowhere _ _ c.self.invariant.stands c.self.invariant.ready (search rules))

pub returns-in_err-text-clause-goes : goal.returns-in_err-text-clause-goes
returns-in_err-text-clause-goes c = rw (← c.self.view_is) (goes-nowhere _ _ c.self.invariant.stands c.self.invariant.ready (search rules))

pub returns-in_err-reserve-clause-goes : goal.returns-in_err-reserve-clause-goes
returns-in_err-reserve-clause-goes c = rw (← c.self.view_is) (goes-nowhere _ _ c.self.invariant.stands c.self.invariant.ready (search rules))

pub returns-in_err-reserve-2-clause-goes : goal.returns-in_err-reserve-2-clause-goes
returns-in_err-reserve-2-clause-goes c = rw (← c.self.view_is) (goes-nowhere _ _ c.self.invariant.stands c.self.invariant.ready (search rules))

pub returns-in_err-put-clause-goes : goal.returns-in_err-put-clause-goes
returns-in_err-put-clause-goes c = rw (← c.self.view_is) (goes-nowhere _ _ c.self.invariant.stands c.self.invariant.ready (search rules))
