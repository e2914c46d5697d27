use Rattle.std.proofs.Common.{rules, ◌≡◌, ◌++◌, ◌∙◌, take, ap, refl}
use Rattle.cable_model.specs.Possible.{is_out}
use Rattle.node_turns.specs.Holding.{rows_bring}
use Rattle.node_turns.proofs.PlacingTurn.{places-new}
use Rattle.node_seats.specs.Outboxes.{forgotten_at, taken_at}
use Rattle.node_seats.specs.Turned.{Places}
use Rattle.node_seats.proofs.Rooming.{room-placed}
use Rattle.node_turns.specs.Wants.{confirms_of}
use Rattle.node_core.specs.Nodes.{NodeState}
use Rattle.node_core.specs.contracts.nodes.Node.{the_view}
use Rattle.poll_turn.specs.Notes.{note_in}
use Rattle.node_core.proofs.Asking.{expected, no-room}
use Rattle.node_core.proofs.Delivering.{delivers, roomy}
use Rattle.node_core.proofs.Refreshing.{looks-same}
use Rattle.node_core.proofs.StayingReady.{alike-roomier, alike-turned, goes-nowhere, goes-on, still-ready, still-so}
use Rattle.node_core.proofs.Logging.{logs}
use Rattle.node_core.proofs.nodes.Node.bring_in.Goals as goal

pub bring-requires : goal.bring-requires
bring-requires g c =
    let self = c.self.inside in
    let n : NodeState = the_view self in
    let e = rw (← c.self.view_is) at c.requires.expected in
    let x = expected c.args.caught n e in
    let h = c.self.invariant.stands in
    let news = places-new c.args.caught.number (note_in c.args.caught) _ _ _ _ _ _ h.legal x.out c.requires.found h.numbers h.wished h.held in
    record { new = rw c.taken.ensures news }

pub put_all-requires : goal.put_all-requires
put_all-requires g c = record {
  room = room-placed c.last.result c.taken-2.result.now c.in-Ok.brought.deliveries.items c.bring.new.seats.entries c.place_all.new.self.entries
      c.place_all.ensures.places c.in-Ok.ensures.room;
}

pub invariant_of-self : goal.invariant_of-self
invariant_of-self g c = record {
  stands = rw (c.in_default.ensures.err, c.in_default.ensures.outs) (roomy _ c.self.invariant.stands c.in_default.ensures.seats);
  turn_room = c.self.invariant.turn_room;
  ready = still-so c.self.inside.seats.entries c.bring.new.seats.entries _ _ (alike-roomier _ _ c.in_default.ensures.seats)
      c.self.invariant.ready c.in_default.ensures.ready;
}

pub invariant_of-self-2 : goal.invariant_of-self-2
invariant_of-self-2 g c =
    let self = c.self.inside in
    let n : NodeState = the_view self in
    let e = rw (← c.self.view_is) at c.requires.expected in
    let x = expected c.args.caught n e in
    let v = self.seats.entries in
    let ws = take self.wants.taken self.wants.wanted in
    let ds = c.in-Ok.brought.deliveries.items in
    let v1 = c.bring.new.seats.entries in
    let v2 = c.place_all.new.self.entries in
    let v3 = c.put_all.new.self.entries in
    let note : c.in-Ok.brought.note ≡ note_in c.args.caught = c.in-Ok.ensures.note in
    let pieces : ds ≡ rows_bring self.holders c.args.caught.rows ++ confirms_of v ws = rw (← c.taken.ensures) c.in-Ok.ensures.pieces in
    let places : Places c.args.caught.last ws v1 v2 = rw (← c.last.ensures, ← c.taken-2.ensures) c.place_all.ensures.places in
    let puts = c.put_all.ensures.delivers in
    let looked = rw c.deref.ensures.value at c.refresh_all.ensures in
    let look = looks-same _ _ _ _ _ c.in-Ok.ensures.conns.each looked in record {
      stands = rw (
        c.enter.ensures.entered,
        c.in-Ok.ensures.held,
        c.taken.ensures,
        c.drop_taken.ensures.wanted,
        c.drop_taken.ensures.taken,
        c.number-turn.ensures,
        note,
        c.put_all.ensures.outs,
        c.place_all.ensures.outs,
        c.in-Ok.ensures.outs,
      )
          (delivers c.args.caught _ v1 v2 v3 ds c.close.new.self c.self.invariant.stands x c.requires.found
          (search rules) pieces c.in-Ok.ensures.seats places puts c.close.ensures.closed);
      turn_room = no-room _ c.enter.new.self (ap is_out c.enter.ensures.entered);
      ready = still-ready v v3 _ _ _ _ (alike-turned c.args.caught.last _ ds v v1 v2 v3 c.in-Ok.ensures.seats places puts)
          c.self.invariant.ready c.in-Ok.ensures.ready look;
    }

pub returns-clause-goes : goal.returns-clause-goes
returns-clause-goes g c =
    let v = c.self.inside.seats.entries in
    let ws = take c.self.inside.wants.taken c.self.inside.wants.wanted in
    let ds = c.in-Ok.brought.deliveries.items in
    let v1 = c.bring.new.seats.entries in
    let v2 = c.place_all.new.self.entries in
    let v3 = c.put_all.new.self.entries in
    let places : Places c.args.caught.last ws v1 v2 = rw (← c.last.ensures, ← c.taken-2.ensures) c.place_all.ensures.places in
    let looked = rw c.deref.ensures.value at c.refresh_all.ensures in
    let look = looks-same _ _ _ _ _ c.in-Ok.ensures.conns.each looked in
    let outs : c.put_all.new.self.outs ≡ c.self.inside.seats.outs = c.put_all.ensures.outs ∙ (c.place_all.ensures.outs ∙ c.in-Ok.ensures.outs) in
    rw (← c.self.view_is)
    (goes-on _ _ v _ c.bring.new.ready.waiting (invariant_of-self-2 g c).stands (λ d. ap (taken_at d) outs) (λ d. ap (forgotten_at d) outs)
    (alike-turned c.args.caught.last _ ds v v1 v2 v3 c.in-Ok.ensures.seats places c.put_all.ensures.delivers) c.self.invariant.ready
    c.in-Ok.ensures.ready look
    (logs _ _ _ _ _ _ refl refl c.enter.ensures.kept c.enter.ensures.stored))

pub returns-in_default-clause-goes : goal.returns-in_default-clause-goes
returns-in_default-clause-goes g c = rw (← c.self.view_is) (goes-nowhere _ _ c.self.invariant.stands c.self.invariant.ready (search rules))
