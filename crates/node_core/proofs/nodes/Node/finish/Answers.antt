use Rattle.std.proofs.Common.{rules, ◌≡◌, ◌<◌, ◌+◌, ◌-◌, ◌^◌, ◌∙◌, List, [], ◌∷◌, Some, None, sym, ap, subst, arith}
use Rattle.std.specs.Prelude.{option_map, vec_capacity}
use Rattle.cable_model.specs.Journal.{past_of}
use Rattle.cable_model.specs.Wants.{makes}
use Rattle.conn_seat.specs.Seats.{Seated}
use Rattle.conn_seat.specs.declared.outs.Out.{Out}
use Rattle.node_seats.specs.Outboxes.{Queues, all_on}
use Rattle.node_seats.specs.Numbers.{seat_in}
use Rattle.node_core.specs.Jobs.{Fits, WorkState}
use Rattle.node_core.specs.Nodes.{NodeState}
use Rattle.node_core.specs.contracts.nodes.Node.{the_view}
use Rattle.node_core.proofs.Finishes.{Ready, answered-out, finishes-as, ignoring, live-out, out-on, plan-out, ready}
use Rattle.node_core.proofs.Standing.{room-left}
use Rattle.node_core.proofs.StayingReady.{alike-finished, goes-nowhere, goes-on, still-ready}
use Rattle.node_core.proofs.Logging.{logs}
use Rattle.node_core.proofs.nodes.Node.finish.Goals as goal

pub make_room-requires : goal.make_room-requires
make_room-requires c =
    let self = c.self.inside in
    let n : NodeState = the_view self in
    let work = c.work.inside in
    let w : WorkState = record { node = work.node; conn = work.conn; place = work.place; task = work.task; plan = work.plan; puts = work.puts.items } in
    let f : Fits w n = rw (c.work.view_is, c.self.view_is) c.requires in
    record { live = live-out w.conn.0 w.place w.task _ c.self.inside.seats.entries c.self.invariant.stands.numbers (out-on w n f) }

pub unreachable-requires : goal.unreachable-requires
unreachable-requires c =
    let self = c.self.inside in
    let n : NodeState = the_view self in
    let work = c.work.inside in
    let w : WorkState = record { node = work.node; conn = work.conn; place = work.place; task = work.task; plan = work.plan; puts = work.puts.items } in
    let f : Fits w n = rw (c.work.view_is, c.self.view_is) c.requires in
    let h = c.self.invariant.stands in
    let capacity = vec_capacity work.puts in
    let before = past_of self.journal.kept in
    let v = self.seats.entries in
    let v1 = c.make_room.new.seats.entries in
    let prepares = c.in-Ok-make_room.ensures.prepares in
    let planned = plan-out w.conn.0 w.place w.task w.plan w.puts capacity before v c.work.invariant h.numbers (out-on w n f) in
    let answering = ignoring c.work.invariant.callbacks c.work.invariant.user in
    let is = ready answering w.conn.0 before w.plan v v1 h.legal h.numbers planned prepares in
    let e : Some is.0 ≡ None = sym (ap seat_in is.1.at) ∙ (sym c.get.ensures ∙ ap (option_map (λ s. s.now)) c.in_default-get.is) in
    cc e

pub put_change-requires-clause-numbers : goal.put_change-requires-clause-numbers
put_change-requires-clause-numbers c =
    let self = c.self.inside in
    let n : NodeState = the_view self in
    let work = c.work.inside in
    let w : WorkState = record { node = work.node; conn = work.conn; place = work.place; task = work.task; plan = work.plan; puts = work.puts.items } in
    let f : Fits w n = rw (c.work.view_is, c.self.view_is) c.requires in
    let h = c.self.invariant.stands in
    let capacity = vec_capacity work.puts in
    let before = past_of self.journal.kept in
    let v = self.seats.entries in
    let v1 = c.make_room.new.seats.entries in
    let prepares = c.in-Ok-make_room.ensures.prepares in
    let planned = plan-out w.conn.0 w.place w.task w.plan w.puts capacity before v c.work.invariant h.numbers (out-on w n f) in
    let answering = ignoring c.work.invariant.callbacks c.work.invariant.user in
    let is = ready answering w.conn.0 before w.plan v v1 h.legal h.numbers planned prepares in
    let e : Some c.in-Some.seat.now ≡ Some is.0 = c.in-Some.ensures ∙ ap seat_in is.1.at in
    let same : c.in-Some.seat.now ≡ is.0 = cc e in
    let few = subst (λ (s : Seated). s.made + makes w.plan.change < 2 ^ 64 - 1) (sym same) is.1.can.numbers in
    omega (arith, few)

pub finish-requires-clause-can : goal.finish-requires-clause-can
finish-requires-clause-can c =
    let self = c.self.inside in
    let n : NodeState = the_view self in
    let work = c.work.inside in
    let w : WorkState = record { node = work.node; conn = work.conn; place = work.place; task = work.task; plan = work.plan; puts = work.puts.items } in
    let f : Fits w n = rw (c.work.view_is, c.self.view_is) c.requires in
    let h = c.self.invariant.stands in
    let capacity = vec_capacity work.puts in
    let before = past_of self.journal.kept in
    let v = self.seats.entries in
    let v1 = c.make_room.new.seats.entries in
    let prepares = c.in-Ok-make_room.ensures.prepares in
    let planned = plan-out w.conn.0 w.place w.task w.plan w.puts capacity before v c.work.invariant h.numbers (out-on w n f) in
    let answering = ignoring c.work.invariant.callbacks c.work.invariant.user in
    let is = ready answering w.conn.0 before w.plan v v1 h.legal h.numbers planned prepares in
    (is.0, is.1.at, is.1.can)

pub invariant_of-self-2 : goal.invariant_of-self-2
invariant_of-self-2 c =
    let self = c.self.inside in
    let n : NodeState = the_view self in
    let work = c.work.inside in
    let w : WorkState = record { node = work.node; conn = work.conn; place = work.place; task = work.task; plan = work.plan; puts = work.puts.items } in
    let f : Fits w n = rw (c.work.view_is, c.self.view_is) c.requires in
    let h = c.self.invariant.stands in
    let capacity = vec_capacity work.puts in
    let before = past_of self.journal.kept in
    let v = self.seats.entries in
    let v1 = c.make_room.new.seats.entries in
    let prepares = c.in-Ok-make_room.ensures.prepares in
    let planned = plan-out w.conn.0 w.place w.task w.plan w.puts capacity before v c.work.invariant h.numbers (out-on w n f) in
    let answering = ignoring c.work.invariant.callbacks c.work.invariant.user in
    let is = ready answering w.conn.0 before w.plan v v1 h.legal h.numbers planned prepares in
    let e : Some c.in-Some.seat.now ≡ Some is.0 = c.in-Some.ensures ∙ ap seat_in is.1.at in
    let same : c.in-Some.seat.now ≡ is.0 = cc e in
    let at = subst (λ (s : Seated). Ready w.conn.0 before w.plan v1 s) (sym same) is.1 in
    let outs = c.make_room.new.seats.outs in
    let said = subst (λ (os : List Out). Queues (all_on w.conn os) outs c.finish.new.self.outs) c.in-Ok-make_room.ensures.outs c.finish.ensures.queues in
    let answered = answered-out w.conn.0 w.place w.task w.plan w.puts capacity before c.work.invariant (out-on w n f) in record {
      stands = rw (
        c.enter.ensures.entered,
        c.in-Ok-make_room.ensures.kept,
        c.of-puts.ensures,
        c.release.ensures,
        c.put_change.ensures.wanted,
        c.put_change.ensures.taken,
        c.in-Ok-make_room.ensures.wanted,
        c.in-Ok-make_room.ensures.wanted_taken,
      )
          (finishes-as answering w.conn w.place w.puts w.plan v1 c.finish.new.self.entries c.in-Some.seat.now outs c.finish.new.self.outs h f.out.place planned
          answered f.done prepares at c.finish.ensures.made c.in-Ok-make_room.ensures.queues said);
      turn_room = room-left _ c.make_room.new.journal c.enter.new.self
          c.in-Ok-make_room.ensures.log_room c.enter.ensures.spare;
      ready = still-ready v c.finish.new.self.entries (w.conn ∷ []) _ _ _ (alike-finished w.conn w.plan.change _ v1 _ prepares c.finish.ensures.made)
          c.self.invariant.ready c.reserve.ensures.same.waiting c.refresh.ensures.refreshes;
    }

pub returns-clause-goes : goal.returns-clause-goes
returns-clause-goes c =
    let queues = c.finish.ensures.queues in
    let roomy = c.in-Ok-make_room.ensures.queues in
    let v1 = c.make_room.new.seats.entries in
    let alike = alike-finished c.work.inside.conn c.work.inside.plan.change _ v1 _ c.in-Ok-make_room.ensures.prepares c.finish.ensures.made in
    rw (← c.self.view_is)
    (goes-on _ _ c.self.inside.seats.entries (c.work.inside.conn ∷ []) c.reserve.new.self.waiting (invariant_of-self-2 c).stands
    (λ d. queues.taken d ∙ roomy.taken d) (λ d. queues.forgotten d ∙ roomy.forgotten d)
    alike c.self.invariant.ready c.reserve.ensures.same.waiting c.refresh.ensures.refreshes
    (logs _ _ _ _ _ _ c.in-Ok-make_room.ensures.kept c.in-Ok-make_room.ensures.stored c.enter.ensures.kept c.enter.ensures.stored))

pub returns-in_default-clause-goes : goal.returns-in_default-clause-goes
returns-in_default-clause-goes c = rw (← c.self.view_is) (goes-nowhere _ _ c.self.invariant.stands c.self.invariant.ready (search rules))

pub returns-in_default-make_room-clause-goes : goal.returns-in_default-make_room-clause-goes
returns-in_default-make_room-clause-goes c = rw (← c.self.view_is) (goes-nowhere _ _ c.self.invariant.stands c.self.invariant.ready (search rules))
