use Rattle.std.proofs.Common.{◌≡◌, Option, Some, sym, ◌∙◌}
use Rattle.cable_model.specs.declared.plans.Change.{Change}
use Rattle.conn_seat.specs.Seats.{Seated, CanFinish}
use Rattle.node_seats.specs.Numbers.{Finished, Opened}
use Rattle.node_seats.proofs.Faces.{wrote}
use Rattle.node_seats.proofs.Moving.{tidy, tidy-over}
use Rattle.node_seats.proofs.Shown.{moved-by, on-opened, one-outbox, opened-found, opened-missing, outbox-found}
use Rattle.node_seats.proofs.OneQueue.{queues-all}
use Rattle.node_seats.proofs.seats.Seats.finish.Goals as goal

can-finish : (change : Change) (kept : Opened) (o : Option Opened) → o ≡ Some kept → ((s : Seated) × (o ≡ Some (Opened.Live s)) × CanFinish change s)
    → (s : Seated) × (kept ≡ Opened.Live s) × CanFinish change s
can-finish change kept o found can =
    let is : Some kept ≡ Some (Opened.Live can.0) = sym found ∙ can.1 in let same : kept ≡ Opened.Live can.0 = cc is in (can.0, same, can.2)

pub finish-requires : goal.finish-requires
finish-requires c =
    let found = opened-found _ _ _ c.self.view_is _ (sym c.in-Some.ensures.value) in
    record {
      can = can-finish _ _ _ found c.requires.can;
      room = rw (sym (outbox-found _ _ _ c.self.view_is _ (sym c.in-Some.ensures.value))) c.requires.room;
    }

pub invariant_of-self : goal.invariant_of-self
invariant_of-self c =
    let w = wrote c.args.conn.0 _ _ _ _ c.in-Some.ensures.value (c.get_mut.follows.holds c.finish.new.self).0 in
    tidy-over c.args.conn.0 _ _ _ _ _ _ (on-opened _ _ _ _ _ w) (c.finish.ensures.over.0 c.if-finish.true)
    c.remove.ensures.updates.0 c.finish.ensures.keeps c.self.invariant

pub invariant_of-self-else-finish : goal.invariant_of-self-else-finish
invariant_of-self-else-finish c =
    let w = wrote c.args.conn.0 _ _ _ _ c.in-Some.ensures.value (c.get_mut.follows.holds c.finish.new.self).0 in
    tidy c.args.conn.0 _ _ _ _ _ (on-opened _ _ _ _ _ w) (c.finish.ensures.over.1 c.if-finish.false) c.finish.ensures.keeps c.self.invariant

pub returns-then-finish : goal.returns-then-finish
returns-then-finish c =
    let w = wrote c.args.conn.0 _ _ _ _ c.in-Some.ensures.value (c.get_mut.follows.holds c.finish.new.self).0 in
    record {
      made = moved-by _ _ _ _ _ w _ c.self.view_is (Finished c.args.plan.now.change) c.finish.ensures.made;
      queues = queues-all c.args.conn c.args.outs.items _ _ _ _ (one-outbox _ _ _ _ _ w _ c.self.view_is) c.finish.ensures.queued;
    }

pub returns-else-finish : goal.returns-else-finish
returns-else-finish c =
    let w = wrote c.args.conn.0 _ _ _ _ c.in-Some.ensures.value (c.get_mut.follows.holds c.finish.new.self).0 in
    record {
      made = moved-by _ _ _ _ _ w _ c.self.view_is (Finished c.args.plan.now.change) c.finish.ensures.made;
      queues = queues-all c.args.conn c.args.outs.items _ _ _ _ (one-outbox _ _ _ _ _ w _ c.self.view_is) c.finish.ensures.queued;
    }

pub unreachable-requires : goal.unreachable-requires
unreachable-requires c =
    let no_way = sym c.requires.can.1 ∙ opened-missing c.args.conn.0 _ _ c.self.view_is (sym c.in_default.ensures.value) in
    absurd cc
