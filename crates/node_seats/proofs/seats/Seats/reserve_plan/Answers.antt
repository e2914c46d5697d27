use Rattle.std.proofs.Common.{sym}
use Rattle.std.proofs.lemmas.Result.{on_ok_weaker, on_err_weaker}
use Rattle.node_seats.specs.Numbers.{Lives, Prepares}
use Rattle.node_seats.proofs.Faces.{wrote}
use Rattle.node_seats.proofs.Moving.{tidy}
use Rattle.node_seats.proofs.Shown.{live-kept, live-missing, moved-by, on-opened, one-outbox, opened-same}
use Rattle.node_seats.proofs.OneQueue.{widens}
use Rattle.node_seats.proofs.seats.Seats.reserve_plan.Goals as goal

pub reserve_plan-requires : goal.reserve_plan-requires
reserve_plan-requires c = live-kept _ _ _ c.self.view_is _ (sym c.in-Some.ensures.value) c.requires.live

pub invariant_of-self : goal.invariant_of-self
invariant_of-self c =
    let w = wrote c.args.conn.0 _ _ _ _ c.in-Some.ensures.value (c.get_mut.follows.holds c.reserve_plan.new.self).0 in
    tidy c.args.conn.0 _ _ _ _ _ (on-opened _ _ _ _ _ w) c.reserve_plan.ensures.live c.reserve_plan.ensures.keeps c.self.invariant

pub returns : goal.returns
returns c =
    let w = wrote c.args.conn.0 _ _ _ _ c.in-Some.ensures.value (c.get_mut.follows.holds c.reserve_plan.new.self).0 in
    let one = one-outbox _ _ _ _ _ w _ c.self.view_is in
    record {
      ok = on_ok_weaker c.reserve_plan.result (moved-by _ _ _ _ _ w _ c.self.view_is (Lives (Prepares c.args.plan.now.change))) c.reserve_plan.ensures.ok;
      err = on_err_weaker c.reserve_plan.result (opened-same _ _ _ _ _ w _ c.self.view_is) c.reserve_plan.ensures.err;
      outs = widens _ _ _ _ _ one c.reserve_plan.ensures.outbox;
      room = on_ok_weaker c.reserve_plan.result (λ room. rw (one.is) room) c.reserve_plan.ensures.room;
    }

pub unreachable-requires : goal.unreachable-requires
unreachable-requires c = live-missing c.args.conn.0 _ _ c.self.view_is (sym c.in_default.ensures.value) c.requires.live
