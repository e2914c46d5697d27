use Rattle.std.proofs.Common.{◌≡◌, sym, ◌∙◌, ap, arith}
use Rattle.run_queue.specs.Queued.{stamp_in}
use Rattle.run_queue.proofs.Stale.{IsReady-same, ready_same, spare_grows}
use Rattle.run_queue.proofs.ready_lists.Ready.reserve.Goals as goal

pub invariant_of-self-2 : goal.invariant_of-self-2
invariant_of-self-2 c =
    IsReady-same (stamp_in c.self.inside.stamps.entries) (stamp_in c.reserve-2.new.self.entries) c.self.inside.queue.items c.reserve.new.self.items c.self.inside.next_stamp c.reserve-2.ensures.entries.2 c.reserve.ensures.items c.self.invariant

pub returns-clause-same : goal.returns-clause-same
returns-clause-same c =
    rw (← c.self.view_is) (record {
      waiting = ready_same (stamp_in c.self.inside.stamps.entries) (stamp_in c.reserve-2.new.self.entries) c.self.inside.queue.items c.reserve.new.self.items c.reserve-2.ensures.entries.2 c.reserve.ensures.items;
      spare = spare_grows c.self.inside.queue.len c.self.inside.queue.cap _ c.self.inside.next_stamp c.reserve.new.self.len c.reserve.new.self.cap _ (omega (arith, c.reserve.ensures.len)) (omega (arith, c.reserve.ensures.capacity)) c.reserve-2.ensures.spare;
    })
