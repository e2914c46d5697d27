use Rattle.std.proofs.Common.{◌≡◌, sym, ◌∙◌, ap, arith}
use Rattle.run_queue.specs.Queued.{stamp_in}
use Rattle.run_queue.proofs.Stale.{IsReady-next, ready_next, next_once, spare_grows}
use Rattle.run_queue.proofs.ready_lists.Ready.next.Goals as goal

pub invariant_of-self-2 : goal.invariant_of-self-2
invariant_of-self-2 c =
    IsReady-next c.in_ok-first.first (stamp_in c.self.inside.stamps.entries) (stamp_in c.remove.new.self.entries) c.self.inside.queue.items c.pop_front.new.self.items c.drop_stale.new.queue.items c.self.inside.next_stamp
    c.self.invariant c.in_ok-first.ensures.items c.remove.ensures.updates.0 c.drop_stale.ensures.skips

pub returns : goal.returns
returns c =
    rw (← c.self.view_is) (record {
      waiting = ready_next c.in_ok-first.first (stamp_in c.self.inside.stamps.entries) (stamp_in c.remove.new.self.entries) c.self.inside.queue.items c.pop_front.new.self.items c.drop_stale.new.queue.items c.self.inside.next_stamp
          c.self.invariant c.in_ok-first.ensures.items c.remove.ensures.updates.0 c.drop_stale.ensures.skips;
      once = next_once c.in_ok-first.first (stamp_in c.self.inside.stamps.entries) (stamp_in c.remove.new.self.entries) c.self.inside.queue.items c.pop_front.new.self.items c.drop_stale.new.queue.items c.self.inside.next_stamp
          c.self.invariant c.in_ok-first.ensures.items c.remove.ensures.updates.0 c.drop_stale.ensures.skips;
      spare = spare_grows c.self.inside.queue.len c.self.inside.queue.cap _ c.self.inside.next_stamp c.drop_stale.new.queue.len c.drop_stale.new.queue.cap _ (omega (arith, c.drop_stale.ensures.len, c.in_ok-first.ensures.cases)) (omega (arith, c.drop_stale.ensures.capacity, c.in_ok-first.ensures.capacity)) c.remove.ensures.spare;
    })
