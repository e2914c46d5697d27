use Rattle.std.proofs.Common.{◌≡◌, sym, ◌∙◌, ap, arith}
use Rattle.run_queue.specs.Queued.{stamp_in}
use Rattle.run_queue.proofs.Stale.{IsReady-lost, ready_lost, spare_grows}
use Rattle.run_queue.proofs.ready_lists.Ready.drop_out.Goals as goal

pub invariant_of-self : goal.invariant_of-self
invariant_of-self c =
    IsReady-lost c.args.conn (stamp_in c.self.inside.stamps.entries) (stamp_in c.remove.new.self.entries) c.self.inside.queue.items c.drop_stale.new.queue.items c.self.inside.next_stamp c.self.invariant c.remove.ensures.updates.0 c.drop_stale.ensures.skips

pub returns : goal.returns
returns c =
    rw (← c.self.view_is) (record {
      waiting = ready_lost c.args.conn (stamp_in c.self.inside.stamps.entries) (stamp_in c.remove.new.self.entries) c.self.inside.queue.items c.drop_stale.new.queue.items c.remove.ensures.updates.0 c.drop_stale.ensures.skips;
      spare = spare_grows c.self.inside.queue.len c.self.inside.queue.cap _ c.self.inside.next_stamp c.drop_stale.new.queue.len c.drop_stale.new.queue.cap _ (omega (arith, c.drop_stale.ensures.len)) (omega (arith, c.drop_stale.ensures.capacity)) c.remove.ensures.spare;
    })
