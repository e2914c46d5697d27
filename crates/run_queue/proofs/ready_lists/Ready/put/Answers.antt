use Rattle.std.proofs.Common.{◌≡◌, sym, ◌∙◌, ap, arith}
use Rattle.run_queue.specs.Queued.{stamp_in}
use Rattle.run_queue.proofs.Stale.{IsReady-push, ready_pushed, spare_spent}
use Rattle.run_queue.proofs.ready_lists.Ready.put.Goals as goal

pub invariant_of-self-2 : goal.invariant_of-self-2
invariant_of-self-2 c =
    IsReady-push c.args.conn (stamp_in c.self.inside.stamps.entries) (stamp_in c.insert.new.self.entries) c.self.inside.queue.items c.reserve.new.self.items c.push_back_reserved.new.self.items c.self.inside.next_stamp
    c.self.invariant (sym c.if-contains_key.ensures) c.reserve.ensures.items c.in_ok-insert.ensures.updates.0 c.push_back_reserved.ensures.items

pub returns-clause-ok : goal.returns-clause-ok
returns-clause-ok c =
    rw (← c.self.view_is) (record {
      waiting = ready_pushed c.args.conn (stamp_in c.self.inside.stamps.entries) (stamp_in c.insert.new.self.entries) c.self.inside.queue.items c.reserve.new.self.items c.push_back_reserved.new.self.items c.self.inside.next_stamp
          c.self.invariant (sym c.if-contains_key.ensures) c.reserve.ensures.items c.in_ok-insert.ensures.updates.0 c.push_back_reserved.ensures.items;
      spare = spare_spent c.self.inside.queue.len c.self.inside.queue.cap _ c.self.inside.next_stamp c.push_back_reserved.new.self.len c.push_back_reserved.new.self.cap _ (omega (arith, c.push_back_reserved.ensures.len, c.reserve.ensures.len)) (omega (arith, c.push_back_reserved.ensures.capacity, c.reserve.ensures.capacity)) c.in_ok-insert.ensures.spare;
    })
