use Rattle.run_queue.specs.Queued.{stamp_in}
use Rattle.run_queue.proofs.Stale.{ready-once}
use Rattle.run_queue.proofs.ready_lists.Ready.front.Goals as goal

pub returns-in-Some-clause-once : goal.returns-in-Some-clause-once
returns-in-Some-clause-once c = rw (← c.self.view_is) (ready-once (stamp_in c.self.inside.stamps.entries) c.self.inside.queue.items c.self.inside.next_stamp c.self.invariant.stamped)
