use Rattle.std.proofs.Common.{◌≡◌, ◌≤◌, ℕ}
use Rattle.std.specs.VecDeque.{deque_len, deque_capacity}
use Rattle.run_queue.specs.Queued.{ready_in, stamp_in, AreStamped}
use Rattle.run_queue.proofs.ready_lists.drop_stale.Given as goal

-- only stale numbers went
abbrev pub invariant-loop-queued : goal.invariant-loop-queued
invariant-loop-queued l =
    record {
      same : ready_in (stamp_in l.stamps.entries) l.queue.items ≡ ready_in (stamp_in l.stamps.entries) l.fn.queue.items;
      stamped : (next : ℕ) → AreStamped next l.fn.queue.items → AreStamped next l.queue.items;
      len : deque_len l.queue ≤ deque_len l.fn.queue;
      capacity : deque_capacity l.queue ≡ deque_capacity l.fn.queue;
    }

abbrev pub decreases-loop-queued : goal.decreases-loop-queued
decreases-loop-queued l = deque_len l.queue
