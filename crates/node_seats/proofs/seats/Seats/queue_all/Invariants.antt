use Rattle.std.proofs.Common.{◌≡◌, ◌++◌, ℕ}
use Rattle.node_seats.specs.Outboxes.{CanQueue, forgotten_at, queue_at, taken_at, outs_for}
use Rattle.node_seats.proofs.seats.Seats.queue_all.Given as goal

-- there is room for the others, and what is queued with them is all
abbrev pub invariant-loop-one : goal.invariant-loop-one
invariant-loop-one l = record {
  entries : l.self.entries ≡ l.fn.self.entries;
  room : CanQueue l.one-iterator.rest.items l.self.outs;
  queue : (c : ℕ) → queue_at c l.self.outs ++ outs_for c l.one-iterator.rest.items ≡ queue_at c l.fn.self.outs ++ outs_for c l.fn.more.items;
  taken : (c : ℕ) → taken_at c l.self.outs ≡ taken_at c l.fn.self.outs;
  forgotten : (c : ℕ) → forgotten_at c l.self.outs ≡ forgotten_at c l.fn.self.outs;
}
