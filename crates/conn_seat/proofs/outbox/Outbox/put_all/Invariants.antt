use Rattle.std.proofs.Common.{◌≡◌, ◌≤◌, ◌+◌, ◌++◌, length}
use Rattle.conn_seat.proofs.outbox.Outbox.put_all.Given as goal

-- there is room for the others, and what is queued with them is all
abbrev pub invariant-loop-out : goal.invariant-loop-out
invariant-loop-out l = record {
  left : length l.out-iterator.rest.items ≤ l.self.room;
  queued : l.self.queued ++ l.out-iterator.rest.items ≡ l.fn.self.queued ++ l.fn.outs.items;
  taken : l.self.taken ≡ l.fn.self.taken;
  spent : l.self.room + length l.fn.outs.items ≡ l.fn.self.room + length l.out-iterator.rest.items;
  forgotten : l.self.forgotten ≡ l.fn.self.forgotten;
}
