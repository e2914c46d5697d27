use Rattle.std.proofs.Common.{◌≡◌}
use Rattle.node_seats.specs.Slots.{numbers_of, outboxes_of}
use Rattle.node_seats.proofs.Stopping.{Stopping}
use Rattle.node_seats.proofs.seats.restart_all.Given as goal

-- the others are to be stopped, and nothing was done to what is queued
abbrev pub invariant-loop-number : goal.invariant-loop-number
invariant-loop-number l = record {
  stopping : Stopping l.number-iterator (numbers_of l.fn.by_number.entries) (numbers_of l.by_number.entries);
  outs : outboxes_of l.by_number.entries ≡ outboxes_of l.fn.by_number.entries;
}
