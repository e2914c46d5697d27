use Rattle.std.proofs.Common.{◌≡◌}
use Rattle.node_seats.proofs.Rooming.{Making}
use Rattle.node_seats.proofs.seats.Seats.reserve_needed.Given as goal

abbrev pub invariant-loop-number : goal.invariant-loop-number
invariant-loop-number l = record {
  making : Making l.needed.entries l.number-iterator l.fn.self.entries l.self.entries;
  outs : l.self.outs ≡ l.fn.self.outs;
}
