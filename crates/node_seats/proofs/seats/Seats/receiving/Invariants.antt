use Rattle.std.proofs.Common.{◌≡◌, ◌++◌}
use Rattle.node_seats.specs.Numbers.{receiving_among}
use Rattle.node_seats.proofs.Living.{receiving_of}
use Rattle.node_seats.proofs.seats.Seats.receiving.Given as goal

-- those of the numbers so far, and those of the others, are those of all
abbrev pub invariant-loop-number : goal.invariant-loop-number
invariant-loop-number l = l.numbers.items ++ receiving_of l.number-iterator l.self.entries ≡ receiving_among l.self.entries
