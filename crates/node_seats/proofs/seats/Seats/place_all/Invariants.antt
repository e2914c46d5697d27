use Rattle.std.proofs.Common.{◌≡◌, take}
use Rattle.node_seats.specs.Turned.{Places}
use Rattle.node_seats.proofs.seats.Seats.place_all.Given as goal

-- the wants so far got their mark
abbrev pub invariant-loop-wanted : goal.invariant-loop-wanted
invariant-loop-wanted l = record {
  placed : Places l.mark (take l.wanted-index l.wants) l.fn.self.entries l.self.entries;
  outs : l.self.outs ≡ l.fn.self.outs;
}
