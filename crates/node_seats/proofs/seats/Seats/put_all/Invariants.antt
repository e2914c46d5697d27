use Rattle.std.proofs.Common.{◌≡◌}
use Rattle.std.specs.Vec.Iter.{into_iter_items}
use Rattle.node_seats.proofs.Rooming.{Putting}
use Rattle.node_seats.proofs.seats.Seats.put_all.Given as goal

abbrev pub invariant-loop-delivery : goal.invariant-loop-delivery
invariant-loop-delivery l = record {
  put : Putting l.fn.deliveries.items (into_iter_items l.delivery-iterator) l.fn.self.entries l.self.entries;
  outs : l.self.outs ≡ l.fn.self.outs;
}
