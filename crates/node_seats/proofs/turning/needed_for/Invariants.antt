use Rattle.std.specs.Ordering.{nat_cmp}
use Rattle.std.specs.BTreeMap.{get}
use Rattle.node_seats.proofs.Rooming.{Counted}
use Rattle.node_seats.proofs.turning.needed_for.Given as goal

-- the pieces so far are counted in
abbrev pub invariant-loop-delivery : goal.invariant-loop-delivery
invariant-loop-delivery l = Counted l.deliveries l.delivery-index (get nat_cmp l.needed)
