use Rattle.std.proofs.Common.{arith}
use Rattle.node_seats.proofs.Rooming.{count-few, count-more}
use Rattle.node_seats.proofs.turning.needed_for.Goals as goal

pub count_in-requires : goal.count_in-requires
count_in-requires c = let few = count-few _ _ c.delivery-item.result.conn.0 _ c.loop-delivery.auto.delivery-index-end c.loop-delivery.invariant in omega (arith, few)

pub loop-delivery-preserved : goal.loop-delivery-preserved
loop-delivery-preserved c = count-more _ _ c.delivery-item.result _ _ c.loop-delivery-test.true c.delivery-item.is c.loop-delivery.invariant c.in_ok-count_in.ensures
