use Rattle.std.proofs.Common.{rules}
use Rattle.std.proofs.lemmas.List.Sorted.{IsPartitionPoint-from_clause}
use Rattle.subscriber_map.proofs.InOrder.{partitioned, put_in_place}
use Rattle.subscriber_map.specs.Holds.{is_before}
use Rattle.subscriber_map.proofs.holding.place_for.Goals as goal

pub returns-clause-place : goal.returns-clause-place
returns-clause-place c =
    let point = IsPartitionPoint-from_clause (λ h. is_before h c.args.hold.now) c.args.holds.now c.partition_point.result c.partition_point.ensures.partitioned
    (partitioned c.args.hold.now c.args.holds.now c.requires) (λ a r f' q. search rules) in
    put_in_place c.args.hold.now c.args.holds.now c.partition_point.result c.partition_point.ensures.bound point
