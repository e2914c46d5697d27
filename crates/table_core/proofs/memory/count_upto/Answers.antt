use Rattle.std.proofs.Common.{leb, rules}
use Rattle.std.proofs.lemmas.List.Sorted.{IsPartitionPoint-from_clause}
use Rattle.table_core.proofs.Kept.{dropped, parted}
use Rattle.table_core.proofs.memory.count_upto.Goals as goal

pub returns-clause-above : goal.returns-clause-above
returns-clause-above c =
    let point = IsPartitionPoint-from_clause (λ k. leb k.row.id.0 c.args.id.0) c.args.rows.now.items c.partition_point.result c.partition_point.ensures.partitioned
    (parted c.args.id.0 c.args.rows.now.items c.requires) (λ a r f' q. search rules) in
    dropped c.args.id.0 c.args.rows.now.items c.partition_point.result (search rules) point
