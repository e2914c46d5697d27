use Rattle.std.proofs.lemmas.List.Filters.{dedup_is}
use Rattle.node_core.proofs.EachOnce.{each-once}
use Rattle.node_core.proofs.serving.leave_once.Goals as goal

pub returns : goal.returns
returns c = rw (dedup_is _ _ _ c.dedup.ensures.filtered) (each-once _ _ c.sort_unstable.ensures.permutation c.sort_unstable.ensures.sorted)
