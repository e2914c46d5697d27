use Rattle.std.proofs.Common.{not}
use Rattle.cable_model.specs.Table.{has_id}
use Rattle.table_core.specs.Keepers.{first_before}
use Rattle.table_core.proofs.Keeping.{trimmed-table}
use Rattle.table_core.proofs.Paging.{counted-old, trimmed-old}
use Rattle.table_core.proofs.tables.Table.trim.Goals as goal

pub invariant_of-self-2 : goal.invariant_of-self-2
invariant_of-self-2 g c = trimmed-table (λ rows r. not (has_id r (first_before c.saturating_sub.result c.self.inside.last.0 c.args.batch rows))) (g.K.Keeper.rows c.self.inside.keeper) _ _ c.self.invariant c.in_ok-count.ensures.tells c.in_ok-count.ensures.ok

pub returns-clause-ok : goal.returns-clause-ok
returns-clause-ok g c = rw (← c.self.view_is) (trimmed-old c.args.now.0 c.args.retention.0 c.args.batch c.self.inside.last.0 _ (g.K.Keeper.rows c.self.inside.keeper) _ c.saturating_sub.ensures c.in_ok-count.ensures.ok)

pub returns-clause-count : goal.returns-clause-count
returns-clause-count g c =
    rw (← c.self.view_is) (counted-old c.args.now.0 c.args.retention.0 c.args.batch c.self.inside.last.0 _ _ (g.K.Keeper.rows c.self.inside.keeper) c.saturating_sub.ensures c.in_ok-count.ensures.count)
