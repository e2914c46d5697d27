use Rattle.table_core.proofs.Keeping.{started-table}
use Rattle.table_core.proofs.tables.Table.start.Goals as goal

pub invariant_of-result : goal.invariant_of-result
invariant_of-result g c = started-table (g.K.Keeper.rows c.args.keeper) _ c.in-Ok.last.0 c.in-Ok.ensures.same c.in-Ok.ensures.most c.in-Ok.ensures.rising c.in-Ok.ensures.last
