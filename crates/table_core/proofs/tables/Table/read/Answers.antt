use Rattle.table_core.proofs.Paging.{found-note}
use Rattle.table_core.proofs.tables.Table.read.Goals as goal

pub returns-clause-found : goal.returns-clause-found
returns-clause-found g c =
    rw (← c.self.view_is) (found-note (g.K.Keeper.rows c.self.inside.keeper) c.args.turn c.self.inside.last c.lower.result c.end_of_read-upto.result c.hashes.result.now c.in-Ok.rows.items c.deref.result.now c.found.result
    c.self.invariant c.lower.ensures c.hashes.ensures c.in-Ok.ensures.ok c.deref.ensures.value c.end_of_read-upto.ensures c.found.ensures)
