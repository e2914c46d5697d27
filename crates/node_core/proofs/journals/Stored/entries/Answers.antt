use Rattle.std.proofs.Common.{[], arith}
use Rattle.node_core.proofs.Keeping.{laid-length}
use Rattle.node_core.proofs.journals.Stored.entries.Goals as goal

pub returns-clause-whole : goal.returns-clause-whole
returns-clause-whole c =
    let k = c.self.inside.tells in
    rw (← c.self.view_is) (omega (arith, laid-length [] k.log k.beside c.self.invariant.paired))
