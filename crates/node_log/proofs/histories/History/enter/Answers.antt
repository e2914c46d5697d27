use Rattle.std.proofs.Common.{[]}
use Rattle.node_log.proofs.Cutting.{laid-push}
use Rattle.node_log.proofs.histories.History.enter.Goals as goal

pub returns-clause-entered : goal.returns-clause-entered
returns-clause-entered c =
    let k = c.self.inside.past.value.kept in
    rw (c.of-4.ensures, c.of.ensures, c.of-2.ensures, c.of-3.ensures, ← c.self.view_is)
    (laid-push [] k.log k.beside c.args.entry.now c.args.beside.now c.self.invariant)
