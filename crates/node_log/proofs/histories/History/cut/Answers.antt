use Rattle.std.proofs.Common.{[]}
use Rattle.node_log.proofs.Cutting.{even-left, laid-cut}
use Rattle.node_log.proofs.histories.History.cut.Goals as goal

pub invariant_of-self : goal.invariant_of-self
invariant_of-self c =
    let k = c.self.inside.past.value.kept in
    rw (c.of-2.ensures, c.of.ensures) (even-left c.args.conn.0 k.log k.beside c.self.invariant)

pub returns-clause-cut : goal.returns-clause-cut
returns-clause-cut c =
    let k = c.self.inside.past.value.kept in
    rw (c.of-2.ensures, c.of.ensures, ← c.self.view_is) (laid-cut c.args.conn.0 [] k.log k.beside c.self.invariant)
