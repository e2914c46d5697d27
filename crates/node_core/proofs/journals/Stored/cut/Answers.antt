use Rattle.std.proofs.Common.{refl}
use Rattle.node_log.proofs.Cutting.{even-left}
use Rattle.node_core.proofs.Beginning.{begins-cut}
use Rattle.node_core.proofs.journals.Stored.cut.Goals as goal

pub invariant_of-self : goal.invariant_of-self
invariant_of-self c =
    let k = c.self.inside.tells in record {
      entries = rw (c.cut.ensures.entries, c.cut-2.ensures.kept, c.self.invariant.entries) refl;
      paired = rw c.cut-2.ensures.kept (even-left c.args.conn.0 k.log k.beside c.self.invariant.paired);
      begins = rw c.cut-2.ensures.kept (begins-cut c.args.conn k.log c.self.invariant.begins);
    }
