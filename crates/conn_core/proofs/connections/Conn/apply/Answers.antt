use Rattle.std.proofs.Common.{sym, subst}
use Rattle.conn_core.specs.Connections.{Connection, CanApply}
use Rattle.conn_core.proofs.StaysApart.{apart-applied}
use Rattle.conn_core.proofs.WantsStayApart.{wants-applied}
use Rattle.conn_core.proofs.connections.Conn.apply.Goals as goal

pub invariant_of-self-in_default : goal.invariant_of-self-in_default
invariant_of-self-in_default c =
    let can = subst (λ (v : Connection). CanApply c.args.plan.now.change c.args.sub c.args.first v.subs) (sym c.self.view_is) c.requires.can in
    record {
      apart = rw c.change_subs.ensures (apart-applied c.args.plan.now.change c.args.sub c.args.first _ can c.self.invariant.apart);
      wants = rw c.change_subs.ensures (wants-applied c.args.plan.now.change c.args.sub c.args.first _ can c.self.invariant.apart c.self.invariant.wants);
      room = rw c.take-kept.ensures.after tt;
    }
