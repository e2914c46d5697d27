use Rattle.std.proofs.Common.{refl, sym, ◌∙◌}
use Rattle.node_core.proofs.nodes.Node.may_reset.Goals as goal

pub returns-then-not-is_out : goal.returns-then-not-is_out
returns-then-not-is_out c =
    let over = sym c.self.invariant.stands.listens.out ∙ (sym c.is_out.ensures ∙ c.if-not-is_out.true) in
    rw (← c.self.view_is, over, c.has_connection.ensures, c.entries.ensures.log) refl
