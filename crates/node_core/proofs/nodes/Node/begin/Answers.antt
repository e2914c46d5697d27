use Rattle.std.proofs.Common.{refl}
use Rattle.node_core.proofs.Standing.{boots, no-turn}
use Rattle.node_core.proofs.nodes.Node.begin.Goals as goal

pub invariant_of-result : goal.invariant_of-result
invariant_of-result c = record {
  stands = rw (c.requires, c.empty.ensures.none, c.at.ensures, c.empty-2.ensures, c.empty-3.ensures.wanted, c.empty-3.ensures.taken)
      (boots c.args.last c.empty.result.outs c.empty.ensures.nothing c.empty.ensures.none_forgotten);
  turn_room = no-turn _ c.args.last.0 c.args.journal c.requires;
  ready = rw (c.empty.ensures.none, c.empty-4.ensures) (λ d. refl);
}
