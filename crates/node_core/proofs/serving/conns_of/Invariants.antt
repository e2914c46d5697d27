use Rattle.std.proofs.Common.{◌≡◌, take}
use Rattle.node_core.specs.Serving.{conns_of}
use Rattle.node_core.proofs.serving.conns_of.Given as goal

-- the connections of the deliveries so far
abbrev pub invariant-loop-delivery : goal.invariant-loop-delivery
invariant-loop-delivery l = l.conns.items ≡ conns_of (take l.delivery-index l.deliveries)
