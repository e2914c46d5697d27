use Rattle.std.proofs.Common.{◌≡◌, map, take}
use Rattle.conn_core.specs.Subscriptions.{SubParts}
use Rattle.conn_core.proofs.tasking.identifiers_of.Given as goal

-- the identifiers so far
abbrev pub invariant-loop-sub : goal.invariant-loop-sub
invariant-loop-sub l = l.identifiers ≡ map (λ (s : SubParts). s.identifier) (take l.sub-index l.subs)
