use Rattle.std.proofs.Common.{◌≡◌, ◌++◌, map}
use Rattle.subscriber_map.proofs.mapping.SubscriberMap.hashes.Given as goal

-- the hashes so far, and those of the names that are left
abbrev pub invariant-loop-held : goal.invariant-loop-held
invariant-loop-held l = l.hashes.items ++ map (λ h. h.hash) l.held-iterator ≡ map (λ h. h.hash) l.initial.held-iterator
