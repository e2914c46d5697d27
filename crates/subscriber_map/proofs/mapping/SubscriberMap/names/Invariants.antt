use Rattle.std.proofs.Common.{◌≡◌, ◌++◌, map, string_bytes}
use Rattle.subscriber_map.proofs.mapping.SubscriberMap.names.Given as goal

-- the copies so far, and the names that are left
abbrev pub invariant-loop-name : goal.invariant-loop-name
invariant-loop-name l = l.names.items ++ map string_bytes l.name-iterator ≡ map string_bytes l.initial.name-iterator
