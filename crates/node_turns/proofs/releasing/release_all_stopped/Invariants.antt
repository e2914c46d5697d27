use Rattle.std.proofs.Common.{◌≡◌, map, take}
use Rattle.std.specs.List.{flat_map}
use Rattle.conn_core.specs.Subscriptions.{shown}
use Rattle.node_turns.specs.Holding.{named_stops, when_named, without_all}
use Rattle.node_turns.proofs.releasing.release_all_stopped.Given as goal

-- the holds of those so far are gone
abbrev pub invariant-loop-sub : goal.invariant-loop-sub
invariant-loop-sub l =
    l.holders ≡ without_all l.conn.0 (flat_map (when_named l.identifier (named_stops l.stops)) (map shown (take l.sub-index l.subs))) l.fn.holders
