use Rattle.std.proofs.Common.{◌≡◌, map, take}
use Rattle.std.specs.List.{filter}
use Rattle.cable_model.specs.Connection.{among}
use Rattle.node_turns.specs.Holding.{named, without_all}
use Rattle.node_turns.proofs.releasing.release_stops.Given as goal

-- the holds of those so far are gone
abbrev pub invariant-loop-stream : goal.invariant-loop-stream
invariant-loop-stream l = l.holders ≡ without_all l.conn.0 (map named (filter (λ e. among l.stops e.name) (take l.stream-index l.streams))) l.fn.holders
