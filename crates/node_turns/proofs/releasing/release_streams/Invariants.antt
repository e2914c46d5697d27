use Rattle.std.proofs.Common.{◌≡◌, map, take}
use Rattle.node_turns.specs.Holding.{named, without_all}
use Rattle.node_turns.proofs.releasing.release_streams.Given as goal

-- the holds of those so far are gone
abbrev pub invariant-loop-stream : goal.invariant-loop-stream
invariant-loop-stream l = l.holders ≡ without_all l.conn.0 (map named (take l.stream-index l.streams)) l.fn.holders
