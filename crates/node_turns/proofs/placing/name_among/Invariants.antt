use Rattle.std.proofs.Common.{◌≡◌, drop}
use Rattle.node_turns.specs.Holding.{name_among}
use Rattle.node_turns.proofs.placing.name_among.Given as goal

-- none of the streams so far was wanted under the number
abbrev pub invariant-loop-stream : goal.invariant-loop-stream
invariant-loop-stream l = name_among l.want (drop l.stream-index l.streams) ≡ name_among l.want l.streams
