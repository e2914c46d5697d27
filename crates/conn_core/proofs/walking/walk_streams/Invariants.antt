use Rattle.std.proofs.Common.{◌≡◌, ◌≤◌, ◌++◌, drop, length}
use Rattle.cable_model.specs.Plans.{unstopped, new_streams, stream_notes}
use Rattle.conn_core.proofs.walking.walk_streams.Given as goal

-- what was made of the streams so far, and what is made of the rest
abbrev pub invariant-loop-name : goal.invariant-loop-name
invariant-loop-name l =
    record {
      wanted : l.walk.wanted ++ new_streams (unstopped l.stops l.streams ++ l.walk.wanted) (drop l.name-index l.asked) ≡ new_streams (unstopped l.stops l.streams) l.asked;
      notes : l.walk.notes ++ stream_notes (unstopped l.stops l.streams ++ l.walk.wanted) (drop l.name-index l.asked) ≡ stream_notes (unstopped l.stops l.streams) l.asked;
      few : length l.walk.wanted ≤ l.name-index;
    }
