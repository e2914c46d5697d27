use Rattle.std.proofs.Common.{◌≡◌, ◌≤◌, take}
use Rattle.conn_core.specs.Subscriptions.{stopped}
use Rattle.conn_core.proofs.streaming.stop_streams.Given as goal

-- the stops so far have ended
abbrev pub invariant-loop-stop : goal.invariant-loop-stop
invariant-loop-stop l =
    record {
      entries : l.streams.entries ≡ stopped (take l.stop-index l.stops) l.fn.streams.entries;
      spare : l.fn.streams.spare ≤ l.streams.spare;
    }
