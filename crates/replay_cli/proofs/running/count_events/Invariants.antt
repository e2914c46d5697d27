use Rattle.std.proofs.Common.{◌≡◌, take}
use Rattle.replay_cli.specs.Running.{CountsAs}
use Rattle.replay_cli.proofs.running.count_events.Given as goal

-- the events so far were counted
abbrev pub invariant-loop-event : goal.invariant-loop-event
invariant-loop-event l =
    record {
      counts : CountsAs (take l.event-index l.events) l.fn.world l.world l.fn.tally l.tally;
      book : l.world.book ≡ l.fn.world.book;
    }
