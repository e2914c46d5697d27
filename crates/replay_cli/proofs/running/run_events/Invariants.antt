use Rattle.std.proofs.Common.{◌≡◌, take}
use Rattle.replay_cli.specs.Running.{RunsAs}
use Rattle.replay_cli.proofs.running.run_events.Given as goal

-- the events so far were run
abbrev pub invariant-loop-event : goal.invariant-loop-event
invariant-loop-event l =
    record {
      runs : RunsAs (take l.event-index l.events) l.fn.world l.world l.fn.text.items l.text.items l.fn.tally l.tally;
      book : l.world.book ≡ l.fn.world.book;
    }
