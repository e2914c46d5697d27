use Rattle.std.proofs.Common.{◌-◌}
use Rattle.replay_cli.specs.Made.{opening}
use Rattle.replay_cli.specs.MadeRuns.{IsUpTo, coming}
use Rattle.replay_cli.proofs.made.Run.fill.Given as goal

abbrev pub invariant-loop-client : goal.invariant-loop-client
invariant-loop-client l = IsUpTo opening (coming (9 - l.client) l.client) l.fn.self.world l.self.world l.fn.self.tally l.self.tally
