use Rattle.std.proofs.Common.{◌+◌, ◌-◌}
use Rattle.replay_cli.specs.Made.{drawn, generator}
use Rattle.replay_cli.specs.MadeRuns.{IsUpTo}
use Rattle.replay_cli.proofs.made.Run.draw_all.Given as goal

abbrev pub invariant-loop-place : goal.invariant-loop-place
invariant-loop-place l = IsUpTo (drawn l.count 1 (generator l.seed)) (drawn (l.count + 1 - l.place) l.place l.source) l.fn.self.world l.self.world l.fn.self.tally l.self.tally
