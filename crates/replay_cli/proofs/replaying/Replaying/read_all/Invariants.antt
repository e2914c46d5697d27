use Rattle.std.proofs.Common.{◌≡◌, ◌≤◌}
use Rattle.cable_model.specs.Limits.{most_script}
use Rattle.replay_cli.proofs.PiecesGiven.{Reached}
use Rattle.replay_cli.proofs.replaying.Replaying.read_all.Given as goal

-- what the source gave was taken, at least a byte a turn
abbrev pub invariant-loop : goal.invariant-loop
invariant-loop g l =
    record {
      reached : Reached (g.S.Source.left l.fn.source) (g.S.Source.left l.source) (g.K.Sink.taken l.fn.sink) (g.K.Sink.taken l.sink) l.given l.self;
      some : l.counter ≤ l.given;
      few : l.given ≤ most_script;
      mode : l.self.mode ≡ l.fn.self.mode;
      ends : g.S.Source.ends l.fn.source ≤ g.S.Source.ends l.source;
      faults : g.S.Source.faults l.fn.source ≤ g.S.Source.faults l.source;
      sink_faults : g.K.Sink.faults l.fn.sink ≤ g.K.Sink.faults l.sink;
    }
