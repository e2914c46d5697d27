use Rattle.std.proofs.Common.{◌≡◌, ◌≤◌, length}
use Rattle.cable_model.specs.Breaks.{IsBegun}
use Rattle.replay_cli.proofs.PiecesRead.{writing}
use Rattle.replay_cli.proofs.PiecesTaken.{Came}
use Rattle.replay_cli.proofs.replaying.Replaying.take_piece.Given as goal

-- the piece was taken up to the rest
abbrev pub invariant-loop-front : goal.invariant-loop-front
invariant-loop-front g l =
    record {
      came : Came (writing (g.K.Sink.taken l.fn.sink) (g.K.Sink.taken l.sink) (g.K.Sink.faults l.fn.sink) (g.K.Sink.faults l.sink)) l.piece l.rest l.fn.self l.self;
      begun : IsBegun l.self.line.items;
      mode : l.self.mode ≡ l.fn.self.mode;
      faults : g.K.Sink.faults l.fn.sink ≤ g.K.Sink.faults l.sink;
    }

abbrev pub decreases-loop-front : goal.decreases-loop-front
decreases-loop-front g l = length l.rest
