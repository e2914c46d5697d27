use Rattle.std.proofs.Common.{[], ◌∷◌, Ok, Err}
use Rattle.std.proofs.lemmas.Result.{err_from_is_err_and}
use Rattle.replay_cli.proofs.PiecesRead.{extended, line_taken, line_flushed, piece_more}
use Rattle.replay_cli.proofs.replaying.Replaying.take_whole.Goals as goal

pub returns-in_err-extend_line-clause-takes : goal.returns-in_err-extend_line-clause-takes
returns-in_err-extend_line-clause-takes g c given taken r =
    let p = err_from_is_err_and c.from_residual.result c.from_residual.ensures.1 in
    rw (p.1, p.2)
    (piece_more c.args.self.now.mode given taken c.args.bytes.now (10 ∷ []) _ c.extend_line.new.self c.in_err-extend_line.field-0.0
    (extended _ _ given taken c.args.bytes.now c.args.self.now c.extend_line.new.self (Err c.in_err-extend_line.field-0.0) c.requires.one c.in_err-extend_line.ensures r))

pub returns-in_err-end_line-clause-takes : goal.returns-in_err-end_line-clause-takes
returns-in_err-end_line-clause-takes g c given taken r =
    let p = err_from_is_err_and c.from_residual-in_err-end_line.result c.from_residual-in_err-end_line.ensures.1 in
    rw (p.1, p.2)
    (line_taken _ _ given taken c.args.bytes.now c.args.self.now c.extend_line.new.self c.end_line.new.self (Err c.in_err-end_line.field-0.0)
    c.requires.one c.in_ok-extend_line.ensures c.end_line.ensures.mode tt c.in_err-end_line.ensures.works r)

pub returns-then-len-lt-PIECE-clause-takes : goal.returns-then-len-lt-PIECE-clause-takes
returns-then-len-lt-PIECE-clause-takes g c given taken r =
    line_taken _ (g.K.Sink.faults c.args.sink.now) given taken c.args.bytes.now c.args.self.now c.extend_line.new.self c.end_line.new.self (Ok tt)
    c.requires.one c.in_ok-extend_line.ensures c.end_line.ensures.mode c.in_ok-end_line.ensures.clears c.in_ok-end_line.ensures.works r

pub returns-clause-takes : goal.returns-clause-takes
returns-clause-takes g c given taken r =
    line_flushed _ _ _ _ given taken c.args.bytes.now c.args.self.now c.extend_line.new.self c.end_line.new.self c.flush.new.self c.flush.result
    c.requires.one c.in_ok-extend_line.ensures c.end_line.ensures.mode c.in_ok-end_line.ensures.clears c.in_ok-end_line.ensures.works c.flush.ensures.faults c.flush.ensures.wrote r
