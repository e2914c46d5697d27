use Rattle.replay_cli.proofs.Endings.{flushed, unflushed}
use Rattle.replay_cli.proofs.replays.play.Goals as goal

pub returns-in-Ok : goal.returns-in-Ok
returns-in-Ok g c words world hands =
    flushed c.windows_of_histories.ensures c.args.replaying.now.mode words _ _ _ _ _ _ _ c.met-met.new.replaying c.flush.new.self world c.met-met.ensures.mode
    c.met-met.result c.in_default.not-WriteFault c.in_default.not-OutOfMemory c.met-met.ensures.met c.in-Ok.ensures.wrote hands

pub returns-in-Err : goal.returns-in-Err
returns-in-Err g c words world hands =
    unflushed c.windows_of_histories.ensures c.args.replaying.now.mode words _ _ _ _ _ _ _ c.met-met.new.replaying c.flush.new.self world c.met-met.ensures.mode
    c.met-met.result c.in-Err.fault c.in_default.not-WriteFault c.in_default.not-OutOfMemory c.met-met.ensures.faults c.met-met.ensures.met c.in-Err.ensures.wrote
