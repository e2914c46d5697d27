use Rattle.replay_cli.proofs.Endings.{met_end}
use Rattle.replay_cli.proofs.replays.met.Goals as goal

pub returns-in-Err-end-clause-met : goal.returns-in-Err-end-clause-met
returns-in-Err-end-clause-met g c =
    let p = c.in_default.ensures.reads in
    met_end _ _ _ p.0 p.1 c.read_all.new.self c.end.new.self c.in-Err-end.status p.2.0 p.2.1 c.read_all.ensures.mode p.2.2 (c.in-Err-end.ensures.ends p.0 p.1 p.2.2)
