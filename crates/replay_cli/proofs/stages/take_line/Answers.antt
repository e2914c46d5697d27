use Rattle.std.proofs.Common.{subst}
use Rattle.replay_cli.specs.declared.stages.Stage.{Stage}
use Rattle.replay_cli.specs.Stages.{IsAt}
use Rattle.replay_cli.proofs.FurtherLines.{by_session}
use Rattle.replay_cli.proofs.stages.take_line.Goals as goal

pub returns-in-Lines : goal.returns-in-Lines
returns-in-Lines c lines at =
    by_session c.args.mode lines c.args.line.now c.in-Lines.next c.in-Lines.work _ c.args.out.now.items c.take_further.new.out.items c.take_further.result
    (subst (λ (s : Stage). IsAt c.args.mode lines s) c.in-Lines.is at) (c.take_further.ensures c.args.mode)
