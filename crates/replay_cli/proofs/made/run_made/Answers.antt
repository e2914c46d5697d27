use Rattle.replay_cli.specs.Made.{opening}
use Rattle.replay_cli.proofs.made.run_made.Goals as goal

pub returns : goal.returns
returns c = c.in_ok-draw_all.ensures opening (c.in_ok-fill.ensures _ c.in_ok-run.ensures)
