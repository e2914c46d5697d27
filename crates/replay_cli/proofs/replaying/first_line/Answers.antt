use Rattle.std.proofs.Common.{sym, ◌∙◌}
use Rattle.replay_cli.proofs.FeedsFound.{feed_cut, feed_none}
use Rattle.replay_cli.proofs.replaying.first_line.Goals as goal

pub returns-in_err-at : goal.returns-in_err-at
returns-in_err-at c = rw c.from_residual.ensures (feed_none c.args.bytes.now (sym c.feed_at.ensures ∙ c.in_err-at.was))

pub returns : goal.returns
returns c = feed_cut c.args.bytes.now c.in_ok-at.at (sym c.in_ok-at.ensures)
