use Rattle.std.proofs.Common.{◌∙◌, append_assoc}
use Rattle.replay_cli.proofs.printing.totals_text.Goals as goal

pub returns : goal.returns
returns c = c.in_ok-format.ensures.ok ∙ simp append_assoc
