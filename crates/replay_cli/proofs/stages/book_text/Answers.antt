use Rattle.replay_cli.proofs.FirstLines.{no_text}
use Rattle.replay_cli.proofs.stages.book_text.Goals as goal

pub returns-in_default-clause-breaks : goal.returns-in_default-clause-breaks
returns-in_default-clause-breaks c = no_text c.args.line.now c.in_default.ensures
