use Rattle.std.specs.Prelude.{codes}
use Rattle.std.proofs.lemmas.Str.Pattern.{starts_text}
use Rattle.channel_book.proofs.checks.is_reserved.Goals as goal

pub returns : goal.returns
returns c = starts_text c.starts_with.result (codes "action_cable/") c.args.text.now c.starts_with.ensures.cases
