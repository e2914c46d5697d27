use Rattle.channel_book.proofs.Cutting.{template_is, template_read}
use Rattle.channel_book.proofs.laws.templates_are_texts_with_names.Goals as goal

pub returns-clause-read : goal.returns-clause-read
returns-clause-read c = template_is

pub returns-clause-written : goal.returns-clause-written
returns-clause-written c = template_read
