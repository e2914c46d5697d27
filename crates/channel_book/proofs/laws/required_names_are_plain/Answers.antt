use Rattle.channel_book.proofs.Required.{requires_plain}
use Rattle.channel_book.proofs.laws.required_names_are_plain.Goals as goal

pub returns : goal.returns
returns c = requires_plain
