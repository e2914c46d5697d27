use Rattle.channel_book.proofs.Cutting.{plain_filled}
use Rattle.channel_book.proofs.laws.plain_texts_stay.Goals as goal

pub returns : goal.returns
returns c = plain_filled
