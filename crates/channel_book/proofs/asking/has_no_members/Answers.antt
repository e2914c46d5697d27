use Rattle.channel_book.proofs.Walk.{no_members_is}
use Rattle.channel_book.proofs.asking.has_no_members.Goals as goal

pub returns : goal.returns
returns c = no_members_is c.args.members.now.entries c.is_empty.result c.is_empty.ensures
