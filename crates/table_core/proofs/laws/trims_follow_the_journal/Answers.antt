use Rattle.table_core.proofs.Following.{trims_follow}
use Rattle.table_core.proofs.laws.trims_follow_the_journal.Goals as goal

pub returns : goal.returns
returns c = trims_follow
