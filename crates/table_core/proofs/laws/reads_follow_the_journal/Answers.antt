use Rattle.table_core.proofs.Following.{reads_follow}
use Rattle.table_core.proofs.laws.reads_follow_the_journal.Goals as goal

pub returns : goal.returns
returns c = reads_follow
