use Rattle.table_core.proofs.Following.{commits_follow}
use Rattle.table_core.proofs.laws.commits_follow_the_journal.Goals as goal

pub returns : goal.returns
returns c = commits_follow
