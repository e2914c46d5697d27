use Rattle.table_core.proofs.Following.{refusals_follow}
use Rattle.table_core.proofs.laws.refusals_follow_the_journal.Goals as goal

pub returns : goal.returns
returns c = refusals_follow
