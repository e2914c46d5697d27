use Rattle.cable_laws.proofs.Sequencing.{inbox_kept}
use Rattle.cable_laws.proofs.histories.inbox_is_kept_call_by_call.Goals as goal

pub returns : goal.returns
returns c = inbox_kept
