use Rattle.cable_laws.proofs.Merging.{journal_windows}
use Rattle.cable_laws.proofs.histories.windows_of_journals.Goals as goal

pub returns : goal.returns
returns c = journal_windows
