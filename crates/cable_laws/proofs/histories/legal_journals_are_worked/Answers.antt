use Rattle.cable_model.proofs.Stored.{stored-works}
use Rattle.cable_laws.proofs.histories.legal_journals_are_worked.Goals as goal

pub returns : goal.returns
returns c = stored-works
