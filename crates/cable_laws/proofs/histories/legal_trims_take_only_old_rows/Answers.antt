use Rattle.cable_model.proofs.Trimming.{trims_old}
use Rattle.cable_laws.proofs.histories.legal_trims_take_only_old_rows.Goals as goal

pub returns : goal.returns
returns c = trims_old
