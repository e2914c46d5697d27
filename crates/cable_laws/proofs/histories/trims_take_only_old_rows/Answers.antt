use Rattle.cable_model.proofs.Trimming.{history_trims}
use Rattle.cable_laws.proofs.histories.trims_take_only_old_rows.Goals as goal

pub returns : goal.returns
returns c = history_trims
