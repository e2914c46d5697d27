use Rattle.cable_laws.proofs.ConfirmingLater.{confirms-behind}
use Rattle.cable_laws.proofs.histories.confirmations_are_finished_behind_their_deliver.Goals as goal

pub returns : goal.returns
returns c = confirms-behind
