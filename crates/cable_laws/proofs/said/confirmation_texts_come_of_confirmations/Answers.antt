use Rattle.cable_laws.proofs.ConfirmationsSaid.{confirmations-come}
use Rattle.cable_laws.proofs.said.confirmation_texts_come_of_confirmations.Goals as goal

pub returns : goal.returns
returns c = confirmations-come
