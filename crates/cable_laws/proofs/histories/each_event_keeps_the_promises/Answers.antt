use Rattle.std.proofs.Common.{◌++◌, ◌∷◌, []}
use Rattle.cable_model.proofs.Trimming.{history_trims}
use Rattle.cable_laws.proofs.ConfirmingLater.{confirms-behind}
use Rattle.cable_laws.proofs.Ending.{none-after-end}
use Rattle.cable_laws.proofs.histories.each_event_keeps_the_promises.Goals as goal

pub returns : goal.returns
returns c = λ r before e. record {
  ended = λ front back is. none-after-end r front back;
  trimmed = history_trims r (before ++ e ∷ []);
  confirmed = confirms-behind r (before ++ e ∷ []);
}
