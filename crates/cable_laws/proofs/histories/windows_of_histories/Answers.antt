use Rattle.cable_laws.proofs.HistoryWindows.{history_windows}
use Rattle.cable_laws.proofs.histories.windows_of_histories.Goals as goal

pub returns : goal.returns
returns c = history_windows
