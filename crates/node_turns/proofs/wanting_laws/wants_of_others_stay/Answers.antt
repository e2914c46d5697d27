use Rattle.node_turns.proofs.Wishing.{wished-forgotten}
use Rattle.node_turns.proofs.wanting_laws.wants_of_others_stay.Goals as goal

pub returns : goal.returns
returns c = wished-forgotten
