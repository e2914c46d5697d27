use Rattle.node_turns.proofs.HoldsEnding.{held-finish}
use Rattle.node_turns.proofs.holding_laws.holds_end_with_their_wants.Goals as goal

pub returns : goal.returns
returns c = held-finish
