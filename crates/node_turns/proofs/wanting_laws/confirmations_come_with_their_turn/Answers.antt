use Rattle.node_turns.proofs.Confirmed.{turn-confirms}
use Rattle.node_turns.proofs.wanting_laws.confirmations_come_with_their_turn.Goals as goal

pub returns : goal.returns
returns c = turn-confirms
