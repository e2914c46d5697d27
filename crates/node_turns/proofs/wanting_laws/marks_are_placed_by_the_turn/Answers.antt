use Rattle.node_turns.proofs.MarksPlaced.{turn-places}
use Rattle.node_turns.proofs.wanting_laws.marks_are_placed_by_the_turn.Goals as goal

pub returns : goal.returns
returns c = turn-places
