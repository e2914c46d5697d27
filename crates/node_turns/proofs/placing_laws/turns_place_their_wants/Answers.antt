use Rattle.node_turns.proofs.PlacingTurn.{places-new, places-held}
use Rattle.node_turns.proofs.placing_laws.turns_place_their_wants.Goals as goal

pub returns : goal.returns
returns c = record { new = places-new; held = places-held }
