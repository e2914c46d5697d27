use Rattle.ws_session.proofs.EndsSession.{ends-session}
use Rattle.ws_session.proofs.NodeSays.{all-said, rounds-say}
use Rattle.ws_session.proofs.laws.texts_of_a_node_are_said.Goals as goal

pub returns : goal.returns
returns c = record { queue = rounds-say; all = all-said; ends = ends-session }
