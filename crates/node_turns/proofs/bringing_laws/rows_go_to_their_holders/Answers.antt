use Rattle.node_turns.proofs.RowsBring.{brings-rows}
use Rattle.node_turns.proofs.bringing_laws.rows_go_to_their_holders.Goals as goal

pub returns : goal.returns
returns c = brings-rows
