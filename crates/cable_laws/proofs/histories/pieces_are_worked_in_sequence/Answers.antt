use Rattle.cable_laws.proofs.Sequencing.{in_sequence}
use Rattle.cable_laws.proofs.histories.pieces_are_worked_in_sequence.Goals as goal

pub returns : goal.returns
returns c = in_sequence
