use Rattle.journal_cuts.proofs.Nothing.{nothing-said}
use Rattle.journal_cuts.proofs.cuts.nothing_is_said_of_a_cut_connection.Goals as goal

pub returns : goal.returns
returns c = nothing-said
