use Rattle.journal_cuts.proofs.BeginningAgain.{left}
use Rattle.journal_cuts.proofs.beginnings.journals_that_begin_again_say_what_is_left.Goals as goal

pub returns : goal.returns
returns c = left
