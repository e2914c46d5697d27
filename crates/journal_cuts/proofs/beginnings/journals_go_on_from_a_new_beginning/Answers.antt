use Rattle.journal_cuts.proofs.BeginningAgain.{goes-on-legally, since-same}
use Rattle.journal_cuts.proofs.beginnings.journals_go_on_from_a_new_beginning.Goals as goal

pub returns-clause-says : goal.returns-clause-says
returns-clause-says c = since-same

pub returns-clause-legal : goal.returns-clause-legal
returns-clause-legal c = λ more past l s m. goes-on-legally past l s more m
