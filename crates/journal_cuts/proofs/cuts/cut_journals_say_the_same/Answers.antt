use Rattle.cable_model.specs.Journal.{cut_all}
use Rattle.journal_cuts.proofs.Same.{answers-same}
use Rattle.journal_cuts.proofs.Cutting.{all-cut-says, all-cut-turns}
use Rattle.journal_cuts.proofs.Windows.{all-cut-window}
use Rattle.journal_cuts.proofs.cuts.cut_journals_say_the_same.Goals as goal

pub returns-clause-says : goal.returns-clause-says
returns-clause-says c = all-cut-says

pub returns-clause-answers : goal.returns-clause-answers
returns-clause-answers c = λ x ds past a. answers-same x (cut_all ds past) past (all-cut-says x ds past a)

pub returns-clause-windows : goal.returns-clause-windows
returns-clause-windows c = all-cut-window

pub returns-clause-turns : goal.returns-clause-turns
returns-clause-turns c = all-cut-turns
