use Rattle.journal_cuts.proofs.Cutting.{cut-append, cut-on}
use Rattle.journal_cuts.proofs.cuts.cuts_go_on.Goals as goal

pub returns-clause-since : goal.returns-clause-since
returns-clause-since c = cut-append

pub returns-clause-others : goal.returns-clause-others
returns-clause-others c = cut-on
