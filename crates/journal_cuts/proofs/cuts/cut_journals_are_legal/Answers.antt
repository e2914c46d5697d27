use Rattle.journal_cuts.proofs.Legality.{all-cut-legal}
use Rattle.journal_cuts.proofs.cuts.cut_journals_are_legal.Goals as goal

pub returns : goal.returns
returns c = all-cut-legal
