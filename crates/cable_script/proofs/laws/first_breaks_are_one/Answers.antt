use Rattle.cable_script.proofs.FirstBreaks.{lines_same, breaks_same, no_script, no_open, one_script, break_stays}
use Rattle.cable_script.proofs.laws.first_breaks_are_one.Goals as goal

pub returns-clause-lines : goal.returns-clause-lines
returns-clause-lines c = lines_same

pub returns-clause-status : goal.returns-clause-status
returns-clause-status c = breaks_same

pub returns-clause-scripts : goal.returns-clause-scripts
returns-clause-scripts c = no_script

pub returns-clause-open : goal.returns-clause-open
returns-clause-open c = no_open

pub returns-clause-one_script : goal.returns-clause-one_script
returns-clause-one_script c = one_script

pub returns-clause-stays : goal.returns-clause-stays
returns-clause-stays c = break_stays
