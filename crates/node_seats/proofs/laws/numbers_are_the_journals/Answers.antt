use Rattle.node_seats.proofs.Onward.{used-is}
use Rattle.node_seats.proofs.Counting.{live-count, receiving-all, over-is, none-yet}
use Rattle.node_seats.proofs.laws.numbers_are_the_journals.Goals as goal

pub returns-clause-none : goal.returns-clause-none
returns-clause-none c = none-yet

pub returns-clause-used : goal.returns-clause-used
returns-clause-used c = used-is

pub returns-clause-over : goal.returns-clause-over
returns-clause-over c = over-is

pub returns-clause-live : goal.returns-clause-live
returns-clause-live c = live-count

pub returns-clause-receiving : goal.returns-clause-receiving
returns-clause-receiving c = receiving-all
