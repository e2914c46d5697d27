use Rattle.conn_seat.proofs.Answering.{plans}
use Rattle.conn_seat.proofs.laws.plans_are_the_journals.Goals as goal

pub returns : goal.returns
returns c = plans
