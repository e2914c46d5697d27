use Rattle.conn_seat.proofs.Answering.{finishable}
use Rattle.conn_seat.proofs.laws.plans_can_be_finished.Goals as goal

pub returns : goal.returns
returns c = finishable
