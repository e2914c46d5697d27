use Rattle.conn_seat.proofs.Answering.{answers}
use Rattle.conn_seat.proofs.laws.answers_are_the_journals.Goals as goal

pub returns : goal.returns
returns c = answers
