use Rattle.cable_model.proofs.JobsStay.{userless-seat, unopened-user, new-number}
use Rattle.conn_seat.proofs.laws.opened_connections_sit.Goals as goal

pub returns-clause-unseated : goal.returns-clause-unseated
returns-clause-unseated c = λ d past l o. userless-seat d past l (unopened-user d past (new-number d past o))
