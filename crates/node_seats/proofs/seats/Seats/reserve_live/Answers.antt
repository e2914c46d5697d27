use Rattle.std.proofs.lemmas.Result.{on_ok_weaker}
use Rattle.node_seats.proofs.Composing.{rooms-one}
use Rattle.node_seats.proofs.Rooming.{room-made}
use Rattle.node_seats.proofs.seats.Seats.reserve_live.Goals as goal

pub returns-clause-same : goal.returns-clause-same
returns-clause-same c = rooms-one _ _ _ c.reserve.ensures.same

pub returns-clause-ok : goal.returns-clause-ok
returns-clause-ok c = on_ok_weaker c.reserve.result (room-made _ _ _ _) c.reserve.ensures.ok
