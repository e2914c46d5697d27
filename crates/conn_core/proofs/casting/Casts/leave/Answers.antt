use Rattle.std.proofs.lemmas.Result.{on_ok_weaker}
use Rattle.conn_core.proofs.Broadcasts.{left_committable}
use Rattle.conn_core.proofs.casting.Casts.leave.Goals as goal

pub returns-in-Ok-clause-rows : goal.returns-in-Ok-clause-rows
returns-in-Ok-clause-rows g c = on_ok_weaker c.add.result (λ k. left_committable _ c.in-Ok.answer c.in-Ok.ensures.answer c.in-Ok.ensures.json) c.add.ensures.kept
