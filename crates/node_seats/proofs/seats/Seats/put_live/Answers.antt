use Rattle.node_seats.proofs.Composing.{on-ok, delivers-one}
use Rattle.node_seats.proofs.seats.Seats.put_live.Goals as goal

pub returns-then-is_some-clause-delivers : goal.returns-then-is_some-clause-delivers
returns-then-is_some-clause-delivers c = delivers-one c.args.delivery _ _ (on-ok _ c.put.result (c.put.ensures.room c.requires) c.put.ensures.ok)
