use Rattle.std.proofs.Common.{◌∙◌}
use Rattle.node_seats.proofs.Shown.{used-shown}
use Rattle.node_seats.proofs.seats.Seats.is_used.Goals as goal

pub returns-clause-used : goal.returns-clause-used
returns-clause-used c = c.contains_key.ensures ∙ used-shown c.args.conn.0 _ _ c.self.view_is
