use Rattle.std.proofs.Common.{sym, ap, ◌∙◌}
use Rattle.node_seats.specs.Numbers.{is_over_in}
use Rattle.node_seats.proofs.Shown.{opened-found, opened-missing}
use Rattle.node_seats.proofs.seats.Seats.is_over.Goals as goal

pub returns-in-Some : goal.returns-in-Some
returns-in-Some c = c.is_over.ensures ∙ ap is_over_in (sym (opened-found c.args.conn.0 _ _ c.self.view_is _ (sym c.in-Some.ensures.value)))

pub returns-in-None : goal.returns-in-None
returns-in-None c = ap is_over_in (sym (opened-missing c.args.conn.0 _ _ c.self.view_is (sym c.in-None.ensures.value)))
