use Rattle.std.proofs.Common.{sym, ap, ◌∙◌}
use Rattle.node_seats.specs.Numbers.{seat_in}
use Rattle.node_seats.proofs.Shown.{opened-found, opened-missing}
use Rattle.node_seats.proofs.seats.Seats.get.Goals as goal

pub returns-in_err-get : goal.returns-in_err-get
returns-in_err-get c = rw c.from_residual.ensures (ap seat_in (sym (opened-missing c.args.conn.0 _ _ c.self.view_is (sym c.in_err-get.ensures.value))))

pub returns : goal.returns
returns c = c.seat.ensures ∙ ap seat_in (sym (opened-found c.args.conn.0 _ _ c.self.view_is _ (sym c.in_ok-get.ensures.value)))
