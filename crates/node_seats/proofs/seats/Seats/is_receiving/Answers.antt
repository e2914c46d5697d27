use Rattle.std.proofs.Common.{sym, ap, ◌∙◌}
use Rattle.node_seats.specs.Numbers.{is_receiving_among}
use Rattle.node_seats.proofs.Shown.{opened-found, opened-missing}
use Rattle.node_seats.proofs.seats.Seats.is_receiving.Goals as goal

pub returns-in-Some : goal.returns-in-Some
returns-in-Some c =
    c.is_receiving.ensures ∙ ap is_receiving_among (sym (opened-found c.args.number _ _ c.self.view_is _ (sym c.in-Some.ensures.value)))

pub returns-in-None : goal.returns-in-None
returns-in-None c = ap is_receiving_among (sym (opened-missing c.args.number _ _ c.self.view_is (sym c.in-None.ensures.value)))
