use Rattle.std.proofs.Common.{sym, ap, ◌∙◌}
use Rattle.conn_seat.specs.Outboxes.{OutboxState}
use Rattle.node_seats.proofs.Shown.{outbox-found, outbox-missing}
use Rattle.node_seats.proofs.seats.Seats.is_forgotten.Goals as goal

pub returns-in-Some : goal.returns-in-Some
returns-in-Some c =
    c.is_forgotten.ensures ∙ ap (λ (o : OutboxState). o.forgotten) (sym (outbox-found c.args.conn.0 _ _ c.self.view_is _ (sym c.in-Some.ensures.value)))

pub returns-in-None : goal.returns-in-None
returns-in-None c = ap (λ (o : OutboxState). o.forgotten) (sym (outbox-missing c.args.conn.0 _ _ c.self.view_is (sym c.in-None.ensures.value)))
