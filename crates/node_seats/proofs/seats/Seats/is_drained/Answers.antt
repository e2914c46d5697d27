use Rattle.std.proofs.Common.{◌≡◌, true, false, [], refl, sym, subst}
use Rattle.conn_seat.specs.Outboxes.{OutboxState}
use Rattle.node_seats.proofs.Shown.{outbox-found, outbox-missing}
use Rattle.node_seats.proofs.seats.Seats.is_drained.Goals as goal

pub returns-in-Some : goal.returns-in-Some
returns-in-Some c =
    subst (λ (o : OutboxState). (c.is_drained.result ≡ true → o.queued ≡ []) × (c.is_drained.result ≡ false → o.queued ≡ [] → ⊥))
    (sym (outbox-found c.args.conn.0 _ _ c.self.view_is _ (sym c.in-Some.ensures.value))) c.is_drained.ensures

pub returns-in-None : goal.returns-in-None
returns-in-None c =
    subst (λ (o : OutboxState). (true ≡ true → o.queued ≡ []) × (true ≡ false → o.queued ≡ [] → ⊥))
    (sym (outbox-missing c.args.conn.0 _ _ c.self.view_is (sym c.in-None.ensures.value))) (λ e. refl, λ e. absurd cc)
