use Rattle.std.proofs.Common.{sym, ap, ◌∙◌}
use Rattle.conn_seat.specs.Outboxes.{OutboxState}
use Rattle.node_seats.proofs.Faces.{wrote}
use Rattle.node_seats.proofs.OneQueue.{forgets}
use Rattle.node_seats.proofs.Shown.{one-outbox, opened-same, outbox-found, over-kept, over-missing, tidy-still}
use Rattle.node_seats.proofs.seats.Seats.forget.Goals as goal

pub forget-requires : goal.forget-requires
forget-requires c = record {
  over = over-kept _ _ _ c.self.view_is _ (sym c.in-Some.ensures.value) c.requires.over;
  empty = ap (λ (o : OutboxState). o.queued) (sym (outbox-found _ _ _ c.self.view_is _ (sym c.in-Some.ensures.value))) ∙ c.requires.empty;
}

pub invariant_of-self : goal.invariant_of-self
invariant_of-self c =
    let w = wrote c.args.conn.0 _ _ _ _ c.in-Some.ensures.value (c.get_mut.follows.holds c.forget.new.self).0 in
    tidy-still _ _ _ _ _ w _ c.forget.ensures.opened c.self.invariant

pub returns : goal.returns
returns c =
    let w = wrote c.args.conn.0 _ _ _ _ c.in-Some.ensures.value (c.get_mut.follows.holds c.forget.new.self).0 in
    let empty = ap (λ (o : OutboxState). o.queued) (sym (outbox-found _ _ _ c.self.view_is _ (sym c.in-Some.ensures.value))) ∙ c.requires.empty in
    record {
      entries = opened-same _ _ _ _ _ w _ c.self.view_is c.forget.ensures.opened;
      forgets = forgets _ _ _ _ _ (one-outbox _ _ _ _ _ w _ c.self.view_is) empty c.forget.ensures.outbox;
    }

pub unreachable-requires : goal.unreachable-requires
unreachable-requires c = over-missing c.args.conn.0 _ _ c.self.view_is (sym c.in_default.ensures.value) c.requires.over
