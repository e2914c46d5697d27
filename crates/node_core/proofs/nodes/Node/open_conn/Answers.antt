use Rattle.std.proofs.Common.{refl}
use Rattle.std.proofs.lemmas.Result.{err_from_is_err_and}
use Rattle.cable_model.specs.Journal.{past_of}
use Rattle.node_core.proofs.Openings.{refuses-open, is-used, is-full, used-at, full-at, may-open, wants-memory, nothing-wanting}
use Rattle.node_core.proofs.nodes.Node.open_conn.Goals as goal

pub returns-then-is_used-clause-fault : goal.returns-then-is_used-clause-fault
returns-then-is_used-clause-fault g c =
    let used = used-at c.args.conn.0 (past_of c.self.inside.journal.kept) c.self.inside.seats.entries c.self.invariant.stands.numbers _ _ c.is_used.ensures.used c.if-is_used.true in
    rw (← c.self.view_is) (refuses-open _ _ _ (is-used c.args.conn.0 (past_of c.self.inside.journal.kept) used))

pub returns-then-is_full-clause-fault : goal.returns-then-is_full-clause-fault
returns-then-is_full-clause-fault g c =
    let used = used-at c.args.conn.0 (past_of c.self.inside.journal.kept) c.self.inside.seats.entries c.self.invariant.stands.numbers _ _ c.is_used.ensures.used c.if-is_used.false in
    let full = full-at (past_of c.self.inside.journal.kept) c.self.inside.seats.entries c.self.invariant.stands.numbers _ _ c.is_full.ensures c.if-is_full.true in
    rw (← c.self.view_is) (refuses-open _ _ _ (is-full c.args.conn.0 (past_of c.self.inside.journal.kept) used full))

pub enter_open-requires : goal.enter_open-requires
enter_open-requires g c =
    let used = used-at c.args.conn.0 (past_of c.self.inside.journal.kept) c.self.inside.seats.entries c.self.invariant.stands.numbers _ _ c.is_used.ensures.used c.if-is_used.false in
    let full = full-at (past_of c.self.inside.journal.kept) c.self.inside.seats.entries c.self.invariant.stands.numbers _ _ c.is_full.ensures c.if-is_full.false in
    rw (← c.self.view_is) (may-open c.args.conn.0 (past_of c.self.inside.journal.kept) used full)

pub returns-in_err-enter_open-clause-fault : goal.returns-in_err-enter_open-clause-fault
returns-in_err-enter_open-clause-fault g c =
    let p = err_from_is_err_and c.from_residual.result c.from_residual.ensures.1 in
    let used = used-at c.args.conn.0 (past_of c.self.inside.journal.kept) c.self.inside.seats.entries c.self.invariant.stands.numbers _ _ c.is_used.ensures.used c.if-is_used.false in
    let full = full-at (past_of c.self.inside.journal.kept) c.self.inside.seats.entries c.self.invariant.stands.numbers _ _ c.is_full.ensures c.if-is_full.false in
    rw (← c.self.view_is, p.1, p.2) (wants-memory _ _ _ (may-open c.args.conn.0 (past_of c.self.inside.journal.kept) used full) refl)

pub returns-clause-fault : goal.returns-clause-fault
returns-clause-fault g c =
    let used = used-at c.args.conn.0 (past_of c.self.inside.journal.kept) c.self.inside.seats.entries c.self.invariant.stands.numbers _ _ c.is_used.ensures.used c.if-is_used.false in
    let full = full-at (past_of c.self.inside.journal.kept) c.self.inside.seats.entries c.self.invariant.stands.numbers _ _ c.is_full.ensures c.if-is_full.false in
    rw (← c.self.view_is) (nothing-wanting _ _ _ (may-open c.args.conn.0 (past_of c.self.inside.journal.kept) used full))
