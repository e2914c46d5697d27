use Rattle.std.proofs.Common.{ℕ, ◌≡◌, ◌≤◌, ◌+◌, ◌^◌, true, subst, sym}
use Rattle.std.specs.List.{list_all}
use Rattle.cable_model.specs.Wants.{makes}
use Rattle.conn_core.specs.Subscriptions.{shown}
use Rattle.conn_core.specs.Connections.{CanApply, Connection}
use Rattle.conn_core_tests.specs.Worked.{is_bare_below}
use Rattle.conn_core_tests.proofs.Working.{all-bare, subs-below, wants-below}
use Rattle.conn_core_tests.proofs.conn_core_tests.work.Goals as goal

pub apply-requires-clause-can : goal.apply-requires-clause-can
apply-requires-clause-can g c =
    let bare : list_all (is_bare_below c.args.number) c.args.conn.now.subs ≡ true = all-bare shown c.args.number _ _ _ c.subs.ensures.subs c.are_bare_below.ensures c.if-not-are_bare_below.false in
    let fits : c.args.first.0 + makes c.in_ok-plan.plan.change ≤ 2 ^ 64 = subst (λ (w : ℕ). c.args.first.0 + w ≤ 2 ^ 64) c.wants_made.ensures (c.has_numbers.ensures c.if-not-has_numbers.false) in
    subst (λ (k : Connection). CanApply c.in_ok-plan.plan.change c.args.number c.args.first k.subs) (sym c.in_ok-reserve.ensures.ok)
    (c.in_ok-plan.ensures c.args.number c.args.first c.subs.ensures.apart (subs-below _ _ bare) (wants-below c.args.number _ _ bare) fits)
