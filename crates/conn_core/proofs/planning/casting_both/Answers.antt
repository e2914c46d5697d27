use Rattle.std.proofs.Common.{sym, ap, subst}
use Rattle.conn_core.specs.Payloads.{AreCommittable}
use Rattle.conn_core.proofs.Broadcasts.{first_committable, more_committable}
use Rattle.conn_core.proofs.planning.casting_both.Goals as goal

pub returns-clause-rows : goal.returns-clause-rows
returns-clause-rows g c =
    let first = first_committable c.args.casts c.behind-walked.result.kept _ (ap (λ w. w.kept) c.behind-walked.ensures) c.in_ok-add.ensures.kept c.requires.json in
    let both = more_committable _ _ _ first c.in_ok-leave.ensures.kept c.in_ok-leave.ensures.rows in
    subst AreCommittable (sym c.in_ok-into_parts.ensures.0) both
