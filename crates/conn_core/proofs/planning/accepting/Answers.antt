use Rattle.std.proofs.Common.{sym, ap, subst}
use Rattle.conn_core.specs.Payloads.{AreCommittable}
use Rattle.conn_core.proofs.Broadcasts.{first_committable}
use Rattle.conn_core.proofs.planning.accepting.Goals as goal

pub returns-clause-casts : goal.returns-clause-casts
returns-clause-casts c =
    subst AreCommittable (sym c.in_ok-casts.ensures.0)
    (first_committable c.args.answer.casts c.behind-walked.result.kept _ (ap (λ w. w.kept) c.behind-walked.ensures) c.in_ok-add.ensures.kept c.requires.json.casts)
