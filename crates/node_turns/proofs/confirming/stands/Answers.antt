use Rattle.std.proofs.Common.{◌∙◌, ap, sym}
use Rattle.std.specs.List.{list_any}
use Rattle.conn_core.specs.Subscriptions.{has_number, shown}
use Rattle.conn_core.proofs.Mapped.{any-map}
use Rattle.node_turns.specs.Wants.{stands_in}
use Rattle.node_turns.proofs.confirming.stands.Goals as goal

pub returns-in-Some : goal.returns-in-Some
returns-in-Some c =
    c.stands_among.ensures
    ∙ (sym (any-map shown (has_number c.args.wanted.now.sub) c.subs.result.now)
    ∙ (ap (list_any (has_number c.args.wanted.now.sub)) c.subs.ensures.subs ∙ ap (stands_in c.args.wanted.now) c.in-Some.ensures))
