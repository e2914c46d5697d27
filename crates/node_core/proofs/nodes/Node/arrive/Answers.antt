use Rattle.std.proofs.Common.{rules, ◌∙◌, refl, sym}
use Rattle.std.proofs.lemmas.Result.{err_from_is_err_and}
use Rattle.node_core.proofs.Telling.{worked, fault-at, refuses-text, wants-memory, nothing-wanting}
use Rattle.node_core.proofs.StayingReady.{goes-nowhere}
use Rattle.node_core.proofs.nodes.Node.arrive.Goals as goal

pub returns-in-Some-clause-fault : goal.returns-in-Some-clause-fault
returns-in-Some-clause-fault c =
    rw (← c.self.view_is)
    (refuses-text _ _ c.in-Some.fault
    (sym (fault-at _ c.self.inside.seats.entries c.args.conn.0 c.args.text.now (worked _ c.self.invariant.stands.legal) c.self.invariant.stands.numbers)
    ∙ (sym c.text_fault.ensures ∙ c.in-Some.is)))

pub put_text-requires : goal.put_text-requires
put_text-requires c =
    rw (← c.self.view_is)
    (sym (fault-at _ c.self.inside.seats.entries c.args.conn.0 c.args.text.now (worked _ c.self.invariant.stands.legal) c.self.invariant.stands.numbers)
    ∙ (sym c.text_fault.ensures ∙ c.in_default.is))

pub returns-in_err-put_text-clause-fault : goal.returns-in_err-put_text-clause-fault
returns-in_err-put_text-clause-fault c =
    let p = err_from_is_err_and c.from_residual.result c.from_residual.ensures.1 in
    rw (← c.self.view_is, p.1, p.2)
    (wants-memory _ _ _
    (sym (fault-at _ c.self.inside.seats.entries c.args.conn.0 c.args.text.now (worked _ c.self.invariant.stands.legal) c.self.invariant.stands.numbers)
    ∙ (sym c.text_fault.ensures ∙ c.in_default.is))
    refl)

pub returns-clause-fault : goal.returns-clause-fault
returns-clause-fault c =
    rw (← c.self.view_is)
    (nothing-wanting _ _ _
    (sym (fault-at _ c.self.inside.seats.entries c.args.conn.0 c.args.text.now (worked _ c.self.invariant.stands.legal) c.self.invariant.stands.numbers)
    ∙ (sym c.text_fault.ensures ∙ c.in_default.is)))

pub returns-in-Some-clause-goes : goal.returns-in-Some-clause-goes
returns-in-Some-clause-goes c = rw (← c.self.view_is) (goes-nowhere _ _ c.self.invariant.stands c.self.invariant.ready (search rules))
