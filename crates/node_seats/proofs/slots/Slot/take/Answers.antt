use Rattle.std.proofs.Common.{sym, ap, ◌∙◌}
use Rattle.std.specs.Box.{with_value}
use Rattle.std.proofs.lemmas.Result.{IfOk-weaker, on_err_weaker}
use Rattle.node_seats.specs.declared.slots.Slot.TheVariants as slot
use Rattle.node_seats.proofs.slots.Slot.take.Goals as goal

pub returns-in-Live-clause-none : goal.returns-in-Live-clause-none
returns-in-Live-clause-none c =
    IfOk-weaker c.take.result _ _ (λ e same none. ap (λ v. slot.Live (with_value c.in-Live.live v)) (same none ∙ c.deref_mut.ensures.value) ∙ sym c.in-Live.is)
    c.take.ensures.none

pub returns-in-Live-clause-err : goal.returns-in-Live-clause-err
returns-in-Live-clause-err c =
    on_err_weaker c.take.result (λ same. ap (λ v. slot.Live (with_value c.in-Live.live v)) (same ∙ c.deref_mut.ensures.value) ∙ sym c.in-Live.is)
    c.take.ensures.err
