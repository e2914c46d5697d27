use Rattle.std.proofs.Common.{ℕ, ◌+◌, List, subst, ap, ◌∙◌}
use Rattle.cable_model.specs.declared.events.Event.{Event}
use Rattle.replay_cli.specs.Stages.{WorksAs}
use Rattle.replay_cli.proofs.FurtherLines.{further_taken}
use Rattle.replay_cli.proofs.stages.take_further.Goals as goal

pub returns : goal.returns
returns c m s at =
    let l = c.in_ok-events.ensures.reads in
    let works =
    subst (λ (es : List Event). WorksAs es c.args.work.now c.work_events.new.work c.args.out.now.items c.work_events.new.out.items) (c.deref.ensures.value ∙ l.are) c.in_ok-work_events.ensures
    in
    further_taken m s c.args.line.now l.verb c.args.work.now c.work_events.new.work c.in_ok-behind.behind c.args.out.now.items c.work_events.new.out.items l.is_line l.spells
    (c.in_ok-behind.ensures ∙ ap (λ (n : ℕ). n + 1) at.0) at.1 works
