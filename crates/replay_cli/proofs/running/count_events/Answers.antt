use Rattle.std.proofs.Common.{◌≡◌, List, [], ◌∷◌, ◌++◌, take, refl, sym, ap, subst, ◌∙◌, ◌+◌}
use Rattle.std.proofs.lemmas.List.{take_more}
use Rattle.cable_model.specs.declared.events.Event.{Event}
use Rattle.replay_cli.specs.Running.{CountsAs}
use Rattle.replay_cli.proofs.RunsOn.{counts_on, counts_none}
use Rattle.replay_cli.proofs.running.count_events.Goals as goal

pub loop-event-init : goal.loop-event-init
loop-event-init c = record { counts = counts_none _ _; book = refl }

pub loop-event-preserved : goal.loop-event-preserved
loop-event-preserved c =
    let i = c.loop-event.invariant in
    let so_far = take c.loop-event.event-index c.args.events.now in
    let more : take (c.loop-event.event-index + 1) c.args.events.now ≡ so_far ++ c.event-item.result ∷ [] =
    take_more c.args.events.now c.loop-event.event-index c.event-item.result c.loop-event-test.true ∙ ap (λ (x : Event). so_far ++ x ∷ []) (sym c.event-item.is) in
    record {
      counts = subst (λ (es : List Event). CountsAs es c.args.world.now c.step_event.new.world c.args.tally.now c.step_event.new.tally) (sym more)
          (counts_on so_far (c.event-item.result ∷ []) _ c.loop-event.world _ _ c.loop-event.tally _ i.book i.counts c.in_ok-step_event.ensures.counts);
      book = c.step_event.ensures.book ∙ i.book;
    }
