use Rattle.std.proofs.Common.{◌≡◌, List, [], ◌∷◌, ◌++◌, take, refl, sym, ap, subst, ◌∙◌, ◌+◌}
use Rattle.std.proofs.lemmas.List.{take_more}
use Rattle.cable_model.specs.declared.events.Event.{Event}
use Rattle.replay_cli.specs.Running.{RunsAs}
use Rattle.replay_cli.proofs.RunsOn.{runs_on, runs_none}
use Rattle.replay_cli.proofs.running.run_events.Goals as goal

pub loop-event-init : goal.loop-event-init
loop-event-init c = record { runs = runs_none _ _ _; book = refl }

pub loop-event-preserved : goal.loop-event-preserved
loop-event-preserved c =
    let i = c.loop-event.invariant in
    let so_far = take c.loop-event.event-index c.args.events.now in
    let more : take (c.loop-event.event-index + 1) c.args.events.now ≡ so_far ++ c.event-item.result ∷ [] =
    take_more c.args.events.now c.loop-event.event-index c.event-item.result c.loop-event-test.true ∙ ap (λ (x : Event). so_far ++ x ∷ []) (sym c.event-item.is) in
    record {
      runs = subst (λ (es : List Event). RunsAs es c.args.world.now c.run_event.new.world c.args.text.now.items c.run_event.new.text.items c.args.tally.now c.run_event.new.tally) (sym more)
          (runs_on so_far (c.event-item.result ∷ []) _ c.loop-event.world _ _ c.loop-event.text.items _ _ c.loop-event.tally _ i.book i.runs c.in_ok-run_event.ensures.runs);
      book = c.run_event.ensures.book ∙ i.book;
    }
