use Rattle.std.proofs.Common.{List, subst, ◌∙◌}
use Rattle.std.proofs.lemmas.Result.{on_ok_weaker}
use Rattle.cable_model.specs.declared.events.Event.{Event}
use Rattle.replay_cli.specs.Running.{CountsAs}
use Rattle.replay_cli.proofs.MadeLines.{line_runs}
use Rattle.replay_cli.proofs.made.Run.work.Goals as goal

pub returns : goal.returns
returns c =
    let events = c.deref.ensures.value ∙ c.in_ok-events.ensures in
    on_ok_weaker c.count_events.result (λ p. line_runs _ _ _ _ _ c.count_events.ensures.book (subst (λ (es : List Event). CountsAs es c.args.self.now.world c.count_events.new.world c.args.self.now.tally c.count_events.new.tally) events p)) c.count_events.ensures.counts
