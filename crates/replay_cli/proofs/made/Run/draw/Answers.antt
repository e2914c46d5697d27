use Rattle.std.proofs.Common.{◌∷◌, [], OnOk, ap, sym, subst, ◌∙◌, arith}
use Rattle.cable_model.specs.declared.verbs.Verb.{Verb}
use Rattle.replay_cli.specs.Made.{draw_of, verb_of_draw}
use Rattle.replay_cli.specs.MadeRuns.{IsPlayable, RunsOn}
use Rattle.replay_cli.proofs.MadeDraws.{IsPlayable-draw}
use Rattle.replay_cli.proofs.made.Run.draw.Goals as goal

pub work-requires : goal.work-requires
work-requires c =
    subst IsPlayable (sym (c.in_ok-verb.ensures ∙ ap verb_of_draw c.of.ensures)) (IsPlayable-draw (draw_of c.args.place c.args.word) c.requires (omega arith))

pub returns : goal.returns
returns c =
    subst (λ (v : Verb). OnOk c.work.result (RunsOn (v ∷ []) c.args.self.now.world c.work.new.self.world c.args.self.now.tally c.work.new.self.tally)) (c.in_ok-verb.ensures ∙ ap verb_of_draw c.of.ensures) c.work.ensures
