use Rattle.std.proofs.Common.{◌≡◌, ℕ, Vec, Global, rules, sym, ap, subst, ◌∙◌}
use Rattle.cable_model.specs.Breaks.GoodLines.{Nothing}
use Rattle.cable_model.specs.declared.statuses.BreakReason.{BreakReason}
use Rattle.cable_model.specs.declared.statuses.Status.TheVariants as status
use Rattle.cable_model.specs.Script.{header}
use Rattle.replay_cli.specs.declared.modes.Mode.{Mode}
use Rattle.replay_cli.specs.declared.modes.Mode.TheVariants as mode
use Rattle.replay_cli.specs.declared.stages.Stage.TheVariants as stage
use Rattle.replay_cli.specs.Stages.{IsRefused, TakesLine}
use Rattle.replay_cli.proofs.FirstLines.{some_text, no_text, header_refused, header_printed, header_kept}
use Rattle.replay_cli.proofs.stages.take_header.Goals as goal
use Rattle.replay_cli.proofs.stages.take_header.Goals.{in-Some, in-None, then-eq+in_ok-push_ended, else-eq}

pub returns-then-ne-clause-refuses : goal.returns-then-ne-clause-refuses
returns-then-ne-clause-refuses c =
    let line = c.args.line.now in
    let out = c.args.out.now.items in
    let other : ¬ (line ≡ header) = search rules in
    elim c.match-utf8_text.branch [
      | in-Some w ↦ subst (λ (why : BreakReason). IsRefused Nothing line out out (status.BadScript 1 why)) (sym w.reason-is) (header_refused line out _ ((some_text line _ w.in-Some.ensures).0, other))
      | in-None w ↦ subst (λ (why : BreakReason). IsRefused Nothing line out out (status.BadScript 1 why)) (sym w.reason-is) (header_refused line out _ (no_text line w.in-None.ensures))
    ]

pub returns-clause-takes : goal.returns-clause-takes
returns-clause-takes c =
    let line = c.args.line.now in
    let out = c.args.out.now.items in
    let same : line ≡ header = search rules in
    elim c.if-eq.branch [
      | then-eq+in_ok-push_ended w ↦
          let printing : c.args.mode ≡ mode.Print = search rules in
          subst (λ (m : Mode). TakesLine m Nothing line stage.Book out c.if-eq.out.items) (sym printing) (header_printed line out c.if-eq.out.items same (ap (λ (v : Vec ℕ Global). v.items) w.out-is ∙ w.in_ok-push_ended.ensures))
      | else-eq w ↦
          let other : ¬ (c.args.mode ≡ mode.Print) = search rules in
          subst (λ (v : Vec ℕ Global). TakesLine c.args.mode Nothing line stage.Book out v.items) (sym w.out-is) (header_kept c.args.mode line out other same)
    ]
