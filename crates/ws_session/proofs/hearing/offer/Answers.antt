use Rattle.std.proofs.Common.{◌∙◌, sym}
use Rattle.ws_session.proofs.HalfHeard.{dropped-so, kept-so, offered}
use Rattle.ws_session.proofs.hearing.offer.Goals as goal
use Rattle.ws_session.proofs.hearing.offer.Goals.{else-is_kept, then-is_kept}

pub returns : goal.returns
returns g c =
    offered g.D.Desk.arrives c.args.conn c.args.desk.now c.args.text c.as_str.result.now c.arrive-answer.result
    c.if-is_kept.kept c.goes_on_after.result c.arrive-answer.new.self c.as_str.ensures c.arrive-answer.ensures.arrives
    (elim c.if-is_kept.branch [
      | then-is_kept w ↦ kept-so c.args.text c.arrive-answer.result c.if-is_kept.kept (sym c.is_kept.ensures ∙ w.if-is_kept.true) w.kept-is
      | else-is_kept w ↦ dropped-so c.args.text c.arrive-answer.result c.if-is_kept.kept (sym c.is_kept.ensures ∙ w.if-is_kept.false) (w.kept-is ∙ c.requires)
    ])
    c.goes_on_after.ensures
