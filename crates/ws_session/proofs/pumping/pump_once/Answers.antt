use Rattle.std.proofs.Common.{◌≡◌, ◌∙◌, Err, sym}
use Rattle.std.proofs.lemmas.Result.{err_from_is_err_and}
use Rattle.ws_session.specs.declared.outcomes.PumpFault.TheVariants as fault
use Rattle.ws_session.proofs.Calm.{pumps-calm, pumps-rose}
use Rattle.ws_session.proofs.WholeCalls.{pumps, says-in-vain}
use Rattle.ws_session.proofs.pumping.pump_once.Goals as goal

pub returns-in_err-said-clause-pumps : goal.returns-in_err-said-clause-pumps
returns-in_err-said-clause-pumps g c =
    let p = err_from_is_err_and c.from_residual-in_err-said.result c.from_residual-in_err-said.ensures.1 in
    rw (p.1, p.2)
    (says-in-vain _ c.args.conn c.args.kept.now _ c.in_ok-heard.heard c.hear.new.kept
    (record { link = c.hear.new.link; desk = c.hear.new.desk }) c.in_err-said.field-0.0 _ c.in_ok-heard.ensures.ok
    c.in_err-said.ensures.err)

pub returns-in_err-said-clause-cause : goal.returns-in_err-said-clause-cause
returns-in_err-said-clause-cause g c = λ is.
    let p = err_from_is_err_and c.from_residual-in_err-said.result c.from_residual-in_err-said.ensures.1 in
    pumps-rose
    (record {
      link = record { gives = g.L.Link.gives; says = g.L.Link.says; coming = g.L.Link.coming; said = g.L.Link.said; faults = g.L.Link.faults };
      desk = record { arrives = g.D.Desk.arrives; goes = g.D.Desk.goes; takes_out = g.D.Desk.takes_out; tells_over = g.D.Desk.tells_over };
    })
    c.args.conn c.args.kept.now (record { link = c.args.link.now; desk = c.args.desk.now }) c.hear.new.kept
    (record { link = c.say_all.new.link; desk = c.say_all.new.desk })
    (says-in-vain _ c.args.conn c.args.kept.now _ c.in_ok-heard.heard c.hear.new.kept
    (record { link = c.hear.new.link; desk = c.hear.new.desk }) fault.LinkFault _ c.in_ok-heard.ensures.ok
    (let same : c.in_err-said.field-0.0 ≡ fault.LinkFault = sym p.2
    ∙ (let e : Err p.0 ≡ Err fault.LinkFault = sym p.1 ∙ is in cc e) in rw (← same) c.in_err-said.ensures.err))

pub returns-clause-pumps : goal.returns-clause-pumps
returns-clause-pumps g c =
    pumps _ c.args.conn c.args.kept.now _ c.in_ok-heard.heard c.hear.new.kept
    (record { link = c.hear.new.link; desk = c.hear.new.desk }) c.in_ok-said.said _ c.pumped.result
    c.in_ok-heard.ensures.ok c.in_ok-said.ensures.ok c.pumped.ensures

pub returns-clause-calm : goal.returns-clause-calm
returns-clause-calm g c =
    pumps-calm
    (record {
      link = record { gives = g.L.Link.gives; says = g.L.Link.says; coming = g.L.Link.coming; said = g.L.Link.said; faults = g.L.Link.faults };
      desk = record { arrives = g.D.Desk.arrives; goes = g.D.Desk.goes; takes_out = g.D.Desk.takes_out; tells_over = g.D.Desk.tells_over };
    })
    c.args.conn c.args.kept.now (record { link = c.args.link.now; desk = c.args.desk.now }) c.pumped.result c.hear.new.kept
    (record { link = c.say_all.new.link; desk = c.say_all.new.desk })
    (pumps _ c.args.conn c.args.kept.now _ c.in_ok-heard.heard c.hear.new.kept
    (record { link = c.hear.new.link; desk = c.hear.new.desk }) c.in_ok-said.said _ c.pumped.result
    c.in_ok-heard.ensures.ok c.in_ok-said.ensures.ok c.pumped.ensures)
