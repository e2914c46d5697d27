use Rattle.std.proofs.Common.{subst, sym}
use Rattle.ws_handshake.specs.Shakes.{stage_rules, Follows}
use Rattle.ws_handshake.specs.declared.shaking.Stage.{Stage}
use Rattle.ws_handshake.proofs.shaking.Shake.go_on.Goals as goal

pub returns-in-Hears : goal.returns-in-Hears
returns-in-Hears c = subst (λ (s : Stage). Follows (stage_rules s) c.hear.result) (sym c.in-Hears.is) c.hear.ensures

pub returns-in-Answers : goal.returns-in-Answers
returns-in-Answers c = subst (λ (s : Stage). Follows (stage_rules s) c.answer.result) (sym c.in-Answers.is) c.answer.ensures
