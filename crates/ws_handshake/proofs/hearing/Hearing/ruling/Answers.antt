use Rattle.std.proofs.Common.{subst}
use Rattle.ws_gate.specs.declared.verdicts.Rules.{Rules}
use Rattle.ws_handshake.specs.Replies.{FollowsRules}
use Rattle.ws_handshake.proofs.Told.{let_in, kept_out}
use Rattle.ws_handshake.proofs.hearing.Hearing.ruling.Goals as goal

pub returns-in-Admitted : goal.returns-in-Admitted
returns-in-Admitted c = let_in _ c.args.self.now.rules.value c.reply_to_head.result c.in-Admitted.admission c.in-Admitted.answer (subst (λ (r : Rules). FollowsRules c.as_slice.result.now r c.reply_to_head.result) c.deref.ensures c.reply_to_head.ensures) c.in-Admitted.is

pub returns-in-Denied : goal.returns-in-Denied
returns-in-Denied c = kept_out _ c.args.self.now.rules.value c.reply_to_head.result c.in-Denied.denial (subst (λ (r : Rules). FollowsRules c.as_slice.result.now r c.reply_to_head.result) c.deref.ensures c.reply_to_head.ensures) c.in-Denied.is
