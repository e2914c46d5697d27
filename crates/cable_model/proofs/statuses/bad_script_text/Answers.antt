use Rattle.std.proofs.Common.{◌∙◌, append_assoc}
use Rattle.std.proofs.lemmas.Result.{IfOk-weaker}
use Rattle.cable_model.proofs.statuses.bad_script_text.Goals as goal

pub returns : goal.returns
returns c = IfOk-weaker c.of.result _ _ (λ t is. is ∙ (c.in_ok-text.ensures.ok ∙ rw c.text-reason.ensures (simp append_assoc))) c.of.ensures
