use Rattle.std.proofs.Common.{Result, Ok, Err, subst}
use Rattle.ws_gate.specs.declared.verdicts.Admission.{Admission}
use Rattle.ws_gate.specs.declared.verdicts.Denial.{Denial}
use Rattle.ws_gate.proofs.Told.{IsRight, is_right, one_right}
use Rattle.ws_gate.proofs.laws.handshakes_are_told_apart.Goals as goal

pub returns-clause-denied : goal.returns-clause-denied
returns-clause-denied c = λ h rules denial. (λ e. subst (λ (a : Result Admission Denial). IsRight h rules a) e (is_right h rules), one_right h rules (Err denial))

pub returns-clause-admitted : goal.returns-clause-admitted
returns-clause-admitted c = λ h rules admission. (λ e. subst (λ (a : Result Admission Denial). IsRight h rules a) e (is_right h rules), one_right h rules (Ok admission))
