use Rattle.std.proofs.lemmas.Nat.Gcd.{dvd_of_mod-eq-zero, mod-eq-zero_of_dvd}
use Rattle.trimmer.proofs.policies.Policy.due.Goals as goal

pub returns-then-self-ne0 : goal.returns-then-self-ne0
returns-then-self-ne0 c = (
  λ h. record { some = c.if-self-ne0.true; divides = dvd_of_mod-eq-zero c.args.self.now.every (c.is_multiple_of.ensures.0 h) },
  λ d. c.is_multiple_of.ensures.1 (mod-eq-zero_of_dvd c.args.self.now.every d.divides),
)
