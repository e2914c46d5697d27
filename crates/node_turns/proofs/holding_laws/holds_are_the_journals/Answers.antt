use Rattle.node_turns.proofs.HoldsStaying.{held-boot, held-steady, held-open, held-missed}
use Rattle.node_turns.proofs.holding_laws.holds_are_the_journals.Goals as goal

pub returns-clause-boot : goal.returns-clause-boot
returns-clause-boot c = held-boot

pub returns-clause-steady : goal.returns-clause-steady
returns-clause-steady c = held-steady

pub returns-clause-open : goal.returns-clause-open
returns-clause-open c = held-open

pub returns-clause-missed : goal.returns-clause-missed
returns-clause-missed c = held-missed
