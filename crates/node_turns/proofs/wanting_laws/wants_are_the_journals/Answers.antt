use Rattle.node_turns.proofs.Wishing.{wished-boot, wished-plain, wished-open, wished-finish, wished-ask, wished-missed, wished-found}
use Rattle.node_turns.proofs.wanting_laws.wants_are_the_journals.Goals as goal

pub returns-clause-boot : goal.returns-clause-boot
returns-clause-boot c = wished-boot

pub returns-clause-plain : goal.returns-clause-plain
returns-clause-plain c = wished-plain

pub returns-clause-open : goal.returns-clause-open
returns-clause-open c = wished-open

pub returns-clause-finish : goal.returns-clause-finish
returns-clause-finish c = wished-finish

pub returns-clause-ask : goal.returns-clause-ask
returns-clause-ask c = wished-ask

pub returns-clause-missed : goal.returns-clause-missed
returns-clause-missed c = wished-missed

pub returns-clause-found : goal.returns-clause-found
returns-clause-found c = wished-found
