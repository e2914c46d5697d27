use Rattle.node_turns.proofs.HeldNames.{names-held, hashes-held}
use Rattle.node_turns.proofs.bringing_laws.held_names_are_the_journals.Goals as goal

pub returns-clause-names : goal.returns-clause-names
returns-clause-names c = names-held

pub returns-clause-hashes : goal.returns-clause-hashes
returns-clause-hashes c = hashes-held
