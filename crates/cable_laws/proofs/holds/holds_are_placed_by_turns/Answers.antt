use Rattle.cable_laws.proofs.Taking.{marks-are-taken}
use Rattle.cable_laws.proofs.TakingConfirms.{confirms-are-taken}
use Rattle.cable_laws.proofs.holds.holds_are_placed_by_turns.Goals as goal

pub returns-clause-marks : goal.returns-clause-marks
returns-clause-marks c = marks-are-taken

pub returns-clause-confirmations : goal.returns-clause-confirmations
returns-clause-confirmations c = confirms-are-taken
