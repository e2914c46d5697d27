use Rattle.cable_laws.proofs.ConfirmedBefore.{rows-follow-text}
use Rattle.cable_laws.proofs.RowsBehind.{rows-follow}
use Rattle.cable_laws.proofs.said.rows_follow_their_finished_confirmation.Goals as goal

pub returns : goal.returns
returns c = record { piece = rows-follow; text = rows-follow-text }
