-- What a turn caught, as the journals write it.
use Rattle.cable_model.specs.declared.journals.ReadNote.{ReadNote}
use Rattle.poll_turn.specs.Turns.{CaughtState}

abbrev pub note_in : CaughtState → ReadNote
note_in c = record { failed = c.is_missed; lower = c.lower; upto = c.upto; last = c.last; rows = c.rows }
