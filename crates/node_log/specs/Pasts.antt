-- What a history says by what it came by last.
use Rattle.std.specs.Prelude.{◌+◌}
use Rattle.node_log.specs.Logs.{Said, cut_from, entered, nothing}
use Rattle.node_log.specs.declared.histories.Made.{Made}
use Rattle.node_log.specs.declared.histories.Made.TheVariants as made

abbrev pub said_of : Made → Said
said_of made.Nothing = record { kept = nothing; acts = 0 }
said_of (made.Entered before entry beside) = record { kept = entered entry.value beside.value before.value.value.kept; acts = before.value.value.acts + 1 }
said_of (made.Cut before conn) = record { kept = cut_from conn.0 before.value.value.kept; acts = before.value.value.acts + 1 }
