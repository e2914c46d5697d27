-- A connection's subscriptions without their marks, as the rules of a piece see them.
use Rattle.std.specs.Prelude.{false, List, map, None}
use Rattle.stream_set.specs.declared.entries.StreamEntry.{StreamEntry}
use Rattle.cable_model.specs.Connection.{Want, Sub, Conn}
use Rattle.conn_core.specs.Subscriptions.{Subscription}

abbrev pub bare_want : StreamEntry → Want
bare_want e = record { name = e.name; number = e.want.0 }

abbrev pub bare_sub : Subscription → Sub
bare_sub s = record { number = s.number.0; identifier = s.identifier; wants = map bare_want s.streams; due = None }

-- what a task needs of a connection: neither how many wants it made, nor which confirmations are due, nor whether it is over
abbrev pub bare : List Subscription → Conn
bare subs = record { subs = map bare_sub subs; made = 0; over = false }
