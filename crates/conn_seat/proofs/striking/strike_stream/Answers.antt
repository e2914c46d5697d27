use Rattle.std.proofs.Common.{◌∙◌, ap, sym}
use Rattle.cable_model.specs.Connection.{among}
use Rattle.run_queue.specs.Inboxes.{is_row_of}
use Rattle.conn_seat.proofs.Struck.{unstruck}
use Rattle.conn_seat.proofs.striking.strike_stream.Goals as goal

pub returns-else-among : goal.returns-else-among
returns-else-among c = unstruck (among c.args.stops.now c.args.stream.now.name) (is_row_of c.args.stream.now.want) c.args.inbox.now (ap (among c.args.stops.now) (sym c.as_str.ensures) ∙ (sym c.among.ensures ∙ c.if-among.false))
