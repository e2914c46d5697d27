use Rattle.std.proofs.Common.{◌∙◌, ap, sym}
use Rattle.std.specs.List.{list_any}
use Rattle.std.specs.Str.{bytes_eq}
use Rattle.conn_seat.specs.Ends.{is_row_stopped}
use Rattle.conn_seat.proofs.Struck.{unstruck}
use Rattle.conn_seat.proofs.striking.strike_stopped.Goals as goal

pub returns-else-eq : goal.returns-else-eq
returns-else-eq c = unstruck (bytes_eq c.args.sub.now.identifier c.args.identifier.now) (λ p. list_any (λ e. is_row_stopped c.args.stops.now e p) c.args.sub.now.streams.entries) c.args.inbox.now (ap (λ i. bytes_eq i c.args.identifier.now) (sym c.identifier.ensures) ∙ (sym c.eq.ensures ∙ c.if-eq.false))
