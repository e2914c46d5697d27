use Rattle.std.proofs.Common.{◌∙◌, ap, sym}
use Rattle.std.specs.Str.{bytes_eq}
use Rattle.run_queue.specs.Inboxes.{is_piece_of}
use Rattle.conn_seat.proofs.Struck.{unstruck}
use Rattle.conn_seat.proofs.striking.strike_named.Goals as goal

pub returns-else-eq : goal.returns-else-eq
returns-else-eq c = unstruck (bytes_eq c.args.sub.now.identifier c.args.identifier.now) (is_piece_of c.args.sub.now.number) c.args.inbox.now (ap (λ i. bytes_eq i c.args.identifier.now) (sym c.identifier.ensures) ∙ (sym c.eq.ensures ∙ c.if-eq.false))
