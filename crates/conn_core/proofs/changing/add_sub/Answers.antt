use Rattle.conn_core.proofs.Wanting.{new-none}
use Rattle.conn_core.proofs.changing.add_sub.Goals as goal

pub want_streams-requires-clause-new : goal.want_streams-requires-clause-new
want_streams-requires-clause-new c = rw c.requires.empty (new-none c.args.names.items)
