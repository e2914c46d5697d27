use Rattle.std.proofs.Common.{sym}
use Rattle.conn_core.proofs.Bared.{performs}
use Rattle.conn_core.proofs.tasking.perform_task.Goals as goal

pub returns : goal.returns
returns c =
    rw (c.in_ok-copy.ensures, c.in_ok-copy-2.ensures, c.in_ok-names_of.ensures, c.entries.ensures.entries, c.streams.ensures) (performs c.args.identifier.now c.args.payload.now c.args.subs.now c.in-Some.sub.now (rw (← c.as_str.ensures) c.in-Some.ensures))
