use Rattle.std.specs.Vec.Iter.{into_iter_items}
use Rattle.conn_core.proofs.Wanting.{Wanting}
use Rattle.conn_core.proofs.streaming.want_streams.Given as goal

abbrev pub invariant-loop-name : goal.invariant-loop-name
invariant-loop-name l = Wanting l.first.0 l.count l.fn.names.items (into_iter_items l.name-iterator) l.fn.streams.entries l.streams.entries l.streams.spare
