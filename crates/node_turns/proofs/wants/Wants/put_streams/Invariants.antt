use Rattle.node_turns.proofs.Putting.{Putting}
use Rattle.node_turns.proofs.wants.Wants.put_streams.Given as goal

abbrev pub invariant-loop-count : goal.invariant-loop-count
invariant-loop-count l = Putting l.conn.0 l.sub.0 l.made l.confirms l.streams l.fn.self.wanted l.fn.self.taken l.count l.self.wanted l.self.taken l.self.spare
