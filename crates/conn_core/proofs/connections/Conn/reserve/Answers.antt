use Rattle.conn_core.proofs.StaysApart.{more-room}
use Rattle.conn_core.proofs.connections.Conn.reserve.Goals as goal

pub invariant_of-self-in_err-reserve_streams-in-Streams : goal.invariant_of-self-in_err-reserve_streams-in-Streams
invariant_of-self-in_err-reserve_streams-in-Streams c =
    record {
      apart = rw c.reserve_streams.ensures.shown c.self.invariant.apart;
      wants = rw c.reserve_streams.ensures.shown c.self.invariant.wants;
      room = more-room c.self.inside.kept _ _ _ _ _ _ c.reserve_streams.ensures.room c.reserve_streams.ensures.len c.reserve_streams.ensures.capacity c.self.invariant.room;
    }
