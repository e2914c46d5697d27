use Rattle.conn_core.proofs.StaysApart.{apart-placed, more-room}
use Rattle.conn_core.proofs.WantsStayApart.{wants-placed}
use Rattle.conn_core.proofs.connections.Conn.place.Goals as goal

pub invariant_of-self : goal.invariant_of-self
invariant_of-self c =
    record {
      apart = rw c.place_want.ensures.shown (apart-placed c.args.sub c.args.want c.args.mark _ c.self.invariant.apart);
      wants = rw c.place_want.ensures.shown (wants-placed c.args.sub c.args.want c.args.mark _ c.self.invariant.wants);
      room = more-room c.self.inside.kept _ _ _ _ _ _ c.place_want.ensures.room c.place_want.ensures.len c.place_want.ensures.capacity c.self.invariant.room;
    }
