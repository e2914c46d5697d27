use Rattle.conn_seat.proofs.Working.{placed-keeps}
use Rattle.conn_seat.proofs.seats.Seat.place.Goals as goal

pub invariant_of-self : goal.invariant_of-self
invariant_of-self c = rw c.place.ensures.placed (record {
  made = c.self.invariant.made;
  own = c.self.invariant.own;
  task = placed-keeps c.args.sub c.args.want c.args.mark c.self.inside.conn.subs c.self.inside.job c.self.invariant.task;
})
