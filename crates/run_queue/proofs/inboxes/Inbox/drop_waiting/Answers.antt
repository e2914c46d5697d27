use Rattle.std.proofs.Common.{◌∙◌, ap, map, refl, arith}
use Rattle.run_queue.specs.Inside.{placed}
use Rattle.run_queue.proofs.Places.{spare-more, last_taken}
use Rattle.run_queue.proofs.inboxes.Inbox.drop_waiting.Goals as goal

pub returns : goal.returns
returns c = rw (← c.self.view_is) (record {
  waiting = ap (map placed) c.clear.ensures.items;
  last = refl;
  taken = refl;
  spare = spare-more c.self.inside.pieces.len c.self.inside.pieces.cap c.self.inside.last c.clear.new.self.len c.clear.new.self.cap c.self.inside.taken (omega (arith, c.clear.ensures.len)) (omega (arith, c.clear.ensures.capacity))
      (last_taken c.self.inside.pieces.items c.self.inside.commands c.self.inside.last c.self.inside.taken c.self.invariant);
})
