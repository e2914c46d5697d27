use Rattle.std.proofs.Common.{◌∙◌, ◌≤◌, ap, map, refl, arith}
use Rattle.run_queue.specs.Inside.{placed, IsInbox}
use Rattle.run_queue.proofs.Places.{spare-more, first_place, last_place}
use Rattle.run_queue.proofs.inboxes.Inbox.take.Goals as goal

pub returns : goal.returns
returns c =
    rw (← c.self.view_is) (record {
      waiting = ap (map placed) c.in_ok-taken.ensures.items;
      last = refl;
      taken = refl;
      later = first_place c.self.inside.pieces.items c.pop_front.new.self.items c.in_ok-taken.taken c.self.inside.commands c.self.inside.last c.self.inside.taken c.self.invariant c.in_ok-taken.ensures.items;
      given = last_place c.self.inside.pieces.items c.pop_front.new.self.items c.in_ok-taken.taken c.self.inside.commands c.self.inside.last c.self.inside.taken c.self.invariant c.in_ok-taken.ensures.items;
      spare = spare-more c.self.inside.pieces.len c.self.inside.pieces.cap c.self.inside.last c.pop_front.new.self.len c.pop_front.new.self.cap c.self.inside.last (omega (arith, c.in_ok-taken.ensures.cases)) (omega (arith, c.in_ok-taken.ensures.capacity)) (omega arith);
    })
