use Rattle.std.proofs.Common.{sym}
use Rattle.node_seats.proofs.Faces.{wrote}
use Rattle.node_seats.proofs.Moving.{tidy}
use Rattle.node_seats.proofs.Shown.{live-kept, live-missing, moved-by, on-opened, outbox-same}
use Rattle.node_seats.proofs.seats.Seats.place.Goals as goal

pub place-requires : goal.place-requires
place-requires c = live-kept _ _ _ c.self.view_is _ (sym c.in-Some.ensures.value) c.requires.live

pub invariant_of-self : goal.invariant_of-self
invariant_of-self c =
    let w = wrote c.args.conn.0 _ _ _ _ c.in-Some.ensures.value (c.get_mut.follows.holds c.place.new.self).0 in
    tidy c.args.conn.0 _ _ _ _ _ (on-opened _ _ _ _ _ w) c.place.ensures.live c.place.ensures.keeps c.self.invariant

pub returns : goal.returns
returns c =
    let w = wrote c.args.conn.0 _ _ _ _ c.in-Some.ensures.value (c.get_mut.follows.holds c.place.new.self).0 in
    record {
      placed = moved-by _ _ _ _ _ w _ c.self.view_is _ c.place.ensures.placed;
      outs = outbox-same _ _ _ _ _ w _ c.self.view_is c.place.ensures.outbox;
    }

pub unreachable-requires : goal.unreachable-requires
unreachable-requires c = live-missing c.args.conn.0 _ _ c.self.view_is (sym c.in_default.ensures.value) c.requires.live
