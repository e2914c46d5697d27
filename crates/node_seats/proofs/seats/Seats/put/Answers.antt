use Rattle.std.proofs.Common.{sym, subst}
use Rattle.std.proofs.lemmas.Result.{on_ok_weaker, on_err_weaker}
use Rattle.conn_seat.specs.Seats.{Becomes, with_piece}
use Rattle.node_seats.specs.Numbers.{HasRoomIn, Lives, seat_in}
use Rattle.node_seats.proofs.Faces.{wrote}
use Rattle.node_seats.proofs.Moving.{tidy, room-of}
use Rattle.node_seats.proofs.Shown.{live-kept, live-missing, moved-by, on-opened, opened-found, outbox-same}
use Rattle.node_seats.proofs.seats.Seats.put.Goals as goal

pub put-requires : goal.put-requires
put-requires c = live-kept _ _ _ c.self.view_is _ (sym c.in-Some.ensures.value) c.requires.live

pub invariant_of-self : goal.invariant_of-self
invariant_of-self c =
    let w = wrote c.args.conn.0 _ _ _ _ c.in-Some.ensures.value (c.get_mut.follows.holds c.put.new.self).0 in
    tidy c.args.conn.0 _ _ _ _ _ (on-opened _ _ _ _ _ w) c.put.ensures.live c.put.ensures.keeps c.self.invariant

pub returns : goal.returns
returns c =
    let w = wrote c.args.conn.0 _ _ _ _ c.in-Some.ensures.value (c.get_mut.follows.holds c.put.new.self).0 in
    record {
      ok = on_ok_weaker c.put.result (moved-by _ _ _ _ _ w _ c.self.view_is (Lives (λ s t. Becomes (with_piece c.args.piece s) t))) c.put.ensures.ok;
      err = on_err_weaker c.put.result (moved-by _ _ _ _ _ w _ c.self.view_is (Lives Becomes)) c.put.ensures.err;
      room = λ room. c.put.ensures.room (subst (λ o. HasRoomIn 2 (seat_in o)) (opened-found _ _ _ c.self.view_is _ (sym c.in-Some.ensures.value)) room);
      closing = c.put.ensures.closing (room-of c.args.conn.0 _ _ (on-opened _ _ _ _ _ w).found c.self.invariant.roomy);
      outs = outbox-same _ _ _ _ _ w _ c.self.view_is c.put.ensures.outbox;
    }

pub unreachable-requires : goal.unreachable-requires
unreachable-requires c = live-missing c.args.conn.0 _ _ c.self.view_is (sym c.in_default.ensures.value) c.requires.live
