use Rattle.std.proofs.Common.{Option, sym, ap, ◌∙◌}
use Rattle.std.proofs.lemmas.Result.{IfOk-weaker}
use Rattle.conn_seat.specs.Seats.{Becomes, with_taken}
use Rattle.node_seats.specs.Numbers.{Lives, Opened, seat_in}
use Rattle.node_seats.specs.Turned.{errand_in}
use Rattle.node_seats.proofs.Faces.{wrote}
use Rattle.node_seats.proofs.Moving.{tidy}
use Rattle.node_seats.proofs.Shown.{moved-by, on-opened, opened-found, opened-missing, outbox-same, same-again, same-unless}
use Rattle.node_seats.proofs.seats.Seats.take.Goals as goal

pub invariant_of-self-2 : goal.invariant_of-self-2
invariant_of-self-2 c =
    let w = wrote c.args.conn.0 _ _ _ _ c.in-Some.ensures.value (c.get_mut.follows.holds c.take.new.self).0 in
    tidy c.args.conn.0 _ _ _ _ _ (on-opened _ _ _ _ _ w) c.take.ensures.live c.take.ensures.keeps c.self.invariant

pub returns : goal.returns
returns c =
    let w = wrote c.args.conn.0 _ _ _ _ c.in-Some.ensures.value (c.get_mut.follows.holds c.take.new.self).0 in
    let found = opened-found _ _ _ c.self.view_is _ (sym c.in-Some.ensures.value) in
    record {
      answer = IfOk-weaker c.take.result _ _ (λ e is. is ∙ ap (λ o. errand_in (seat_in o)) (sym found)) c.take.ensures.answer;
      taken =
          IfOk-weaker c.take.result _ _
          (λ e is some. moved-by _ _ _ _ _ w _ c.self.view_is (Lives (λ s t. Becomes (with_taken s) t)) (is some))
          c.take.ensures.taken;
      none = same-unless _ _ _ _ _ w _ c.self.view_is c.take.result c.take.ensures.none;
      err = same-again _ _ _ _ _ w _ c.self.view_is c.take.result c.take.ensures.err;
      outs = outbox-same _ _ _ _ _ w _ c.self.view_is c.take.ensures.outbox;
    }

pub returns-in_default-clause-answer : goal.returns-in_default-clause-answer
returns-in_default-clause-answer c =
    sym (ap (λ (o : Option Opened). errand_in (seat_in o)) (opened-missing c.args.conn.0 _ _ c.self.view_is (sym c.in_default.ensures.value)))
