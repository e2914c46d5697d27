-- A call's two halves are the call.
use Rattle.std.proofs.Common.{◌≡◌, ℕ, Bool, true, false, List, [], ◌∷◌, Option, Some, None, Ok, Err, refl, ap, ◌∙◌, inl, inr}
use Rattle.cable_base.specs.declared.numbers.ConnNo.{ConnNo}
use Rattle.cable_link.specs.declared.links.Came.{Came}
use Rattle.cable_link.specs.declared.links.Came.TheVariants as came
use Rattle.conn_seat.specs.declared.outs.Out.{Out}
use Rattle.conn_seat.specs.declared.outs.Out.TheVariants as out
use Rattle.ws_session.specs.declared.hearing.Heard.{Heard}
use Rattle.ws_session.specs.declared.hearing.Heard.TheVariants as heard
use Rattle.ws_session.specs.declared.outcomes.PumpFault.{PumpFault}
use Rattle.ws_session.specs.declared.outcomes.Pumped.{Pumped}
use Rattle.ws_session.specs.declared.saying.Said.{Said}
use Rattle.ws_session.specs.Calls.{Both, Calls}
use Rattle.ws_session.specs.Halves.{HearsInVain, HearsOn, SaysInVain, SaysOn, answer_by, answer_of, has_text, heard_of}
use Rattle.ws_session.specs.Pumping.{PumpsOnce, pumped_as, texts_of}

quiet-answered : (any : Bool) (outs : List Out) → any ≡ has_text outs → answer_by heard.Quiet false any ≡ pumped_as came.Quiet false (texts_of outs)
quiet-answered any [] is = ap (answer_by heard.Quiet false) is
quiet-answered any (out.Text text ∷ outs) is = ap (answer_by heard.Quiet false) is
quiet-answered any (out.Note n ∷ outs) is = quiet-answered any outs is

answered : (got : Came) (over any : Bool) (outs : List Out) → any ≡ has_text outs → answer_by (heard_of got) over any ≡ pumped_as got over (texts_of outs)
answered came.Closed over any outs is = refl
answered (came.Text text) true any outs is = refl
answered (came.Text text) false any outs is = refl
answered came.Binary true any outs is = refl
answered came.Binary false any outs is = refl
answered came.Quiet true any outs is = refl
answered came.Quiet false any outs is = quiet-answered any outs is

pub pumps : {L D : Type 0} (t : Calls L D) (conn : ConnNo) (kept : Option (List ℕ)) (old : Both L D) (h : Heard) (kept' : Option (List ℕ))
    (mid : Both L D) (s : Said) (new : Both L D) (p : Pumped)
    → HearsOn t conn kept old h kept' mid → SaysOn t conn mid s new → p ≡ answer_of h s → PumpsOnce t conn kept old (Ok p) kept' new
pumps t conn kept old h kept' mid s new p hears says is = (
  record { given = hears.r.given; offer = hears.r.offer; outs = says.outs; lost = None },
  record {
    got = hears.got;
    mid = mid;
    over = s.over;
    hears = record { gets = hears.hears.gets; passes = hears.hears.passes };
    says = says.all;
    none_lost = refl;
    answer = is ∙ ap (λ x. answer_of x s) hears.heard_is ∙ answered hears.got s.over s.any says.outs says.any;
  },
)

pub hears-in-vain : {L D : Type 0} (t : Calls L D) (conn : ConnNo) (kept : Option (List ℕ)) (old : Both L D) (f : PumpFault) (kept' : Option (List ℕ))
    (new : Both L D)
    → HearsInVain t conn kept old f kept' new → PumpsOnce t conn kept old (Err f) kept' new
hears-in-vain t conn kept old f kept' new h = (h.0, elim h.1 [ inl a ↦ inl a | inr b ↦ inr (inl b) ])

pub says-in-vain : {L D : Type 0} (t : Calls L D) (conn : ConnNo) (kept : Option (List ℕ)) (old : Both L D) (h : Heard) (kept' : Option (List ℕ))
    (mid : Both L D) (f : PumpFault) (new : Both L D)
    → HearsOn t conn kept old h kept' mid → SaysInVain t conn mid f new → PumpsOnce t conn kept old (Err f) kept' new
says-in-vain t conn kept old h kept' mid f new hears says =
    elim says.1 [
      | inl s ↦ (
        record { given = hears.r.given; offer = hears.r.offer; outs = says.0; lost = Some s.0 },
        inr (inr (inl (record {
          got = hears.got;
          mid = mid;
          lost = s.0;
          hears = record { gets = hears.hears.gets; passes = hears.hears.passes };
          says = s.1;
          lost_is = refl;
        }))),
      )
      | inr m ↦ (
        record { given = hears.r.given; offer = hears.r.offer; outs = says.0; lost = None },
        inr (inr (inr (record {
          got = hears.got;
          mid = mid;
          hears = record { gets = hears.hears.gets; passes = hears.hears.passes };
          says = m.each;
          most = m.most;
          none_lost = refl;
          answer = m.answer;
        }))),
      )
    ]
