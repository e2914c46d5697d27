-- The first half of a call: what is got, and passed on.
use Rattle.std.proofs.Common.{◌≡◌, ℕ, true, false, cond, List, [], Option, Some, None, Result, Ok, Err, refl, sym, ap, subst, ◌∙◌, inl, inr}
use Rattle.cable_base.specs.declared.faults.OutOfMemory.{OutOfMemory}
use Rattle.cable_base.specs.declared.numbers.ConnNo.{ConnNo}
use Rattle.cable_link.specs.declared.links.Came.{Came}
use Rattle.cable_link.specs.declared.links.Came.TheVariants as came
use Rattle.ws_session.specs.declared.hearing.Heard.{Heard}
use Rattle.ws_session.specs.declared.outcomes.PumpFault.{PumpFault}
use Rattle.ws_session.specs.declared.outcomes.PumpFault.TheVariants as fault
use Rattle.node_core.specs.declared.arriving.ArriveFault.{ArriveFault}
use Rattle.ws_session.specs.Calls.{Arriving, Both, Calls, Gives, LinkCalls}
use Rattle.ws_session.specs.Halves.{AsksInVain, HearsInVain, HearsOn, heard_of}
use Rattle.ws_session.specs.Pumping.{Gets, Offer, Offers, Passes, goes_on_after, is_kept, kept_after}

pub offered : {D : Type 0} (by : Arriving D) (conn : ConnNo) (old : D) (text shown : List ℕ) (answer : Result (Unit {0}) ArriveFault) (kept : Option
    (List ℕ)) (goes_on : Result (Unit {0}) OutOfMemory) (new : D)
    → shown ≡ text → by old conn shown answer new → kept ≡ kept_after text answer → goes_on ≡ goes_on_after answer
    → (o : Option Offer) × Offers by conn old text o kept goes_on new
offered by conn old text shown answer kept goes_on new same arrived kept_is goes_on_is = (
  Some (record { text = text; answer = answer }),
  record { answer = answer; arrived = subst (λ x. by old conn x answer new) same arrived; offer_is = refl; kept_is = kept_is; goes_on_is = goes_on_is },
)

pub kept-so : (text : List ℕ) (answer : Result (Unit {0}) ArriveFault) (kept : Option (List ℕ)) → is_kept answer ≡ true → kept ≡ Some text
    → kept ≡ kept_after text answer
kept-so text answer kept h is = is ∙ sym (ap (λ b. cond b (Some text) None) h)

pub dropped-so : (text : List ℕ) (answer : Result (Unit {0}) ArriveFault) (kept : Option (List ℕ)) → is_kept answer ≡ false → kept ≡ None
    → kept ≡ kept_after text answer
dropped-so text answer kept h is = is ∙ sym (ap (λ b. cond b (Some text) None) h)

pub asked-in-vain : {L D : Type 0} (t : Calls L D) (conn : ConnNo) (kept : Option (List ℕ)) (old : Both L D) (f : PumpFault) (kept' : Option (List ℕ))
    (new : Both L D)
    → kept ≡ None → kept' ≡ None → AsksInVain t.link t.desk.goes conn old f new → HearsInVain t conn kept old f kept' new
asked-in-vain t conn kept old f kept' new none none' a = (
  record { given = None; offer = None; outs = []; lost = None },
  inl (record { trouble = a.trouble; none_kept = none; refused = a.refused; gives_up = a.gives_up; kept_is = none'; round_is = refl }),
)

-- what a call has to pass on was got, and the desk is as it was
pub record GotSo {L D : Type 0} (by : LinkCalls L) (kept : Option (List ℕ)) (old : Both L D) (got : Came) (mid : Both L D) : Type 0 where
  pub given : Option Came
  pub gets : Gets by kept old.link given got mid.link
  pub desk_is : mid.desk ≡ old.desk

pub got-kept : {L D : Type 0} (by : LinkCalls L) (kept : Option (List ℕ)) (old : Both L D) (got : Came) (mid : Both L D) (text : List ℕ)
    → kept ≡ Some text → got ≡ came.Text text → mid.link ≡ old.link → mid.desk ≡ old.desk → GotSo by kept old got mid
got-kept by kept old got mid text is got_is link_is desk_is = record {
  given = None;
  gets = subst (λ k. Gets by k old.link None got mid.link) (sym is) (refl, got_is, link_is);
  desk_is = desk_is;
}

pub got-given : {L D : Type 0} (by : LinkCalls L) (kept : Option (List ℕ)) (old : Both L D) (got : Came) (mid : Both L D) (given : Came) (link : L) (desk : D)
    → kept ≡ None → Gives by old.link (Ok given) link → desk ≡ old.desk → got ≡ given → mid.link ≡ link → mid.desk ≡ desk → GotSo by kept old got mid
got-given by kept old got mid given link desk is gives same got_is link_is desk_is = record {
  given = Some got;
  gets = subst (λ k. Gets by k old.link (Some got) got mid.link) (sym is)
      (refl, subst (λ l. Gives by old.link (Ok got) l) (sym link_is) (subst (λ c. Gives by old.link (Ok c) link) (sym got_is) gives));
  desk_is = desk_is ∙ same;
}

pub heard-on : {L D : Type 0} (t : Calls L D) (conn : ConnNo) (kept : Option (List ℕ)) (old : Both L D) (got : Came) (mid : Both L D)
    (offer : Option Offer) (kept' : Option (List ℕ)) (h : Heard) (desk : D)
    → GotSo t.link kept old got mid → Passes t.desk conn mid.desk got offer kept' (Ok tt) desk → h ≡ heard_of got
    → HearsOn t conn kept old h kept' (record { link = mid.link; desk = desk })
heard-on t conn kept old got mid offer kept' h desk so passes is = record {
  r = record { given = so.given; offer = offer; outs = []; lost = None };
  got = got;
  hears = record { gets = so.gets; passes = subst (λ d. Passes t.desk conn d got offer kept' (Ok tt) desk) so.desk_is passes };
  heard_is = is;
}

pub heard-in-vain : {L D : Type 0} (t : Calls L D) (conn : ConnNo) (kept : Option (List ℕ)) (old : Both L D) (got : Came) (mid : Both L D)
    (offer : Option Offer) (kept' : Option (List ℕ)) (wants : OutOfMemory) (f : PumpFault)
    (desk : D) → GotSo t.link kept old got mid → Passes t.desk conn mid.desk got offer kept' (Err wants) desk → f ≡ fault.OutOfMemory
    → HearsInVain t conn kept old f kept' (record { link = mid.link; desk = desk })
heard-in-vain t conn kept old got mid offer kept' wants f desk so passes is = (
  record { given = so.given; offer = offer; outs = []; lost = None },
  inr (record {
    got = got;
    wants = wants;
    hears = record { gets = so.gets; passes = subst (λ d. Passes t.desk conn d got offer kept' (Err wants) desk) so.desk_is passes };
    none_out = refl;
    none_lost = refl;
    answer = is;
  }),
)
