-- What is taken out is said, one after the other.
use Rattle.std.proofs.Common.{◌≡◌, ℕ, ◌+◌, Bool, true, false, ◌||◌, List, [], ◌∷◌, ◌++◌, length, Some, refl, sym, ap, subst, ◌∙◌, inl}
use Rattle.std.proofs.lemmas.List.{length-append}
use Rattle.cable_base.specs.declared.numbers.ConnNo.{ConnNo}
use Rattle.conn_seat.specs.declared.outs.Out.{Out}
use Rattle.conn_seat.specs.declared.outs.Out.TheVariants as out
use Rattle.ws_session.specs.Calls.{Both, Calls, Sends}
use Rattle.ws_session.specs.declared.outcomes.PumpFault.{PumpFault}
use Rattle.ws_session.specs.Halves.{SaysInVain, SendsInVain, has_text, is_text}
use Rattle.ws_session.specs.Pumping.{SaysEach}

says-more : {L D : Type 0} (t : Calls L D) (conn : ConnNo) (old : Both L D) (outs : List Out) (mid : Both L D) (o : Out) (new : Both L D)
    → SaysEach t conn old outs mid → t.desk.takes_out mid.desk conn (Some o) new.desk → Sends t.link mid.link o new.link
    → SaysEach t conn old (outs ++ o ∷ []) new
says-more {L} {D} t conn old [] mid o new is took sent = (
  new,
  subst (λ (b : Both L D). t.desk.takes_out b.desk conn (Some o) new.desk) is took,
  subst (λ
      (b : Both L D). Sends t.link b.link o new.link) is sent,
  refl,
)
says-more t conn old (x ∷ xs) mid o new h took sent = (h.0, h.1, h.2, says-more t conn h.0 xs mid o new h.3 took sent)

has-text-more : (outs : List Out) (o : Out) → has_text (outs ++ o ∷ []) ≡ (has_text outs || is_text o)
has-text-more [] (out.Text text) = refl
has-text-more [] (out.Note n) = refl
has-text-more (out.Text text ∷ outs) o = refl
has-text-more (out.Note n ∷ outs) o = has-text-more outs o

-- so many were taken out and said, and this is whether a text was among them
pub record SaysSoFar {L D : Type 0} (t : Calls L D) (conn : ConnNo) (old : Both L D) (any : Bool) (count : ℕ) (new : Both L D) : Type 0 where
  pub outs : List Out
  pub each : SaysEach t conn old outs new
  pub any_is : any ≡ has_text outs
  pub count_is : length outs ≡ count

pub one-more : {L D : Type 0} (t : Calls L D) (conn : ConnNo) (old : Both L D) (any any' : Bool) (count : ℕ) (mid : Both L D) (o : Out) (new : Both L D)
    → SaysSoFar t conn old any count mid → t.desk.takes_out mid.desk conn (Some o) new.desk → Sends t.link mid.link o new.link
    → any' ≡ (any || is_text o) → SaysSoFar t conn old any' (count + 1) new
one-more t conn old any any' count mid o new h took sent is = record {
  outs = h.outs ++ o ∷ [];
  each = says-more t conn old h.outs mid o new h.each took sent;
  any_is = is ∙ ap (λ b. b || is_text o) h.any_is ∙ sym (has-text-more h.outs o);
  count_is = length-append h.outs (o ∷ []) ∙ ap (λ n. n + 1) h.count_is;
}

-- whether a text was said, once one more was taken out
pub any-then : (any any' text : Bool) → any ≡ true → any' ≡ any → any' ≡ (any || text)
any-then any any' text h is = is ∙ h ∙ sym (ap (λ b. b || text) h)

pub any-else : (any any' text : Bool) → any ≡ false → any' ≡ text → any' ≡ (any || text)
any-else any any' text h is = is ∙ sym (ap (λ b. b || text) h)

pub says-lost : {L D : Type 0} (t : Calls L D) (conn : ConnNo) (old : Both L D) (any : Bool) (count : ℕ) (mid : Both L D) (o : Out) (between : D)
    (f : PumpFault) (new : Both L D)
    → SaysSoFar t conn old any count mid → t.desk.takes_out mid.desk conn (Some o) between
    → SendsInVain t.link t.desk.goes conn (record { link = mid.link; desk = between }) o f new → SaysInVain t conn old f new
says-lost t conn old any count mid o between f new h took s = (
  h.outs,
  inl (
    s.lost,
    record {
      last = mid;
      between = between;
      trouble = s.trouble;
      each = h.each;
      taken = subst (λ (x : Out). t.desk.takes_out mid.desk conn (Some x) between) s.out_is took;
      refused = s.refused;
      gives_up = s.gives_up;
    },
  ),
)
