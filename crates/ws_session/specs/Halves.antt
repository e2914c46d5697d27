-- The two halves of a call of a pump, hearing and saying, by what each answers.
use Rattle.std.specs.Prelude.{◌≡◌, ◌⊎◌, ◌-◌, ◌^◌, ℕ, Bool, true, false, List, [], ◌∷◌, length, Option, Ok, Err}
use Rattle.cable_base.specs.declared.faults.Trouble.{Trouble}
use Rattle.cable_base.specs.declared.numbers.ConnNo.{ConnNo}
use Rattle.cable_link.specs.declared.links.Came.{Came}
use Rattle.cable_link.specs.declared.links.Came.TheVariants as came
use Rattle.conn_seat.specs.declared.outs.Out.{Out}
use Rattle.conn_seat.specs.declared.outs.Out.TheVariants as out
use Rattle.ws_session.specs.declared.hearing.Heard.{Heard}
use Rattle.ws_session.specs.declared.hearing.Heard.TheVariants as heard
use Rattle.ws_session.specs.declared.outcomes.PumpFault.{PumpFault}
use Rattle.ws_session.specs.declared.outcomes.PumpFault.TheVariants as fault
use Rattle.ws_session.specs.declared.outcomes.Pumped.{Pumped}
use Rattle.ws_session.specs.declared.outcomes.Pumped.TheVariants as pumped
use Rattle.ws_session.specs.declared.saying.Said.{Said}
use Rattle.ws_session.specs.Calls.{Both, Calls, Gives, GivesUp, Going, LinkCalls, Says}
use Rattle.ws_session.specs.Pumping.{Hears, Round, SaysAll, SaysEach, SaysSome, StopsAtDesk, StopsAtNext}

-- what an answer depends on, of what was got
abbrev pub heard_of : Came → Heard
heard_of (came.Text text) = heard.Something
heard_of came.Binary = heard.Something
heard_of came.Closed = heard.Closed
heard_of came.Quiet = heard.Quiet

-- something that was taken out is a text
abbrev pub is_text : Out → Bool
is_text (out.Text text) = true
is_text (out.Note n) = false

-- there is a text among what was taken out
abbrev pub has_text : List Out → Bool
has_text [] = false
has_text (out.Text text ∷ outs) = true
has_text (out.Note n ∷ outs) = has_text outs

-- what is answered by what was heard, by whether the connection was over, and by whether a text was said
abbrev pub answer_by : Heard → (over any : Bool) → Pumped
answer_by heard.Closed over any = pumped.Ended
answer_by heard.Something true any = pumped.Ended
answer_by heard.Something false any = pumped.Went
answer_by heard.Quiet true any = pumped.Ended
answer_by heard.Quiet false true = pumped.Went
answer_by heard.Quiet false false = pumped.Quiet

abbrev pub answer_of : Heard → Said → Pumped
answer_of h s = answer_by h s.over s.any

-- the link was asked, and refused
pub record AsksInVain {L D : Type 0} (by : LinkCalls L) (goes : Going D) (conn : ConnNo) (old : Both L D) (f : PumpFault) (new : Both L D) : Type 0 where
  pub trouble : Trouble
  pub refused : Gives by old.link (Err trouble) new.link
  pub gives_up : GivesUp goes conn old.desk trouble f new.desk

-- what was taken out is sent, or it is a text that the link refused
pub record SendsInVain {L D : Type 0} (by : LinkCalls L) (goes : Going D) (conn : ConnNo) (old : Both L D) (o : Out) (f : PumpFault)
    (new : Both L D) : Type 0 where
  pub lost : List ℕ
  pub trouble : Trouble
  pub out_is : o ≡ out.Text lost
  pub refused : Says by old.link lost (Err trouble) new.link
  pub gives_up : GivesUp goes conn old.desk trouble f new.desk

-- the first half goes on
pub record HearsOn {L D : Type 0} (t : Calls L D) (conn : ConnNo) (kept : Option (List ℕ)) (old : Both L D) (h : Heard) (kept' : Option (List ℕ))
    (new : Both L D) : Type 0 where
  pub r : Round
  pub got : Came
  pub hears : Hears t conn kept old r got (Ok tt) kept' new
  pub heard_is : h ≡ heard_of got

-- .. or the call ends there
abbrev pub HearsInVain : {L D : Type 0} → (t : Calls L D) → ConnNo → (kept : Option (List ℕ)) → (old : Both L D) → PumpFault → (kept' : Option (List ℕ))
    → (new : Both L D) → Type 0
HearsInVain t conn kept old f kept' new = (r : Round) × (StopsAtNext t conn kept old r f kept' new ⊎ StopsAtDesk t conn kept old r f kept' new)

-- the second half comes to its end
pub record SaysOn {L D : Type 0} (t : Calls L D) (conn : ConnNo) (old : Both L D) (s : Said) (new : Both L D) : Type 0 where
  pub outs : List Out
  pub all : SaysAll t conn old outs s.over new
  pub any : s.any ≡ has_text outs

-- as much was taken out as can be counted
pub record SaysMost {L D : Type 0} (t : Calls L D) (conn : ConnNo) (old : Both L D) (outs : List Out) (f : PumpFault) (new : Both L D) : Type 0 where
  pub each : SaysEach t conn old outs new
  pub most : length outs ≡ 2 ^ 64 - 1
  pub answer : f ≡ fault.OutOfMemory

-- .. or the call ends there
abbrev pub SaysInVain : {L D : Type 0} → (t : Calls L D) → ConnNo → (old : Both L D) → PumpFault → (new : Both L D) → Type 0
SaysInVain t conn old f new = (outs : List Out) × (((lost : List ℕ) × SaysSome t conn old outs lost f new) ⊎ SaysMost t conn old outs f new)
