-- One call of a pump: what it got, from the text that was kept or from the link, is passed on to the desk; then what is queued is said. A
-- round tells what became of each text in a call.
use Rattle.std.specs.Prelude.{◌≡◌, ◌⊎◌, ◌-◌, ◌^◌, ℕ, Bool, true, false, cond, List, [], ◌∷◌, length, Option, None, Some, Result, Ok, Err}
use Rattle.cable_base.specs.declared.faults.OutOfMemory.{OutOfMemory}
use Rattle.cable_base.specs.declared.faults.Trouble.{Trouble}
use Rattle.cable_base.specs.declared.numbers.ConnNo.{ConnNo}
use Rattle.cable_link.specs.declared.links.Came.{Came}
use Rattle.cable_link.specs.declared.links.Came.TheVariants as came
use Rattle.node_core.specs.declared.arriving.ArriveFault.{ArriveFault}
use Rattle.node_core.specs.declared.arriving.ArriveFault.TheVariants as refusal
use Rattle.conn_seat.specs.declared.outs.Out.{Out}
use Rattle.conn_seat.specs.declared.outs.Out.TheVariants as out
use Rattle.ws_session.specs.declared.outcomes.PumpFault.{PumpFault}
use Rattle.ws_session.specs.declared.outcomes.PumpFault.TheVariants as fault
use Rattle.ws_session.specs.declared.outcomes.Pumped.{Pumped}
use Rattle.ws_session.specs.declared.outcomes.Pumped.TheVariants as pumped
use Rattle.ws_session.specs.Calls.{Arriving, Both, Calls, DeskCalls, Gives, GivesUp, Going, LinkCalls, Says, Sends}

-- ---- what becomes of texts in a call

-- a text that was offered to the desk, and the desk's answer
pub record Offer : Type 0 where
  pub text : List ℕ
  pub answer : Result (Unit {0}) ArriveFault

pub record Round : Type 0 where
  -- what the link gave. None where it wasn't asked, or refused
  pub given : Option Came
  -- the text that was offered. None where there was none
  pub offer : Option Offer
  -- what was taken out of the desk, in order; each text among it was said
  pub outs : List Out
  -- the text that was taken out behind these, and that the link refused
  pub lost : Option (List ℕ)

-- ---- what is got, and passed on

-- an offered text is kept where the connection is busy, or where memory is wanted
abbrev pub is_kept : Result (Unit {0}) ArriveFault → Bool
is_kept (Ok u) = false
is_kept (Err refusal.Unknown) = false
is_kept (Err refusal.Shut) = false
is_kept (Err refusal.TooLong) = false
is_kept (Err refusal.Busy) = true
is_kept (Err refusal.OutOfMemory) = true

abbrev pub kept_after : List ℕ → Result (Unit {0}) ArriveFault → Option (List ℕ)
kept_after text answer = cond (is_kept answer) (Some text) None

-- .. and the call goes on but where memory is wanted
abbrev pub goes_on_after : Result (Unit {0}) ArriveFault → Result (Unit {0}) OutOfMemory
goes_on_after (Ok u) = Ok tt
goes_on_after (Err refusal.Unknown) = Ok tt
goes_on_after (Err refusal.Shut) = Ok tt
goes_on_after (Err refusal.TooLong) = Ok tt
goes_on_after (Err refusal.Busy) = Ok tt
goes_on_after (Err refusal.OutOfMemory) = Err (record {})

abbrev pub goes_on_behind : Result Bool OutOfMemory → Result (Unit {0}) OutOfMemory
goes_on_behind (Ok closes) = Ok tt
goes_on_behind (Err e) = Err e

-- what a call has to pass on: the text that was kept, and then the link isn't asked; else what the link gives, which is asked once
abbrev pub Gets : {L : Type 0} → (by : LinkCalls L) → (kept : Option (List ℕ)) → (old : L) → (given : Option Came) → Came → (new : L) → Type 0
Gets by (Some text) old given got new = (given ≡ None) × (got ≡ came.Text text) × (new ≡ old)
Gets by None old given got new = (given ≡ Some got) × Gives by old (Ok got) new

-- a text is offered to the desk, once
pub record Offers {D : Type 0} (by : Arriving D) (conn : ConnNo) (old : D) (text : List ℕ) (offer : Option Offer) (kept : Option (List ℕ))
    (goes_on : Result (Unit {0}) OutOfMemory) (new : D) : Type 0 where
  pub answer : Result (Unit {0}) ArriveFault
  pub arrived : by old conn text answer new
  pub offer_is : offer ≡ Some (record { text = text; answer = answer })
  pub kept_is : kept ≡ kept_after text answer
  pub goes_on_is : goes_on ≡ goes_on_after answer

-- the desk is told that the client has gone
pub record Leaves {D : Type 0} (by : Going D) (conn : ConnNo) (old : D) (goes_on : Result (Unit {0}) OutOfMemory) (new : D) : Type 0 where
  pub answer : Result Bool OutOfMemory
  pub gone : by old conn answer new
  pub goes_on_is : goes_on ≡ goes_on_behind answer

-- what was got is passed on: a text is offered, of a closed link the desk is told, and all else is passed over
abbrev pub Passes : {D : Type 0} → (by : DeskCalls D) → ConnNo → (old : D) → (got : Came) → (offer : Option Offer) → (kept : Option (List ℕ))
    → (goes_on : Result (Unit {0}) OutOfMemory) → (new : D) → Type 0
Passes by conn old (came.Text text) offer kept goes_on new = Offers by.arrives conn old text offer kept goes_on new
Passes by conn old came.Closed offer kept goes_on new = Leaves by.goes conn old goes_on new × (offer ≡ None) × (kept ≡ None)
Passes by conn old came.Binary offer kept goes_on new = (new ≡ old) × (offer ≡ None) × (kept ≡ None) × (goes_on ≡ Ok tt)
Passes by conn old came.Quiet offer kept goes_on new = (new ≡ old) × (offer ≡ None) × (kept ≡ None) × (goes_on ≡ Ok tt)

-- the first half of a call
pub record Hears {L D : Type 0} (t : Calls L D) (conn : ConnNo) (kept : Option (List ℕ)) (old : Both L D) (r : Round) (got : Came)
    (goes_on : Result (Unit {0}) OutOfMemory) (kept' : Option (List ℕ)) (new : Both L D) : Type 0 where
  pub gets : Gets t.link kept old.link r.given got new.link
  pub passes : Passes t.desk conn old.desk got r.offer kept' goes_on new.desk

-- ---- what is said

-- the texts among what was taken out
abbrev pub texts_of : List Out → List (List ℕ)
texts_of [] = []
texts_of (out.Text text ∷ outs) = text ∷ texts_of outs
texts_of (out.Note n ∷ outs) = texts_of outs

-- these were taken out of the desk, in this order, and each text was said before the next was taken out
abbrev pub SaysEach : {L D : Type 0} → (t : Calls L D) → ConnNo → (old : Both L D) → List Out → (new : Both L D) → Type 0
SaysEach t conn old [] new = new ≡ old
SaysEach {L} {D} t conn old (o ∷ outs) new =
    (mid : Both L D) × t.desk.takes_out old.desk conn (Some o) mid.desk × Sends t.link old.link o mid.link × SaysEach t conn mid outs new

-- all that was queued was taken out and said: then the desk had nothing more. Just before, it was asked whether the connection is over
pub record SaysAll {L D : Type 0} (t : Calls L D) (conn : ConnNo) (old : Both L D) (outs : List Out) (over : Bool) (new : Both L D) : Type 0 where
  pub last : Both L D
  pub each : SaysEach t conn old outs last
  pub asked : t.desk.tells_over last.desk conn over
  pub none : t.desk.takes_out last.desk conn None new.desk
  pub link_is : new.link ≡ last.link

-- these were said, and then the link refused one, which was its last call
pub record SaysSome {L D : Type 0} (t : Calls L D) (conn : ConnNo) (old : Both L D) (outs : List Out) (lost : List ℕ) (f : PumpFault)
    (new : Both L D) : Type 0 where
  pub last : Both L D
  pub between : D
  pub trouble : Trouble
  pub each : SaysEach t conn old outs last
  pub taken : t.desk.takes_out last.desk conn (Some (out.Text lost)) between
  pub refused : Says t.link last.link lost (Err trouble) new.link
  pub gives_up : GivesUp t.desk.goes conn between trouble f new.desk

-- ---- a call

-- what is answered by what was got, by whether the connection was over when nothing more was queued, and by what was said
abbrev pub pumped_as : (got : Came) → (over : Bool) → (said : List (List ℕ)) → Pumped
pumped_as came.Closed over said = pumped.Ended
pumped_as (came.Text text) true said = pumped.Ended
pumped_as (came.Text text) false said = pumped.Went
pumped_as came.Binary true said = pumped.Ended
pumped_as came.Binary false said = pumped.Went
pumped_as came.Quiet true said = pumped.Ended
pumped_as came.Quiet false [] = pumped.Quiet
pumped_as came.Quiet false (text ∷ said) = pumped.Went

-- the link refused nothing: what was got is passed on, and all that is queued is said
pub record Pumps {L D : Type 0} (t : Calls L D) (conn : ConnNo) (kept : Option (List ℕ)) (old : Both L D) (r : Round) (p : Pumped)
    (kept' : Option (List ℕ)) (new : Both L D) : Type 0 where
  pub got : Came
  pub mid : Both L D
  pub over : Bool
  pub hears : Hears t conn kept old r got (Ok tt) kept' mid
  pub says : SaysAll t conn mid r.outs over new
  pub none_lost : r.lost ≡ None
  pub answer : p ≡ pumped_as got over (texts_of r.outs)

-- the link was asked, and refused: that was all
pub record StopsAtNext {L D : Type 0} (t : Calls L D) (conn : ConnNo) (kept : Option (List ℕ)) (old : Both L D) (r : Round) (f : PumpFault)
    (kept' : Option (List ℕ)) (new : Both L D) : Type 0 where
  pub trouble : Trouble
  pub none_kept : kept ≡ None
  pub refused : Gives t.link old.link (Err trouble) new.link
  pub gives_up : GivesUp t.desk.goes conn old.desk trouble f new.desk
  pub kept_is : kept' ≡ None
  pub round_is : r ≡ record { given = None; offer = None; outs = []; lost = None }

-- the desk wanted memory for what was to be passed on: that was all
pub record StopsAtDesk {L D : Type 0} (t : Calls L D) (conn : ConnNo) (kept : Option (List ℕ)) (old : Both L D) (r : Round) (f : PumpFault)
    (kept' : Option (List ℕ)) (new : Both L D) : Type 0 where
  pub got : Came
  pub wants : OutOfMemory
  pub hears : Hears t conn kept old r got (Err wants) kept' new
  pub none_out : r.outs ≡ []
  pub none_lost : r.lost ≡ None
  pub answer : f ≡ fault.OutOfMemory

-- the link refused to say a text
pub record StopsAtSay {L D : Type 0} (t : Calls L D) (conn : ConnNo) (kept : Option (List ℕ)) (old : Both L D) (r : Round) (f : PumpFault)
    (kept' : Option (List ℕ)) (new : Both L D) : Type 0 where
  pub got : Came
  pub mid : Both L D
  pub lost : List ℕ
  pub hears : Hears t conn kept old r got (Ok tt) kept' mid
  pub says : SaysSome t conn mid r.outs lost f new
  pub lost_is : r.lost ≡ Some lost

-- as much was taken out as can be counted
pub record StopsAtMost {L D : Type 0} (t : Calls L D) (conn : ConnNo) (kept : Option (List ℕ)) (old : Both L D) (r : Round) (f : PumpFault)
    (kept' : Option (List ℕ)) (new : Both L D) : Type 0 where
  pub got : Came
  pub mid : Both L D
  pub hears : Hears t conn kept old r got (Ok tt) kept' mid
  pub says : SaysEach t conn mid r.outs new
  pub most : length r.outs ≡ 2 ^ 64 - 1
  pub none_lost : r.lost ≡ None
  pub answer : f ≡ fault.OutOfMemory

-- a call with this round, by its answer
abbrev pub Makes : {L D : Type 0} → (t : Calls L D) → ConnNo → (kept : Option (List ℕ)) → (old : Both L D) → Round → Result Pumped PumpFault
    → (kept' : Option (List ℕ)) → (new : Both L D) → Type 0
Makes t conn kept old r (Ok p) kept' new = Pumps t conn kept old r p kept' new
Makes t conn kept old r (Err f) kept' new =
    StopsAtNext t conn kept old r f kept' new
    ⊎ (StopsAtDesk t conn kept old r f kept' new ⊎ (StopsAtSay t conn kept old r f kept' new ⊎ StopsAtMost t conn kept old r f kept' new))

-- one call, by its answer
abbrev pub PumpsOnce : {L D : Type 0} → (t : Calls L D) → ConnNo → (kept : Option (List ℕ)) → (old : Both L D) → Result Pumped PumpFault
    → (kept' : Option (List ℕ)) → (new : Both L D) → Type 0
PumpsOnce t conn kept old result kept' new = (r : Round) × Makes t conn kept old r result kept' new
