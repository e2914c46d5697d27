-- What a pump asks of a link and of a desk: one relation for each call, and what the link tells beside it.
use Rattle.std.specs.Prelude.{◌≡◌, ℕ, Bool, List, Option, Result, Ok, Err, OnOk}
use Rattle.cable_base.specs.Troubles.{HasTrouble}
use Rattle.cable_base.specs.declared.faults.OutOfMemory.{OutOfMemory}
use Rattle.cable_base.specs.declared.faults.Trouble.{Trouble}
use Rattle.cable_base.specs.declared.faults.Trouble.TheVariants as trouble
use Rattle.cable_base.specs.declared.numbers.ConnNo.{ConnNo}
use Rattle.cable_link.specs.Links.{Adds, Comes}
use Rattle.cable_link.specs.declared.links.Came.{Came}
use Rattle.node_core.specs.declared.arriving.ArriveFault.{ArriveFault}
use Rattle.conn_seat.specs.declared.outs.Out.{Out}
use Rattle.conn_seat.specs.declared.outs.Out.TheVariants as out
use Rattle.ws_session.specs.declared.outcomes.PumpFault.{PumpFault}
use Rattle.ws_session.specs.declared.outcomes.PumpFault.TheVariants as fault

-- ---- the calls

-- how a link gives and says, what it tells of what is to come and of what was said, and its count of faults
pub record LinkCalls (L : Type 0) : Type 1 where
  pub gives : L → Result Came Trouble → L → Type 0
  pub says : L → (text : List ℕ) → Result (Unit {0}) Trouble → L → Type 0
  pub coming : L → Option (List Came)
  pub said : L → Option (List (List ℕ))
  pub faults : L → ℕ

-- how a desk takes a text, and how it hears that a client has gone
abbrev pub Arriving : Type 0 → Type 1
Arriving D = D → ConnNo → (text : List ℕ) → Result (Unit {0}) ArriveFault → D → Type 0

abbrev pub Going : Type 0 → Type 1
Going D = D → ConnNo → Result Bool OutOfMemory → D → Type 0

-- .. and how it gives out what is queued, and tells whether a connection is over
pub record DeskCalls (D : Type 0) : Type 1 where
  pub arrives : Arriving D
  pub goes : Going D
  pub takes_out : D → ConnNo → Option Out → D → Type 0
  pub tells_over : D → ConnNo → Bool → Type 0

pub record Calls (L D : Type 0) : Type 1 where
  pub link : LinkCalls L
  pub desk : DeskCalls D

-- a link and a desk
pub record Both (L D : Type 0) : Type 0 where
  pub link : L
  pub desk : D

-- ---- what a call does

-- the link was asked what came next, and answered so
pub record Gives {L : Type 0} (by : LinkCalls L) (old : L) (answer : Result Came Trouble) (new : L) : Type 0 where
  pub gave : by.gives old answer new
  pub comes : Comes (by.coming old) (by.coming new) answer
  pub said_is : by.said new ≡ by.said old
  pub cause : HasTrouble (by.faults old) (by.faults new) answer
  pub calm : OnOk answer (by.faults new ≡ by.faults old)

-- the link was handed a text to say, and answered so
pub record Says {L : Type 0} (by : LinkCalls L) (old : L) (text : List ℕ) (answer : Result (Unit {0}) Trouble) (new : L) : Type 0 where
  pub spoke : by.says old text answer new
  pub adds : Adds (by.said old) (by.said new) text answer
  pub coming_is : by.coming new ≡ by.coming old
  pub cause : HasTrouble (by.faults old) (by.faults new) answer
  pub calm : OnOk answer (by.faults new ≡ by.faults old)

-- what is to be sent of something that was taken out, is: a text is said, a note stays here
abbrev pub Sends : {L : Type 0} → (by : LinkCalls L) → (old : L) → Out → (new : L) → Type 0
Sends by old (out.Text text) new = Says by old text (Ok tt) new
Sends by old (out.Note n) new = new ≡ old

-- what a call is refused as, once the desk was told that the client has gone
abbrev pub fault_behind : Result Bool OutOfMemory → PumpFault
fault_behind (Ok closes) = fault.LinkFault
fault_behind (Err e) = fault.OutOfMemory

-- the link refused, and the call is refused as this: where the link failed, the desk was told that the client has gone
abbrev pub GivesUp : {D : Type 0} → (by : Going D) → ConnNo → (old : D) → Trouble → PumpFault → (new : D) → Type 0
GivesUp by conn old trouble.Failed f new = (answer : Result Bool OutOfMemory) × by old conn answer new × (f ≡ fault_behind answer)
GivesUp by conn old trouble.OutOfMemory f new = (new ≡ old) × (f ≡ fault.OutOfMemory)
