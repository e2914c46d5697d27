-- One turn of a listener: it is asked, the table reads exactly this turn, and exactly what that gave is delivered, be the turn found or
-- missed. What the listener's node and the table do is told by a relation for each of their calls.
use Rattle.std.specs.Prelude.{◌≡◌, ◌⊎◌, Bool, true, false, Option, None, Some, Result, Ok, Err}
use Rattle.cable_base.specs.declared.faults.OutOfMemory.{OutOfMemory}
use Rattle.poll_turn.specs.Turns.{CaughtState, TurnState}

-- how a node asks and delivers, and how a table reads
pub record Calls (E S : Type 0) : Type 1 where
  pub asks : E → Result (Option TurnState) OutOfMemory → E → Type 0
  pub delivers : E → CaughtState → Result (Unit {0}) CaughtState → E → Type 0
  pub reads : S → TurnState → Result CaughtState TurnState → S → Type 0

-- a listener's node and a table
pub record Both (E S : Type 0) : Type 0 where
  pub ears : E
  pub store : S

-- this is what the node answered where a turn was to be asked. The table is as it was
pub record Asks {E S : Type 0} (t : Calls E S) (old : Both E S) (answer : Result (Option TurnState) OutOfMemory) (new : Both E S) : Type 0 where
  pub asked : t.asks old.ears answer new.ears
  pub store_is : new.store ≡ old.store

-- a turn was asked and read, and this is what the table answered
pub record Reads {E S : Type 0} (t : Calls E S) (old : Both E S) (answer : Result CaughtState TurnState) (new : Both E S) : Type 0 where
  pub turn : TurnState
  pub between : Both E S
  pub asks : Asks t old (Ok (Some turn)) between
  pub read : t.reads between.store turn answer new.store
  pub ears_are : new.ears ≡ between.ears

-- a turn was asked and read, what it caught was delivered, and this is what the node answered
pub record Delivers {E S : Type 0} (t : Calls E S) (old : Both E S) (answer : Result (Unit {0}) CaughtState) (new : Both E S) : Type 0 where
  pub caught : CaughtState
  pub between : Both E S
  pub reads : Reads t old (Ok caught) between
  pub delivered : t.delivers between.ears caught answer new.ears
  pub store_is : new.store ≡ between.store

-- memory was wanted for the read, or for the delivery
abbrev pub StopsTurn : {E S : Type 0} → (t : Calls E S) → (old new : Both E S) → Type 0
StopsTurn t old new = ((back : TurnState) × Reads t old (Err back) new) ⊎ ((back : CaughtState) × Delivers t old (Err back) new)

-- one turn, by the answer: it was delivered, a turn was out, or memory was wanted
abbrev pub ListensOnce : {E S : Type 0} → (t : Calls E S) → (old : Both E S) → Result Bool OutOfMemory → (new : Both E S) → Type 0
ListensOnce t old (Ok true) new = Delivers t old (Ok tt) new
ListensOnce t old (Ok false) new = Asks t old (Ok None) new
ListensOnce t old (Err e) new = Asks t old (Err e) new ⊎ StopsTurn t old new
