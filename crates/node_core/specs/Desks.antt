-- What a node is to its sessions, its workers and its listener: one relation for each call, which is the call's event.
use Rattle.std.specs.Prelude.{◌≡◌, ◌≤◌, ◌+◌, ◌==◌, ◌∷◌, ℕ, Bool, true, false, cond, not, suc, List, Option, Some, None, is_some, option_map, length, slice_get, Result, IfOk, IfErr, IsOk, OnOk, OnErr, MatchOption}
use Rattle.cable_base.specs.declared.faults.OutOfMemory.{OutOfMemory}
use Rattle.cable_base.specs.declared.numbers.ConnNo.{ConnNo}
use Rattle.cable_model.specs.Journal as journals
use Rattle.cable_model.specs.Possible.{can_drop, can_take, is_out, is_over, last_turn}
use Rattle.cable_model.specs.Steps.{Step}
use Rattle.cable_model.specs.Transcript.{queued}
use Rattle.conn_seat.specs.declared.outs.Out.{Out}
use Rattle.poll_turn.specs.Notes.{note_in}
use Rattle.poll_turn.specs.Turns.{CaughtState, TurnState}
use Rattle.node_log.specs.Logs.{cut_from}
use Rattle.node_core.specs.Arriving.{RefusesText, text_fault}
use Rattle.node_core.specs.Forgetting.{DropsWants, may_forget}
use Rattle.node_core.specs.Jobs.{Fits, IsJob, JobState, WorkState}
use Rattle.node_core.specs.Journals.{told}
use Rattle.node_core.specs.Nodes.{GoesOn, HasReady, NodeState, ReadsSame, TakesNone, is_forgotten, line_on, past, taken_out}
use Rattle.node_core.specs.Opening.{RefusesOpen, open_fault}
use Rattle.node_core.specs.Turned.{IsNextTurn, is_expected}
use Rattle.node_core.specs.declared.arriving.ArriveFault.{ArriveFault}
use Rattle.node_core.specs.declared.opening.OpenFault.{OpenFault}

-- a connection is opened for the user of its token, or refused
pub record Opens (old : NodeState) (conn : ConnNo) (token : List ℕ) (user : Option (List ℕ)) (result : Result (Unit {0}) OpenFault) (new : NodeState) : Type 0 where
  pub number : new.no ≡ old.no
  pub fault : RefusesOpen (open_fault conn.0 (past old)) result
  pub ok : OnOk result (past new ≡ Step.Open conn.0 token user ∷ past old)
  pub goes : OnOk result (GoesOn old new)
  pub err : OnErr result (ReadsSame old new)

-- a text is put on its connection, or refused
pub record Arrives (old : NodeState) (conn : ConnNo) (text : List ℕ) (result : Result (Unit {0}) ArriveFault) (new : NodeState) : Type 0 where
  pub number : new.no ≡ old.no
  pub fault : RefusesText (text_fault conn.0 text (past old)) result
  pub ok : OnOk result (past new ≡ Step.In conn.0 text ∷ past old)
  pub goes : GoesOn old new
  pub err : OnErr result (ReadsSame old new)

-- a client has gone
pub record Leaves (old : NodeState) (conn : ConnNo) (result : Result Bool OutOfMemory) (new : NodeState) : Type 0 where
  pub number : new.no ≡ old.no
  pub answer : IfOk result (λ done. done ≡ can_drop conn.0 (past old))
  pub ok : IfOk result (λ done. past new ≡ cond done (Step.Drop conn.0 ∷ past old) (past old))
  pub same : IfOk result (λ done. done ≡ false → ReadsSame old new)
  pub goes : GoesOn old new
  pub err : OnErr result (ReadsSame old new)

-- a piece of the connection that is ready longest is taken, or none is ready. Those of which a piece can be taken are ready, and no other
pub record TakesNext (old : NodeState) (result : Result (Option JobState) OutOfMemory) (new : NodeState) : Type 0 where
  pub number : new.no ≡ old.no
  pub ready : HasReady old
  pub none : IfOk result (λ j. j ≡ None → ((c : ℕ) → can_take c (past old) ≡ false) × ReadsSame old new)
  pub ok : IfOk result (λ o. (j : JobState) → o ≡ Some j → (slice_get old.ready 0 ≡ Some j.conn) × (past new ≡ Step.Take j.conn.0 ∷ past old) × IsJob j new)
  pub goes : GoesOn old new
  pub err : OnErr result (ReadsSame old new)

-- the work is finished, or comes back
pub record FinishesFit (old : NodeState) (work : WorkState) (result : Result (Unit {0}) WorkState) (new : NodeState) : Type 0 where
  pub number : new.no ≡ old.no
  pub ok : OnOk result (past new ≡ Step.Finish work.conn.0 work.puts work.plan ∷ past old)
  pub goes : GoesOn old new
  pub token : IfErr result (λ w. w ≡ work)
  pub err : OnErr result (ReadsSame old new)

-- .. where it fits. Work that doesn't is given up
pub record Finishes (old : NodeState) (work : WorkState) (result : Result (Unit {0}) WorkState) (new : NodeState) : Type 0 where
  pub fit : Fits work old → FinishesFit old work result new
  pub unfit : ¬ Fits work old → IsOk result × (new ≡ old)

-- what was queued first on the connection and wasn't taken out is taken out
pub record TakesOut (old : NodeState) (conn : ConnNo) (result : Option Out) (new : NodeState) : Type 0 where
  pub number : new.no ≡ old.no
  pub kept : new.kept ≡ old.kept
  pub stored : new.stored ≡ old.stored
  pub out : MatchOption result (length (queued conn.0 (past old)) ≤ taken_out conn.0 old)
      (λ out. slice_get (queued conn.0 (past old)) (taken_out conn.0 old) ≡ Some (line_on conn.0 out))
  pub taken : MatchOption result (taken_out conn.0 new ≡ taken_out conn.0 old) (λ _. taken_out conn.0 new ≡ taken_out conn.0 old + 1)
  pub others : (c : ℕ) → (c == conn.0) ≡ false → taken_out c new ≡ taken_out c old
  pub forgotten : (c : ℕ) → is_forgotten c new ≡ is_forgotten c old
  pub ready : new.ready ≡ old.ready

-- the number was opened and is no longer live
abbrev pub TellsOver : NodeState → ConnNo → Bool → Type 0
TellsOver n conn answer = answer ≡ is_over conn.0 (past n)

-- only that the connection is forgotten changes, its entries are no longer in the log that is stored, and no want of it is left
pub record ForgetsOne (old : NodeState) (conn : ConnNo) (new : NodeState) : Type 0 where
  pub number : new.no ≡ old.no
  pub kept : new.kept ≡ old.kept
  pub stored : new.stored ≡ option_map (cut_from conn.0) old.stored
  pub cut : told new.stored ≡ journals.cut conn.0 (told old.stored)
  pub taken : TakesNone old new
  pub forgotten : is_forgotten conn.0 new ≡ true
  pub others : (c : ℕ) → (c == conn.0) ≡ false → is_forgotten c new ≡ is_forgotten c old
  pub ready : new.ready ≡ old.ready
  pub wants : DropsWants conn.0 old new

-- .. where it can be forgotten, and else nothing does
pub record Forgets (old : NodeState) (conn : ConnNo) (new : NodeState) : Type 0 where
  pub can : may_forget conn.0 old ≡ true → ForgetsOne old conn new
  pub cannot : may_forget conn.0 old ≡ false → new ≡ old

-- the next turn is asked, or one is out
pub record Asks (old : NodeState) (result : Result (Option TurnState) OutOfMemory) (new : NodeState) : Type 0 where
  pub number : new.no ≡ old.no
  pub answer : IfOk result (λ t. is_some t ≡ not (is_out (past old)))
  pub none : IfOk result (λ t. t ≡ None → ReadsSame old new)
  pub ok : IfOk result (λ t. past new ≡ cond (is_some t) (Step.Ask (suc (last_turn (past old))) ∷ past old) (past old))
  pub turn : IfOk result (λ o. (t : TurnState) → o ≡ Some t → IsNextTurn t old)
  pub goes : GoesOn old new
  pub err : OnErr result (ReadsSame old new)

-- what the turn that is out caught is delivered, or comes back
pub record DeliversExpected (old : NodeState) (caught : CaughtState) (result : Result (Unit {0}) CaughtState) (new : NodeState) : Type 0 where
  pub number : new.no ≡ old.no
  pub ok : OnOk result (past new ≡ Step.Deliver caught.number (note_in caught) ∷ past old)
  pub goes : GoesOn old new
  pub missed : caught.is_missed ≡ true → IsOk result
  pub token : IfErr result (λ k. k ≡ caught)
  pub err : OnErr result (ReadsSame old new)

-- .. where it is expected. What was caught for another turn is given up
pub record Delivers (old : NodeState) (caught : CaughtState) (result : Result (Unit {0}) CaughtState) (new : NodeState) : Type 0 where
  pub expected : is_expected caught old ≡ true → DeliversExpected old caught result new
  pub unexpected : is_expected caught old ≡ false → IsOk result × (new ≡ old)
