-- A piece of work that was taken ends.
use Rattle.std.proofs.Common.{◌≡◌, ℕ, Bool, true, false, Some, Result, Ok, Err, subst, inr}
use Rattle.std.specs.Prelude.{IsErr}
use Rattle.cable_base.specs.declared.faults.OutOfMemory.{OutOfMemory}
use Rattle.cable_model.specs.Plans.{Callbacks}
use Rattle.node_core.specs.Jobs.{JobState, WorkState, work_of}
use Rattle.worker_gate.specs.Working.{Both, Calls, Finishes, StopsWork, Takes, Works, WorksOnce}

pub worked : {D S : Type 0} (t : Calls D S) (r : Callbacks) (at : ℕ) (old between new : Both D S) (j : JobState) (w : WorkState)
    → Takes t old (Ok (Some j)) between → w ≡ work_of r j → Finishes t at between w (Ok tt) new → Works t r at old new
worked t r at old between new j w takes is f = record { job = j; between = between; takes = takes; finishes = subst (λ v. Finishes t at between v (Ok tt) new) is f }

pub stopped-once : {D S : Type 0} (t : Calls D S) (r : Callbacks) (at : ℕ) (old between new : Both D S) (j : JobState) (w : WorkState) (result : Result Bool OutOfMemory)
    → Takes t old (Ok (Some j)) between → w ≡ work_of r j → StopsWork t at between w new → IsErr result → WorksOnce t r at old result new
stopped-once t r at old between new j w (Ok b) takes is s err = absurd (let e : false ≡ true = err in cc e)
stopped-once t r at old between new j w (Err e) takes is s err =
    inr (inr (record { job = j; between = between; takes = takes; stops = subst (λ v. StopsWork t at between v new) is s }))
