-- One piece of work: a job is taken, its casts are committed in order, and the work is finished with what was noted of them. What the desk
-- and the store do is told by a relation for each of their calls.
use Rattle.std.specs.Prelude.{◌≡◌, ◌⊎◌, ℕ, Bool, true, false, List, [], ◌∷◌, ◌++◌, Option, None, Some, Result, Ok, Err}
use Rattle.cable_base.specs.declared.faults.OutOfMemory.{OutOfMemory}
use Rattle.cable_base.specs.declared.numbers.ConnNo.{ConnNo}
use Rattle.cable_base.specs.declared.numbers.RowId.{RowId}
use Rattle.channel_book.specs.declared.answers.Cast.{Cast}
use Rattle.cable_model.specs.declared.journals.Origin.{Origin}
use Rattle.cable_model.specs.declared.journals.Origin.TheVariants as origin
use Rattle.cable_model.specs.Plans.{Callbacks}
use Rattle.node_core.specs.Jobs.{JobState, WorkState, work_of}
use Rattle.table_core.specs.declared.faults.StoreFault.{StoreFault}
use Rattle.table_core.specs.declared.faults.StoreFault.TheVariants as store_fault

-- ---- commits

-- how a store commits: the store before, who commits, the name, the payload, the moment, the answer, and the store after
abbrev pub Committing : Type 0 → Type 1
Committing S = S → Origin → (channel payload : List ℕ) → (at : ℕ) → Result RowId StoreFault → S → Type 0

-- what is noted of a commit: the row's id, or that it failed. Where memory is wanted, nothing is
abbrev pub noted_as : Result RowId StoreFault → Option (Option RowId)
noted_as (Ok id) = Some (Some id)
noted_as (Err store_fault.Failed) = Some None
noted_as (Err store_fault.IdsSpent) = Some None
noted_as (Err store_fault.OutOfMemory) = None

-- a cast is committed for a connection, under its name and with its payload, and this is noted of it
pub record CommitsCast {S : Type 0} (by : Committing S) (conn : ConnNo) (at : ℕ) (old : S) (c : Cast) (id : Option RowId) (new : S) : Type 0 where
  pub answer : Result RowId StoreFault
  pub committed : by old (origin.Conn conn) c.channel c.payload at answer new
  pub noted : noted_as answer ≡ Some id

-- the commit of a cast wanted memory
abbrev pub WantsMemory : {S : Type 0} → (by : Committing S) → (conn : ConnNo) → (at : ℕ) → (old : S) → Cast → (new : S) → Type 0
WantsMemory by conn at old c new = by old (origin.Conn conn) c.channel c.payload at (Err store_fault.OutOfMemory) new

-- one commit for each cast, in order, and what is noted of each
abbrev pub Commits : {S : Type 0} → (by : Committing S) → (conn : ConnNo) → (at : ℕ) → (old : S) → List Cast → List (Option RowId) → (new : S) → Type 0
Commits by conn at old [] [] new = new ≡ old
Commits {S} by conn at old (c ∷ cs) (id ∷ ids) new = (mid : S) × CommitsCast by conn at old c id mid × Commits by conn at mid cs ids new
Commits by conn at old [] (id ∷ ids) new = ⊥
Commits by conn at old (c ∷ cs) [] new = ⊥

-- the first casts were committed, and then a commit wanted memory
pub record CommitsFirst {S : Type 0} (by : Committing S) (conn : ConnNo) (at : ℕ) (old : S) (casts : List Cast) (new : S) : Type 0 where
  pub made : List Cast
  pub wanting : Cast
  pub left : List Cast
  pub ids : List (Option RowId)
  pub mid : S
  pub casts_are : casts ≡ made ++ wanting ∷ left
  pub commits : Commits by conn at old made ids mid
  pub wants : WantsMemory by conn at mid wanting new

-- ---- the work

-- how a desk takes and finishes, and how a store commits
pub record Calls (D S : Type 0) : Type 1 where
  pub takes : D → Result (Option JobState) OutOfMemory → D → Type 0
  pub finishes : D → WorkState → Result (Unit {0}) WorkState → D → Type 0
  pub commits : Committing S

-- a desk and a store
pub record Both (D S : Type 0) : Type 0 where
  pub desk : D
  pub store : S

-- the work with these commits noted
abbrev pub with_puts : List (Option RowId) → WorkState → WorkState
with_puts ids w = record w { puts = ids }

-- the casts of the work were committed, and it was handed to the desk with what was noted of them. This is the desk's answer
pub record Finishes {D S : Type 0} (t : Calls D S) (at : ℕ) (old : Both D S) (w : WorkState) (answer : Result (Unit {0}) WorkState) (new : Both D S) : Type 0 where
  pub ids : List (Option RowId)
  pub committed : Commits t.commits w.conn at old.store w.plan.casts ids new.store
  pub finished : t.finishes old.desk (with_puts ids w) answer new.desk

-- .. or memory was wanted for a commit, and the desk is as it was
abbrev pub StopsShort : {D S : Type 0} → (t : Calls D S) → (at : ℕ) → (old : Both D S) → (w : WorkState) → (new : Both D S) → Type 0
StopsShort t at old w new = CommitsFirst t.commits w.conn at old.store w.plan.casts new.store × (new.desk ≡ old.desk)

-- once the work is planned, memory was wanted for a commit or for the finish
abbrev pub StopsWork : {D S : Type 0} → (t : Calls D S) → (at : ℕ) → (old : Both D S) → (w : WorkState) → (new : Both D S) → Type 0
StopsWork t at old w new = StopsShort t at old w new ⊎ ((back : WorkState) × Finishes t at old w (Err back) new)

-- the work is finished, or memory was wanted
abbrev pub EndsWork : {D S : Type 0} → (t : Calls D S) → (at : ℕ) → (old : Both D S) → (w : WorkState) → Result (Unit {0}) OutOfMemory → (new : Both D S) → Type 0
EndsWork t at old w (Ok u) new = Finishes t at old w (Ok u) new
EndsWork t at old w (Err e) new = StopsWork t at old w new

-- this is what the desk answered where a job was to be taken. The store is as it was
pub record Takes {D S : Type 0} (t : Calls D S) (old : Both D S) (answer : Result (Option JobState) OutOfMemory) (new : Both D S) : Type 0 where
  pub taken : t.takes old.desk answer new.desk
  pub store_is : new.store ≡ old.store

-- a job was taken, planned with these callbacks, and its work finished
pub record Works {D S : Type 0} (t : Calls D S) (r : Callbacks) (at : ℕ) (old new : Both D S) : Type 0 where
  pub job : JobState
  pub between : Both D S
  pub takes : Takes t old (Ok (Some job)) between
  pub finishes : Finishes t at between (work_of r job) (Ok tt) new

-- a job was taken, and memory was wanted for its plan
pub record StopsPlan {D S : Type 0} (t : Calls D S) (old new : Both D S) : Type 0 where
  pub job : JobState
  pub takes : Takes t old (Ok (Some job)) new

-- a job was taken and planned, and memory was wanted for a commit of its casts or for the finish
pub record StopsLater {D S : Type 0} (t : Calls D S) (r : Callbacks) (at : ℕ) (old new : Both D S) : Type 0 where
  pub job : JobState
  pub between : Both D S
  pub takes : Takes t old (Ok (Some job)) between
  pub stops : StopsWork t at between (work_of r job) new

-- one piece of work, by the answer: a job was worked, none was ready, or memory was wanted
abbrev pub WorksOnce : {D S : Type 0} → (t : Calls D S) → (r : Callbacks) → (at : ℕ) → (old : Both D S) → Result Bool OutOfMemory → (new : Both D S) → Type 0
WorksOnce t r at old (Ok true) new = Works t r at old new
WorksOnce t r at old (Ok false) new = Takes t old (Ok None) new
WorksOnce t r at old (Err e) new = Takes t old (Err e) new ⊎ (StopsPlan t old new ⊎ StopsLater t r at old new)
