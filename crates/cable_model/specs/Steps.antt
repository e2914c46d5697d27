-- A node's journal, newest entry first: its log, with the user or none beside each Open and the plan beside each Finish.
use Rattle.std.specs.Prelude.{ℕ, List, Option}
use Rattle.cable_base.specs.declared.numbers.RowId.{RowId}
use Rattle.cable_model.specs.declared.journals.ReadNote.{ReadNote}
use Rattle.cable_model.specs.declared.plans.Plan.{Plan}

pub data Step : Type 0 where
  Boot : (last : ℕ) → Step
  Open : (conn : ℕ) → (token : List ℕ) → (user : Option (List ℕ)) → Step
  In : (conn : ℕ) → (text : List ℕ) → Step
  Drop : (conn : ℕ) → Step
  Stop : Step
  Take : (conn : ℕ) → Step
  Finish : (conn : ℕ) → (puts : List (Option RowId)) → (plan : Plan) → Step
  Ask : (turn : ℕ) → Step
  Deliver : (turn : ℕ) → (note : ReadNote) → Step
  Beat : (now : ℕ) → Step
