-- How a merge of logs ties a node's journal to the table's, and what is promised of the rows finished then.
use Rattle.std.specs.Prelude.{ℕ, ◌≡◌, ◌≤◌, ⊤, List, [], ◌∷◌, ◌++◌, None, ℤ}
use Rattle.cable_model.specs.Steps.{Step}
use Rattle.cable_model.specs.Window.{window}
use Rattle.cable_model.specs.Table.{TableStep, commits, last_id, read_of, reads_of}
use Rattle.cable_model.specs.Legal.{Legal, LegalTable, stored_plans}
use Rattle.cable_model.specs.Promise.{Windows}

-- each Deliver has the Read of its turn, with its note, in the table's journal, no other Read of the turn is newer, and the Reads of earlier
-- turns stand before it. The Boot tells no id above the last. `front` is what is newer than all that is looked at
abbrev pub Tied : (node : ℕ) → List Step → (front table : List TableStep) → Type 0
Tied n [] front table = ⊤
Tied n (Step.Deliver turn note ∷ past) front table =
    (newer older : List TableStep) × (hashes : List ℤ) × (table ≡ newer ++ TableStep.Read n turn note hashes ∷ older)
    × (read_of n turn (front ++ newer) ≡ None) × Tied n past ((front ++ newer) ++ TableStep.Read n turn note hashes ∷ []) older
Tied n (Step.Boot last ∷ past) front table = (last ≤ last_id table) × Tied n past front table
Tied n (_ ∷ past) front table = Tied n past front table

-- the promise of legal journals that a merge ties: of each connection of a node and each want of it, with the plans that the journal stores
abbrev pub JournalWindows : Type 0
JournalWindows =
    (hash : List ℕ → ℤ) (page n : ℕ) (table : List TableStep) (past : List Step) → LegalTable hash page table → Legal past → Tied n past [] table → (c s w : ℕ)
    → Windows (stored_plans c past) (window (stored_plans c past) (reads_of hash n table) c s w past (commits table)) c s w past
