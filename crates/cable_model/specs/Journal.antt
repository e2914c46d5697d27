-- Logs as journals: a node's log with what is kept beside it, the table's log with the hashes beside its Reads, and what a history leaves.
use Rattle.std.specs.Prelude.{ℕ, ◌==◌, Bool, false, cond, List, [], ◌∷◌, Option, None, Some, option_map, ℤ}
use Rattle.cable_model.specs.declared.events.Event.{Event}
use Rattle.cable_model.specs.declared.journals.Beside.{Beside}
use Rattle.cable_model.specs.declared.journals.Beside.TheVariants as beside
use Rattle.cable_model.specs.declared.journals.Entry.{Entry}
use Rattle.cable_model.specs.declared.journals.Entry.TheVariants as entry
use Rattle.cable_model.specs.declared.journals.Origin.{Origin}
use Rattle.cable_model.specs.declared.journals.Origin.TheVariants as origin
use Rattle.cable_model.specs.declared.journals.TableEntry.{TableEntry}
use Rattle.cable_model.specs.declared.journals.TableEntry.TheVariants as table_entry
use Rattle.cable_model.specs.declared.plans.Plan.{Plan}
use Rattle.cable_model.specs.Steps.{Step}
use Rattle.cable_model.specs.Plans.{noted}
use Rattle.cable_model.specs.Table.{Offer, TableStep}
use Rattle.cable_model.specs.History.{Rules, start, run}

-- ---- a node's log

abbrev pub user_beside : Beside → Option (List ℕ)
user_beside beside.Nothing = None
user_beside (beside.User user) = user
user_beside (beside.Worked plan) = None

abbrev pub plan_beside : Beside → Plan
plan_beside beside.Nothing = noted []
plan_beside (beside.User user) = noted []
plan_beside (beside.Worked plan) = plan

-- an entry with what is kept beside it
abbrev pub step_of : Entry → Beside → Step
step_of (entry.Boot last) b = Step.Boot last.0
step_of (entry.Open conn token) b = Step.Open conn.0 token (user_beside b)
step_of (entry.In conn text) b = Step.In conn.0 text
step_of (entry.Drop conn) b = Step.Drop conn.0
step_of entry.Stop b = Step.Stop
step_of (entry.Take conn) b = Step.Take conn.0
step_of (entry.Finish conn puts) b = Step.Finish conn.0 puts (plan_beside b)
step_of (entry.Ask turn) b = Step.Ask turn
step_of (entry.Deliver turn note) b = Step.Deliver turn note
step_of (entry.Beat now) b = Step.Beat now.0

-- the journal with these entries laid on it, oldest first
abbrev pub laid : List Step → List Entry → List Beside → List Step
laid past [] bs = past
laid past (e ∷ es) [] = past
laid past (e ∷ es) (b ∷ bs) = laid (step_of e b ∷ past) es bs

-- a node's log, oldest first, and what is kept beside it, as many
pub record Kept : Type 0 where
  pub log : List Entry
  pub beside : List Beside

-- the journal of a node
abbrev pub past_of : Kept → List Step
past_of k = laid [] k.log k.beside

-- ---- the table's log

abbrev pub conn_in : Origin → Option ℕ
conn_in origin.Cast = None
conn_in (origin.Conn conn) = Some conn.0

abbrev pub offer_in : (channel payload : List ℕ) → ℕ → Offer
offer_in channel payload at = record { channel = channel; payload = payload; at = at }

-- an entry with the hashes of its turn beside it, which only a Read has
abbrev pub table_step_of : TableEntry → List ℤ → TableStep
table_step_of (table_entry.Boot node last) hashes = TableStep.Boot node.0 last.0
table_step_of (table_entry.Commit from id channel payload at) hashes = TableStep.Commit (conn_in from) (offer_in channel payload at.0) (option_map (λ i. i.0) id)
table_step_of (table_entry.Trim now retention batch taken) hashes = TableStep.Trim now.0 retention.0 batch taken
table_step_of (table_entry.Read node turn note) hashes = TableStep.Read node.0 turn note hashes

abbrev pub table_laid : List TableStep → List TableEntry → List (List ℤ) → List TableStep
table_laid past [] hs = past
table_laid past (e ∷ es) [] = past
table_laid past (e ∷ es) (h ∷ hs) = table_laid (table_step_of e h ∷ past) es hs

-- the journal of the table, from its log and the hashes kept beside it, as many
abbrev pub table_past : List TableEntry → List (List ℤ) → List TableStep
table_past log hashes = table_laid [] log hashes

-- ---- what a history leaves

-- a history's restriction to a node
abbrev pub node_journal : Rules → List Event → ℕ → List Step
node_journal r events n = (run r start events).nodes n

-- a history's restriction to the table
abbrev pub table_journal : Rules → List Event → List TableStep
table_journal r events = (run r start events).table

-- ---- journals without a connection

abbrev pub is_of : ℕ → Step → Bool
is_of d (Step.Boot last) = false
is_of d (Step.Open c token user) = c == d
is_of d (Step.In c text) = c == d
is_of d (Step.Drop c) = c == d
is_of d Step.Stop = false
is_of d (Step.Take c) = c == d
is_of d (Step.Finish c puts plan) = c == d
is_of d (Step.Ask turn) = false
is_of d (Step.Deliver turn note) = false
is_of d (Step.Beat now) = false

-- a journal without the entries of this connection
abbrev pub cut : ℕ → List Step → List Step
cut d [] = []
cut d (e ∷ past) = cond (is_of d e) (cut d past) (e ∷ cut d past)

abbrev pub cut_all : List ℕ → List Step → List Step
cut_all [] past = past
cut_all (d ∷ ds) past = cut d (cut_all ds past)
