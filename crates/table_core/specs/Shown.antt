-- How the calls of a table follow its journal.
use Rattle.std.specs.Prelude.{◌≡◌, ◌+◌, ℕ, ℤ, List, [], ◌∷◌, ◌++◌, Option, None, Some, length, Result, Ok, Err}
use Rattle.cable_base.specs.Hash.{channel_hash_of}
use Rattle.cable_base.specs.declared.numbers.RowId.{RowId}
use Rattle.cable_base.specs.declared.rows.Row.{Row}
use Rattle.cable_model.specs.declared.journals.Origin.{Origin}
use Rattle.cable_model.specs.Journal.{conn_in, offer_in}
use Rattle.cable_model.specs.Legal.{LegalEntry, LegalTable}
use Rattle.cable_model.specs.Limits.{page_rows}
use Rattle.cable_model.specs.Table.{Offer, TableStep, last_id, missed_note, note_of, oldest, present, row_with}
use Rattle.table_core.specs.declared.faults.StoreFault.{StoreFault}
use Rattle.table_core.specs.declared.faults.StoreFault.TheVariants as store_fault
use Rattle.table_core.specs.Keepers.{without}
use Rattle.table_core.specs.Tables.{read_note}

-- a table with these rows and this last id shows the journal: its rows are those that were committed and that no Trim took
pub record Shows (rows : List Row) (last : ℕ) (past : List TableStep) : Type 0 where
  pub rows_are : rows ≡ present past
  pub last_is : last ≡ last_id past

-- it shows the journal with one entry more, which is legal there
pub record ShowsNext (rows : List Row) (last : ℕ) (step : TableStep) (past : List TableStep) : Type 0 where
  pub shows : Shows rows last (step ∷ past)
  pub legal : LegalEntry channel_hash_of page_rows step past

-- a commit puts its row behind the others, under the next id
abbrev pub CommitsFollow : Type 0
CommitsFollow = (rows : List Row) (last : ℕ) (past : List TableStep) → Shows rows last past
    → (conn : Option ℕ) (offer : Offer) → ShowsNext (rows ++ row_with (last + 1) offer ∷ []) (last + 1) (TableStep.Commit conn offer (Some (last + 1))) past

-- a trim takes the oldest rows and counts them
abbrev pub TrimsFollow : Type 0
TrimsFollow = (rows : List Row) (last : ℕ) (past : List TableStep) → Shows rows last past
    → (now retention batch : ℕ) → ShowsNext (without (oldest now retention batch last rows) rows) last (TableStep.Trim now retention batch (Some (length (oldest now retention batch last rows)))) past

-- what a read finds is the note of the journal, whatever turn it is of
pub record ReadsAs (rows : List Row) (last : ℕ) (past : List TableStep) (node turn low : ℕ) (hashes : List ℤ) : Type 0 where
  pub note : read_note low last hashes rows ≡ note_of channel_hash_of page_rows low hashes past
  pub next : ShowsNext rows last (TableStep.Read node turn (read_note low last hashes rows) hashes) past

abbrev pub ReadsFollow : Type 0
ReadsFollow = (rows : List Row) (last : ℕ) (past : List TableStep) → Shows rows last past → (node turn low : ℕ) (hashes : List ℤ) → ReadsAs rows last past node turn low hashes

-- a boot, and a call that the keeper refuses, leave the rows and the last id
pub record LeavesRows (rows : List Row) (last : ℕ) (past : List TableStep) : Type 0 where
  pub boot : (node : ℕ) → ShowsNext rows last (TableStep.Boot node last) past
  pub commit : (conn : Option ℕ) (offer : Offer) → ShowsNext rows last (TableStep.Commit conn offer None) past
  pub trim : (now retention batch : ℕ) → ShowsNext rows last (TableStep.Trim now retention batch None) past
  pub read : (node turn low : ℕ) (hashes : List ℤ) → ShowsNext rows last (TableStep.Read node turn (missed_note low) hashes) past

abbrev pub RefusalsFollow : Type 0
RefusalsFollow = (rows : List Row) (last : ℕ) (past : List TableStep) → Shows rows last past → LeavesRows rows last past

-- ---- a commit, by its answer

-- the journal behind a commit of a connection, or of none: its entry names the row's id, or none where the keeper refused. Where the ids are
-- spent or memory was wanted no commit was tried, and there is no entry
abbrev pub with_commit : Origin → (channel payload : List ℕ) → (at : ℕ) → Result RowId StoreFault → List TableStep → List TableStep
with_commit from channel payload at (Ok id) past = TableStep.Commit (conn_in from) (offer_in channel payload at) (Some id.0) ∷ past
with_commit from channel payload at (Err store_fault.Failed) past = TableStep.Commit (conn_in from) (offer_in channel payload at) None ∷ past
with_commit from channel payload at (Err store_fault.IdsSpent) past = past
with_commit from channel payload at (Err store_fault.OutOfMemory) past = past

-- the rows that a keeper tells and the table's last id are those of a journal, which is legal
pub record IsShown (rows : Option (List Row)) (last : ℕ) (past : List TableStep) : Type 0 where
  pub rows_are : rows ≡ Some (present past)
  pub last_is : last ≡ last_id past
  pub legal : LegalTable channel_hash_of page_rows past

-- a table that shows a journal shows it with this commit behind it
abbrev pub EntersCommit : Origin → (channel payload : List ℕ) → (at : ℕ) → Result RowId StoreFault → (rows rows' : Option (List Row)) → (last last' : ℕ) → Type 0
EntersCommit from channel payload at result rows rows' last last' = (past : List TableStep) → IsShown rows last past → IsShown rows' last' (with_commit from channel payload at result past)
