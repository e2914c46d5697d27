-- A journal as its history says it, the log that is stored of it, if one is, and how many entries more the log takes without memory.
use Rattle.std.specs.Prelude.{◌≡◌, ℕ, List, [], ◌∷◌, Option, None, Some}
use Rattle.cable_base.specs.declared.numbers.RowId.{RowId}
use Rattle.cable_model.specs.declared.journals.Beside.{Beside}
use Rattle.cable_model.specs.declared.journals.Beside.TheVariants as beside
use Rattle.cable_model.specs.declared.journals.Entry.{Entry}
use Rattle.cable_model.specs.declared.journals.Entry.TheVariants as entry
use Rattle.cable_model.specs.Journal.{Kept, past_of}
use Rattle.cable_model.specs.Steps.{Step}
use Rattle.node_log.specs.Logs.{entered, nothing}

-- a log that is stored, with what is kept beside it
pub record StoredState : Type 0 where
  pub kept : Kept
  pub spare : ℕ

pub record JournalState : Type 0 where
  pub kept : Kept
  pub stored : Option Kept
  pub spare : ℕ

abbrev pub kept_in : Option StoredState → Option Kept
kept_in None = None
kept_in (Some s) = Some s.kept

-- where no log is stored, entries take no room: there is always some for the two that are asked for at once
abbrev pub spare_in : Option StoredState → ℕ
spare_in None = 2
spare_in (Some s) = s.spare

-- the entries that are stored
abbrev pub log_in : Option Kept → List Entry
log_in None = []
log_in (Some k) = k.log

-- what is kept beside them
abbrev pub beside_in : Option Kept → List Beside
beside_in None = []
beside_in (Some k) = k.beside

-- the journal that they tell
abbrev pub told : Option Kept → List Step
told None = []
told (Some k) = past_of k

-- what begins with a Boot at this row, and goes no further
abbrev pub begun : RowId → Kept
begun last = entered (entry.Boot last) beside.Nothing nothing

abbrev pub BeginsWithBoot : List Entry → Type 0
BeginsWithBoot log = (last : RowId) × (rest : List Entry) × (log ≡ entry.Boot last ∷ rest)
