-- What Trims take: rows that are older than their retention, and never the newest of all commits.
use Rattle.std.specs.Prelude.{◌+◌, ◌≡◌, ◌<◌, ◌⊎◌, true, false, List, [], ◌∷◌, Some, Contains}
use Rattle.cable_base.specs.declared.rows.Row.{Row}
use Rattle.cable_model.specs.declared.events.Event.{Event}
use Rattle.cable_model.specs.Table.{TableStep, commits, last_id, gone, trimmed}
use Rattle.cable_model.specs.History.{Rules}
use Rattle.cable_model.specs.Journal.{table_journal}

-- the entry is a Trim that took the row, which was older than the retention and not the newest
abbrev pub TakesOld : Row → TableStep → List TableStep → Type 0
TakesOld row (TableStep.Trim now retention batch (Some taken)) past =
    Contains (trimmed now retention batch past) row × (row.created_at.0 + retention < now) × (row.id.0 < last_id past)
TakesOld row _ past = ⊥

-- one of the entries is such a Trim
abbrev pub TakenOld : Row → List TableStep → Type 0
TakenOld row [] = ⊥
TakenOld row (t ∷ past) = TakesOld row t past ⊎ TakenOld row past

-- the promise of a table's journal
pub record TrimsOld (table : List TableStep) : Type 0 where
  -- a row that was committed and is gone was taken by a Trim at which it was old
  pub old : (row : Row) → Contains (commits table) row → gone table row ≡ true → TakenOld row table
  -- the newest row never goes
  pub newest : (row : Row) → row.id.0 ≡ last_id table → gone table row ≡ false

-- the promise of every history
abbrev pub HistoryTrims : Rules → List Event → Type 0
HistoryTrims r events = TrimsOld (table_journal r events)
