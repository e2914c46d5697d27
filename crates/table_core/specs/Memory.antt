-- A keeper in memory, whose calls can be made to fail.
use Rattle.std.specs.Prelude.{◌<◌, ◌≤◌, ℕ, true, false, List, [], Some, codes}
use Rattle.cable_base.specs.declared.numbers.RowId.{RowId}
use Rattle.cable_base.specs.declared.rows.Row.{Row}
use Rattle.table_core.specs.Keepers.{KeeperCounts, KeeperFailures, most_id}

-- its rows, which of its calls are to fail, and how many did
pub record MemRows : Type 0 where
  pub rows : List Row
  pub failures : KeeperFailures
  pub faults : ℕ

-- its counts, of which it tells which calls are to fail
abbrev pub mem_counts : MemRows → KeeperCounts
mem_counts k = record { faults = k.faults; calls = k.failures.planned.calls; failures = Some k.failures }

-- a keeper with these rows, of which these calls are to fail. There was none yet
abbrev pub mem_rows : List Row → (planned : List ℕ) → MemRows
mem_rows rows planned = record { rows = rows; failures = record { planned = record { planned = planned; calls = 0 }; next = false }; faults = 0 }

-- its next call is to fail
abbrev pub told_to_fail : MemRows → MemRows
told_to_fail k = record { rows = k.rows; failures = record { planned = k.failures.planned; next = true }; faults = k.faults }

-- the row that a keeper starts at
abbrev pub starting_row : RowId → Row
starting_row last = record { id = last; channel = []; payload = codes "null"; created_at = record { 0 = 0 } }

-- an id that a row can have
pub record IsRowId (id : RowId) : Type 0 where
  pub some : 0 < id.0
  pub most : id.0 ≤ most_id
