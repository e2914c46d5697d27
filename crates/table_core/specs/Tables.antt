-- What the calls of a table do.
use Rattle.std.specs.Prelude.{◌≡◌, ◌≤◌, ◌<◌, ℕ, ℤ, List, Option, IfSome}
use Rattle.std.specs.List.{All}
use Rattle.cable_base.specs.declared.numbers.RowId.{RowId}
use Rattle.cable_base.specs.declared.rows.Row.{Row}
use Rattle.cable_model.specs.Limits.{CanBeRow, page_rows}
use Rattle.cable_model.specs.Table.{note_with, upto_of}
use Rattle.cable_model.specs.declared.journals.ReadNote.{ReadNote}
use Rattle.poll_turn.specs.Turns.{CaughtState, TurnState}
use Rattle.table_core.specs.Keepers.{AreRising, most_id, moment_limit, sought}
use Rattle.table_core.specs.declared.faults.KeeperFault.{KeeperFault}
use Rattle.table_core.specs.declared.faults.KeeperFault.TheVariants as keeper_fault
use Rattle.table_core.specs.declared.faults.StoreFault.{StoreFault}
use Rattle.table_core.specs.declared.faults.StoreFault.TheVariants as store_fault

-- a table is its keeper and the id of the last row that was committed. The rows are the keeper's
pub record TableState (K : Type 0) : Type 0 where
  pub keeper : K
  pub last : RowId

-- the ids of the rows rise up to the last one
pub record IsTable (told : Option (List Row)) (last : ℕ) : Type 0 where
  pub most : last ≤ most_id
  pub rising : IfSome told AreRising
  pub within : IfSome told (All (λ r. r.id.0 ≤ last))

-- the name, the payload and the moment are within the limits, and the payload is squeezed JSON
pub record IsWithinLimits (channel payload : List ℕ) (at : ℕ) : Type 0 where
  pub row : CanBeRow channel payload
  pub moment : at < moment_limit

-- what a turn caught is what that turn asked for
pub record IsCaughtOf (turn : TurnState) (caught : CaughtState) : Type 0 where
  pub node : caught.node ≡ turn.node
  pub number : caught.number ≡ turn.number
  pub lower : caught.lower ≡ turn.lower

-- the note of a turn that reads these rows, where the last id is this one
abbrev pub read_note : (low last : ℕ) → List ℤ → List Row → ReadNote
read_note low last hashes rows = note_with low last (upto_of page_rows last (sought low hashes rows)) (sought low hashes rows)

-- a turn that isn't missed ends at the last id, or at the id of the row that fills a page
pub record EndsAt (last : RowId) (caught : CaughtState) : Type 0 where
  pub last_is : caught.last ≡ last
  pub upto_is : caught.upto.0 ≡ upto_of page_rows last.0 caught.rows

-- a fault of the keeper, as the table tells it
abbrev pub GivesFault : KeeperFault → StoreFault → Type 0
GivesFault keeper_fault.Failed e = e ≡ store_fault.Failed
GivesFault keeper_fault.OutOfMemory e = e ≡ store_fault.OutOfMemory
