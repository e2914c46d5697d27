-- What a history leaves is legal: each node's journal, and the table's.
use Rattle.std.specs.Prelude.{ℕ, List}
use Rattle.cable_model.specs.declared.events.Event.{Event}
use Rattle.cable_model.specs.History.{Rules}
use Rattle.cable_model.specs.Journal.{node_journal, table_journal}
use Rattle.cable_model.specs.Legal.{Legal, LegalTable}

-- a history's restrictions are legal journals
pub record LegalRestrictions (r : Rules) (events : List Event) : Type 0 where
  pub nodes : (n : ℕ) → Legal (node_journal r events n)
  pub table : LegalTable r.hash r.page (table_journal r events)
