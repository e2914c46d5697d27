-- What a table is to those that commit to it and to those that read it, whatever its keeper is: one relation for each call.
use Rattle.std.specs.Prelude.{◌≡◌, ◌⊎◌, ◌↔◌, ◌+◌, ◌++◌, ◌∷◌, [], ℕ, true, false, List, Option, Some, IfSome, is_some, Result, IfOk, IsErrOf, IsOk, IsOkAnd, MatchResult, OnErr}
use Rattle.cable_base.specs.declared.numbers.RowId.{RowId}
use Rattle.cable_base.specs.declared.rows.Row.{Row}
use Rattle.cable_model.specs.declared.journals.Origin.{Origin}
use Rattle.cable_model.specs.Journal.{offer_in}
use Rattle.cable_model.specs.Table.{missed_note, row_with}
use Rattle.poll_turn.specs.Notes.{note_in}
use Rattle.poll_turn.specs.Turns.{CaughtState, TurnState}
use Rattle.table_core.specs.declared.faults.StoreFault.{StoreFault}
use Rattle.table_core.specs.declared.faults.StoreFault.TheVariants as store_fault
use Rattle.table_core.specs.Keepers.{CallsOnce, KeeperCounts, most_id}
use Rattle.table_core.specs.Shown.{EntersCommit}
use Rattle.table_core.specs.Tables.{EndsAt, IsCaughtOf, TableState, read_note}

-- what keepers of a type tell
pub record Told (K P : Type 0) : Type 0 where
  pub rows : K → Option (List Row)
  pub counts : K → KeeperCounts
  pub place : K → P

-- one call of the keeper, between these two tables
abbrev pub Calls : {K P : Type 0} → Told K P → (went failed : Type 0) → (old new : TableState K) → Type 0
Calls t went failed old new = CallsOnce went failed (t.counts old.keeper) (t.counts new.keeper)

-- a commit puts its row behind the others, under the next id, or is refused and leaves the rows and the last id. In the table's journal it's the commit of the one who makes it
pub record CommitsRow {K P : Type 0} (t : Told K P) (old : TableState K) (from : Origin) (channel payload : List ℕ) (at : ℕ) (result : Result RowId StoreFault) (new : TableState K) : Type 0 where
  pub next : IfOk result (λ id. id.0 ≡ old.last.0 + 1)
  pub last_is : IfOk result (λ id. new.last ≡ id)
  pub row : IfSome (t.rows old.keeper) (λ told. IfOk result (λ id. t.rows new.keeper ≡ Some (told ++ row_with id.0 (offer_in channel payload at) ∷ [])))
  pub entry : EntersCommit from channel payload at result (t.rows old.keeper) (t.rows new.keeper) old.last.0 new.last.0
  pub tells : is_some (t.rows new.keeper) ≡ is_some (t.rows old.keeper)
  pub err : OnErr result ((t.rows new.keeper ≡ t.rows old.keeper) × (new.last ≡ old.last))
  pub spent : IsErrOf result store_fault.IdsSpent ↔ (old.last.0 ≡ most_id)
  pub idle : IsErrOf result store_fault.IdsSpent → new ≡ old
  pub call : (new ≡ old) × (IsErrOf result store_fault.IdsSpent ⊎ IsErrOf result store_fault.OutOfMemory)
      ⊎ Calls t (IsOk result) (IsErrOf result store_fault.Failed) old new
  pub place_is : t.place new.keeper ≡ t.place old.keeper

-- a read answers the turn with what it found, or as missed, or hands it back. It leaves the rows and the last id
pub record ReadsTurn {K P : Type 0} (t : Told K P) (old : TableState K) (turn : TurnState) (result : Result CaughtState TurnState) (new : TableState K) : Type 0 where
  pub found : IfSome (t.rows old.keeper) (λ told. IfOk result (λ caught. caught.is_missed ≡ false → note_in caught ≡ read_note turn.lower.0 old.last.0 turn.hashes told))
  pub missed : IfOk result (λ caught. caught.is_missed ≡ true → note_in caught ≡ missed_note turn.lower.0)
  pub end : IfOk result (λ caught. caught.is_missed ≡ false → EndsAt old.last caught)
  pub turn_is : MatchResult result (IsCaughtOf turn) (λ back. back ≡ turn)
  pub same : (t.rows new.keeper ≡ t.rows old.keeper) × (new.last ≡ old.last)
  pub call : Calls t (IsOkAnd result (λ caught. caught.is_missed ≡ false)) (IsOkAnd result (λ caught. caught.is_missed ≡ true)) old new
  pub place_is : t.place new.keeper ≡ t.place old.keeper
