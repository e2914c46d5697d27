-- A listener's turns: what a node's cursor keeps, what a turn asks for, and what it found.
use Rattle.std.specs.Prelude.{◌≡◌, ℕ, ℤ, Bool, true, false, cond, List, []}
use Rattle.std.specs.List.{All}
use Rattle.cable_base.specs.Squeeze.{IsSqueezedJson}
use Rattle.cable_base.specs.declared.numbers.NodeNo.{NodeNo}
use Rattle.cable_base.specs.declared.numbers.RowId.{RowId}
use Rattle.cable_base.specs.declared.rows.Row.{Row}

-- the id up to which the node has looked, how many turns were asked, and whether the last of them is out
pub record CursorState : Type 0 where
  pub lower : RowId
  pub turns : ℕ
  pub is_out : Bool

-- a turn looks for the rows above `lower` with one of these hashes
pub record TurnState : Type 0 where
  pub node : NodeNo
  pub number : ℕ
  pub lower : RowId
  pub hashes : List ℤ

-- what a turn found: it looked from `lower` up to `upto`, and the table's last id was `last` then
pub record CaughtState : Type 0 where
  pub node : NodeNo
  pub number : ℕ
  pub lower : RowId
  pub is_missed : Bool
  pub upto : RowId
  pub last : RowId
  pub rows : List Row

-- what a turn that is missed found
abbrev pub missed_by : TurnState → CaughtState
missed_by t = record { node = t.node; number = t.number; lower = t.lower; is_missed = true; upto = t.lower; last = t.lower; rows = [] }

-- what a turn that isn't missed found
abbrev pub found_by : TurnState → (upto last : RowId) → List Row → CaughtState
found_by t upto last rows = record { node = t.node; number = t.number; lower = t.lower; is_missed = false; upto = upto; last = last; rows = rows }

-- the rows' payloads are squeezed JSON
abbrev pub AreMessages : List Row → Type 0
AreMessages rows = All (λ r. IsSqueezedJson r.payload) rows

-- a turn that is missed looked at nothing
abbrev pub LooksAtNone : Bool → (lower upto last : RowId) → List Row → Type 0
LooksAtNone missed lower upto last rows = missed ≡ true → (upto ≡ lower) × (last ≡ lower) × (rows ≡ [])

-- the turn that was caught is the one that is out
pub record IsTurnOut (cursor : CursorState) (caught : CaughtState) : Type 0 where
  pub out : cursor.is_out ≡ true
  pub number : caught.number ≡ cursor.turns
  pub lower : caught.lower ≡ cursor.lower

-- where the node has looked once the turn is closed: a missed turn moves nothing
abbrev pub lower_after : CaughtState → RowId
lower_after caught = cond caught.is_missed caught.lower caught.upto
