-- A connection as the fold of its pieces has it, with the marks of its wants: what a running connection shows.
use Rattle.std.specs.Prelude.{◌≡◌, ℕ, ◌<◌, ◌==◌, cond, List, map, Option, Some, None, option_map}
use Rattle.cable_base.specs.declared.numbers.RowId.{RowId}
use Rattle.cable_base.specs.declared.numbers.WantNo.{WantNo}
use Rattle.stream_set.specs.declared.entries.StreamEntry.{StreamEntry}
use Rattle.cable_model.specs.Connection.{Want, Sub, Conn}
use Rattle.conn_core.specs.Subscriptions.{Subscription}
use Rattle.conn_core.specs.Connections.{Connection}

-- the mark of each want's hold, where it has one
abbrev pub Marks : Type 0
Marks = ℕ → Option ℕ

abbrev pub row_id : ℕ → RowId
row_id id = record { 0 = id }

abbrev pub marked_want : Marks → Want → StreamEntry
marked_want marks w = record { name = w.name; want = record { 0 = w.number }; mark = option_map row_id (marks w.number) }

abbrev pub marked_sub : Marks → Sub → Subscription
marked_sub marks s = record { number = record { 0 = s.number }; identifier = s.identifier; streams = map (marked_want marks) s.wants }

-- the connection shows the subscriptions of the fold, each want with its mark, and whether it is over
pub record IsMarked (marks : Marks) (k : Conn) (c : Connection) : Type 0 where
  pub subs : c.subs ≡ map (marked_sub marks) k.subs
  pub over : c.over ≡ k.over

-- no want that is still to be made has a mark
abbrev pub UnmarkedAbove : ℕ → Marks → Type 0
UnmarkedAbove made marks = (w : ℕ) → made < w → marks w ≡ None

-- the marks with one more
abbrev pub with_mark : WantNo → RowId → Marks → Marks
with_mark want mark marks w = cond (w == want.0) (Some mark.0) (marks w)
