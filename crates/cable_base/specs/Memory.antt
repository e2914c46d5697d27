-- A source and a sink in memory, whose calls can be made to fail.
use Rattle.std.specs.Prelude.{ℕ, ◌+◌, ◌-◌, ◌^◌, ◌==◌, min, Bool, List, length}
use Rattle.std.specs.List.{list_any}

-- the calls that are to fail, counted from 1, and how many calls there were so far
pub record PlannedFailures : Type 0 where
  pub planned : List ℕ
  pub calls : ℕ

-- a count goes on, and stands still at its type's end
abbrev pub next_count : ℕ → ℕ
next_count n = min (n + 1) (2 ^ 64 - 1)

-- the next call is one of those that are to fail
abbrev pub fails_next : PlannedFailures → Bool
fails_next f = list_any (λ x. x == next_count f.calls) f.planned

-- behind one more call
abbrev pub after_call : PlannedFailures → PlannedFailures
after_call f = record { planned = f.planned; calls = next_count f.calls }

-- what is left, how much comes at a time, which calls fail, and the counts so far
pub record MemInput : Type 0 where
  pub left : List ℕ
  pub piece : ℕ
  pub failing : PlannedFailures
  pub faults : ℕ
  pub ends : ℕ

-- what was taken, which calls fail, and the count so far
pub record MemOutput : Type 0 where
  pub taken : List ℕ
  pub failing : PlannedFailures
  pub faults : ℕ

-- how many bytes come next, where there is this much room
abbrev pub next_len : MemInput → ℕ → ℕ
next_len s room = min (min (length s.left) room) s.piece
