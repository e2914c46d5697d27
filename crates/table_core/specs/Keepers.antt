-- What a keeper of rows does: its rows, which of them a call gives or takes, and its counts.
use Rattle.std.specs.Prelude.{◌≡◌, ◌<◌, ◌≤◌, ◌↔◌, ℕ, ℤ, max, not, Bool, true, false, ◌&&◌, ◌||◌, List, [], ◌∷◌, map, take, filter, Option, Some}
use Rattle.std.specs.Prelude.{IfSome, is_some, ltb}
use Rattle.std.specs.List.{All}
use Rattle.std.specs.List.Sorted.{IsStrictlyIncreasing}
use Rattle.cable_base.specs.Causes.{Rose}
use Rattle.cable_base.specs.Hash.{channel_hash_of}
use Rattle.cable_base.specs.Memory.{PlannedFailures, next_count, fails_next, after_call}
use Rattle.cable_base.specs.Squeeze.{IsSqueezedJson}
use Rattle.cable_base.specs.declared.limits.TheConstants.{MOST_ID, MOMENT_LIMIT}
use Rattle.cable_base.specs.declared.rows.Row.{Row}
use Rattle.cable_model.specs.Table.{contains, has_id}

-- ---- rows

-- the ids rise, from 1 on
abbrev pub AreRising : List Row → Type 0
AreRising rows = IsStrictlyIncreasing (0 ∷ map (λ r. r.id.0) rows)

-- the greatest id, or 0 where there is no row
abbrev pub greatest_id : List Row → ℕ
greatest_id [] = 0
greatest_id (r ∷ rows) = max r.id.0 (greatest_id rows)

-- the greatest id that a row can have
abbrev pub most_id : ℕ
most_id = MOST_ID

-- the first moment that is none
abbrev pub moment_limit : ℕ
moment_limit = MOMENT_LIMIT

-- a row that can be put behind these, with the hash of its name
pub record IsNewRow (told : Option (List Row)) (row : Row) (hash : ℤ) : Type 0 where
  pub some : 0 < row.id.0
  pub most : row.id.0 ≤ most_id
  pub above : IfSome told (All (λ r. r.id.0 < row.id.0))
  pub moment : row.created_at.0 < moment_limit
  pub payload : IsSqueezedJson row.payload
  pub hash_is : hash ≡ channel_hash_of row.channel

-- the row is above this id, and its name has one of these hashes
abbrev pub is_sought : (lower : ℕ) → List ℤ → Row → Bool
is_sought lower hashes r = ltb lower r.id.0 && contains hashes (channel_hash_of r.channel)

-- the rows above an id whose names have one of these hashes
abbrev pub sought : (lower : ℕ) → List ℤ → List Row → List Row
sought lower hashes rows = filter (is_sought lower hashes) rows

-- the row is from before this moment, and stands below this id
abbrev pub is_before : (before below : ℕ) → Row → Bool
is_before before below r = ltb r.created_at.0 before && ltb r.id.0 below

-- the first rows, so many at most, from before this moment and below this id
abbrev pub first_before : (before below limit : ℕ) → List Row → List Row
first_before before below limit rows = take limit (filter (is_before before below) rows)

-- the rows that are left where some were taken
abbrev pub without : (taken : List Row) → List Row → List Row
without taken rows = filter (λ r. not (has_id r taken)) rows

-- ---- counts

-- which calls are to fail: those that are planned, and the next one where that was asked for
pub record KeeperFailures : Type 0 where
  pub planned : PlannedFailures
  pub next : Bool

-- the next call is to fail
abbrev pub is_refused : KeeperFailures → Bool
is_refused f = fails_next f.planned || f.next

-- behind one more call
abbrev pub after_keeper_call : KeeperFailures → KeeperFailures
after_keeper_call f = record { planned = after_call f.planned; next = false }

-- how many calls failed and how many were made, and which are to fail, where that is told
pub record KeeperCounts : Type 0 where
  pub faults : ℕ
  pub calls : ℕ
  pub failures : Option KeeperFailures

-- one call of a keeper. Its count of calls rises by one. Its count of faults never falls: it stays where the call goes well, and rises where
-- it fails. Where it's told which calls are to fail, exactly these do
pub record CallsOnce (went failed : Type 0) (old new : KeeperCounts) : Type 0 where
  pub counted : new.calls ≡ next_count old.calls
  pub later : old.faults ≤ new.faults
  pub calm : went → new.faults ≡ old.faults
  pub rose : failed → Rose old.faults new.faults
  pub fails : IfSome old.failures (λ f. failed ↔ (is_refused f ≡ true))
  pub after : IfSome old.failures (λ f. new.failures ≡ Some (after_keeper_call f))
  pub tells : is_some new.failures ≡ is_some old.failures
