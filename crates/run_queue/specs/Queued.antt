-- A queue of stamped numbers, in which a number that was taken out stays until it is passed over.
use Rattle.std.specs.Prelude.{◌≡◌, ◌<◌, ◌≤◌, ◌==◌, ◌-◌, ◌^◌, ℕ, min, Bool, true, false, List, [], ◌∷◌, map, filter, is_some, Option, None, Some}
use Rattle.std.specs.List.{All}
use Rattle.std.specs.Map.{lookup}
use Rattle.cable_base.specs.declared.numbers.ConnNo.{ConnNo}
use Rattle.run_queue.specs.declared.ready_lists.Queued.{Queued}
use Rattle.run_queue.specs.ReadyLists.{has_number}

-- the stamp of a number
abbrev pub stamp_in : List (ConnNo × ℕ) → ConnNo → Option ℕ
stamp_in es conn = lookup (λ c. conn.0 == c.0) es

abbrev pub is_stamp : Option ℕ → ℕ → Bool
is_stamp None stamp = false
is_stamp (Some s) stamp = s == stamp

-- the number has this stamp
abbrev pub lives : (ConnNo → Option ℕ) → Queued → Bool
lives f q = is_stamp (f q.conn) q.stamp

-- the numbers that aren't stale
abbrev pub ready_in : (ConnNo → Option ℕ) → List Queued → List ConnNo
ready_in f qs = map (λ q. q.conn) (filter (lives f) qs)

-- room in the queue, room among the stamps, and stamps that are left
abbrev pub spare_of : (len cap room next : ℕ) → ℕ
spare_of len cap room next = min (min (cap - len) room) (2 ^ 64 - 1 - next)

-- the stamps rise, and are below the next one
abbrev pub AreStamped : ℕ → List Queued → Type 0
AreStamped next [] = Unit {0}
AreStamped next (q ∷ qs) = (q.stamp < next) × All (λ x. q.stamp < x.stamp) qs × AreStamped next qs

-- the first one isn't stale
abbrev pub StartsLive : (ConnNo → Option ℕ) → List Queued → Type 0
StartsLive f [] = Unit {0}
StartsLive f (q ∷ qs) = lives f q ≡ true

-- the numbers that have a stamp are those in the queue
pub record IsReady (f : ConnNo → Option ℕ) (qs : List Queued) (next : ℕ) : Type 0 where
  pub stamped : AreStamped next qs
  pub first : StartsLive f qs
  pub known : (conn : ConnNo) → is_some (f conn) ≡ has_number conn (ready_in f qs)

-- only stale numbers are passed over
pub record Skips (f : ConnNo → Option ℕ) (old new : List Queued) : Type 0 where
  pub same : ready_in f new ≡ ready_in f old
  pub first : StartsLive f new
  pub stamped : (next : ℕ) → AreStamped next old → AreStamped next new
