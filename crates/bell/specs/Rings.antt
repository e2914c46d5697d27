-- The rings that a bell keeps for waits that are still to come.
use Rattle.std.specs.Prelude.{ℕ, zero, suc, ◌+◌, ◌-◌, ◌<◌, min}

-- how many rings are kept, and how many at most: as many as there are who wait
pub record KeptRings : Type 0 where
  pub kept : ℕ
  pub most : ℕ

-- a wait ends at once: a ring is kept for it
abbrev pub EndsWait : KeptRings → Type 0
EndsWait r = 0 < r.kept

-- behind a ring: it is kept, but where a ring is kept for each who waits
abbrev pub rung : KeptRings → KeptRings
rung r = record r { kept = min (r.kept + 1) r.most }

-- behind a ring for all: one is kept for each who waits
abbrev pub rung_for_all : KeptRings → KeptRings
rung_for_all r = record r { kept = r.most }

-- behind a wait that a ring ended: that ring is used
abbrev pub used : KeptRings → KeptRings
used r = record r { kept = r.kept - 1 }

-- .. behind so many of them
unfoldable pub used_by : ℕ → KeptRings → KeptRings
used_by zero r = r
used_by (suc n) r = used (used_by n r)
