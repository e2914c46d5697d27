-- What waits leave of the rings that are kept.
use Rattle.std.proofs.Common.{◌≡◌, ◌-◌, ℕ, zero, suc, arith}
use Rattle.bell.specs.Rings.{KeptRings, used_by}

pub kept_behind : (n : ℕ) (r : KeptRings) → (used_by n r).kept ≡ r.kept - n
unfolding used_by
kept_behind zero r = omega arith
kept_behind (suc n) r = let before = kept_behind n r in rw before (omega arith)
