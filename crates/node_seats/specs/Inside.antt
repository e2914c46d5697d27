-- What holds of the map from numbers, and of the set of live ones beside it.
use Rattle.std.specs.Prelude.{◌≡◌, ℕ, is_some}
use Rattle.std.specs.BTreeSet.{BTreeSet, contains}
use Rattle.std.specs.Ordering.{nat_cmp}
use Rattle.node_seats.specs.Numbers.{Numbers, Rising, CanRestartAll, seat_at}

pub record IsTidy (v : Numbers) (live : BTreeSet ℕ) : Type 0 where
  pub rising : Rising v
  -- the set has the numbers of the live connections, and no others
  pub indexed : (c : ℕ) → contains nat_cmp live c ≡ is_some (seat_at c v)
  -- each live connection has room for the piece that a stop puts, so that a stop takes no memory
  pub roomy : CanRestartAll v
