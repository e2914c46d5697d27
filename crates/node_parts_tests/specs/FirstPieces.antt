-- The first piece of a connection, which has no subscription yet.
use Rattle.std.specs.Prelude.{◌≡◌, ⊤, ℕ, true, [], Some, is_some}
use Rattle.cable_model.specs.declared.plans.Change.{Change}
use Rattle.cable_model.specs.declared.plans.Change.TheVariants as change
use Rattle.conn_core.specs.Subscriptions.{AreDifferent}
use Rattle.conn_seat.specs.Seats.{Seated}
use Rattle.node_seats.specs.Numbers.{Numbers, seat_at}

-- the change can be made where no subscription stands: streams that a subscription is made with are all different
abbrev pub CanBeFirst : Change → Type 0
CanBeFirst change.Nothing = ⊤
CanBeFirst (change.Add identifier streams) = AreDifferent streams
CanBeFirst (change.Streams identifier stops streams) = ⊥
CanBeFirst (change.Remove identifier) = ⊤
CanBeFirst change.Close = ⊤

-- a piece of the connection of this number is out as a job, and it has no subscription
pub record HasFirstOut (c : ℕ) (v : Numbers) : Type 0 where
  pub seat : Seated
  pub at : seat_at c v ≡ Some seat
  pub out : is_some seat.job ≡ true
  pub none : seat.subs ≡ []
