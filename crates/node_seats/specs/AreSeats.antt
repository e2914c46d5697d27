-- What a node keeps of its numbers, as the node's journal has them.
use Rattle.std.specs.Prelude.{◌≡◌, ℕ, true, false, List, Some, is_some}
use Rattle.std.specs.Map.{keys_of}
use Rattle.cable_model.specs.Connection.{Planner}
use Rattle.cable_model.specs.Pieces.{seat, unseated, closing}
use Rattle.cable_model.specs.Possible.{opened, is_opened, is_live, has_job}
use Rattle.cable_model.specs.Promise.{AllWorked}
use Rattle.cable_model.specs.Steps.{Step}
use Rattle.cable_model.specs.Wants.{user_of, marks}
use Rattle.conn_seat.specs.Seated.{SeatOf}
use Rattle.node_seats.specs.Numbers.{Numbers, Opened, Rising, opened_at}

-- nothing can happen to the connection c any more
pub record IsDone (c : ℕ) (past : List Step) : Type 0 where
  pub live : is_live c past ≡ false
  pub job : has_job (seat c past) ≡ false
  -- one that had a user was closed, so that a stop puts nothing on it
  pub closed : is_some (user_of c past) ≡ true → closing (seat c past).pieces ≡ true

-- what is kept of the number c is what the journal says of it
abbrev pub IsOpened : ℕ → List Step → Opened → Type 0
IsOpened c past (Opened.Live s) = SeatOf c past s × (s.over ≡ false)
IsOpened c past Opened.Over = IsDone c past

pub record AreSeats (past : List Step) (v : Numbers) : Type 0 where
  pub numbers : keys_of v ≡ opened past
  pub rising : Rising v
  pub each : (c : ℕ) (o : Opened) → opened_at c v ≡ Some o → IsOpened c past o
  -- nothing was put under another number
  pub unopened : (c : ℕ) → is_opened c past ≡ false → seat c past ≡ unseated

-- the pieces of each connection are worked one at a time, as some planner has it
abbrev pub AreWorked : List Step → Type 0
AreWorked past = (c : ℕ) (user : List ℕ) → user_of c past ≡ Some user → (pl : Planner) × AllWorked pl c past

-- the journal went on, and says the same of the connection c
pub record Leaves (c : ℕ) (past now : List Step) : Type 0 where
  pub user : user_of c now ≡ user_of c past
  pub seated : seat c now ≡ seat c past
  pub marked : marks c now ≡ marks c past
