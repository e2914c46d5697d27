-- What a seat and an outbox keep of their fields.
use Rattle.std.specs.Prelude.{◌≡◌, ◌≤◌, ◌<◌, ◌+◌, ◌^◌, ⊤, ℕ, List, Option, None, Some}
use Rattle.cable_model.specs.Plans.{task_of}
use Rattle.conn_core.specs.Bare.{bare}
use Rattle.conn_core.specs.Subscriptions.{Subscription}
use Rattle.conn_seat.specs.declared.jobs.Job.{Job}

-- the task beside a piece that is out is what the piece needs from these subscriptions
abbrev pub HasTask : List Subscription → Option Job → Type 0
HasTask subs None = ⊤
HasTask subs (Some j) = j.task ≡ task_of (bare subs) j.taken.piece

-- an outbox has places for as many more as there is room for, and numbers to count them
pub record HasPlaces (len cap taken room : ℕ) : Type 0 where
  pub places : len + room ≤ cap
  pub counts : taken + len + room < 2 ^ 64
