-- What a connection on its node stands for: its entries in the node's journal.
use Rattle.std.specs.Prelude.{◌≡◌, ◌==◌, ℕ, Bool, true, false, cond, not, List, length, filter, map, Option, None, Some, is_some, option_map}
use Rattle.cable_model.specs.declared.pieces.Piece.{Piece}
use Rattle.cable_model.specs.declared.plans.Plan.{Plan}
use Rattle.cable_model.specs.Steps.{Step}
use Rattle.cable_model.specs.Plans.{Callbacks, plan_for, task_of}
use Rattle.cable_model.specs.Wants.{marks, mark_of, user_of}
use Rattle.cable_model.specs.Pieces.{Placed, Seat, seat, closing, waiting}
use Rattle.cable_model.specs.Possible.{is_live, is_receiving, is_command, waiting_commands, has_job, can_take, job_plan}
use Rattle.cable_model.specs.Window.{job}
use Rattle.conn_core.specs.Bare.{bare}
use Rattle.conn_core.specs.Connections.{Connection}
use Rattle.conn_core.specs.Marked.{Marks, IsMarked}
use Rattle.conn_core.specs.Subscriptions.{AreApart, WantsApart}
use Rattle.conn_seat.specs.Seats.{Seated, is_receiving_now, may_take_now}

abbrev pub connection_of : Seated → Connection
connection_of v = record { user = v.user; subs = v.subs; over = v.over; reserved = v.reserved }

-- the marks of the connection's wants
abbrev pub marks_at : ℕ → List Step → Marks
marks_at c past = λ w. mark_of w (marks c past)

-- the piece of the model's connection that was taken and isn't finished, at its place
abbrev pub job_out : Seat → Option Placed
job_out s = cond (has_job s) (option_map (λ (p : Piece). record { place = s.taken; piece = p }) (job s)) None

-- it shows the model's connection, the holds of which have these marks
pub record Shows (marks : Marks) (s : Seat) (v : Seated) : Type 0 where
  pub conn : IsMarked marks s.conn (connection_of v)
  pub waiting : v.waiting ≡ waiting s
  pub last : v.last ≡ length s.pieces
  pub taken : v.taken ≡ s.taken
  pub job : v.job ≡ job_out s
  pub closing : v.closing ≡ closing s.pieces
  pub made : v.made ≡ s.conn.made
  -- no two subscriptions have one number or one identifier, and no want stands in two
  pub apart : AreApart v.subs
  pub wants : WantsApart v.subs

-- it is the connection c after the journal
pub record SeatOf (c : ℕ) (past : List Step) (v : Seated) : Type 0 where
  pub user : user_of c past ≡ Some v.user
  pub shows : Shows (marks_at c past) (seat c past) v

-- the entry is one of the whole node that bears on its connections: what it puts or places there
abbrev pub is_of_all : Step → Bool
is_of_all (Step.Boot last) = false
is_of_all (Step.Open d token user) = false
is_of_all (Step.In d text) = false
is_of_all (Step.Drop d) = false
is_of_all Step.Stop = true
is_of_all (Step.Take d) = false
is_of_all (Step.Finish d puts plan) = false
is_of_all (Step.Ask turn) = false
is_of_all (Step.Deliver turn note) = true
is_of_all (Step.Beat now) = false

-- the entry takes or finishes a piece of the connection
abbrev pub is_work_of : ℕ → Step → Bool
is_work_of c (Step.Boot last) = false
is_work_of c (Step.Open d token user) = false
is_work_of c (Step.In d text) = false
is_work_of c (Step.Drop d) = false
is_work_of c Step.Stop = false
is_work_of c (Step.Take d) = d == c
is_work_of c (Step.Finish d puts plan) = d == c
is_work_of c (Step.Ask turn) = false
is_work_of c (Step.Deliver turn note) = false
is_work_of c (Step.Beat now) = false

-- the connection answers what the journal says of it
pub record AnswersAs (c : ℕ) (past : List Step) (v : Seated) : Type 0 where
  pub live : not v.over ≡ is_live c past
  pub receiving : is_receiving_now v ≡ is_receiving c past
  pub busy : is_some v.job ≡ has_job (seat c past)
  pub takes : may_take_now v ≡ can_take c past
  pub commands : length (filter is_command (map (λ (p : Placed). p.piece) v.waiting)) ≡ waiting_commands (seat c past)

-- the plan that the callbacks give for the piece
abbrev pub plan_of_piece : Callbacks → Seated → Piece → Plan
plan_of_piece r v p = plan_for r v.user (task_of (bare v.subs) p)

-- the plan of the piece that is out is the one that the journal says, and where none is out there is none
pub record PlansAs (c : ℕ) (past : List Step) (v : Seated) : Type 0 where
  pub out : (r : Callbacks) (p : Placed) → v.job ≡ Some p → job_plan r c past ≡ Some (plan_of_piece r v p.piece)
  pub none : (r : Callbacks) → v.job ≡ None → job_plan r c past ≡ None
