-- What the finish of a plan queues and whether a job is the one that is out, as what is kept of the number tells it.
use Rattle.std.specs.Prelude.{◌≡◌, ℕ, List, ◌++◌, map, Option, None, Some, option_map}
use Rattle.cable_model.specs.declared.plans.Plan.{Plan}
use Rattle.cable_model.specs.declared.plans.Task.{Task}
use Rattle.cable_model.specs.Pieces.{Placed}
use Rattle.conn_seat.specs.Seats.{Seated}
use Rattle.conn_seat.specs.Tasks.{task_out_of}
use Rattle.conn_seat.specs.declared.outs.Out.{Out}
use Rattle.conn_seat.specs.declared.outs.Out.TheVariants as out

-- the texts of a plan and then its notes
abbrev pub outs_of : Plan → List Out
outs_of plan = map out.Text plan.texts ++ map out.Note plan.notes

-- the job that is out stands at this place and needs this
pub record IsOutAs (place : ℕ) (t : Task) (s : Seated) : Type 0 where
  pub place_is : option_map (λ (p : Placed). p.place) s.job ≡ Some place
  pub task_is : task_out_of s ≡ Some t

abbrev pub IsOutIn : ℕ → Task → Option Seated → Type 0
IsOutIn place t None = ⊥
IsOutIn place t (Some s) = IsOutAs place t s
