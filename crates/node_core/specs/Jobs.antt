-- A job that was taken from a node, its work, and when the node can finish it.
use Rattle.std.specs.Prelude.{◌≡◌, ◌≤◌, ℕ, cond, List, [], length, Option, None, Some, option_map}
use Rattle.cable_base.specs.declared.numbers.ConnNo.{ConnNo}
use Rattle.cable_base.specs.declared.numbers.NodeNo.{NodeNo}
use Rattle.cable_base.specs.declared.numbers.RowId.{RowId}
use Rattle.cable_model.specs.declared.plans.Plan.{Plan}
use Rattle.cable_model.specs.declared.plans.Task.{Task}
use Rattle.cable_model.specs.Pieces.{seat}
use Rattle.cable_model.specs.Plans.{Callbacks, IsAnswered, task_of, plan_for}
use Rattle.cable_model.specs.Possible.{has_job}
use Rattle.cable_model.specs.Steps.{Step}
use Rattle.cable_model.specs.Wants.{user_of}
use Rattle.cable_model.specs.Window.{job}
use Rattle.conn_core.specs.Payloads.{AreCommittable}
use Rattle.node_core.specs.Nodes.{NodeState, past}

pub record JobState : Type 0 where
  pub node : NodeNo
  pub conn : ConnNo
  -- the place of the piece that was taken
  pub place : ℕ
  pub user : List ℕ
  pub task : Task

pub record WorkState : Type 0 where
  pub node : NodeNo
  pub conn : ConnNo
  pub place : ℕ
  pub task : Task
  pub plan : Plan
  -- the commits that were noted for the first casts of the plan
  pub puts : List (Option RowId)

-- what the job that is out on c needs from its connection
abbrev pub task_out : ℕ → List Step → Option Task
task_out c past = cond (has_job (seat c past)) (option_map (task_of (seat c past).conn) (job (seat c past))) None

-- ---- jobs and works

-- the job is the one that is out on its connection
pub record IsJob (j : JobState) (n : NodeState) : Type 0 where
  pub node : j.node ≡ n.no
  pub place : j.place ≡ (seat j.conn.0 (past n)).taken
  pub user : user_of j.conn.0 (past n) ≡ Some j.user
  pub task : task_out j.conn.0 (past n) ≡ Some j.task

-- what the job became with these callbacks, before any commit
abbrev pub work_of : Callbacks → JobState → WorkState
work_of r j = record { node = j.node; conn = j.conn; place = j.place; task = j.task; plan = plan_for r j.user j.task; puts = [] }

-- the work is that of the job that is out on its connection
pub record IsWorkOut (w : WorkState) (n : NodeState) : Type 0 where
  pub node : w.node ≡ n.no
  pub place : w.place ≡ (seat w.conn.0 (past n)).taken
  pub task : task_out w.conn.0 (past n) ≡ Some w.task

-- .. and no cast of it is left: it can be finished
pub record Fits (w : WorkState) (n : NodeState) : Type 0 where
  pub out : IsWorkOut w n
  pub done : length w.puts ≡ length w.plan.casts

-- the plan is what the rules make of the task, for some user and some callbacks that answered all that it is made of. Each of its casts
-- can be committed. Each noted commit is one of a cast of it, and there is room to note the others
pub record IsWork (t : Task) (plan : Plan) (puts : List (Option RowId)) (capacity : ℕ) : Type 0 where
  pub callbacks : Callbacks
  pub user : List ℕ
  pub planned : plan ≡ plan_for callbacks user t
  pub answered : IsAnswered callbacks user t
  pub casts : AreCommittable plan.casts
  pub noted : length puts ≤ length plan.casts
  pub room : length plan.casts ≤ capacity
