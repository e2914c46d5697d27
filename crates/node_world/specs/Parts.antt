-- What a world is made of, and when that follows a history of the model.
use Rattle.std.specs.Prelude.{◌≡◌, ◌≤◌, ℕ, ℤ, length, Bool, true, false, List, [], Option, None, Some}
use Rattle.std.specs.BTreeMap.{is_at}
use Rattle.std.specs.Map.{lookup}
use Rattle.std.specs.Ordering.{nat_cmp}
use Rattle.cable_base.specs.declared.numbers.RowId.{RowId}
use Rattle.cable_model.specs.declared.events.Event.{Event}
use Rattle.cable_model.specs.Plans.{Callbacks}
use Rattle.cable_model.specs.Pieces.{seat}
use Rattle.cable_model.specs.Steps.{Step}
use Rattle.cable_model.specs.Possible.{is_booted, is_out, last_turn, has_cast_left, has_job, job_plan}
use Rattle.cable_model.specs.Table.{TableStep, contains}
use Rattle.cable_model.specs.Wants.{lower}
use Rattle.cable_model.specs.History.{Rules, World, start, run, caught, hashes_of}
use Rattle.cable_model.specs.Transcript.{queued}
use Rattle.node_core.specs.Jobs.{WorkState, task_out}
use Rattle.node_core.specs.Nodes.{NodeState, past, taken_out}
use Rattle.poll_turn.specs.Notes.{note_in}
use Rattle.poll_turn.specs.Turns.{TurnState, CaughtState}
use Rattle.table_core.specs.Memory.{MemRows}
use Rattle.table_core.specs.Shown.{Shows}
use Rattle.table_core.specs.Tables.{TableState}
use Rattle.node_world.specs.declared.outstanding.OutWork.{OutWork}
use Rattle.node_world.specs.declared.outstanding.TurnOut.{TurnOut}
use Rattle.node_world.specs.declared.outstanding.TurnOut.TheVariants as turn_out
use Rattle.node_world.specs.declared.parts.Opened.{Opened}
use Rattle.node_world.specs.declared.parts.Parts.{Parts}
use Rattle.node_world.specs.declared.parts.Post.{Post}

-- what a world holds: its booted nodes with their turns, the connections that were opened, each with its node and the work of its job that is
-- out, and the table
pub record Held : Type 0 where
  pub posts : List (ℕ × Post)
  pub conns : List (ℕ × Opened)
  pub table : TableState MemRows

abbrev pub held : Parts → Held
held p = record { posts = p.posts.entries; conns = p.conns.entries; table = p.table }

abbrev pub post_at : ℕ → List (ℕ × Post) → Option Post
post_at n posts = lookup (is_at (nat_cmp n)) posts

abbrev pub conn_at : ℕ → List (ℕ × Opened) → Option Opened
conn_at c conns = lookup (is_at (nat_cmp c)) conns

-- ---- a node

-- a node of the number n with this journal, from which all that was queued was taken out. This alone is known of what a node keeps
pub record IsNodeOf (n : ℕ) (k : NodeState) (steps : List Step) : Type 0 where
  pub number : k.no.0 ≡ n
  pub journal : past k ≡ steps
  pub booted : is_booted steps ≡ true
  pub drained : (c : ℕ) → taken_out c k ≡ length (queued c steps)

-- ---- its turn

-- a turn of the node n that is out and not read
pub record IsAskedIn (r : Rules) (w : World) (n : ℕ) (t : TurnState) : Type 0 where
  pub out : is_out (w.nodes n) ≡ true
  pub unread : caught w n ≡ None
  pub node : t.node.0 ≡ n
  pub number : t.number ≡ last_turn (w.nodes n)
  pub lower_is : t.lower.0 ≡ lower (w.nodes n)
  pub asks : (h : ℤ) → contains t.hashes h ≡ contains (hashes_of r.hash (w.nodes n)) h

-- one that is out and read
pub record IsReadIn (w : World) (n : ℕ) (k : CaughtState) : Type 0 where
  pub out : is_out (w.nodes n) ≡ true
  pub note : caught w n ≡ Some (note_in k)
  pub node : k.node.0 ≡ n
  pub number : k.number ≡ last_turn (w.nodes n)
  pub lower_is : k.lower.0 ≡ lower (w.nodes n)

abbrev pub IsTurnIn : Rules → World → ℕ → TurnOut → Type 0
IsTurnIn r w n turn_out.None = is_out (w.nodes n) ≡ false
IsTurnIn r w n (turn_out.Asked t) = IsAskedIn r w n t.turn
IsTurnIn r w n (turn_out.Read k) = IsReadIn w n k.caught

-- a node is kept exactly where it is booted
abbrev pub IsPostIn : Rules → World → ℕ → Option Post → Type 0
IsPostIn r w n None = w.nodes n ≡ []
IsPostIn r w n (Some p) = IsNodeOf n p.node (w.nodes n) × IsTurnIn r w n p.turn

-- ---- a connection

-- the work is that of the job that is out on c, for which these commits were made
pub record IsWorkOf (r : Callbacks) (n c : ℕ) (steps : List Step) (puts : List (Option RowId)) (k : WorkState) : Type 0 where
  pub conn : k.conn.0 ≡ c
  pub node : k.node.0 ≡ n
  pub place : k.place ≡ (seat c steps).taken
  pub task : task_out c steps ≡ Some k.task
  pub plan : job_plan r c steps ≡ Some k.plan
  pub puts_are : k.puts ≡ puts
  pub noted : length k.puts ≤ length k.plan.casts

-- a work is kept exactly where a job is out
abbrev pub IsWorkAt : Callbacks → (n c : ℕ) → List Step → List (Option RowId) → Option OutWork → Type 0
IsWorkAt r n c steps puts None = (has_job (seat c steps) ≡ false) × (puts ≡ [])
IsWorkAt r n c steps puts (Some k) = IsWorkOf r n c steps puts k.work

-- a connection is kept exactly where it was opened, with the node on which that was
abbrev pub IsConnIn : Rules → World → ℕ → Option Opened → Type 0
IsConnIn r w c None = (w.home c ≡ None) × (w.puts c ≡ [])
IsConnIn r w c (Some o) = (w.home c ≡ Some o.node.0) × IsWorkAt r.callbacks o.node.0 c (w.nodes o.node.0) (w.puts c) o.work

-- a cast of the work is left to be committed
abbrev pub is_left : Option OutWork → Bool
is_left None = false
is_left (Some k) = has_cast_left k.work.puts (Some k.work.plan)

-- ---- the table

-- a table that shows a journal, and whose next call fails where a fault waits
pub record IsTableOf (t : TableState MemRows) (past : List TableStep) (failing : Bool) : Type 0 where
  pub shows : Shows t.keeper.rows t.last.0 past
  pub unplanned : t.keeper.failures.planned.planned ≡ []
  pub failing_is : t.keeper.failures.next ≡ failing

-- ---- all of it

-- it follows the world of a history
pub record FollowsWorld (r : Rules) (h : Held) (w : World) : Type 0 where
  pub events : List Event
  pub ran : w ≡ run r start events
  pub posts : (n : ℕ) → IsPostIn r w n (post_at n h.posts)
  pub conns : (c : ℕ) → IsConnIn r w c (conn_at c h.conns)
  pub table : IsTableOf h.table w.table w.failing

-- there is a history that it follows
abbrev pub FollowsSome : Rules → Held → Type 0
FollowsSome r h = (w : World) × FollowsWorld r h w
