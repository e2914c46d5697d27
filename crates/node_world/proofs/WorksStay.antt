-- The work of a job that is out stays that of its job while entries come that aren't its connection's own Take or Finish.
use Rattle.std.proofs.Common.{◌≡◌, ℕ, ◌==◌, Bool, true, false, cond, not, List, [], ◌∷◌, Option, Some, None, refl, sym, ap, ◌∙◌}
use Rattle.std.specs.Prelude.{is_some, ltb, option_map}
use Rattle.cable_base.specs.declared.numbers.RowId.{RowId}
use Rattle.cable_base.specs.declared.rows.Row.{Row}
use Rattle.cable_json.specs.Commands.{command_of}
use Rattle.cable_model.specs.declared.pieces.Piece.{Piece}
use Rattle.cable_model.specs.declared.pieces.Piece.TheVariants as piece
use Rattle.cable_model.specs.declared.plans.Task.{Task}
use Rattle.cable_model.specs.Steps.{Step}
use Rattle.cable_model.specs.Connection.{Conn, Planner}
use Rattle.cable_model.specs.Plans.{Callbacks, task_of}
use Rattle.cable_model.specs.Wants.{marks, turn_mark, user_of}
use Rattle.cable_model.specs.Pieces.{Seat, seat, with_put, with_all, with_job, with_plan, deliver_puts}
use Rattle.cable_model.specs.Possible.{has_job, job_plan, planned}
use Rattle.cable_model.specs.Promise.{AllWorked}
use Rattle.cable_model.specs.Window.{job, finished}
use Rattle.cable_model.proofs.JobsStay.{job-more, keeps_job, job-plan-stays}
use Rattle.cable_model.proofs.Working.{Working, working}
use Rattle.node_world.specs.declared.outstanding.OutWork.{OutWork}
use Rattle.node_world.specs.Parts.{IsWorkAt}

-- the job and its place are the same
pub record SameJob (s t : Seat) : Type 0 where
  pub taken : t.taken ≡ s.taken
  pub done : t.done ≡ s.done
  pub conn : t.conn ≡ s.conn
  pub piece_is : has_job s ≡ true → job t ≡ job s

same-self : (s : Seat) → SameJob s s
same-self s = record { taken = refl; done = refl; conn = refl; piece_is = λ h. refl }

same-more : (pl : Planner) (s : Seat) (rows : (sub want : ℕ) → List Row) (qs : List Piece) → Working pl s rows → SameJob s (with_all s qs)
same-more pl s rows qs v = record { taken = refl; done = refl; conn = refl; piece_is = λ h. job-more pl s rows qs v h }

same-if : (s t : Seat) (b : Bool) → SameJob s t → SameJob s (cond b t s)
same-if s t true h = h
same-if s t false h = same-self s

same-unless : (s t : Seat) (b : Bool) → not b ≡ true → SameJob s (cond b t s)
same-unless s t true h = absurd cc
same-unless s t false h = same-self s

-- an Open leaves the seat as it is
pub seat-stays : (pl : Planner) (c : ℕ) (e : Step) (past : List Step) → AllWorked pl c past → keeps_job c e ≡ true → SameJob (seat c past) (seat c (e ∷ past))
seat-stays pl c (Step.Boot last) past a h = same-self (seat c past)
seat-stays pl c (Step.Open d token user) past a h = same-self (seat c past)
seat-stays pl c (Step.In d text) past a h =
    same-if (seat c past) (with_put (seat c past) (piece.Cmd (command_of text))) (d == c)
    (same-more pl (seat c past) (λ s w. finished c s w past) (piece.Cmd (command_of text) ∷ []) (working pl c past a))
seat-stays pl c (Step.Drop d) past a h =
    same-if (seat c past) (with_put (seat c past) piece.Gone) (d == c) (same-more pl (seat c past) (λ s w. finished c s w past) (piece.Gone ∷ []) (working pl c past a))
seat-stays pl c Step.Stop past a h =
    same-if (seat c past) (with_put (seat c past) piece.Restart) (is_some (user_of c past))
    (same-more pl (seat c past) (λ s w. finished c s w past) (piece.Restart ∷ []) (working pl c past a))
seat-stays pl c (Step.Take d) past a h = same-unless (seat c past) (with_job (seat c past)) (d == c) h
seat-stays pl c (Step.Finish d puts plan) past a h = same-unless (seat c past) (with_plan (seat c past) plan) (d == c) h
seat-stays pl c (Step.Ask turn) past a h = same-self (seat c past)
seat-stays pl c (Step.Deliver turn note) past a h = by-failed note.failed
  where
    now : Seat
    now = with_all (seat c past) (deliver_puts (user_of c past) (marks c past) (turn_mark c note past) (seat c past).conn.subs note.rows)

    by-failed : (b : Bool) → SameJob (seat c past) (cond b (seat c past) now)
    by-failed true = same-self (seat c past)
    by-failed false =
        same-more pl (seat c past) (λ s w. finished c s w past) (deliver_puts (user_of c past) (marks c past) (turn_mark c note past) (seat c past).conn.subs note.rows) (working pl c past a)
seat-stays pl c (Step.Beat now) past a h = same-self (seat c past)

pub has-stays : (s t : Seat) → SameJob s t → has_job t ≡ has_job s
has-stays s t same = ap (λ n. ltb n t.taken) same.done ∙ ap (λ n. ltb s.done n) same.taken

-- what the job needs
abbrev task_at : Seat → Option Task
task_at s = cond (has_job s) (option_map (task_of s.conn) (job s)) None

task-stays : (s t : Seat) → SameJob s t → task_at t ≡ task_at s
task-stays s t same = by-out (has_job s) refl
  where
    by-out : (b : Bool) → has_job s ≡ b → task_at t ≡ task_at s
    by-out true b =
        ap (λ x. cond x (option_map (task_of t.conn) (job t)) None) (has-stays s t same)
        ∙ ap (λ (k : Conn). cond (has_job s) (option_map (task_of k) (job t)) None) same.conn
        ∙ ap (λ (p : Option Piece). cond (has_job s) (option_map (task_of s.conn) p) None) (same.piece_is b)
    by-out false b =
        ap (λ x. cond x (option_map (task_of t.conn) (job t)) None) (has-stays s t same ∙ b) ∙ sym (ap (λ x. cond x (option_map (task_of s.conn) (job s)) None) b)

module _ (r : Callbacks) (n c : ℕ) (past now : List Step) (same : SameJob (seat c past) (seat c now)) where
  work-moves : (puts : List (Option RowId)) (o : Option OutWork) → ((k : OutWork) → o ≡ Some k → job_plan r c now ≡ job_plan r c past) → IsWorkAt r n c past puts o → IsWorkAt r n c now puts o
  work-moves puts None plan h = (has-stays (seat c past) (seat c now) same ∙ h.0, h.1)
  work-moves puts (Some k) plan h = record {
    conn = h.conn;
    node = h.node;
    place = h.place ∙ sym same.taken;
    task = task-stays (seat c past) (seat c now) same ∙ h.task;
    plan = plan k refl ∙ h.plan;
    puts_are = h.puts_are;
    noted = h.noted;
  }

pub work-stays : (pl : Planner) (r : Callbacks) (n c : ℕ) (e : Step) (past : List Step) (puts : List (Option RowId)) (o : Option OutWork) → AllWorked pl c past → keeps_job c e ≡ true → IsWorkAt r n c past puts o
    → IsWorkAt r n c (e ∷ past) puts o
work-stays pl r n c e past puts o a keeps h = work-moves r n c past (e ∷ past) (seat-stays pl c e past a keeps) puts o (λ k at. job-plan-stays pl r c e past a keeps) h

-- a job's connection has a user
pub no-plan : (r : Callbacks) (c : ℕ) (past : List Step) → user_of c past ≡ None → job_plan r c past ≡ None
no-plan r c past u = by-out (has_job (seat c past)) (user_of c past) u
  where
    by-out : (b : Bool) (o : Option (List ℕ)) → o ≡ None → cond b (planned r o (seat c past).conn (job (seat c past))) None ≡ None
    by-out true None e = refl
    by-out false o e = refl
    by-out true (Some user) e = absurd cc
