-- Takes and finishes on a node are the model's.
use Rattle.std.proofs.Common.{◌≡◌, ℕ, ◌==◌, Bool, true, false, cond, not, List, [], ◌∷◌, ◌++◌, ◌≤◌, length, Option, Some, None, refl, sym, ap, subst, ◌∙◌, arith}
use Rattle.std.specs.Prelude.{option_map}
use Rattle.std.specs.BTreeMap.{is_at}
use Rattle.std.specs.Map.{lookup, set_value}
use Rattle.std.specs.Ordering.{nat_cmp}
use Rattle.std.proofs.lemmas.Bool.Decides.{nat_tests}
use Rattle.std.proofs.lemmas.Map.Steps.{set_value_same}
use Rattle.cable_base.specs.declared.numbers.ConnNo.{ConnNo}
use Rattle.cable_base.specs.declared.numbers.NodeNo.{NodeNo}
use Rattle.cable_base.specs.declared.numbers.Millis.{Millis}
use Rattle.cable_base.specs.declared.numbers.RowId.{RowId}
use Rattle.cable_model.specs.declared.events.Event.TheVariants as event
use Rattle.cable_model.specs.declared.pieces.Piece.{Piece}
use Rattle.cable_model.specs.declared.plans.Plan.{Plan}
use Rattle.cable_model.specs.declared.plans.Task.{Task}
use Rattle.cable_model.specs.Plans.{Callbacks, task_of, plan_for}
use Rattle.cable_model.specs.Steps.{Step}
use Rattle.cable_model.specs.Wants.{user_of}
use Rattle.cable_model.specs.Window.{job}
use Rattle.cable_model.specs.Pieces.{seat, with_plan}
use Rattle.cable_model.specs.Possible.{can_take, can_put, can_finish, has_job, has_cast_left, has_no_cast_left, job_plan, planned}
use Rattle.cable_model.specs.History.{Rules, World, home_of, logged, with_puts, finish}
use Rattle.cable_model.specs.Transcript.{finish_lines, plan_lines, queued}
use Rattle.cable_model.proofs.JobsStay.{keeps_job}
use Rattle.node_core.specs.Jobs.{JobState, WorkState, IsJob, task_out, work_of}
use Rattle.node_core.specs.Nodes.{NodeState, TakesNone, past, taken_out}
use Rattle.table_core.specs.Memory.{MemRows}
use Rattle.table_core.specs.Tables.{TableState}
use Rattle.node_world.specs.declared.outstanding.OutWork.{OutWork}
use Rattle.node_world.specs.declared.outstanding.TurnOut.{TurnOut}
use Rattle.node_world.specs.declared.parts.Opened.{Opened}
use Rattle.node_world.specs.declared.parts.Post.{Post}
use Rattle.node_world.specs.declared.saying.Said.{Said}
use Rattle.node_world.specs.Draining.{left_on}
use Rattle.node_world.specs.Parts.{Held, IsNodeOf, IsConnIn, IsWorkOf, IsWorkAt, IsTurnIn, IsTableOf, is_left, post_at, conn_at, FollowsWorld, FollowsSome}
use Rattle.node_world.specs.Steps.{StepsIn, idle_said, silent_said}
use Rattle.node_world.proofs.Following.{idle_steps, possible_steps, same-calls, Comes, comes, conn-of, node-of, turn-of, tested-home, home-is, is-self, turned, turn-stays, turn-entered, entered, node-unmoved, PostMoves, others-as, posts-move, conn-entered, conns-move, other-nodes, own-node, other-notes, follows-same}
use Rattle.node_world.proofs.FollowingNode.{SameHeld, nothing_steps, off-node, drained-entry, left-lines, taken-within}

-- ---- what a map lent

-- what was lent and ended as it was left the map
pub unwritten : {X : Type 0} (n : ℕ) (old new : List (ℕ × X)) (x x' : X) → new ≡ set_value (is_at (nat_cmp n)) old x' → lookup (is_at (nat_cmp n)) old ≡ Some x → x' ≡ x → new ≡ old
unwritten {X} n old new x x' written was same = written ∙ set_value_same (is_at (nat_cmp n)) old x' (was ∙ ap (λ (y : X). Some y) (sym same))

-- ---- the connections where the work of one changes

abbrev pub with-work : Opened → Option OutWork → Opened
with-work o k = record { node = o.node; work = k }

-- another connection than c, whose commits become these
others-puts : (r : Rules) (w : World) (c d : ℕ) (ids : List (Option RowId)) (o : Option Opened) → (d == c) ≡ false → IsConnIn r w d o → IsConnIn r (with_puts w c ids) d o
others-puts r w c d ids None other is = (is.0, ap (λ b. cond b ids (w.puts d)) other ∙ is.1)
others-puts r w c d ids (Some o) other is =
    (is.0, subst (λ (ps : List (Option RowId)). IsWorkAt r.callbacks o.node.0 d (w.nodes o.node.0) ps o.work) (sym (ap (λ b. cond b ids (w.puts d)) other)) is.1)

own-puts : (r : Rules) (w : World) (c : ℕ) (ids : List (Option RowId)) (o : Opened) (k : Option OutWork) → w.home c ≡ Some o.node.0 → IsWorkAt r.callbacks o.node.0 c (w.nodes o.node.0) ids k
    → IsConnIn r (with_puts w c ids) c (Some (with-work o k))
own-puts r w c ids o k home work =
    (home, subst (λ (ps : List (Option RowId)). IsWorkAt r.callbacks o.node.0 c (w.nodes o.node.0) ps k) (sym (ap (λ b. cond b ids (w.puts c)) (is-self c))) work)

-- where the work and the commits of c become these, and the other connections stay
pub conns-put : (r : Rules) (h h' : Held) (w : World) (c : ℕ) (ids : List (Option RowId)) (o : Opened) (k : Option OutWork)
    → ((d : ℕ) → conn_at d h'.conns ≡ cond (is_at (nat_cmp c) d) (Some (with-work o k)) (conn_at d h.conns)) → w.home c ≡ Some o.node.0 → IsWorkAt r.callbacks o.node.0 c (w.nodes o.node.0) ids k
    → ((d : ℕ) → (d == c) ≡ false → IsConnIn r w d (conn_at d h.conns)) → (d : ℕ) → IsConnIn r (with_puts w c ids) d (conn_at d h'.conns)
conns-put r h h' w c ids o k moves home work others =
    conns-move r h h' (with_puts w c ids) c (with-work o k) moves (own-puts r w c ids o k home work) (λ d other. others-puts r w c d ids (conn_at d h.conns) other (others d other))

-- an entry of the node of c that takes or finishes its job, for which no commit is made
pub job-entry : (r : Rules) (h h' : Held) (w : World) (c : ℕ) (e : Step) (o : Opened) (k : Option OutWork) (p p' : Post) → FollowsWorld r h w → conn_at c h.conns ≡ Some o → PostMoves o.node.0 p p' h.posts h'.posts
    → ((d : ℕ) → conn_at d h'.conns ≡ cond (is_at (nat_cmp c) d) (Some (with-work o k)) (conn_at d h.conns)) → h'.table ≡ h.table → IsNodeOf o.node.0 p'.node (e ∷ w.nodes o.node.0)
    → IsTurnIn r (logged w o.node.0 e) o.node.0 p'.turn → ((d : ℕ) → (d == c) ≡ false → keeps_job d e ≡ true) → IsWorkAt r.callbacks o.node.0 c (e ∷ w.nodes o.node.0) [] k
    → Comes r h' (with_puts (logged w o.node.0 e) c [])
job-entry r h h' w c e o k p p' f at moves conns table node turn keeps work =
    let now : World = with_puts (logged w o.node.0 e) c [] in
    record {
      posts = posts-move r h h' w now o.node.0 p p' f moves (
        subst (IsNodeOf o.node.0 p'.node) (sym (own-node w o.node.0 e)) node,
        turn-stays r (logged w o.node.0 e) now o.node.0 p'.turn (record { out = refl; last = refl; low = refl; asked = refl; note_is = refl }) turn,
      )
          (λ m other. other-nodes w o.node.0 m e other) (λ m other. other-notes w o.node.0 m e other);
      conns = conns-put r h h' (logged w o.node.0 e) c [] o k conns (conn-of r h w c (Some o) f at).0
          (subst (λ (steps : List Step). IsWorkAt r.callbacks o.node.0 c steps [] k) (sym (own-node w o.node.0 e)) work)
          (λ d other. conn-entered r h w o.node.0 e f d (keeps d other) (conn_at d h.conns) (f.conns d));
      table = subst (λ (t : TableState MemRows). IsTableOf t w.table w.failing) (sym table) f.table;
    }

-- ---- plans

-- the plan of a task that is out
plan-out : (r : Callbacks) (c : ℕ) (steps : List Step) (user : List ℕ) (t : Task) → user_of c steps ≡ Some user → task_out c steps ≡ Some t → job_plan r c steps ≡ Some (plan_for r user t)
plan-out r c steps user t opened_by out = by-out (has_job (seat c steps)) (job (seat c steps)) refl refl out
  where
    by-out : (b : Bool) (o : Option Piece) → has_job (seat c steps) ≡ b → job (seat c steps) ≡ o → cond b (option_map (task_of (seat c steps).conn) o) None ≡ Some t
        → job_plan r c steps ≡ Some (plan_for r user t)
    by-out true (Some p) b o e = rw (b, o, opened_by) (let same : task_of (seat c steps).conn p ≡ t = cc in ap (λ x. Some (plan_for r user x)) same)
    by-out true None b o e = absurd cc
    by-out false o b is e = absurd cc

-- without a job there is no plan
no-job : (r : Callbacks) (c : ℕ) (steps : List Step) → has_job (seat c steps) ≡ false → job_plan r c steps ≡ None
no-job r c steps idle = ap (λ b. cond b (planned r (user_of c steps) (seat c steps).conn (job (seat c steps))) None) idle

-- ---- the casts that are left

-- a cast of the job that is out is left exactly where one of its work is
pub left-is : (r : Rules) (h : Held) (w : World) (c : ℕ) (o : Opened) → FollowsWorld r h w → conn_at c h.conns ≡ Some o → can_put r.callbacks c (w.puts c) (w.nodes o.node.0) ≡ is_left o.work
left-is r h w c o f at = by-work o.work (conn-of r h w c (Some o) f at).1
  where
    by-work : (k : Option OutWork) → IsWorkAt r.callbacks o.node.0 c (w.nodes o.node.0) (w.puts c) k → can_put r.callbacks c (w.puts c) (w.nodes o.node.0) ≡ is_left k
    by-work None idle = ap (has_cast_left (w.puts c)) (no-job r.callbacks c (w.nodes o.node.0) idle.0)
    by-work (Some k) out = ap (has_cast_left (w.puts c)) out.plan ∙ ap (λ ids. has_cast_left ids (Some k.work.plan)) (sym out.puts_are)

-- no cast is left where there is no work, or none of it is
pub put_idle : (r : Rules) (h h' : Held) (c : ConnNo) (at : Millis) (o : Opened) → conn_at c.0 h.conns ≡ Some o → is_left o.work ≡ false → SameHeld h h' → StepsIn r (event.Put c at) h idle_said h'
put_idle r h h' c at o found none same =
    nothing_steps r (event.Put c at) h h' same (λ w f. tested-home r h w c.0 o (can_put r.callbacks c.0 (w.puts c.0)) f found ∙ left-is r h w c.0 o f found ∙ none)

-- ---- a take

pub take_idle : (r : Rules) (h h' : Held) (c : ConnNo) (o : Opened) (p p' : Post) → conn_at c.0 h.conns ≡ Some o → PostMoves o.node.0 p p' h.posts h'.posts → h'.conns ≡ h.conns → h'.table ≡ h.table → p'.node.no ≡ p.node.no
    → past p'.node ≡ past p.node → TakesNone p.node p'.node → p'.turn ≡ p.turn → can_take c.0 (past p.node) ≡ false → StepsIn r (event.Take c) h idle_said h'
take_idle r h h' c o p p' at moves conns table same_no same takes turn none =
    idle_steps r (event.Take c) h h' (λ w f. tested-home r h w c.0 o (can_take c.0) f at ∙ ap (can_take c.0) (sym (node-of r h w o.node.0 p f moves.was).journal) ∙ none)
    (λ w f. follows-same r h h' w o.node.0 p p' f moves conns table (node-unmoved o.node.0 p.node p'.node (w.nodes o.node.0) same_no same takes (node-of r h w o.node.0 p f moves.was)) turn)
    table (λ n off. others-as o.node.0 p p' h h' moves n (off-node c.0 n o h at off))

work-taken : (r : Callbacks) (n : ℕ) (c : ConnNo) (j : JobState) (node : NodeState) (steps : List Step) (k : WorkState) → IsNodeOf n node steps → j.conn ≡ c → IsJob j node → k ≡ work_of r j → IsWorkOf r n c.0 steps [] k
work-taken r n c j node steps k is conn_is out work_is =
    subst (IsWorkOf r n c.0 steps []) (sym work_is)
    (subst (λ (x : ConnNo). IsWorkOf r n x.0 steps [] (work_of r j)) conn_is
    (record {
      conn = refl;
      node = ap (λ (x : NodeNo). x.0) out.node ∙ is.number;
      place = out.place ∙ ap (λ (p : List Step). (seat j.conn.0 p).taken) is.journal;
      task = ap (task_out j.conn.0) (sym is.journal) ∙ out.task;
      plan = plan-out r j.conn.0 steps j.user j.task (ap (user_of j.conn.0) (sym is.journal) ∙ out.user) (ap (task_out j.conn.0) (sym is.journal) ∙ out.task);
      puts_are = refl;
      noted = omega arith;
    }))

keeps-take : (c d : ℕ) → (d == c) ≡ false → keeps_job d (Step.Take c) ≡ true
keeps-take c d other = ap not (turned c d other)

pub take_steps : (r : Rules) (h h' : Held) (c : ConnNo) (o : Opened) (p p' : Post) (j : JobState) (k : OutWork) → conn_at c.0 h.conns ≡ Some o → PostMoves o.node.0 p p' h.posts h'.posts
    → ((d : ℕ) → conn_at d h'.conns ≡ cond (is_at (nat_cmp c.0) d) (Some (with-work o (Some k))) (conn_at d h.conns)) → h'.table ≡ h.table → p'.node.no ≡ p.node.no → can_take c.0 (past p.node) ≡ true
    → past p'.node ≡ Step.Take c.0 ∷ past p.node → j.conn ≡ c → IsJob j p'.node → k.work ≡ work_of r.callbacks j → TakesNone p.node p'.node → p'.turn ≡ p.turn → StepsIn r (event.Take c) h silent_said h'
take_steps r h h' c o p p' j k at moves conns table same_no may_take grown conn_is out work_is takes turn =
    possible_steps r (event.Take c) h h' silent_said (λ w f. tested-home r h w c.0 o (can_take c.0) f at ∙ ap (can_take c.0) (sym (node-of r h w o.node.0 p f moves.was).journal) ∙ may_take) refl (λ w f. refl)
    (λ w f may. comes r h h' w (with_puts (logged w o.node.0 (Step.Take c.0)) c.0 []) (event.Take c) f may (ap (λ n. with_puts (logged w n (Step.Take c.0)) c.0 []) (home-is r h w c.0 o f at))
    (job-entry r h h' w c.0 (Step.Take c.0) o (Some k) p p' f at moves conns table (node-now w f)
    (turn-entered r w o.node.0 (Step.Take c.0) p'.turn refl refl refl refl (subst (λ (t : TurnOut). IsTurnIn r w o.node.0 t) (sym turn) (turn-of r h w o.node.0 p f moves.was)))
    (keeps-take c.0) (work-taken r.callbacks o.node.0 c j p'.node (Step.Take c.0 ∷ w.nodes o.node.0) k.work (node-now w f) conn_is out work_is)))
    (same-calls h h' table) (λ n off. others-as o.node.0 p p' h h' moves n (off-node c.0 n o h at off))
  where
    node-now : (w : World) → FollowsWorld r h w → IsNodeOf o.node.0 p'.node (Step.Take c.0 ∷ w.nodes o.node.0)
    node-now w f = entered o.node.0 p.node p'.node (Step.Take c.0) (w.nodes o.node.0) same_no grown takes (λ d. refl) (node-of r h w o.node.0 p f moves.was)

-- ---- a finish

finish-waits : (r : Rules) (h h' : Held) (c : ConnNo) (o : Opened) → conn_at c.0 h.conns ≡ Some o → ((w : World) → FollowsWorld r h w → can_finish r.callbacks c.0 (w.puts c.0) (w.nodes o.node.0) ≡ false) → SameHeld h h'
    → StepsIn r (event.Finish c) h idle_said h'
finish-waits r h h' c o at not-done same = nothing_steps r (event.Finish c) h h' same (λ w f. tested-home r h w c.0 o (can_finish r.callbacks c.0 (w.puts c.0)) f at ∙ not-done w f)

pub work-of : (r : Rules) (h : Held) (w : World) (c : ℕ) (o : Opened) (k : OutWork) → FollowsWorld r h w → conn_at c h.conns ≡ Some o → o.work ≡ Some k → IsWorkOf r.callbacks o.node.0 c (w.nodes o.node.0) (w.puts c) k.work
work-of r h w c o k f at found = subst (IsWorkAt r.callbacks o.node.0 c (w.nodes o.node.0) (w.puts c)) found (conn-of r h w c (Some o) f at).1

-- while a cast is left it isn't finished
pub finish_early : (r : Rules) (h h' : Held) (c : ConnNo) (o : Opened) → conn_at c.0 h.conns ≡ Some o → is_left o.work ≡ true → SameHeld h h' → StepsIn r (event.Finish c) h idle_said h'
finish_early r h h' c o at left same =
    finish-waits r h h' c o at not-done same
  where
    some-left : (ids : List (Option RowId)) (plan : Option Plan) → has_cast_left ids plan ≡ true → has_no_cast_left ids plan ≡ false
    some-left ids None e = refl
    some-left ids (Some plan) e = ap not e

    not-done : (w : World) → FollowsWorld r h w → can_finish r.callbacks c.0 (w.puts c.0) (w.nodes o.node.0) ≡ false
    not-done w f = some-left (w.puts c.0) (job_plan r.callbacks c.0 (w.nodes o.node.0)) (left-is r h w c.0 o f at ∙ left)

-- a job that is finished isn't out
none-out : (c : ℕ) (puts : List (Option RowId)) (plan : Plan) (steps : List Step) → has_job (seat c (Step.Finish c puts plan ∷ steps)) ≡ false
none-out c puts plan steps =
    let t : (c == c) ≡ true = grind (arith, nat_tests) in
    let n : has_job (with_plan (seat c steps) plan) ≡ false = grind (arith, nat_tests) in
    rw t n

keeps-finish : (c d : ℕ) (puts : List (Option RowId)) (plan : Plan) → (d == c) ≡ false → keeps_job d (Step.Finish c puts plan) ≡ true
keeps-finish c d puts plan other = ap not (turned c d other)

-- what a Finish of c queues there
told-there : (c : ℕ) (puts : List (Option RowId)) (plan : Plan) (steps : List Step) → queued c (Step.Finish c puts plan ∷ steps) ≡ queued c steps ++ plan_lines c plan
told-there c puts plan steps = let t : (c == c) ≡ true = grind (arith, nat_tests) in rw t refl

told-elsewhere : (c d : ℕ) (puts : List (Option RowId)) (plan : Plan) (steps : List Step) → (c == d) ≡ false → queued d (Step.Finish c puts plan ∷ steps) ≡ queued d steps
told-elsewhere c d puts plan steps e = rw e refl

-- the entry of a work
entry-of : (r : Callbacks) (x c : ℕ) (steps : List Step) (puts : List (Option RowId)) (k : WorkState) (n m : NodeState) → IsWorkOf r x c steps puts k → past m ≡ Step.Finish k.conn.0 k.puts k.plan ∷ past n
    → past m ≡ Step.Finish c puts k.plan ∷ past n
entry-of r x c steps puts k n m out grown = grown ∙ ap (λ d. Step.Finish d k.puts k.plan ∷ past n) out.conn ∙ ap (λ ids. Step.Finish c ids k.plan ∷ past n) out.puts_are

pub finish-within : (r : Rules) (h : Held) → FollowsSome r h → (c : ℕ) (o : Opened) (p : Post) (m : NodeState) (k : OutWork) → conn_at c h.conns ≡ Some o → post_at o.node.0 h.posts ≡ Some p → o.work ≡ Some k
    → past m ≡ Step.Finish k.work.conn.0 k.work.puts k.work.plan ∷ past p.node → TakesNone p.node m → taken_out c m ≤ length (queued c (past m))
finish-within r h stands c o p m k at booted found grown takes =
    let w = stands.0 in
    let f = stands.1 in
    taken-within o.node.0 p.node m (Step.Finish c (w.puts c) k.work.plan) c (w.nodes o.node.0) (plan_lines c k.work.plan)
    (entry-of r.callbacks o.node.0 c (w.nodes o.node.0) (w.puts c) k.work p.node m (work-of r h w c o k f at found) grown) takes (told-there c (w.puts c) k.work.plan (w.nodes o.node.0))
    (node-of r h w o.node.0 p f booted)

module _ (r : Rules) (h h' : Held) (c : ConnNo) (o : Opened) (p p' : Post) (m : NodeState) (k : OutWork) (s : Said) (at : conn_at c.0 h.conns ≡ Some o) (moves : PostMoves o.node.0 p p' h.posts h'.posts) (found : o.work ≡ Some k)
    (none : is_left (Some k) ≡ false) (grown : past m ≡ Step.Finish k.work.conn.0 k.work.puts k.work.plan ∷ past p.node) (takes : TakesNone p.node m) where
  plan-is : (w : World) → FollowsWorld r h w → job_plan r.callbacks c.0 (w.nodes o.node.0) ≡ Some k.work.plan
  plan-is w f = (work-of r h w c.0 o k f at found).plan

  finishes-home : (w : World) → FollowsWorld r h w → can_finish r.callbacks c.0 (w.puts c.0) (w.nodes o.node.0) ≡ true
  finishes-home w f =
      ap (has_no_cast_left (w.puts c.0)) (plan-is w f)
      ∙ ap (λ ids. not (has_cast_left ids (Some k.work.plan))) (sym (work-of r h w c.0 o k f at found).puts_are)
      ∙ ap not none

  grown-now : (w : World) → FollowsWorld r h w → past m ≡ Step.Finish c.0 (w.puts c.0) k.work.plan ∷ past p.node
  grown-now w f = entry-of r.callbacks o.node.0 c.0 (w.nodes o.node.0) (w.puts c.0) k.work p.node m (work-of r h w c.0 o k f at found) grown

  finish-world : (w : World) → FollowsWorld r h w
      → finish w (home_of w c.0) c.0 (job_plan r.callbacks c.0 (w.nodes (home_of w c.0))) ≡ with_puts (logged w o.node.0 (Step.Finish c.0 (w.puts c.0) k.work.plan)) c.0 []
  finish-world w f =
      ap (λ x. finish w x c.0 (job_plan r.callbacks c.0 (w.nodes x))) (home-is r h w c.0 o f at)
      ∙ ap (finish w o.node.0 c.0) (plan-is w f)

  finish-lines : (w : World) → FollowsWorld r h w → left_on m c.0 ≡ finish_lines c.0 (job_plan r.callbacks c.0 (w.nodes (home_of w c.0)))
  finish-lines w f =
      left-lines o.node.0 p.node m (Step.Finish c.0 (w.puts c.0) k.work.plan) c.0 (w.nodes o.node.0) (plan_lines c.0 k.work.plan) (grown-now w f) takes (told-there c.0 (w.puts c.0) k.work.plan (w.nodes o.node.0))
      (node-of r h w o.node.0 p f moves.was)
      ∙ sym (ap (λ x. finish_lines c.0 (job_plan r.callbacks c.0 (w.nodes x))) (home-is r h w c.0 o f at) ∙ ap (finish_lines c.0) (plan-is w f))

  pub finish_steps : ((d : ℕ) → conn_at d h'.conns ≡ cond (is_at (nat_cmp c.0) d) (Some (with-work o None)) (conn_at d h.conns)) → h'.table ≡ h.table → m.no ≡ p.node.no → p'.node.kept ≡ m.kept → p'.node.no ≡ m.no
      → taken_out c.0 p'.node ≡ length (queued c.0 (past m)) → ((d : ℕ) → (d == c.0) ≡ false → taken_out d p'.node ≡ taken_out d m) → p'.turn ≡ p.turn → s ≡ record { idle = false; lines = left_on m c.0 }
      → StepsIn r (event.Finish c) h s h'
  finish_steps conns table same_no kept no_now taken others turn is =
      possible_steps r (event.Finish c) h h' s (λ w f. tested-home r h w c.0 o (can_finish r.callbacks c.0 (w.puts c.0)) f at ∙ finishes-home w f) (ap (λ (x : Said). x.idle) is)
      (λ w f. ap (λ (x : Said). x.lines) is ∙ finish-lines w f)
      (λ w f may. comes r h h' w (with_puts (logged w o.node.0 (Step.Finish c.0 (w.puts c.0) k.work.plan)) c.0 []) (event.Finish c) f may (finish-world w f)
      (job-entry r h h' w c.0 (Step.Finish c.0 (w.puts c.0) k.work.plan) o None p p' f at moves conns table
      (drained-entry o.node.0 p.node m p'.node (Step.Finish c.0 (w.puts c.0) k.work.plan) c.0 (w.nodes o.node.0) same_no (grown-now w f) takes kept no_now taken others
      (λ d e. told-elsewhere c.0 d (w.puts c.0) k.work.plan (w.nodes o.node.0) e) (node-of r h w o.node.0 p f moves.was))
      (turn-entered r w o.node.0 (Step.Finish c.0 (w.puts c.0) k.work.plan) p'.turn refl refl refl refl (subst (λ (t : TurnOut). IsTurnIn r w o.node.0 t) (sym turn) (turn-of r h w o.node.0 p f moves.was)))
      (λ d other. keeps-finish c.0 d (w.puts c.0) k.work.plan other) (none-out c.0 (w.puts c.0) k.work.plan (w.nodes o.node.0), refl)))
      (same-calls h h' table) (λ n off. others-as o.node.0 p p' h h' moves n (off-node c.0 n o h at off))
