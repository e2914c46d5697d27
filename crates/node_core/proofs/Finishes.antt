-- A node that finishes a job goes on standing for its journal.
use Rattle.std.proofs.Common.{◌≡◌, ◌<◌, ◌+◌, ◌-◌, ◌^◌, ◌==◌, ℕ, Bool, true, false, cond, List, [], ◌∷◌, ◌++◌, map, length, Option, Some, None, refl, sym, ap, subst, ◌∙◌}
use Rattle.std.specs.Prelude.{option_map, is_some, bytes_eq}
use Rattle.std.proofs.lemmas.List.{map-append}
use Rattle.cable_base.specs.declared.numbers.ConnNo.{ConnNo}
use Rattle.cable_base.specs.declared.numbers.RowId.{RowId}
use Rattle.cable_model.specs.declared.lines.Line.{Line}
use Rattle.cable_model.specs.declared.pieces.Piece.{Piece}
use Rattle.cable_model.specs.declared.plans.Change.{Change}
use Rattle.cable_model.specs.declared.plans.Change.TheVariants as change
use Rattle.cable_model.specs.declared.plans.Plan.{Plan}
use Rattle.cable_model.specs.declared.plans.Task.{Task}
use Rattle.cable_model.specs.declared.plans.Task.TheVariants as task
use Rattle.cable_model.specs.Connection.{Conn, Sub}
use Rattle.cable_model.specs.Legal.{IsJobAnswered, Legal}
use Rattle.cable_model.specs.Pieces.{Placed, Seat, seat}
use Rattle.cable_model.specs.Plans.{Callbacks, IsAnswered, plan_for, task_of}
use Rattle.cable_model.specs.Possible.{has_job, is_opened, job_plan, planned}
use Rattle.cable_model.specs.Steps.{Step}
use Rattle.cable_model.specs.Transcript.{queued, conn_line, plan_lines}
use Rattle.cable_model.specs.Wants.{made, makes, user_of}
use Rattle.cable_model.specs.Window.{job}
use Rattle.cable_model.proofs.Marks.{made-conn}
use Rattle.conn_core.specs.Bare.{bare, bare_sub}
use Rattle.conn_core.specs.Marked.{Marks, marked_sub}
use Rattle.conn_core.specs.Subscriptions.{Subscription}
use Rattle.conn_core.proofs.MarkedTasks.{marked-task}
use Rattle.conn_seat.specs.Seated.{SeatOf, connection_of, marks_at, plan_of_piece}
use Rattle.conn_seat.specs.Seats.{Seated, CanFinish}
use Rattle.conn_seat.specs.Tasks.{task_in, task_out_of}
use Rattle.conn_seat.proofs.Answering.{finishable, plans}
use Rattle.node_turns.specs.Holding.{released}
use Rattle.node_turns.proofs.HoldsEnding.{held-finish}
use Rattle.conn_seat.specs.declared.outs.Out.{Out}
use Rattle.conn_seat.specs.declared.outs.Out.TheVariants as out
use Rattle.node_seats.specs.Outboxes.{OutboxesState, Queues, WidensAll, all_on, outs_for, forgotten_at}
use Rattle.node_seats.specs.AreSeats.{AreSeats}
use Rattle.node_seats.specs.declared.turning.Wanted.{Wanted}
use Rattle.node_seats.specs.Numbers.{Numbers, Opened, Moves, Lives, Prepares, Finished, opened_at, seat_at, seat_in}
use Rattle.node_seats.proofs.Entries.{finishes, live, prepares}
use Rattle.node_seats.proofs.Lookups.{found-there}
use Rattle.node_seats.proofs.Onward.{used-is}
use Rattle.poll_turn.specs.Turns.{CursorState}
use Rattle.subscriber_map.specs.HoldMaps.{HoldMap}
use Rattle.node_turns.specs.Wished.{AreWished, number_named, wanted_above, wanted_with}
use Rattle.node_turns.proofs.Wishing.{wished-as, wished-finish}
use Rattle.node_core.specs.Finishing.{IsOutIn, outs_of}
use Rattle.node_core.specs.Jobs.{Fits, IsWork, WorkState, task_out}
use Rattle.node_core.specs.Nodes.{NodeState, Stands, line_on}
use Rattle.node_core.specs.Nodes as nodes
use Rattle.node_core.proofs.Queueing.{lines_on, roomier, says}
use Rattle.node_core.proofs.Telling.{worked}

-- ---- the job that is out

task-out-is : (c : ℕ) (past : List Step) (s : Seated) → SeatOf c past s → task_out_of s ≡ task_out c past
task-out-is c past s h = ap (option_map (task_in s)) h.shows.job ∙ by-job (has_job (seat c past)) (job (seat c past))
  where
    by-job : (b : Bool) (o : Option Piece)
        → option_map (task_in s) (cond b (option_map (λ (p : Piece). record { place = (seat c past).taken; piece = p }) o) None)
        ≡ cond b (option_map (task_of (seat c past).conn) o) None
    by-job true (Some p) = ap Some (marked-task (marks_at c past) (seat c past).conn (connection_of s) p h.shows.conn)
    by-job true None = refl
    by-job false o = refl

abbrev places : Option Placed → Option ℕ
places o = option_map (λ (p : Placed). p.place) o

abbrev out_with : (taken : ℕ) → Bool → Option Piece → Option Placed
out_with taken b o = cond b (option_map (λ (p : Piece). record { place = taken; piece = p }) o) None

place-in : (taken place : ℕ) (b : Bool) (o : Option Piece) → places (out_with taken b o) ≡ Some place → place ≡ taken
place-in taken place true (Some p) e = let f : Some taken ≡ Some place = e in let g : taken ≡ place = cc f in sym g
place-in taken place true None e = absurd (let f : None ≡ Some place = e in cc f)
place-in taken place false o e = absurd (let f : None ≡ Some place = e in cc f)

place-out : (taken place : ℕ) (k : Conn) (t : Task) (b : Bool) (o : Option Piece) → cond b (option_map (task_of k) o) None ≡ Some t → place ≡ taken
    → places (out_with taken b o) ≡ Some place
place-out taken place k t true (Some p) e is = ap Some (sym is)
place-out taken place k t true None e is = absurd (let f : None ≡ Some t = e in cc f)
place-out taken place k t false o e is = absurd (let f : None ≡ Some t = e in cc f)

-- the job is the one that is out on c
pub record IsOutOn (c place : ℕ) (t : Task) (past : List Step) : Type 0 where
  pub place_is : place ≡ (seat c past).taken
  pub task_is : task_out c past ≡ Some t

pub out-in : (c place : ℕ) (t : Task) (past : List Step) (v : Numbers) → AreSeats past v → IsOutIn place t (seat_at c v) → IsOutOn c place t past
out-in c place t past v a i = by-kept (opened_at c v) refl i
  where
    by-kept : (o : Option Opened) → opened_at c v ≡ o → IsOutIn place t (seat_in o) → IsOutOn c place t past
    by-kept None at i = absurd i
    by-kept (Some Opened.Over) at i = absurd i
    by-kept (Some (Opened.Live s)) at i =
        let h = (a.each c (Opened.Live s) at).0 in
        record {
          place_is = place-in (seat c past).taken place (has_job (seat c past)) (job (seat c past)) (sym (ap places h.shows.job) ∙ i.place_is);
          task_is = sym (task-out-is c past s h) ∙ i.task_is;
        }

pub in-out : (c place : ℕ) (t : Task) (past : List Step) (v : Numbers) → AreSeats past v → IsOutOn c place t past → IsOutIn place t (seat_at c v)
in-out c place t past v a i = by-kept (opened_at c v) refl (used-is past v c a)
  where
    no-task : has_job (seat c past) ≡ false → IsOutIn place t None
    no-task f =
        let e : Some t ≡ None = sym i.task_is ∙ ap (λ b. cond b (option_map (task_of (seat c past).conn) (job (seat c past))) None) f in
        absurd (cc e)

    by-kept : (o : Option Opened) → opened_at c v ≡ o → is_some o ≡ is_opened c past → IsOutIn place t (seat_in o)
    by-kept None at used = no-task (ap (λ (s : Seat). has_job s) (a.unopened c (sym used)))
    by-kept (Some Opened.Over) at used = no-task (a.each c Opened.Over at).job
    by-kept (Some (Opened.Live s)) at used =
        let h = (a.each c (Opened.Live s) at).0 in
        record {
          place_is =
              ap places h.shows.job ∙ place-out (seat c past).taken place (seat c past).conn t (has_job (seat c past)) (job (seat c past)) i.task_is i.place_is;
          task_is = task-out-is c past s h ∙ i.task_is;
        }

-- a connection with a job out is live
pub live-out : (c place : ℕ) (t : Task) (past : List Step) (v : Numbers) → AreSeats past v → IsOutOn c place t past → is_some (seat_at c v) ≡ true
live-out c place t past v a i = by-seat (seat_at c v) (in-out c place t past v a i)
  where
    by-seat : (o : Option Seated) → IsOutIn place t o → is_some o ≡ true
    by-seat None i = absurd i
    by-seat (Some s) i = refl

pub out-on : (w : WorkState) (n : NodeState) → Fits w n → IsOutOn w.conn.0 w.place w.task (nodes.past n)
out-on w n f = record { place_is = f.out.place; task_is = f.out.task }

-- when work fits, told by what is kept of its number
pub fits-as : (w : WorkState) (n : NodeState) (v : Numbers) (b : Bool) → AreSeats (nodes.past n) v → w.node ≡ n.no → length w.puts ≡ length w.plan.casts
    → (b ≡ true → IsOutIn w.place w.task (seat_at w.conn.0 v)) → (IsOutIn w.place w.task (seat_at w.conn.0 v) → b ≡ true)
    → (b ≡ true → Fits w n) × (Fits w n → b ≡ true)
fits-as w n v b a node done there back = (
  λ t.
      (let i = out-in w.conn.0 w.place w.task (nodes.past n) v a (there t) in
      record { out = record { node = node; place = i.place_is; task = i.task_is }; done = done }),
  λ f. back (in-out w.conn.0 w.place w.task (nodes.past n) v a (out-on w n f)),
)

-- ---- its plan

-- callbacks that answer any user what these answer this one
pub ignoring : Callbacks → (user : List ℕ) → Callbacks
ignoring r user =
    record {
      identify = r.identify;
      subscribed = λ other identifier. r.subscribed user identifier;
      unsubscribed = λ other identifier. r.unsubscribed user identifier;
      perform = λ other identifier payload. r.perform user identifier payload;
    }

plan-any : (r : Callbacks) (user other : List ℕ) (t : Task) → plan_for (ignoring r user) other t ≡ plan_for r user t
unfolding ignoring
plan-any r user other task.Nothing = refl
plan-any r user other (task.Note why) = refl
plan-any r user other (task.Subscribe identifier) = refl
plan-any r user other (task.Unsubscribe identifier) = refl
plan-any r user other (task.Perform identifier payload streams) = refl
plan-any r user other (task.Row identifier payload) = refl
plan-any r user other (task.Confirm identifier) = refl
plan-any r user other (task.Close how identifiers) = refl

answered-any : (r : Callbacks) (user other : List ℕ) (t : Task) → IsAnswered r user t → IsAnswered (ignoring r user) other t
unfolding ignoring
answered-any r user other task.Nothing a = tt
answered-any r user other (task.Note why) a = tt
answered-any r user other (task.Subscribe identifier) a = a
answered-any r user other (task.Unsubscribe identifier) a = a
answered-any r user other (task.Perform identifier payload streams) a = a
answered-any r user other (task.Row identifier payload) a = tt
answered-any r user other (task.Confirm identifier) a = tt
answered-any r user other (task.Close how identifiers) a = a

-- the task of the piece that is out
task-there : (k : Conn) (t : Task) (b : Bool) (o : Option Piece) (p : Piece) → o ≡ Some p → cond b (option_map (task_of k) o) None ≡ Some t → t ≡ task_of k p
task-there k t true (Some q) p is e =
    let same : q ≡ p = cc is in
    let f : Some (task_of k q) ≡ Some t = e in
    let taken : task_of k q ≡ t = cc f in
    sym taken ∙ ap (task_of k) same
task-there k t true None p is e = absurd (cc is)
task-there k t false o p is e = absurd (let f : None ≡ Some t = e in cc f)

-- the callbacks answered what the plan of a work is made of, whoever the user is
pub answered-out : (c place : ℕ) (t : Task) (plan : Plan) (puts : List (Option RowId)) (capacity : ℕ) (past : List Step) (w : IsWork t plan puts capacity)
    → IsOutOn c place t past
    → IsJobAnswered (ignoring w.callbacks w.user) c past
answered-out c place t plan puts capacity past w i user p opened out =
    subst (IsAnswered (ignoring w.callbacks w.user) user) (task-there (seat c past).conn t (has_job (seat c past)) (job (seat c past)) p out i.task_is)
    (answered-any w.callbacks w.user user t w.answered)

plan-of-task : (r : Callbacks) (user : List ℕ) (k : Conn) (t : Task) (b : Bool) (u : Option (List ℕ)) (o : Option Piece) → u ≡ Some user
    → cond b (option_map (task_of k) o) None ≡ Some t → cond b (planned r u k o) None ≡ Some (plan_for r user t)
plan-of-task r user k t true u (Some p) is e =
    let f : Some (task_of k p) ≡ Some t = e in
    let same : task_of k p ≡ t = cc f in
    ap (λ (x : Option (List ℕ)). planned r x k (Some p)) is ∙ ap (λ (x : Task). Some (plan_for r user x)) same
plan-of-task r user k t true u None is e = absurd (let f : None ≡ Some t = e in cc f)
plan-of-task r user k t false u o is e = absurd (let f : None ≡ Some t = e in cc f)

-- the plan of a work is one of the job that is out
pub plan-out : (c place : ℕ) (t : Task) (plan : Plan) (puts : List (Option RowId)) (capacity : ℕ) (past : List Step) (v : Numbers)
    (w : IsWork t plan puts capacity) → AreSeats past v
    → IsOutOn c place t past → job_plan (ignoring w.callbacks w.user) c past ≡ Some plan
plan-out c place t plan puts capacity past v w a i = by-kept (opened_at c v) refl (in-out c place t past v a i)
  where
    by-kept : (o : Option Opened) → opened_at c v ≡ o → IsOutIn place t (seat_in o) → job_plan (ignoring w.callbacks w.user) c past ≡ Some plan
    by-kept None at i2 = absurd i2
    by-kept (Some Opened.Over) at i2 = absurd i2
    by-kept (Some (Opened.Live s)) at i2 =
        plan-of-task (ignoring w.callbacks w.user) s.user (seat c past).conn t (has_job (seat c past)) (user_of c past) (job (seat c past))
        (a.each c (Opened.Live s) at).0.user i.task_is
        ∙ ap Some (plan-any w.callbacks w.user s.user t ∙ sym w.planned)

-- ---- it can be finished

-- a live connection with room for the plan of its job
pub record Ready (c : ℕ) (past : List Step) (plan : Plan) (v : Numbers) (s : Seated) : Type 0 where
  pub at : opened_at c v ≡ Some (Opened.Live s)
  pub seated : SeatOf c past s
  pub can : CanFinish plan.change s

can-finish : (r : Callbacks) (c : ℕ) (past : List Step) (plan : Plan) (s : Seated) → Legal past → SeatOf c past s → job_plan r c past ≡ Some plan
    → s.reserved ≡ Some plan.change → s.made + makes plan.change < 2 ^ 64 - 1 → CanFinish plan.change s
can-finish r c past plan s legal h planned_as reserved numbers = by-job s.job refl
  where
    by-job : (o : Option Placed) → s.job ≡ o → CanFinish plan.change s
    by-job None e =
        let pl = worked past legal c s.user h.user in
        let f : Some plan ≡ None = sym planned_as ∙ (plans pl.0 c past s pl.1 h).none r e in
        absurd (cc f)
    by-job (Some p) e =
        let pl = worked past legal c s.user h.user in
        let f : Some plan ≡ Some (plan_of_piece r s p.piece) = sym planned_as ∙ (plans pl.0 c past s pl.1 h).out r p e in
        let same : plan ≡ plan_of_piece r s p.piece = cc f in
        subst (λ (x : Plan). CanFinish x.change s) (sym same)
        (finishable pl.0 r c past s p pl.1 h e (reserved ∙ ap (λ (x : Plan). Some x.change) same)
        (subst (λ (x : Plan). s.made + makes x.change < 2 ^ 64 - 1) same numbers))

pub ready : (r : Callbacks) (c : ℕ) (past : List Step) (plan : Plan) (v new : Numbers) → Legal past → AreSeats past v → job_plan r c past ≡ Some plan
    → Moves c (Lives (Prepares plan.change)) v new → (s : Seated) × Ready c past plan new s
ready r c past plan v new legal a planned_as m =
    let l = live (Prepares plan.change) c v new m in
    let at : opened_at c new ≡ Some (Opened.Live l.new_seat) =
    ap (opened_at c) l.now ∙ found-there c (Opened.Live l.new_seat) (Opened.Live l.old_seat) v l.found in
    let h = (prepares plan.change c past v new a m).each c (Opened.Live l.new_seat) at in (
      l.new_seat,
      record {
        at = at;
        seated = h.0;
        can = can-finish r c past plan l.new_seat legal h.0 planned_as (ap (λ (x : Seated). x.reserved) l.moved_by.now) l.moved_by.numbers;
      },
    )

-- ---- what it queues

-- what is queued on one connection stands there, and nowhere else
outs-on : (conn : ConnNo) (os : List Out) (c : ℕ) (b : Bool) → (conn.0 == c) ≡ b → outs_for c (all_on conn os) ≡ cond b os []
outs-on conn [] c true e = refl
outs-on conn [] c false e = refl
outs-on conn (o ∷ os) c true e = rw e (ap (λ (ps : List Out). o ∷ ps) (outs-on conn os c true e))
outs-on conn (o ∷ os) c false e = rw e (outs-on conn os c false e)

map-through : {A B C : Type 0} (g : B → C) (f : A → B) (xs : List A) → map g (map f xs) ≡ map (λ x. g (f x)) xs
map-through g f [] = refl
map-through g f (x ∷ xs) = ap (λ ys. g (f x) ∷ ys) (map-through g f xs)

plan-said : (c : ℕ) (plan : Plan) → map (line_on c) (outs_of plan) ≡ plan_lines c plan
plan-said c plan =
    map-append (line_on c) (map out.Text plan.texts) (map out.Note plan.notes)
    ∙ (ap (λ (ls : List Line). ls ++ map (line_on c) (map out.Note plan.notes)) (map-through (line_on c) (λ (text : List ℕ). out.Text text) plan.texts)
    ∙ ap (λ (ls : List Line). map (conn_line c) plan.texts ++ ls) (map-through (line_on c) out.Note plan.notes))

-- what a Finish queues is what its plan says
finish-says : (conn : ConnNo) (puts : List (Option RowId)) (plan : Plan) (past : List Step) (c : ℕ)
    → queued c (Step.Finish conn.0 puts plan ∷ past) ≡ queued c past ++ lines_on c (all_on conn (outs_of plan))
finish-says conn puts plan past c = by-test (conn.0 == c) refl
  where
    nothing-more : (ls : List Line) → ls ≡ ls ++ []
    nothing-more [] = refl
    nothing-more (l ∷ ls) = ap (λ (ms : List Line). l ∷ ms) (nothing-more ls)

    by-test : (b : Bool) → (conn.0 == c) ≡ b
        → cond (conn.0 == c) (queued c past ++ plan_lines c plan) (queued c past) ≡ queued c past ++ lines_on c (all_on conn (outs_of plan))
    by-test true e =
        ap (λ b. cond b (queued c past ++ plan_lines c plan) (queued c past)) e
        ∙ ap (λ (ls : List Line). queued c past ++ ls) (sym (ap (map (line_on c)) (outs-on conn (outs_of plan) c true e) ∙ plan-said c plan))
    by-test false e =
        ap (λ b. cond b (queued c past ++ plan_lines c plan) (queued c past)) e
        ∙ (nothing-more (queued c past) ∙ ap (λ (ls : List Line). queued c past ++ ls) (sym (ap (map (line_on c)) (outs-on conn (outs_of plan) c false e))))

-- ---- the wants that it makes

number-bare : (identifier : List ℕ) (ms : Marks) (ss : List Sub) → number_named identifier ss ≡ number_named identifier (map bare_sub (map (marked_sub ms) ss))
number-bare identifier ms [] = refl
number-bare identifier ms (s ∷ ss) = by-test (bytes_eq s.identifier identifier) refl (number-bare identifier ms ss)
  where
    by-test : (b : Bool) → bytes_eq s.identifier identifier ≡ b → number_named identifier ss ≡ number_named identifier (map bare_sub (map (marked_sub ms) ss))
        → number_named identifier (s ∷ ss) ≡ number_named identifier (map bare_sub (map (marked_sub ms) (s ∷ ss)))
    by-test true e ih = rw e refl
    by-test false e ih = rw e ih

wanted-bare : (c place n : ℕ) (ms : Marks) (ss : List Sub) (x : Change)
    → wanted_with c place n ss x ≡ wanted_with c place n (bare (map (marked_sub ms) ss)).subs x
wanted-bare c place n ms ss change.Nothing = refl
wanted-bare c place n ms ss (change.Add identifier streams) = refl
wanted-bare c place n ms ss (change.Streams identifier stops streams) = ap (λ (m : ℕ). wanted_above c m n false streams) (number-bare identifier ms ss)
wanted-bare c place n ms ss (change.Remove identifier) = refl
wanted-bare c place n ms ss change.Close = refl

wanted-is : (c place : ℕ) (past : List Step) (s : Seated) (x : Change) → SeatOf c past s → place ≡ (seat c past).taken
    → wanted_with c (seat c past).taken (made c past) (seat c past).conn.subs x ≡ wanted_with c place s.made (bare s.subs).subs x
wanted-is c place past s x h is =
    ap (λ (p : ℕ). wanted_with c p (made c past) (seat c past).conn.subs x) (sym is)
    ∙ (ap (λ (n : ℕ). wanted_with c place n (seat c past).conn.subs x) (sym (h.shows.made ∙ made-conn c past))
    ∙ (wanted-bare c place s.made (marks_at c past) (seat c past).conn.subs x
    ∙ ap (λ (ss : List Subscription). wanted_with c place s.made (bare ss).subs x) (sym h.shows.conn.subs)))

-- ---- the entry

module _ {past : List Step} {v : Numbers} {outs : OutboxesState} {k : CursorState} {holds : HoldMap} {ws : List Wanted} {taken : ℕ} where
  pub finishes-as : (r : Callbacks) (conn : ConnNo) (place : ℕ) (puts : List (Option RowId)) (plan : Plan) (v1 v2 : Numbers) (s : Seated)
      (roomy new : OutboxesState)
      → Stands past v outs k holds ws taken
      → place ≡ (seat conn.0 past).taken → job_plan r conn.0 past ≡ Some plan → IsJobAnswered r conn.0 past → length puts ≡ length plan.casts
      → Moves conn.0 (Lives (Prepares plan.change)) v v1 → Ready conn.0 past plan v1 s → Moves conn.0 (Finished plan.change) v1 v2
      → WidensAll outs roomy → Queues (all_on conn (outs_of plan)) roomy new
      → Stands (Step.Finish conn.0 puts plan ∷ past) v2 new k (released conn.0 plan.change s.user s.subs holds)
      (ws ++ wanted_with conn.0 place s.made (bare s.subs).subs plan.change) taken
  finishes-as r conn place puts plan v1 v2 s roomy new h is out answered done prepared at finished room said =
      let legal : Legal (Step.Finish conn.0 puts plan ∷ past) = ((record { callbacks = r; planned = out; answered = answered }, done), h.legal) in
      record {
        booted = refl;
        legal = legal;
        messages = h.messages;
        numbers = finishes r conn.0 puts plan past v1 v2 (worked past h.legal) (prepares plan.change conn.0 past v v1 h.numbers prepared) out
            (λ t there. let e : Some (Opened.Live s) ≡ Some (Opened.Live t) = sym at.at ∙ there in
            let same : s ≡ t = cc e in subst (λ (x : Seated). CanFinish plan.change x) same at.can) finished;
        queues = λ c.
            says c past (Step.Finish conn.0 puts plan ∷ past) roomy new (all_on conn (outs_of plan)) (roomier past outs roomy h.queues room c) said
            (finish-says conn puts plan past c);
        listens = record { lower_is = h.listens.lower_is; turns = h.listens.turns; out = h.listens.out };
        held = held-finish conn.0 puts plan past s holds legal at.seated h.held;
        wished =
            subst (λ (more : List Wanted). AreWished (Step.Finish conn.0 puts plan ∷ past) (λ d. forgotten_at d new) (ws ++ more) taken)
            (wanted-is conn.0 place past s plan.change at.seated is) (wished-finish conn.0 puts plan past (λ d. forgotten_at d new) ws taken legal
            (wished-as past (λ d. forgotten_at d outs) (λ d. forgotten_at d new) ws taken (λ d. said.forgotten d ∙ room.forgotten d) h.wished));
      }
