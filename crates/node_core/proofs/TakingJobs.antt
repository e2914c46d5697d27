-- A piece that is taken from a connection is the job that is out on it, as the journal has it.
use Rattle.std.proofs.Common.{◌≡◌, ℕ, Bool, true, false, cond, not, ◌&&◌, List, [], ◌∷◌, Option, Some, None, refl, sym, ap, subst, ◌∙◌}
use Rattle.std.specs.Prelude.{is_some, option_map}
use Rattle.cable_model.specs.declared.pieces.Piece.{Piece}
use Rattle.cable_model.specs.declared.plans.Task.{Task}
use Rattle.cable_base.specs.declared.numbers.ConnNo.{ConnNo}
use Rattle.cable_model.specs.Connection.{Conn}
use Rattle.cable_model.specs.Journal.{past_of}
use Rattle.cable_model.specs.Pieces.{Placed, Seat, seat}
use Rattle.cable_model.specs.Plans.{task_of}
use Rattle.cable_model.specs.Possible.{has_job, is_opened, is_live, can_take, is_empty}
use Rattle.cable_model.specs.Steps.{Step}
use Rattle.cable_model.specs.Wants.{user_of}
use Rattle.cable_model.specs.Window.{job}
use Rattle.conn_core.specs.Bare.{bare}
use Rattle.conn_core.proofs.MarkedTasks.{marked-task}
use Rattle.conn_seat.specs.Seats.{Seated, Becomes, with_taken, with_first, may_take_now}
use Rattle.conn_seat.specs.Seated.{SeatOf, connection_of, job_out, marks_at}
use Rattle.conn_seat.specs.Tasks.{task_in, first_of, task_out_of}
use Rattle.conn_seat.proofs.Answering.{answers}
use Rattle.node_seats.specs.Numbers.{Numbers, Opened, Moves, Lives, opened_at, seat_in}
use Rattle.node_seats.specs.AreSeats.{AreSeats, AreWorked}
use Rattle.node_seats.specs.declared.slots.Errand.{Errand}
use Rattle.node_seats.specs.Turned.{errand_at, errand_in, errand_of}
use Rattle.node_seats.proofs.Entries.{live, takes}
use Rattle.node_seats.proofs.Lookups.{found-there}
use Rattle.node_seats.proofs.Onward.{used-is}
use Rattle.node_core.specs.Jobs.{JobState, IsJob, task_out}
use Rattle.node_core.specs.Nodes.{NodeState}
use Rattle.node_core.proofs.Telling.{receiving-unopened}

-- ---- what is out on a connection

job-task : (k : Conn) (s : Seat) → option_map (λ (p : Placed). task_of k p.piece) (job_out s) ≡ cond (has_job s) (option_map (task_of k) (job s)) None
job-task k s = by-test (has_job s) (job s)
  where
    by-test : (b : Bool) (o : Option Piece)
        → option_map (λ (p : Placed). task_of k p.piece) (cond b (option_map (λ (p : Piece). record { place = s.taken; piece = p }) o) None)
        ≡ cond b (option_map (task_of k) o) None
    by-test true (Some p) = refl
    by-test true None = refl
    by-test false o = refl

same-task : (c : ℕ) (past : List Step) (v : Seated) → SeatOf c past v → (o : Option Placed)
    → option_map (task_in v) o ≡ option_map (λ (p : Placed). task_of (seat c past).conn p.piece) o
same-task c past v h None = refl
same-task c past v h (Some p) = ap (λ (t : Task). Some t) (marked-task (marks_at c past) (seat c past).conn (connection_of v) p.piece h.shows.conn)

-- what the piece that is out needs
pub task-out : (c : ℕ) (past : List Step) (v : Seated) → SeatOf c past v → task_out c past ≡ task_out_of v
task-out c past v h =
    sym (same-task c past v h v.job
    ∙ ap (option_map (λ (p : Placed). task_of (seat c past).conn p.piece)) h.shows.job ∙ job-task (seat c past).conn (seat c past))

-- its place is that of the last one that was taken
pub place-out : (c : ℕ) (past : List Step) (v : Seated) (p : Placed) → SeatOf c past v → v.job ≡ Some p → p.place ≡ (seat c past).taken
place-out c past v p h e = by-test (has_job (seat c past)) (job (seat c past)) (sym h.shows.job ∙ e)
  where
    by-test : (b : Bool) (o : Option Piece) → cond b (option_map (λ (q : Piece). record { place = (seat c past).taken; piece = q }) o) None ≡ Some p
        → p.place ≡ (seat c past).taken
    by-test true (Some q) f = let g : record { place = (seat c past).taken; piece = q } ≡ p = cc (f) in sym (ap (λ (x : Placed). x.place) g)
    by-test true None f = absurd cc
    by-test false o f = absurd cc

-- ---- what a take takes

-- the piece that comes first is out behind a take
pub record Taken (v : Seated) (p : Placed) : Type 0 where
  pub job : (with_taken v).job ≡ Some p
  pub user : (with_taken v).user ≡ v.user
  pub subs : (with_taken v).subs ≡ v.subs
  pub errand : errand_in (Some v) ≡ Some (errand_of v p)

pub takes-first : (v : Seated) → may_take_now v ≡ true → (p : Placed) × Taken v p
takes-first v may = by-list v.waiting refl
  where
    with-list : (p : Placed) (ps : List Placed) → v.waiting ≡ p ∷ ps → with_taken v ≡ with_first (p ∷ ps) v
    with-list p ps e = ap (λ (b : Bool). cond b (with_first v.waiting v) v) may ∙ ap (λ (qs : List Placed). with_first qs v) e

    empty : (j o : Bool) (qs : List Placed) → qs ≡ [] → (not j && (not o && not (is_empty qs))) ≡ true → ⊥
    empty true o qs e f = cc
    empty false true qs e f = cc
    empty false false qs e f = let g = rw e at f in cc

    by-list : (qs : List Placed) → v.waiting ≡ qs → (p : Placed) × Taken v p
    by-list [] e = absurd (empty (is_some v.job) v.over v.waiting e may)
    by-list (p ∷ ps) e = (
      p,
      record {
        job = ap (λ (x : Seated). x.job) (with-list p ps e);
        user = ap (λ (x : Seated). x.user) (with-list p ps e);
        subs = ap (λ (x : Seated). x.subs) (with-list p ps e);
        errand =
            ap (λ (b : Bool). cond b (option_map (errand_of v) (first_of v.waiting)) None) may
            ∙ ap (λ (qs : List Placed). option_map (errand_of v) (first_of qs)) e;
      },
    )

takes-nothing : (v : Seated) → may_take_now v ≡ false → errand_in (Some v) ≡ None
takes-nothing v may = ap (λ (b : Bool). cond b (option_map (errand_of v) (first_of v.waiting)) None) may

pub errand-if : (v : Seated) → is_some (errand_in (Some v)) ≡ may_take_now v
errand-if v = by-test (may_take_now v) refl
  where
    by-test : (b : Bool) → may_take_now v ≡ b → is_some (errand_in (Some v)) ≡ may_take_now v
    by-test true e = let t = takes-first v e in ap is_some t.1.errand ∙ sym e
    by-test false e = ap is_some (takes-nothing v e) ∙ sym e

take-unlive : (c : ℕ) (past : List Step) → is_live c past ≡ false → can_take c past ≡ false
take-unlive c past l = rw l refl

-- a worker would be told of a piece exactly where one can be taken
pub errand-is : (c : ℕ) (past : List Step) (v : Numbers) → AreWorked past → AreSeats past v → is_some (errand_at c v) ≡ can_take c past
errand-is c past v w a = by-kept (opened_at c v) refl (used-is past v c a)
  where
    by-kept : (o : Option Opened) → opened_at c v ≡ o → is_some o ≡ is_opened c past → is_some (errand_in (seat_in o)) ≡ can_take c past
    by-kept None at used = sym (take-unlive c past (receiving-unopened c past (sym used)))
    by-kept (Some (Opened.Live s)) at used =
        let h = a.each c (Opened.Live s) at in
        let pl = w c s.user h.0.user in
        errand-if s ∙ (answers pl.0 c past s pl.1 h.0).takes
    by-kept (Some Opened.Over) at used = sym (take-unlive c past (a.each c Opened.Over at).live)

-- where a worker would be told of a piece, one may be taken
pub errand-may : (c : ℕ) (v : Numbers) (e : Errand) → errand_at c v ≡ Some e → (s : Seated) → opened_at c v ≡ Some (Opened.Live s) → may_take_now s ≡ true
errand-may c v e is s at =
    let f : errand_in (Some s) ≡ Some e = sym (ap (λ (o : Option Opened). errand_in (seat_in o)) at) ∙ is in
    sym (errand-if s) ∙ ap is_some f

-- the piece that was taken is the job that is out, as its worker is told
pub record IsOut (c : ℕ) (past : List Step) (e : Errand) : Type 0 where
  pub place_is : e.place ≡ (seat c past).taken
  pub user_is : user_of c past ≡ Some e.user
  pub task_is : task_out c past ≡ Some e.task

pub takes-job : (c : ℕ) (past : List Step) (v new : Numbers) (e : Errand) → AreWorked past → AreSeats past v → errand_at c v ≡ Some e
    → Moves c (Lives (λ s t. Becomes (with_taken s) t)) v new → IsOut c (Step.Take c ∷ past) e
takes-job c past v new e w a is m =
    let l = live (λ s t. Becomes (with_taken s) t) c v new m in
    let s = l.old_seat in
    let out = l.new_seat in
    let first = takes-first s (errand-may c v e is s l.found) in
    let p = first.0 in
    let there : opened_at c new ≡ Some (Opened.Live out) = ap (opened_at c) l.now ∙ found-there c (Opened.Live out) (Opened.Live s) v l.found in
    let h = ((takes c past v new w a m (errand-may c v e is)).each c (Opened.Live out) there).0 in
    let job_is : out.job ≡ Some p = ap (λ (x : Seated). x.job) l.moved_by.now ∙ first.1.job in
    let subs_is : out.subs ≡ s.subs = ap (λ (x : Seated). x.subs) l.moved_by.now ∙ first.1.subs in
    let told : Some (errand_of s p) ≡ Some e = sym first.1.errand ∙ (sym (ap (λ (o : Option Opened). errand_in (seat_in o)) l.found) ∙ is) in
    let same : errand_of s p ≡ e = cc told in
    record {
      place_is = ap (λ (x : Errand). x.place) (sym same) ∙ place-out c (Step.Take c ∷ past) out p h job_is;
      user_is = h.user ∙ ap (λ (u : List ℕ). Some u) (ap (λ (x : Seated). x.user) l.moved_by.now ∙ first.1.user ∙ ap (λ (x : Errand). x.user) same);
      task_is = task-out c (Step.Take c ∷ past) out h
          ∙ (ap (option_map (task_in out)) job_is
          ∙ (ap (λ ss. Some (task_of (bare ss) p.piece)) subs_is ∙ ap (λ (x : Errand). Some x.task) same));
    }

pub job-is : (n : NodeState) (conn : ConnNo) (before : List Step) (e : Errand) → IsOut conn.0 (Step.Take conn.0 ∷ before) e
    → past_of n.kept ≡ Step.Take conn.0 ∷ before
    → IsJob (record { node = n.no; conn = conn; place = e.place; user = e.user; task = e.task }) n
job-is n conn before e o now =
    record {
      node = refl;
      place = o.place_is ∙ ap (λ (p : List Step). (seat conn.0 p).taken) (sym now);
      user = ap (user_of conn.0) now ∙ o.user_is;
      task = ap (task_out conn.0) now ∙ o.task_is;
    }

pub given-back : (n : NodeState) (conn : ConnNo) (before : List Step) (e : Errand) (j : JobState) → IsOut conn.0 (Step.Take conn.0 ∷ before) e
    → past_of n.kept ≡ Step.Take conn.0 ∷ before
    → Some (record { node = n.no; conn = conn; place = e.place; user = e.user; task = e.task }) ≡ Some j → (j.conn ≡ conn) × IsJob j n
given-back n conn before e j o now is =
    let same : record { node = n.no; conn = conn; place = e.place; user = e.user; task = e.task } ≡ j = cc (is) in
    subst (λ (x : JobState). (x.conn ≡ conn) × IsJob x n) same (refl, job-is n conn before e o now)
