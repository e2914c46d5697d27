-- What a connection on its node stands for goes on with each of its entries.
use Rattle.std.proofs.Common.{ℕ, ◌≡◌, ◌==◌, Bool, true, false, cond, List, [], ◌∷◌, Option, Some, None, refl, ap, sym, subst, ◌∙◌, arith, is_some}
use Rattle.std.proofs.lemmas.Bool.Decides.{nat_tests}
use Rattle.cable_base.specs.declared.numbers.RowId.{RowId}
use Rattle.cable_base.specs.declared.rows.Row.{Row}
use Rattle.cable_json.specs.Commands.{command_of}
use Rattle.cable_model.specs.declared.pieces.Piece.{Piece}
use Rattle.cable_model.specs.declared.pieces.Piece.TheVariants as piece
use Rattle.cable_model.specs.declared.plans.Plan.{Plan}
use Rattle.cable_model.specs.declared.plans.Change.TheVariants as change
use Rattle.cable_model.specs.Steps.{Step}
use Rattle.cable_model.specs.Connection.{Planner, still}
use Rattle.cable_model.specs.Plans.{Callbacks, plan_of}
use Rattle.cable_model.specs.Wants.{marks, mark_of}
use Rattle.cable_model.specs.Pieces.{Placed, Seat, seat, closing, with_put, with_job, with_plan}
use Rattle.cable_model.specs.Possible.{has_job, is_empty, job_plan}
use Rattle.cable_model.specs.Window.{finished}
use Rattle.cable_model.specs.Promise.{AllWorked}
use Rattle.cable_model.proofs.Inbox.{known}
use Rattle.cable_model.proofs.Jobs.{job-piece}
use Rattle.cable_model.proofs.Marks.{marked-made, made-conn}
use Rattle.cable_model.proofs.Stored.{has-plan}
use Rattle.cable_model.proofs.Working.{WorkingAt, working}
use Rattle.conn_core.specs.Marked.{UnmarkedAbove}
use Rattle.conn_seat.specs.Seats.{Seated, Becomes, with_piece, with_first, with_taken, may_take_now, with_change, CanFinish}
use Rattle.conn_seat.specs.Seated.{SeatOf, Shows, job_out, marks_at}
use Rattle.conn_seat.proofs.Ending.{AtEnd, closes-only, closes-last, at-end, closing-among}
use Rattle.conn_seat.proofs.Showing.{shows-room, shows-put, shows-take, shows-finish, out-is}

pub sits-room : (c : ℕ) (past : List Step) (v new : Seated) → Becomes v new → SeatOf c past v → SeatOf c past new
sits-room c past v new b h = record { user = h.user ∙ ap Some (sym (ap (λ (x : Seated). x.user) b.now)); shows = shows-room (marks_at c past) (seat c past) v new b h.shows }

self : (c : ℕ) → (c == c) ≡ true
self c = grind (arith, nat_tests)

-- ---- puts

pub piece-user : (p : Piece) (v : Seated) → (with_piece p v).user ≡ v.user
piece-user p v = go v.closing refl
  where
    go : (b : Bool) → v.closing ≡ b → (with_piece p v).user ≡ v.user
    go true b = rw b refl
    go false b = rw b refl

put-shown : (pl : Planner) (c : ℕ) (past : List Step) (v : Seated) (p : Piece) → AllWorked pl c past → still (seat c past).conn p ≡ true → SeatOf c past v → Shows (marks_at c past) (with_put (seat c past) p) (with_piece p v)
put-shown pl c past v p a t h = shows-put pl (marks_at c past) (seat c past) (λ sub want. finished c sub want past) v p (working pl c past a) t h.shows

pub sits-text : (pl : Planner) (c : ℕ) (text : List ℕ) (past : List Step) (v new : Seated) → AllWorked pl c past → SeatOf c past v → Becomes (with_piece (piece.Cmd (command_of text)) v) new → SeatOf c (Step.In c text ∷ past) new
sits-text pl c text past v new a h b =
    let p = piece.Cmd (command_of text) in
    let now : seat c (Step.In c text ∷ past) ≡ with_put (seat c past) p = ap (λ x. cond x (with_put (seat c past) p) (seat c past)) (self c) in
    sits-room c (Step.In c text ∷ past) (with_piece p v) new b
    (record { user = h.user ∙ ap Some (sym (piece-user p v)); shows = subst (λ s. Shows (marks_at c past) s (with_piece p v)) (sym now) (put-shown pl c past v p a refl h) })

pub sits-gone : (pl : Planner) (c : ℕ) (past : List Step) (v new : Seated) → AllWorked pl c past → SeatOf c past v → Becomes (with_piece piece.Gone v) new → SeatOf c (Step.Drop c ∷ past) new
sits-gone pl c past v new a h b =
    let now : seat c (Step.Drop c ∷ past) ≡ with_put (seat c past) piece.Gone = ap (λ x. cond x (with_put (seat c past) piece.Gone) (seat c past)) (self c) in
    sits-room c (Step.Drop c ∷ past) (with_piece piece.Gone v) new b
    (record { user = h.user ∙ ap Some (sym (piece-user piece.Gone v)); shows = subst (λ s. Shows (marks_at c past) s (with_piece piece.Gone v)) (sym now) (put-shown pl c past v piece.Gone a refl h) })

pub sits-restart : (pl : Planner) (c : ℕ) (past : List Step) (v new : Seated) → AllWorked pl c past → SeatOf c past v → Becomes (with_piece piece.Restart v) new → SeatOf c (Step.Stop ∷ past) new
sits-restart pl c past v new a h b =
    let now : seat c (Step.Stop ∷ past) ≡ with_put (seat c past) piece.Restart = ap (λ o. cond (is_some o) (with_put (seat c past) piece.Restart) (seat c past)) h.user in
    sits-room c (Step.Stop ∷ past) (with_piece piece.Restart v) new b
    (record { user = h.user ∙ ap Some (sym (piece-user piece.Restart v)); shows = subst (λ s. Shows (marks_at c past) s (with_piece piece.Restart v)) (sym now) (put-shown pl c past v piece.Restart a refl h) })

-- ---- the job

-- the piece that is out is shown, and where none is out there is none
pub busy-is : (pl : Planner) (c : ℕ) (past : List Step) (v : Seated) → AllWorked pl c past → SeatOf c past v → is_some v.job ≡ has_job (seat c past)
busy-is pl c past v a h = ap is_some h.shows.job ∙ go (has_job (seat c past)) refl
  where
    s : Seat
    s = seat c past

    go : (b : Bool) → has_job s ≡ b → is_some (job_out s) ≡ has_job s
    go true b = ap is_some (out-is s (job-piece pl s (λ sub want. finished c sub want past) (working pl c past a) b) b) ∙ sym b
    go false b = rw b refl

first-user : (ps : List Placed) (v : Seated) → (with_first ps v).user ≡ v.user
first-user [] v = refl
first-user (p ∷ ps) v = refl

record Takes (v : Seated) : Type 0 where
  job : is_some v.job ≡ false
  over : v.over ≡ false
  some : is_empty v.waiting ≡ false

takes-parts : (v : Seated) → may_take_now v ≡ true → Takes v
takes-parts v t = go (is_some v.job) refl v.over refl (is_empty v.waiting) refl
  where
    go : (x : Bool) → is_some v.job ≡ x → (y : Bool) → v.over ≡ y → (z : Bool) → is_empty v.waiting ≡ z → Takes v
    go true x y y' z z' = let t' = rw x at t in absurd (cc (t'))
    go false x true y z z' = let t' = rw (x, y) at t in absurd (cc (t'))
    go false x false y true z = let t' = rw (x, y, z) at t in absurd (cc (t'))
    go false x false y false z = record { job = x; over = y; some = z }

pub sits-take : (pl : Planner) (c : ℕ) (past : List Step) (v new : Seated) → AllWorked pl c past → SeatOf c past v → may_take_now v ≡ true → Becomes (with_taken v) new → SeatOf c (Step.Take c ∷ past) new
sits-take pl c past v new a h t b = go v.waiting refl
  where
    s : Seat
    s = seat c past

    parts : Takes v
    parts = takes-parts v t

    now : seat c (Step.Take c ∷ past) ≡ with_job s
    now = ap (λ x. cond x (with_job s) s) (self c)

    go : (ps : List Placed) → v.waiting ≡ ps → SeatOf c (Step.Take c ∷ past) new
    go [] e = let some = parts.some in let none = ap is_empty e in absurd (cc (some, none))
    go (p ∷ ps) e =
        let taken : with_taken v ≡ with_first (p ∷ ps) v = ap (λ x. cond x (with_first v.waiting v) v) t ∙ ap (λ qs. with_first qs v) e in
        let free : has_job s ≡ false = sym (busy-is pl c past v a h) ∙ parts.job in
        let shown = shows-take pl (marks_at c past) s (λ sub want. finished c sub want past) v p ps (working pl c past a) free (sym h.shows.waiting ∙ e) h.shows in
        sits-room c (Step.Take c ∷ past) (with_first (p ∷ ps) v) new (subst (λ x. Becomes x new) taken b) (record { user = h.user; shows = subst (λ x. Shows (marks_at c past) x (with_first (p ∷ ps) v)) (sym now) shown })

pub unmarked : (c : ℕ) (past : List Step) → UnmarkedAbove (seat c past).conn.made (marks_at c past)
unmarked c past w l = go (mark_of w (marks c past)) refl
  where
    go : (o : Option ℕ) → mark_of w (marks c past) ≡ o → mark_of w (marks c past) ≡ None
    go None e = e
    go (Some m) e = let most = marked-made c w m past e in let made = made-conn c past in absurd (omega (arith, most, made, l))

pub sits-finish : (pl : Planner) (r : Callbacks) (c : ℕ) (puts : List (Option RowId)) (plan : Plan) (past : List Step) (v new : Seated) → AllWorked pl c past → job_plan r c past ≡ Some plan → SeatOf c past v → CanFinish plan.change v
    → Becomes (with_change plan.change v) new → SeatOf c (Step.Finish c puts plan ∷ past) new
sits-finish pl r c puts plan past v new a p h f b =
    let s = seat c past in
    let rows : (sub want : ℕ) → List Row = λ sub want. finished c sub want past in
    let w : WorkingAt pl c past = working pl c past a in
    let has = has-plan r c past plan p in
    let j = job-piece pl s rows w has.out in
    let same : j.piece ≡ has.taken = let ji = j.is in let hi = has.job_is in cc (ji, hi) in
    let now : seat c (Step.Finish c puts plan ∷ past) ≡ with_plan s plan = ap (λ x. cond x (with_plan s plan) s) (self c) in
    let end : plan.change ≡ change.Close → AtEnd s = λ e. at-end s j has.out (closes-last c past) (closes-only r has.user s.conn j.piece (ap (λ x. (plan_of r has.user s.conn x).change) same ∙ (sym (ap (λ (x : Plan). x.change) has.plan_is) ∙ e))) in
    let shown = shows-finish pl (marks_at c past) s rows v plan w (known pl c past a) has.out end (unmarked c past) f h.shows in
    sits-room c (Step.Finish c puts plan ∷ past) (with_change plan.change v) new b (record { user = h.user; shows = subst (λ x. Shows (marks_at c past) x (with_change plan.change v)) (sym now) shown })

-- only the plan of a closing piece closes
pub sits-closing : (pl : Planner) (r : Callbacks) (c : ℕ) (plan : Plan) (past : List Step) (v : Seated) → AllWorked pl c past → job_plan r c past ≡ Some plan → SeatOf c past v → plan.change ≡ change.Close → v.closing ≡ true
sits-closing pl r c plan past v a p h e =
    let s = seat c past in
    let has = has-plan r c past plan p in
    let j = job-piece pl s (λ sub want. finished c sub want past) (working pl c past a) has.out in
    let same : j.piece ≡ has.taken = let ji = j.is in let hi = has.job_is in cc (ji, hi) in
    let closes = closes-only r has.user s.conn j.piece (ap (λ x. (plan_of r has.user s.conn x).change) same ∙ (sym (ap (λ (x : Plan). x.change) has.plan_is) ∙ e)) in
    h.shows.closing ∙ (ap closing j.among ∙ closing-among j.before j.piece j.behind closes)
