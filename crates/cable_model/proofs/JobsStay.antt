-- The job of a connection stays as it is while entries come that aren't its own Take or Finish.
use Rattle.std.proofs.Common.{ℕ, ◌-◌, ◌≡◌, ◌==◌, Bool, true, false, cond, not, ◌&&◌, ◌||◌, List, [], ◌∷◌, ◌++◌, Some, None, Option, refl, ap, sym, subst, ◌∙◌, arith, is_some, ltb, slice_get, append_assoc}
use Rattle.std.specs.List.{list_any}
use Rattle.std.proofs.lemmas.Bool.Decides.{nat_tests}
use Rattle.cable_base.specs.declared.rows.Row.{Row}
use Rattle.cable_json.specs.Commands.{command_of}
use Rattle.cable_model.specs.declared.pieces.Piece.{Piece}
use Rattle.cable_model.specs.declared.pieces.Piece.TheVariants as piece
use Rattle.cable_model.specs.declared.plans.Plan.{Plan}
use Rattle.cable_model.specs.Limits.{most_connections}
use Rattle.cable_model.specs.Steps.{Step}
use Rattle.cable_model.specs.Connection.{Planner}
use Rattle.cable_model.specs.Plans.{Callbacks}
use Rattle.cable_model.specs.Wants.{Mark, user_of, marks, turn_mark}
use Rattle.cable_model.specs.Pieces.{closing, Seat, seat, with_put, with_all, with_job, with_plan, deliver_puts, rows_puts, unseated}
use Rattle.cable_model.specs.Window.{job, finished}
use Rattle.cable_model.specs.Possible.{has_job, planned, job_plan, opened, inserted, is_opened, is_live, is_receiving, is_booted, live_count, can_open}
use Rattle.cable_model.specs.Legal.{Legal}
use Rattle.cable_model.specs.Promise.{AllWorked}
use Rattle.cable_model.proofs.Entries.{only-puts}
use Rattle.cable_model.proofs.Working.{Working, working, get-split, put_all-more}
use Rattle.cable_model.proofs.Jobs.{job-piece}
use Rattle.cable_model.proofs.Stored.{HasPlan, has-plan}

-- ---- the piece that was taken

-- it stays the same where pieces are put
pub job-more : (pl : Planner) (s : Seat) (rows : (sub want : ℕ) → List Row) (qs : List Piece) → Working pl s rows → has_job s ≡ true → job (with_all s qs) ≡ job s
job-more pl s rows qs v h =
    let j = job-piece pl s rows v h in
    let x = put_all-more s.pieces qs in
    let grown : (with_all s qs).pieces ≡ j.before ++ j.piece ∷ (j.behind ++ x.0) = x.1 ∙ (ap (λ ps. ps ++ x.0) j.among ∙ append_assoc j.before (j.piece ∷ j.behind) x.0) in
    (ap (λ ps. slice_get ps (s.taken - 1)) grown ∙ get-split j.before j.piece (j.behind ++ x.0) (s.taken - 1) j.at)
    ∙ sym (ap (λ ps. slice_get ps (s.taken - 1)) j.among ∙ get-split j.before j.piece j.behind (s.taken - 1) j.at)

-- ---- its plan

-- the plan of a seat's job
abbrev pub plan_at : Callbacks → Option (List ℕ) → Seat → Option Plan
plan_at r user s = cond (has_job s) (planned r user s.conn (job s)) None

pub plan-more : (pl : Planner) (r : Callbacks) (user : Option (List ℕ)) (s : Seat) (rows : (sub want : ℕ) → List Row) (qs : List Piece) → Working pl s rows → plan_at r user (with_all s qs) ≡ plan_at r user s
plan-more pl r user s rows qs v = go (has_job s) refl
  where
    go : (b : Bool) → has_job s ≡ b → cond (has_job s) (planned r user s.conn (job (with_all s qs))) None ≡ cond (has_job s) (planned r user s.conn (job s)) None
    go true b = ap (λ j. cond (has_job s) (planned r user s.conn j) None) (job-more pl s rows qs v b)
    go false b = rw b refl

-- the entry is not an Open, a Take or a Finish of c
abbrev pub keeps_job : ℕ → Step → Bool
keeps_job c (Step.Open d token user) = not (d == c)
keeps_job c (Step.Take d) = not (d == c)
keeps_job c (Step.Finish d puts plan) = not (d == c)
keeps_job c _ = true

not-own : (b : Bool) → not b ≡ true → b ≡ false
not-own true h = sym h
not-own false h = refl

-- so the job and its plan stay
pub job-plan-stays : (pl : Planner) (r : Callbacks) (c : ℕ) (e : Step) (past : List Step) → AllWorked pl c past → keeps_job c e ≡ true → job_plan r c (e ∷ past) ≡ job_plan r c past
job-plan-stays pl r c (Step.Open d token user) past a h =
    ap (λ b. plan_at r (cond b user (user_of c past)) (seat c past)) (not-own (d == c) h)
job-plan-stays pl r c (Step.Take d) past a h = ap (λ b. plan_at r (user_of c past) (cond b (with_job (seat c past)) (seat c past))) (not-own (d == c) h)
job-plan-stays pl r c (Step.Finish d puts plan) past a h = ap (λ b. plan_at r (user_of c past) (cond b (with_plan (seat c past) plan) (seat c past))) (not-own (d == c) h)
job-plan-stays pl r c e past a h =
    let put = only-puts c e past refl in
    ap (plan_at r (user_of c past)) put.1 ∙ plan-more pl r (user_of c past) (seat c past) (λ s w. finished c s w past) put.0 (working pl c past a)

-- ---- a connection that was never opened

opened-inserted : (c d : ℕ) (ds : List ℕ) → list_any (λ x. x == c) (inserted d ds) ≡ ((d == c) || list_any (λ x. x == c) ds)
opened-inserted c d [] = refl
opened-inserted c d (e ∷ ds) = go (ltb e d) refl (opened-inserted c d ds)
  where
    swap : (a b x : Bool) → (a || (b || x)) ≡ (b || (a || x))
    swap true true x = refl
    swap true false x = refl
    swap false true x = refl
    swap false false x = refl

    go : (b : Bool) → ltb e d ≡ b → list_any (λ x. x == c) (inserted d ds) ≡ ((d == c) || list_any (λ x. x == c) ds)
        → list_any (λ x. x == c) (inserted d (e ∷ ds)) ≡ ((d == c) || list_any (λ x. x == c) (e ∷ ds))
    go true b ih = rw b (ap (λ x. (e == c) || x) ih ∙ swap (e == c) (d == c) (list_any (λ x. x == c) ds))
    go false b ih = rw b refl

-- what is known of an Open
pub opened-now : (c d : ℕ) (token : List ℕ) (user : Option (List ℕ)) (past : List Step) → is_opened c (Step.Open d token user ∷ past) ≡ ((d == c) || is_opened c past)
opened-now c d token user past = opened-inserted c d (opened past)

or-false : (a b : Bool) → (a || b) ≡ false → (a ≡ false) × (b ≡ false)
or-false false false h = (refl, refl)
or-false false true h = absurd (cc (h))
or-false true b h = absurd (cc (h))

-- it has no user
pub unopened-user : (c : ℕ) (past : List Step) → is_opened c past ≡ false → user_of c past ≡ None
unopened-user c [] h = refl
unopened-user c (Step.Open d token user ∷ past) h =
    let x = or-false (d == c) (is_opened c past) (sym (opened-now c d token user past) ∙ h) in
    ap (λ b. cond b user (user_of c past)) x.0 ∙ unopened-user c past x.1
unopened-user c (_ ∷ past) h = unopened-user c past h

not-live : (c : ℕ) (past : List Step) → user_of c past ≡ None → is_live c past ≡ false
not-live c past u = rw u refl

-- an entry of a connection that isn't live is no legal one
other-than : (c d : ℕ) (past : List Step) → user_of c past ≡ None → is_live d past ≡ true → (d == c) ≡ false
other-than c d past u l = go (d == c) refl
  where
    go : (b : Bool) → (d == c) ≡ b → (d == c) ≡ false
    go false b = b
    go true b =
        let e : d ≡ c = grind (arith, nat_tests) in
        let l' : is_live c past ≡ true = subst (λ x. is_live x past ≡ true) e l in
        absurd (cc (not-live c past u, l'))

and-first : (a b : Bool) → (a && b) ≡ true → a ≡ true
and-first true b h = refl
and-first false b h = absurd (cc (h))

-- an Open is one of a number that was not opened
pub new-number : (c : ℕ) (past : List Step) → can_open c past ≡ true → is_opened c past ≡ false
new-number c past h = go (is_booted past) (is_opened c past) refl h
  where
    go : (x o : Bool) → is_opened c past ≡ o → (x && not o && ltb (live_count past) most_connections) ≡ true → is_opened c past ≡ false
    go true false o h = o
    go true true o h = absurd (cc (h))
    go false o o' h = absurd (cc (h))

rows-none : (ms : List Mark) (rows : List Row) → rows_puts None ms [] rows ≡ []
rows-none ms [] = refl
rows-none ms (row ∷ rows) = rows-none ms rows

-- nothing was ever put on a connection without a user
pub userless-seat : (c : ℕ) (past : List Step) → Legal past → user_of c past ≡ None → seat c past ≡ unseated
userless-seat c [] l u = refl
userless-seat c (Step.Open d token user ∷ past) l u = userless-seat c past l.1 (before (d == c) refl)
  where
    before : (b : Bool) → (d == c) ≡ b → user_of c past ≡ None
    before true b =
        let e : d ≡ c = grind (arith, nat_tests) in
        unopened-user c past (new-number c past (subst (λ x. can_open x past ≡ true) e l.0))
    before false b = ap (λ x. cond x user (user_of c past)) (sym b) ∙ u
userless-seat c (Step.In d text ∷ past) l u =
    let live = and-first (is_live d past) (not (closing (seat d past).pieces)) (and-first (is_receiving d past) _ (and-first _ _ l.0)) in
    ap (λ b. cond b (with_put (seat c past) (piece.Cmd (command_of text))) (seat c past)) (other-than c d past u live) ∙ userless-seat c past l.1 u
userless-seat c (Step.Drop d ∷ past) l u =
    let live = and-first (is_live d past) _ l.0 in
    ap (λ b. cond b (with_put (seat c past) piece.Gone) (seat c past)) (other-than c d past u live) ∙ userless-seat c past l.1 u
userless-seat c (Step.Stop ∷ past) l u = ap (λ o. cond (is_some o) (with_put (seat c past) piece.Restart) (seat c past)) u ∙ userless-seat c past l.1 u
userless-seat c (Step.Take d ∷ past) l u =
    let live = and-first (is_live d past) _ (and-first _ _ l.0) in
    ap (λ b. cond b (with_job (seat c past)) (seat c past)) (other-than c d past u live) ∙ userless-seat c past l.1 u
userless-seat c (Step.Finish d puts plan ∷ past) l u = ap (λ b. cond b (with_plan (seat c past) plan) (seat c past)) other ∙ userless-seat c past l.1 u
  where
    found : HasPlan l.0.0.callbacks d past plan
    found = has-plan l.0.0.callbacks d past plan l.0.0.planned

    other : (d == c) ≡ false
    other = go (d == c) refl
      where
        go : (b : Bool) → (d == c) ≡ b → (d == c) ≡ false
        go false b = b
        go true b =
            let e : d ≡ c = grind (arith, nat_tests) in
            let o : user_of c past ≡ Some found.user = subst (λ x. user_of x past ≡ Some found.user) e found.opened in
            absurd (cc (u, o))
userless-seat c (Step.Deliver turn note ∷ past) l u =
    let s = userless-seat c past l.1 u in
    let none : with_all (seat c past) (deliver_puts (user_of c past) (marks c past) (turn_mark c note past) (seat c past).conn.subs note.rows) ≡ unseated =
    ap (λ o. with_all (seat c past) (deliver_puts o (marks c past) (turn_mark c note past) (seat c past).conn.subs note.rows)) u
    ∙ (ap (λ x. with_all x (deliver_puts None (marks c past) (turn_mark c note past) x.conn.subs note.rows)) s
    ∙ ap (with_all unseated) (ap (λ ps. ps ++ []) (rows-none (marks c past) note.rows))) in
    elim note.failed as (λ b. cond b (seat c past) (with_all (seat c past) (deliver_puts (user_of c past) (marks c past) (turn_mark c note past) (seat c past).conn.subs note.rows)) ≡ unseated) [ true ↦ s | false ↦ none ]
userless-seat c (_ ∷ past) l u = userless-seat c past l.1 u
