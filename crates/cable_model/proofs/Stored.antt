-- A legal journal is worked by its own stored plans.
use Rattle.std.proofs.Common.{ℕ, ◌≡◌, ◌<◌, ◌≤◌, ◌==◌, Bool, true, false, cond, ◌&&◌, List, [], ◌∷◌, Some, None, Option, refl, ap, sym, subst, ◌∙◌, arith, not}
use Rattle.std.specs.Prelude.{Result}
use Rattle.std.proofs.lemmas.Bool.Decides.{nat_tests}
use Rattle.cable_json.specs.declared.commands.Command.{Command}
use Rattle.cable_json.specs.declared.commands.CommandFault.{CommandFault}
use Rattle.cable_model.specs.declared.pieces.Piece.{Piece}
use Rattle.cable_model.specs.declared.pieces.Piece.TheVariants as piece
use Rattle.cable_model.specs.declared.plans.Plan.{Plan}
use Rattle.cable_model.specs.Steps.{Step}
use Rattle.cable_model.specs.Connection.{Conn, Planner, change_of}
use Rattle.cable_model.specs.Plans.{Callbacks, plan_of, plan_for, planner, sub_numbered, row_task, confirm_task}
use Rattle.cable_model.specs.Wants.{user_of}
use Rattle.cable_model.specs.Pieces.{Seat, seat, waiting, with_plan}
use Rattle.cable_model.specs.Window.{job}
use Rattle.cable_model.specs.Possible.{is_live, has_job, is_empty, job_plan}
use Rattle.cable_model.specs.Legal.{LegalStep, Legal, stored_plans}
use Rattle.cable_model.specs.Promise.{AllWorked}
use Rattle.cable_model.proofs.Entries.{finishes, unfinished}

-- what a plan changes is what the planner says of its piece
pub plan-change : (r : Callbacks) (user : List ℕ) (place : ℕ) (k : Conn) (p : Piece) → (plan_of r user k p).change ≡ change_of (planner r user) place k p
plan-change r user place k (piece.Row sub want row) =
    elim (sub_numbered sub.0 k) as (λ o. (plan_for r user (row_task row.payload o)).change ≡ change_of (planner r user) place k (piece.Row sub want row)) [ None ↦ refl | Some s ↦ refl ]
plan-change r user place k (piece.Confirm sub) =
    elim (sub_numbered sub.0 k) as (λ o. (plan_for r user (confirm_task o)).change ≡ change_of (planner r user) place k (piece.Confirm sub)) [ None ↦ refl | Some s ↦ refl ]
plan-change r user place k _ = refl

-- what stands where a job has a plan
pub record HasPlan (r : Callbacks) (c : ℕ) (past : List Step) (plan : Plan) : Type 0 where
  pub out : has_job (seat c past) ≡ true
  pub user : List ℕ
  pub taken : Piece
  pub opened : user_of c past ≡ Some user
  pub job_is : job (seat c past) ≡ Some taken
  pub plan_is : plan ≡ plan_of r user (seat c past).conn taken

pub has-plan : (r : Callbacks) (c : ℕ) (past : List Step) (plan : Plan) → job_plan r c past ≡ Some plan → HasPlan r c past plan
has-plan r c past plan h = go (has_job (seat c past)) refl (user_of c past) refl (job (seat c past)) refl
  where
    go : (b : Bool) → has_job (seat c past) ≡ b → (u : Option (List ℕ)) → user_of c past ≡ u → (j : Option Piece) → job (seat c past) ≡ j → HasPlan r c past plan
    go false b u u' j j' = let h' = rw b at h in absurd (cc (h'))
    go true b None u j j' = let h' = rw (b, u) at h in absurd (cc (h'))
    go true b (Some user) u None j = let h' = rw (b, u, j) at h in absurd (cc (h'))
    go true b (Some user) u (Some p) j =
        let h' = rw (b, u, j) at h in
        record { out = b; user = user; taken = p; opened = u; job_is = j; plan_is = cc (h') }

-- two planners that agree at the places of the pieces that were finished
AgreeUpto : ℕ → Planner → Planner → Type 0
AgreeUpto n a b = (place : ℕ) → place ≤ n → (k : Conn) (read : Result Command CommandFault) → b place k read ≡ a place k read

change-agrees : (a b : Planner) (place : ℕ) (k : Conn) (p : Piece) → ((read : Result Command CommandFault) → b place k read ≡ a place k read) → change_of b place k p ≡ change_of a place k p
change-agrees a b place k (piece.Cmd read) h = h read
change-agrees a b place k _ h = refl

done-finished : (b : Bool) (st : Seat) (plan : Plan) → (cond b (with_plan st plan) st).done ≡ cond b st.taken st.done
done-finished true st plan = refl
done-finished false st plan = refl

plainly : (c : ℕ) (a b : Planner) (e : Step) (past : List Step) → finishes e ≡ false → AgreeUpto (seat c (e ∷ past)).done a b → AgreeUpto (seat c past).done a b
unfolding AgreeUpto
plainly c a b e past h g place l = let s = (unfinished c e past h).done in g place (omega arith)

worked-agrees : (c : ℕ) (a b : Planner) (past : List Step) → AgreeUpto (seat c past).done a b → AllWorked a c past → AllWorked b c past
unfolding AgreeUpto
worked-agrees c a b [] g h = tt
worked-agrees c a b (Step.Finish d puts plan ∷ past) g h = (here, worked-agrees c a b past (before (d == c) refl) h.1)
  where
    done : (seat c (Step.Finish d puts plan ∷ past)).done ≡ cond (d == c) (seat c past).taken (seat c past).done
    done = done-finished (d == c) (seat c past) plan

    here : d ≡ c → (has_job (seat c past) ≡ true) × ((p : Piece) → job (seat c past) ≡ Some p → plan.change ≡ change_of b (seat c past).taken (seat c past).conn p)
    here e =
        let x = h.0 e in
        let t : (d == c) ≡ true = grind (arith, nat_tests) in
        let at : (seat c (Step.Finish d puts plan ∷ past)).done ≡ (seat c past).taken = done-finished (d == c) (seat c past) plan ∙ ap (λ y. cond y (seat c past).taken (seat c past).done) t in
        (x.0, λ p j. x.1 p j ∙ sym (change-agrees a b (seat c past).taken (seat c past).conn p (λ read. g (seat c past).taken (omega arith) (seat c past).conn read)))

    before : (t : Bool) → (d == c) ≡ t → AgreeUpto (seat c past).done a b
    before true t place l k read =
        let x = (h.0 (grind (arith, nat_tests))).0 in
        let y : (seat c past).done < (seat c past).taken = grind (arith, nat_tests) in
        let at : (seat c (Step.Finish d puts plan ∷ past)).done ≡ (seat c past).taken = done-finished (d == c) (seat c past) plan ∙ ap (λ z. cond z (seat c past).taken (seat c past).done) t in
        g place (omega arith) k read
    before false t place l k read =
        let at : (seat c (Step.Finish d puts plan ∷ past)).done ≡ (seat c past).done = done-finished (d == c) (seat c past) plan ∙ ap (λ z. cond z (seat c past).taken (seat c past).done) t in
        g place (omega arith) k read
worked-agrees c a b (e ∷ past) g h = (h.0, worked-agrees c a b past (plainly c a b e past refl g) h.1)

-- ---- every legal journal

taken-legal : (c d : ℕ) (past : List Step) → LegalStep (Step.Take d) past → d ≡ c → (has_job (seat c past) ≡ false) × (is_empty (waiting (seat c past)) ≡ false)
taken-legal c d past h e =
    let h' : (is_live c past && not (has_job (seat c past)) && not (is_empty (waiting (seat c past)))) ≡ true = subst (λ x. (is_live x past && not (has_job (seat x past)) && not (is_empty (waiting (seat x past)))) ≡ true) e h in
    go (is_live c past) (has_job (seat c past)) refl (is_empty (waiting (seat c past))) refl h'
  where
    go : (l j : Bool) → has_job (seat c past) ≡ j → (w : Bool) → is_empty (waiting (seat c past)) ≡ w → (l && not j && not w) ≡ true → (has_job (seat c past) ≡ false) × (is_empty (waiting (seat c past)) ≡ false)
    go true false j false w t = (j, w)
    go true false j true w t = absurd (cc (t))
    go true true j w w' t = absurd (cc (t))
    go false j j' w w' t = absurd (cc (t))

pub stored-works : (c : ℕ) (past : List Step) → Legal past → AllWorked (stored_plans c past) c past
unfolding AgreeUpto
stored-works c [] h = tt
stored-works c (Step.Finish d puts plan ∷ past) h = (here, worked-agrees c (stored_plans c past) (stored_plans c (Step.Finish d puts plan ∷ past)) past (agree (d == c) refl) (stored-works c past h.1))
  where
    found : HasPlan h.0.0.callbacks d past plan
    found = has-plan h.0.0.callbacks d past plan h.0.0.planned

    agree : (t : Bool) → (d == c) ≡ t → AgreeUpto (seat c past).done (stored_plans c past) (stored_plans c (Step.Finish d puts plan ∷ past))
    agree true t place l k read =
        let e : d ≡ c = grind (arith, nat_tests) in
        let o : has_job (seat c past) ≡ true = subst (λ x. has_job (seat x past) ≡ true) e found.out in
        let n : ((seat c past).taken == place) ≡ false = grind (arith, nat_tests) in
        rw (t, n) refl
    agree false t place l k read = rw t refl

    here : d ≡ c → (has_job (seat c past) ≡ true) × ((p : Piece) → job (seat c past) ≡ Some p → plan.change ≡ change_of (stored_plans c (Step.Finish d puts plan ∷ past)) (seat c past).taken (seat c past).conn p)
    here e = (
      subst (λ x. has_job (seat x past) ≡ true) e found.out,
      λ p j.
          let j' : job (seat c past) ≡ Some found.taken = subst (λ x. job (seat x past) ≡ Some found.taken) e found.job_is in
          let same : found.taken ≡ p = cc (j', j) in
          let change : plan.change ≡ change_of (planner h.0.0.callbacks found.user) (seat c past).taken (seat d past).conn found.taken = ap (λ x. x.change) found.plan_is ∙ plan-change h.0.0.callbacks found.user (seat c past).taken (seat d past).conn found.taken in
          gives p (change ∙ ap (change_of (planner h.0.0.callbacks found.user) (seat c past).taken (seat d past).conn) same),
    )
      where
        t : (d == c) ≡ true
        t = grind (arith, nat_tests)

        s : ((seat c past).taken == (seat c past).taken) ≡ true
        s = grind (arith, nat_tests)

        gives : (p : Piece) → plan.change ≡ change_of (planner h.0.0.callbacks found.user) (seat c past).taken (seat d past).conn p
            → plan.change ≡ change_of (stored_plans c (Step.Finish d puts plan ∷ past)) (seat c past).taken (seat c past).conn p
        gives (piece.Cmd read) g = rw (t, s) refl
        gives _ g = g
stored-works c (Step.Take d ∷ past) h = (taken-legal c d past h.0, stored-works c past h.1)
stored-works c (_ ∷ past) h = (tt, stored-works c past h.1)
