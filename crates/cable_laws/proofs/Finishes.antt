-- What a Finish of a history finds: its job is out, and its plan is that of the job's piece.
use Rattle.std.proofs.Common.{ℕ, ◌≡◌, ◌==◌, Bool, true, false, List, [], ◌∷◌, ◌++◌, Some, None, Option, refl, ap, subst, arith, is_some, find}
use Rattle.std.specs.List.{list_any}
use Rattle.std.proofs.lemmas.Bool.Decides.{nat_tests}
use Rattle.cable_model.specs.declared.events.Event.{Event}
use Rattle.cable_model.specs.declared.pieces.Piece.{Piece}
use Rattle.cable_model.specs.declared.plans.Plan.{Plan}
use Rattle.cable_model.specs.Steps.{Step}
use Rattle.cable_model.specs.Connection.{Sub, Conn, Planner, name_in}
use Rattle.cable_model.specs.Wants.{user_of}
use Rattle.cable_model.specs.Pieces.{seat}
use Rattle.cable_model.specs.Plans.{Callbacks, plan_of, sub_numbered}
use Rattle.cable_model.specs.Possible.{has_job, job_plan}
use Rattle.cable_model.specs.Window.{job}
use Rattle.cable_model.specs.Promise.{AllWorked}
use Rattle.cable_model.specs.History.{Rules, start}
use Rattle.cable_model.specs.HistoryLaws.{planner_of}
use Rattle.cable_model.specs.Journal.{node_journal}
use Rattle.cable_model.proofs.NodeSound.{plans-for}
use Rattle.cable_model.proofs.Sound.{start-sound, run-sound}
use Rattle.cable_laws.specs.Said.{FinishIn, HistoryWorked, StandsUnder}
use Rattle.cable_laws.proofs.Growing.{AllPlanned, run-planned}
use Rattle.cable_laws.proofs.Sequencing.{in_sequence, inbox_kept}

-- ---- pieces

pub node-worked : (r : Rules) (events : List Event) (n c : ℕ) → AllWorked (planner_of r.callbacks (user_of c (node_journal r events n))) c (node_journal r events n)
node-worked r events n c =
    let user = user_of c (node_journal r events n) in ((run-sound r start events (start-sound r)).nodes n).worked c (planner_of r.callbacks user) (plans-for r.callbacks user)

pub history-worked : (r : Rules) (events : List Event) → HistoryWorked r events
history-worked r events n c =
    let past = node_journal r events n in
    let pl = planner_of r.callbacks (user_of c past) in
    let works = node-worked r events n c in
    (works, in_sequence pl c past works, inbox_kept pl c past works)

-- ---- at a Finish

earlier-planned : (r : Callbacks) (after past : List Step) → AllPlanned r (after ++ past) → AllPlanned r past
earlier-planned r [] past a = a
earlier-planned r (e ∷ after) past a = earlier-planned r after past a.1

pub earlier-worked : (pl : Planner) (c : ℕ) (after past : List Step) → AllWorked pl c (after ++ past) → AllWorked pl c past
earlier-worked pl c [] past a = a
earlier-worked pl c (e ∷ after) past a = earlier-worked pl c after past a.1

-- a Finish that stands in a journal stands in it with one entry more
abbrev pub finish-later : (c : ℕ) (e : Step) (past : List Step) → FinishIn c past → FinishIn c (e ∷ past)
finish-later c e past f = record { after = e ∷ f.after; puts = f.puts; plan = f.plan; past = f.past; splits = ap (λ z. e ∷ z) f.splits }

-- a Finish of c with this plan may stand behind this past
pub record Finishes (r : Callbacks) (c : ℕ) (plan : Plan) (past : List Step) : Type 0 where
  pub pl : Planner
  pub works : AllWorked pl c past
  pub out : has_job (seat c past) ≡ true
  pub planned : job_plan r c past ≡ Some plan
  pub plans : AllPlanned r past

pub history-finishes : (r : Rules) (events : List Event) (n c : ℕ) (f : FinishIn c (node_journal r events n)) → Finishes r.callbacks c f.plan f.past
history-finishes r events n c f =
    let here : List Step = Step.Finish c f.puts f.plan ∷ f.past in
    let pl = planner_of r.callbacks (user_of c (node_journal r events n)) in
    let works : AllWorked pl c here = earlier-worked pl c f.after here (subst (AllWorked pl c) f.splits (node-worked r events n c)) in
    let planned : AllPlanned r.callbacks here = earlier-planned r.callbacks f.after here (subst (AllPlanned r.callbacks) f.splits (run-planned r start events n tt)) in
    record { pl = pl; works = works.1; out = (works.0 refl).0; planned = planned.0; plans = planned.1 }

-- the plan of a job is that of its piece
pub job-planned : (r : Callbacks) (c : ℕ) (past : List Step) (plan : Plan) → job_plan r c past ≡ Some plan → (user : List ℕ) × (p : Piece) × (job (seat c past) ≡ Some p) × (plan_of r user (seat c past).conn p ≡ plan)
job-planned r c past plan e = go (has_job (seat c past)) refl (user_of c past) refl (job (seat c past)) refl
  where
    go : (b : Bool) → has_job (seat c past) ≡ b → (o : Option (List ℕ)) → user_of c past ≡ o → (j : Option Piece) → job (seat c past) ≡ j
        → (user : List ℕ) × (p : Piece) × (job (seat c past) ≡ Some p) × (plan_of r user (seat c past).conn p ≡ plan)
    go false b o o' j j' = let e' = rw b at e in absurd (cc (e'))
    go true b None o j j' = let e' = rw (b, o) at e in absurd (cc (e'))
    go true b (Some user) o None j = let e' = rw (b, o, j) at e in absurd (cc (e'))
    go true b (Some user) o (Some p) j = let e' = rw (b, o, j) at e in (user, p, j, cc (e'))

pub plan-of-job : (r : Callbacks) (c : ℕ) (past : List Step) (plan : Plan) (p : Piece) → job_plan r c past ≡ Some plan → job (seat c past) ≡ Some p
    → (user : List ℕ) × (plan_of r user (seat c past).conn p ≡ plan)
plan-of-job r c past plan p e j =
    let x = job-planned r c past plan e in
    let is = x.2 in
    let same : x.1 ≡ p = cc (is, j) in
    (x.0, subst (λ q. plan_of r x.0 (seat c past).conn q ≡ plan) same x.3)

-- ---- the subscription of a piece

-- one of whose wants one stands is found
pub want-found : (s w : ℕ) (xs : List Sub) → is_some (name_in s w xs) ≡ true → (x : Sub) × (find (λ (y : Sub). y.number == s) xs ≡ Some x)
want-found s w [] h = absurd (cc (h))
want-found s w (x ∷ xs) h = go (x.number == s) refl (want-found s w xs)
  where
    go : (b : Bool) → (x.number == s) ≡ b → (is_some (name_in s w xs) ≡ true → (y : Sub) × (find (λ (z : Sub). z.number == s) xs ≡ Some y)) → (y : Sub) × (find (λ (z : Sub). z.number == s) (x ∷ xs) ≡ Some y)
    go true b ih = (x, rw b refl)
    go false b ih = let h' = rw b at h in let r = ih h' in (r.0, rw b r.1)

-- and so is one that stands
pub sub-found : (s : ℕ) (xs : List Sub) → list_any (λ (x : Sub). x.number == s) xs ≡ true → (x : Sub) × (find (λ (y : Sub). y.number == s) xs ≡ Some x)
sub-found s [] h = absurd (cc (h))
sub-found s (x ∷ xs) h = go (x.number == s) refl (sub-found s xs)
  where
    go : (b : Bool) → (x.number == s) ≡ b → (list_any (λ (y : Sub). y.number == s) xs ≡ true → (y : Sub) × (find (λ (z : Sub). z.number == s) xs ≡ Some y)) → (y : Sub) × (find (λ (z : Sub). z.number == s) (x ∷ xs) ≡ Some y)
    go true b ih = (x, rw b refl)
    go false b ih = let h' = rw b at h in let r = ih h' in (r.0, rw b r.1)

-- one that is found stands under its identifier
pub found-stands : (s : ℕ) (k : Conn) (x : Sub) → sub_numbered s k ≡ Some x → StandsUnder s x.identifier k
found-stands s k x e =
    let r = split k.subs e in record { before = r.0; sub = x; after = r.1; among = r.2; numbered = r.3; identified = refl }
  where
    split : (xs : List Sub) → find (λ (y : Sub). y.number == s) xs ≡ Some x → (before : List Sub) × (after : List Sub) × (xs ≡ before ++ x ∷ after) × (x.number ≡ s)
    split [] q = absurd (cc (q))
    split (y ∷ ys) q = go (y.number == s) refl (split ys)
      where
        go : (b : Bool) → (y.number == s) ≡ b → (find (λ (z : Sub). z.number == s) ys ≡ Some x → (before : List Sub) × (after : List Sub) × (ys ≡ before ++ x ∷ after) × (x.number ≡ s))
            → (before : List Sub) × (after : List Sub) × (y ∷ ys ≡ before ++ x ∷ after) × (x.number ≡ s)
        go true b ih =
            let q' = rw b at q in
            let same : y ≡ x = cc (q') in
            let number : y.number ≡ s = grind (arith, nat_tests) in
            ([], ys, ap (λ z. z ∷ ys) same, subst (λ z. z.number ≡ s) same number)
        go false b ih = let q' = rw b at q in let r = ih q' in (y ∷ r.0, r.1, ap (λ zs. y ∷ zs) r.2, r.3)
