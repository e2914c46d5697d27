-- A connection that is over has no subscription and no job, and no entry of it is legal any more.
use Rattle.std.proofs.Common.{ℕ, ◌≡◌, ◌==◌, Bool, true, false, cond, not, ◌&&◌, ◌||◌, List, [], ◌∷◌, ◌++◌, Some, None, Option, refl, ap, subst, ◌∙◌, arith, is_some}
use Rattle.std.proofs.lemmas.Bool.Decides.{nat_tests}
use Rattle.cable_json.specs.Commands.{command_of}
use Rattle.cable_model.specs.declared.pieces.Piece.TheVariants as piece
use Rattle.cable_model.specs.declared.plans.Change.{Change}
use Rattle.cable_model.specs.declared.plans.Change.TheVariants as change
use Rattle.cable_model.specs.declared.plans.Plan.{Plan}
use Rattle.cable_model.specs.Steps.{Step}
use Rattle.cable_model.specs.Connection.{Conn, changed}
use Rattle.cable_model.specs.Journal.{is_of}
use Rattle.cable_model.specs.Legal.{Legal, LegalStep}
use Rattle.cable_model.specs.Plans.{Callbacks}
use Rattle.cable_model.specs.Wants.{marks, turn_mark, user_of}
use Rattle.cable_model.specs.Pieces.{Seat, deliver_puts, seat, with_all, with_job, with_plan, with_put}
use Rattle.cable_model.specs.Possible.{has_job, is_live, is_opened, job_plan}
use Rattle.cable_model.specs.History.{held_of}
use Rattle.cable_model.proofs.JobsStay.{new-number, opened-now, userless-seat}
use Rattle.cable_model.proofs.Stored.{has-plan}
use Rattle.journal_cuts.proofs.Legality.{both}

-- where it was closed, it has no subscription left and no job
abbrev pub Rests : Seat → Type 0
Rests s = s.conn.over ≡ true → (s.conn.subs ≡ []) × (has_job s ≡ false)

-- a change of an open connection closes it only by taking all subscriptions
closes : (x : Change) (place : ℕ) (k : Conn) → k.over ≡ false → (changed x place k).over ≡ true → (changed x place k).subs ≡ []
closes change.Nothing place k f o = absurd (cc (f, o))
closes (change.Add identifier streams) place k f o = absurd (cc (f, o))
closes (change.Streams identifier stops streams) place k f o = absurd (cc (f, o))
closes (change.Remove identifier) place k f o = absurd (cc (f, o))
closes change.Close place k f o = refl

at-end : (s : Seat) (plan : Plan) → has_job (with_plan s plan) ≡ false
at-end s plan = grind (arith, nat_tests)

open-by-job : (s : Seat) → Rests s → has_job s ≡ true → s.conn.over ≡ false
open-by-job s r h = go s.conn.over refl
  where
    go : (b : Bool) → s.conn.over ≡ b → s.conn.over ≡ false
    go false b = b
    go true b = let none = (r b).1 in absurd (cc (none, h))

open-by-live : (c : ℕ) (past : List Step) → is_live c past ≡ true → (seat c past).conn.over ≡ false
open-by-live c past h = go (seat c past).conn.over refl (both (is_some (user_of c past)) (not (seat c past).conn.over) h).1
  where
    go : (b : Bool) → (seat c past).conn.over ≡ b → not (seat c past).conn.over ≡ true → (seat c past).conn.over ≡ false
    go false b n = b
    go true b n = absurd (cc (b, n))

pub rests : (c : ℕ) (past : List Step) → Legal past → Rests (seat c past)
rests c [] l = λ o. absurd (cc (o))
rests c (Step.In d text ∷ past) l = go (d == c) (rests c past l.1)
  where
    go : (b : Bool) → Rests (seat c past) → Rests (cond b (with_put (seat c past) (piece.Cmd (command_of text))) (seat c past))
    go true r = r
    go false r = r
rests c (Step.Drop d ∷ past) l = go (d == c) (rests c past l.1)
  where
    go : (b : Bool) → Rests (seat c past) → Rests (cond b (with_put (seat c past) piece.Gone) (seat c past))
    go true r = r
    go false r = r
rests c (Step.Stop ∷ past) l = go (is_some (user_of c past)) (rests c past l.1)
  where
    go : (b : Bool) → Rests (seat c past) → Rests (cond b (with_put (seat c past) piece.Restart) (seat c past))
    go true r = r
    go false r = r
rests c (Step.Take d ∷ past) l = go (d == c) refl (rests c past l.1)
  where
    go : (b : Bool) → (d == c) ≡ b → Rests (seat c past) → Rests (cond b (with_job (seat c past)) (seat c past))
    go true b r o =
        let e : d ≡ c = grind (arith, nat_tests) in
        let unshut : (seat c past).conn.over ≡ false = subst (λ x. (seat x past).conn.over ≡ false) e (open-by-live d past (both _ _ (both _ _ l.0).0).0) in
        absurd (cc (unshut, o))
    go false b r o = r o
rests c (Step.Finish d puts plan ∷ past) l = go (d == c) refl (rests c past l.1)
  where
    go : (b : Bool) → (d == c) ≡ b → Rests (seat c past) → Rests (cond b (with_plan (seat c past) plan) (seat c past))
    go true b r o =
        let e : d ≡ c = grind (arith, nat_tests) in
        let out : has_job (seat c past) ≡ true = subst (λ x. has_job (seat x past) ≡ true) e (has-plan l.0.0.callbacks d past plan l.0.0.planned).out in
        (closes plan.change (seat c past).taken (seat c past).conn (open-by-job (seat c past) r out) o, at-end (seat c past) plan)
    go false b r o = r o
rests c (Step.Deliver turn note ∷ past) l = go note.failed (rests c past l.1)
  where
    go : (b : Bool) → Rests (seat c past)
        → Rests (cond b (seat c past) (with_all (seat c past) (deliver_puts (user_of c past) (marks c past) (turn_mark c note past) (seat c past).conn.subs note.rows)))
    go true r = r
    go false r = r
rests c (_ ∷ past) l = rests c past l.1

-- ---- a connection that isn't live

module _ (c : ℕ) (past : List Step) (l : Legal past) (h : is_live c past ≡ false) where
  none-left : ((seat c past).conn.subs ≡ []) × (has_job (seat c past) ≡ false)
  none-left = go (user_of c past) refl (seat c past).conn.over refl
    where
      go : (o : Option (List ℕ)) → user_of c past ≡ o → (b : Bool) → (seat c past).conn.over ≡ b → ((seat c past).conn.subs ≡ []) × (has_job (seat c past) ≡ false)
      go None u b v = let s = userless-seat c past l u in (ap (λ x. x.conn.subs) s, ap has_job s)
      go (Some user) u true v = rests c past l v
      go (Some user) u false v = let h' = rw (u, v) at h in absurd (cc (h'))

  -- it has no job, and holds nothing
  pub jobless : (r : Callbacks) → job_plan r c past ≡ None
  jobless r = let j = none-left.1 in rw j refl

  pub holds-none : held_of c past ≡ []
  holds-none = go (user_of c past) refl (seat c past).conn.over refl
    where
      go : (o : Option (List ℕ)) → user_of c past ≡ o → (b : Bool) → (seat c past).conn.over ≡ b → held_of c past ≡ []
      go None u b v = let s = userless-seat c past l u in rw (u, s) refl
      go (Some user) u true v = let subs = none-left.0 in rw (v, subs) refl
      go (Some user) u false v = let h' = rw (u, v) at h in absurd (cc (h'))

-- ---- no entry of it comes

-- an entry of another connection neither opens it nor changes what it is
unchanged : (c : ℕ) (e : Step) (past : List Step) → is_of c e ≡ false → (is_opened c (e ∷ past) ≡ is_opened c past) × (is_live c (e ∷ past) ≡ is_live c past)
unchanged c (Step.Open d token user) past h = (opened-now c d token user past ∙ ap (λ b. b || is_opened c past) h, rw h refl)
unchanged c (Step.In d text) past h = (refl, rw h refl)
unchanged c (Step.Drop d) past h = (refl, rw h refl)
unchanged c Step.Stop past h = (refl, go (user_of c past))
  where
    go : (o : Option (List ℕ)) → (is_some o && not (cond (is_some o) (with_put (seat c past) piece.Restart) (seat c past)).conn.over) ≡ (is_some o && not (seat c past).conn.over)
    go None = refl
    go (Some user) = refl
unchanged c (Step.Take d) past h = (refl, rw h refl)
unchanged c (Step.Finish d puts plan) past h = (refl, rw h refl)
unchanged c (Step.Deliver turn note) past h = (refl, go note.failed)
  where
    go : (b : Bool) → (is_some (user_of c past)
        && not (cond b (seat c past) (with_all (seat c past) (deliver_puts (user_of c past) (marks c past) (turn_mark c note past) (seat c past).conn.subs note.rows))).conn.over)
        ≡ (is_some (user_of c past) && not (seat c past).conn.over)
    go true = refl
    go false = refl
unchanged c _ past h = (refl, refl)

-- an entry of a connection is one that opens it, or it is live
module _ (c : ℕ) (past : List Step) (l : Legal past) (opened_is : is_opened c past ≡ true) (h : is_live c past ≡ false) where
  not-this : (d : ℕ) → is_live d past ≡ true → (d == c) ≡ false
  not-this d v = go (d == c) refl
    where
      go : (b : Bool) → (d == c) ≡ b → (d == c) ≡ false
      go false b = b
      go true b =
          let e : d ≡ c = grind (arith, nat_tests) in
          let v' : is_live c past ≡ true = subst (λ x. is_live x past ≡ true) e v in
          absurd (cc (h, v'))

  pub not-of-over : (e : Step) → LegalStep e past → is_of c e ≡ false
  not-of-over (Step.Boot last) s = refl
  not-of-over (Step.Open d token user) s = go (d == c) refl
    where
      go : (b : Bool) → (d == c) ≡ b → (d == c) ≡ false
      go false b = b
      go true b =
          let e : d ≡ c = grind (arith, nat_tests) in
          let new : is_opened c past ≡ false = subst (λ x. is_opened x past ≡ false) e (new-number d past s) in
          absurd (cc (new, opened_is))
  not-of-over (Step.In d text) s = not-this d (both (is_live d past) _ (both _ _ (both _ _ s).0).0).0
  not-of-over (Step.Drop d) s = not-this d (both (is_live d past) _ s).0
  not-of-over Step.Stop s = refl
  not-of-over (Step.Take d) s = not-this d (both (is_live d past) _ (both _ _ s).0).0
  not-of-over (Step.Finish d puts plan) s = go (d == c) refl
    where
      go : (b : Bool) → (d == c) ≡ b → (d == c) ≡ false
      go false b = b
      go true b =
          let e : d ≡ c = grind (arith, nat_tests) in
          let out : has_job (seat c past) ≡ true = subst (λ x. has_job (seat x past) ≡ true) e (has-plan s.0.callbacks d past plan s.0.planned).out in
          let none = (none-left c past l h).1 in
          absurd (cc (none, out))
  not-of-over (Step.Ask turn) s = refl
  not-of-over (Step.Deliver turn note) s = refl
  not-of-over (Step.Beat now) s = refl

-- an opened connection that isn't live, and stays so
pub record StaysOver (c : ℕ) (past : List Step) : Type 0 where
  pub opened_is : is_opened c past ≡ true
  pub dead : is_live c past ≡ false

pub stays-over : (c : ℕ) (more past : List Step) → Legal (more ++ past) → StaysOver c past → StaysOver c (more ++ past)
stays-over c [] past l s = s
stays-over c (e ∷ more) past l s =
    let b = stays-over c more past l.1 s in
    let u = unchanged c e (more ++ past) (not-of-over c (more ++ past) l.1 b.opened_is b.dead e l.0) in
    record { opened_is = u.0 ∙ b.opened_is; dead = u.1 ∙ b.dead }
