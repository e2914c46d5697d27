-- The mark of a want is that of the first turn that finds it made before its Ask.
use Rattle.std.proofs.Common.{ℕ, suc, ◌+◌, ◌≡◌, ◌<◌, ◌≤◌, ◌==◌, Bool, true, false, List, [], ◌∷◌, ◌++◌, Some, None, Option, refl, ap, sym, subst, ◌∙◌, arith, inl, inr, ◌⊎◌, leb}
use Rattle.std.proofs.lemmas.Bool.Decides.{nat_tests}
use Rattle.cable_model.specs.declared.journals.ReadNote.{ReadNote}
use Rattle.cable_model.specs.declared.plans.Plan.{Plan}
use Rattle.cable_model.specs.Steps.{Step}
use Rattle.cable_model.specs.Wants.{at_ask, made, makes, marks, mark_of, turn_mark, user_of}
use Rattle.cable_model.specs.Pieces.{seat}
use Rattle.cable_model.specs.Plans.{Callbacks}
use Rattle.cable_model.specs.Possible.{has_job, is_opened, is_out, job_plan, last_turn, was_asked}
use Rattle.cable_model.specs.Legal.{Legal}
use Rattle.cable_model.proofs.JobsStay.{new-number, unopened-user}
use Rattle.cable_model.proofs.Marks.{first_mark, mark_of-append, turn-mark}
use Rattle.cable_laws.specs.Placed.{HasUser, IsWanted, IsMade, Finds, Takes, IsTaken, MarksAreTaken}
use Rattle.cable_laws.proofs.Ending.{made-grows}

-- ---- the Ask of the turn that is out

pub legal-back : (newer past : List Step) → Legal (newer ++ past) → Legal past
legal-back [] past l = l
legal-back (e ∷ newer) past l = legal-back newer past l.1

asked-out : (past : List Step) → is_out past ≡ true → (between : List Step) × (past ≡ between ++ Step.Ask (last_turn past) ∷ at_ask past)
asked-out [] o = absurd (cc (o))
asked-out (Step.Ask turn ∷ past) o = ([], refl)
asked-out (Step.Deliver turn note ∷ past) o = absurd (cc (o))
asked-out (e ∷ past) o = let r = asked-out past o in (e ∷ r.0, ap (λ p. e ∷ p) r.1)

-- what is known behind an Ask
record BehindAsk (turn : ℕ) (before past : List Step) : Type 0 where
  pub asked : was_asked past ≡ true
  pub most : turn ≤ last_turn past
  pub last : (at_ask past ≡ before) ⊎ (turn < last_turn past)

behind-ask : (turn : ℕ) (before between : List Step) → Legal (between ++ Step.Ask turn ∷ before) → BehindAsk turn before (between ++ Step.Ask turn ∷ before)
behind-ask turn before [] l = record { asked = refl; most = omega arith; last = inl refl }
behind-ask turn before (Step.Ask next ∷ between) l = go (behind-ask turn before between l.1) l.0.1
  where
    rest : List Step
    rest = between ++ Step.Ask turn ∷ before

    go : BehindAsk turn before rest → (was_asked rest ≡ false) ⊎ (next ≡ suc (last_turn rest)) → BehindAsk turn before (Step.Ask next ∷ rest)
    go b (inl none) = let some = b.asked in absurd (cc (none, some))
    go b (inr is) = record { asked = refl; most = omega (arith, b.most, is); last = inr (omega (arith, b.most, is)) }
behind-ask turn before (e ∷ between) l = let b = behind-ask turn before between l.1 in record { asked = b.asked; most = b.most; last = b.last }

-- the turn that is out has one Ask
the-ask : (turn : ℕ) (past between before : List Step) → Legal past → turn ≡ last_turn past → past ≡ between ++ Step.Ask turn ∷ before → at_ask past ≡ before
the-ask turn past between before l out is =
    let l' : Legal (between ++ Step.Ask turn ∷ before) = subst Legal is l in
    elim (behind-ask turn before between l').last [
      | inl same ↦ ap at_ask is ∙ same
      | inr less ↦ let same : last_turn past ≡ last_turn (between ++ Step.Ask turn ∷ before) = ap last_turn is in absurd (omega (arith, less, out, same))
    ]

-- ---- what was made

opened-by : (c : ℕ) (past : List Step) (u : List ℕ) → user_of c past ≡ Some u → HasUser c past
opened-by c [] u e = absurd (cc (e))
opened-by c (Step.Open d token user ∷ past) u e = go (d == c) refl (opened-by c past u)
  where
    later : HasUser c past → HasUser c (Step.Open d token user ∷ past)
    later h = record { newer = Step.Open d token user ∷ h.newer; token = h.token; user = h.user; older = h.older; opened = ap (λ p. Step.Open d token user ∷ p) h.opened }

    go : (b : Bool) → (d == c) ≡ b → (user_of c past ≡ Some u → HasUser c past) → HasUser c (Step.Open d token user ∷ past)
    go true b ih =
        let e' = rw b at e in
        let same : d ≡ c = grind (arith, nat_tests) in
        record { newer = []; token = token; user = u; older = past; opened = rw (same, e') refl }
    go false b ih = let e' = rw b at e in later (ih e')
opened-by c (e ∷ past) u h =
    let o = opened-by c past u h in record { newer = e ∷ o.newer; token = o.token; user = o.user; older = o.older; opened = ap (λ p. e ∷ p) o.opened }

wanted-by : (c w : ℕ) (past : List Step) → 0 < w → w ≤ made c past → IsWanted c w past
wanted-by c w [] p l = absurd (omega arith)
wanted-by c w (Step.Finish d puts plan ∷ past) p l = go (d == c) refl (leb w (made c past)) refl (wanted-by c w past p)
  where
    later : IsWanted c w past → IsWanted c w (Step.Finish d puts plan ∷ past)
    later h = record { newer = Step.Finish d puts plan ∷ h.newer; puts = h.puts; plan = h.plan; older = h.older; finished = ap (λ q. Step.Finish d puts plan ∷ q) h.finished; above = h.above; within = h.within }

    go : (b : Bool) → (d == c) ≡ b → (t : Bool) → leb w (made c past) ≡ t → (w ≤ made c past → IsWanted c w past) → IsWanted c w (Step.Finish d puts plan ∷ past)
    go true b true t ih = later (ih (grind (arith, nat_tests)))
    go true b false t ih =
        let l' = rw b at l in
        let same : d ≡ c = grind (arith, nat_tests) in
        record { newer = []; puts = puts; plan = plan; older = past; finished = ap (λ x. Step.Finish x puts plan ∷ past) same; above = grind (arith, nat_tests); within = l' }
    go false b t t' ih = let l' = rw b at l in later (ih l')
wanted-by c w (e ∷ past) p l =
    let h = wanted-by c w past p l in
    record { newer = e ∷ h.newer; puts = h.puts; plan = h.plan; older = h.older; finished = ap (λ q. e ∷ q) h.finished; above = h.above; within = h.within }

made-by : (c w : ℕ) (past : List Step) (u : List ℕ) → user_of c past ≡ Some u → w ≤ made c past → IsMade c w past
made-by c w past u e l = go (w == 0) refl
  where
    go : (b : Bool) → (w == 0) ≡ b → IsMade c w past
    go true b = inl (grind (arith, nat_tests), opened-by c past u e)
    go false b = inr (wanted-by c w past (grind (arith, nat_tests)) l)

-- no entry takes back the user, nor a number that was given
user-stays : (c : ℕ) (newer past : List Step) (u : List ℕ) → Legal (newer ++ past) → user_of c past ≡ Some u → user_of c (newer ++ past) ≡ Some u
user-stays c [] past u l e = e
user-stays c (Step.Open d token user ∷ newer) past u l e = go (d == c) refl (user-stays c newer past u l.1 e)
  where
    go : (b : Bool) → (d == c) ≡ b → user_of c (newer ++ past) ≡ Some u → user_of c (Step.Open d token user ∷ newer ++ past) ≡ Some u
    go true b ih =
        let same : d ≡ c = grind (arith, nat_tests) in
        let none = unopened-user c (newer ++ past) (subst (λ x. is_opened x (newer ++ past) ≡ false) same (new-number d (newer ++ past) l.0)) in
        absurd (cc (none, ih))
    go false b ih = rw b ih
user-stays c (x ∷ newer) past u l e = user-stays c newer past u l.1 e

made-stays : (c : ℕ) (newer past : List Step) → made c past ≤ made c (newer ++ past)
made-stays c [] past = omega arith
made-stays c (e ∷ newer) past = let a = made-stays c newer past in let b = made-grows c e (newer ++ past) in omega arith

-- a job that has a plan is one of a connection with a user
planned-user : (r : Callbacks) (c : ℕ) (plan : Plan) (past : List Step) → job_plan r c past ≡ Some plan → (u : List ℕ) × (user_of c past ≡ Some u)
planned-user r c plan past e = go (has_job (seat c past)) refl (user_of c past) refl
  where
    go : (b : Bool) → has_job (seat c past) ≡ b → (o : Option (List ℕ)) → user_of c past ≡ o → (u : List ℕ) × (user_of c past ≡ Some u)
    go true b (Some u) o = (u, o)
    go true b None o = let e' = rw (b, o) at e in absurd (cc (e'))
    go false b u o = let e' = rw b at e in absurd (cc (e'))

-- of a want that was made: the connection has a user, and the number was given
record IsKnown (c w : ℕ) (past : List Step) : Type 0 where
  pub user : List ℕ
  pub has : user_of c past ≡ Some user
  pub within : w ≤ made c past

made-known : (c w : ℕ) (past : List Step) → Legal past → IsMade c w past → IsKnown c w past
made-known c w past l (inl (none, o)) =
    let self : (c == c) ≡ true = grind (arith, nat_tests) in
    let here : user_of c (Step.Open c o.token (Some o.user) ∷ o.older) ≡ Some o.user = rw self refl in
    let l' : Legal (o.newer ++ Step.Open c o.token (Some o.user) ∷ o.older) = subst Legal o.opened l in
    record { user = o.user; has = ap (user_of c) o.opened ∙ user-stays c o.newer (Step.Open c o.token (Some o.user) ∷ o.older) o.user l' here; within = omega arith }
made-known c w past l (inr h) =
    let self : (c == c) ≡ true = grind (arith, nat_tests) in
    let now : List Step = Step.Finish c h.puts h.plan ∷ h.older in
    let l' : Legal (h.newer ++ now) = subst Legal h.finished l in
    let job = (legal-back h.newer now l').0.0 in
    let u = planned-user job.callbacks c h.plan h.older job.planned in
    let here : made c now ≡ made c h.older + makes h.plan.change = rw self refl in
    let more = made-stays c h.newer now in
    let same : made c past ≡ made c (h.newer ++ now) = ap (made c) h.finished in
    record { user = u.0; has = ap (user_of c) h.finished ∙ user-stays c h.newer now u.0 l' u.1; within = omega (arith, h.within, here, more, same) }

-- ---- one turn

marked-user : (c w m : ℕ) (note : ReadNote) (past : List Step) → mark_of w (turn_mark c note past) ≡ Some m → (u : List ℕ) × (user_of c (at_ask past) ≡ Some u)
marked-user c w m note past e = go (user_of c (at_ask past)) refl
  where
    go : (o : Option (List ℕ)) → user_of c (at_ask past) ≡ o → (u : List ℕ) × (user_of c (at_ask past) ≡ Some u)
    go (Some u) o = (u, o)
    go None o = let e' = rw o at e in absurd (cc (e'))

module _ (c w turn : ℕ) (note : ReadNote) (past : List Step) where
  -- a turn that gives the want a mark finds it
  pub mark-finds : (m : ℕ) → Legal (Step.Deliver turn note ∷ past) → mark_of w (turn_mark c note past) ≡ Some m → Finds c w turn note past
  mark-finds m l e =
      let t = turn-mark c w m note past e in
      let u = marked-user c w m note past e in
      let ask = asked-out past l.0.0 in
      record {
        read = t.2;
        between = ask.0;
        before = at_ask past;
        asked = subst (λ n. past ≡ ask.0 ++ Step.Ask n ∷ at_ask past) (sym l.0.1) ask.1;
        made = made-by c w (at_ask past) u.0 u.1 t.1;
      }

  -- and one that finds it gives it its own
  pub finds-mark : Legal (Step.Deliver turn note ∷ past) → Finds c w turn note past → mark_of w (turn_mark c note past) ≡ Some note.last.0
  finds-mark l f =
      let before : at_ask past ≡ f.before = the-ask turn past f.between f.before l.1 l.0.1 f.asked in
      let l' : Legal (f.between ++ Step.Ask turn ∷ f.before) = subst Legal f.asked l.1 in
      let k = made-known c w f.before (legal-back f.between (Step.Ask turn ∷ f.before) l').1 f.made in
      let has : user_of c (at_ask past) ≡ Some k.user = ap (user_of c) before ∙ k.has in
      let within : leb w (made c (at_ask past)) ≡ true = let l2 = k.within in let e : made c (at_ask past) ≡ made c f.before = ap (made c) before in grind (arith, nat_tests) in
      let read = f.read in
      rw (has, read, within) refl

-- ---- all turns

marks-stay : (c w m : ℕ) (newer past : List Step) → mark_of w (marks c past) ≡ Some m → mark_of w (marks c (newer ++ past)) ≡ Some m
marks-stay c w m [] past e = e
marks-stay c w m (Step.Deliver turn note ∷ newer) past e =
    mark_of-append w (marks c (newer ++ past)) (turn_mark c note (newer ++ past)) ∙ ap (λ o. first_mark o (mark_of w (turn_mark c note (newer ++ past)))) (marks-stay c w m newer past e)
marks-stay c w m (x ∷ newer) past e = marks-stay c w m newer past e

-- a want without a mark was found by no turn
pub none-finds : (c w : ℕ) (past : List Step) → Legal past → mark_of w (marks c past) ≡ None
    → (newer : List Step) (turn : ℕ) (note : ReadNote) (older : List Step) → past ≡ newer ++ Step.Deliver turn note ∷ older → ¬ Finds c w turn note older
none-finds c w past l none newer turn note older is f =
    let l' : Legal (newer ++ Step.Deliver turn note ∷ older) = subst Legal is l in
    let here = finds-mark c w turn note older (legal-back newer (Step.Deliver turn note ∷ older) l') f in
    let some : (m : ℕ) × (mark_of w (marks c (Step.Deliver turn note ∷ older)) ≡ Some m) = go here (mark_of w (marks c older)) refl in
    let stays : mark_of w (marks c past) ≡ Some some.0 = ap (λ p. mark_of w (marks c p)) is ∙ marks-stay c w some.0 newer (Step.Deliver turn note ∷ older) some.1 in
    cc (none, stays)
  where
    go : mark_of w (turn_mark c note older) ≡ Some note.last.0 → (o : Option ℕ) → mark_of w (marks c older) ≡ o → (m : ℕ) × (mark_of w (marks c (Step.Deliver turn note ∷ older)) ≡ Some m)
    go here (Some m) o = (m, mark_of-append w (marks c older) (turn_mark c note older) ∙ rw o refl)
    go here None o = (note.last.0, mark_of-append w (marks c older) (turn_mark c note older) ∙ rw o here)

later-taken : (c w m : ℕ) (e : Step) (past : List Step) → IsTaken c w m past → IsTaken c w m (e ∷ past)
later-taken c w m e past t = record { newer = e ∷ t.newer; turn = t.turn; note = t.note; older = t.older; delivered = ap (λ p. e ∷ p) t.delivered; takes = t.takes; last = t.last }

-- a want with a mark is taken
pub marked-taken : (c w m : ℕ) (past : List Step) → Legal past → mark_of w (marks c past) ≡ Some m → IsTaken c w m past
marked-taken c w m [] l e = absurd (cc (e))
marked-taken c w m (Step.Deliver turn note ∷ past) l e = go (mark_of w (marks c past)) refl (λ n. marked-taken c w n past l.1)
  where
    both : first_mark (mark_of w (marks c past)) (mark_of w (turn_mark c note past)) ≡ Some m
    both = sym (mark_of-append w (marks c past) (turn_mark c note past)) ∙ e

    go : (o : Option ℕ) → mark_of w (marks c past) ≡ o → ((n : ℕ) → mark_of w (marks c past) ≡ Some n → IsTaken c w n past) → IsTaken c w m (Step.Deliver turn note ∷ past)
    go (Some n) o ih =
        let b = rw o at both in
        let same : n ≡ m = cc (b) in
        later-taken c w m (Step.Deliver turn note) past (subst (λ x. IsTaken c w x past) same (ih n o))
    go None o ih =
        let b = rw o at both in
        record {
          newer = [];
          turn = turn;
          note = note;
          older = past;
          delivered = refl;
          takes = record { finds = mark-finds c w turn note past m l b; first = none-finds c w past l.1 o };
          last = sym (turn-mark c w m note past b).0;
        }
marked-taken c w m (x ∷ past) l e = later-taken c w m x past (marked-taken c w m past l.1 e)

-- a want that a turn takes had no mark before
pub taken-unmarked : (c w turn : ℕ) (note : ReadNote) (past : List Step) → Legal past → Takes c w turn note past → mark_of w (marks c past) ≡ None
taken-unmarked c w turn note past l t = go (mark_of w (marks c past)) refl
  where
    go : (o : Option ℕ) → mark_of w (marks c past) ≡ o → mark_of w (marks c past) ≡ None
    go None o = o
    go (Some m) o = let k = marked-taken c w m past l o in absurd (t.first k.newer k.turn k.note k.older k.delivered k.takes.finds)

pub taken-marked : (c w m : ℕ) (past : List Step) → Legal past → IsTaken c w m past → mark_of w (marks c past) ≡ Some m
taken-marked c w m past l t =
    let now : List Step = Step.Deliver t.turn t.note ∷ t.older in
    let l' : Legal (t.newer ++ now) = subst Legal t.delivered l in
    let l2 : Legal now = legal-back t.newer now l' in
    let none = taken-unmarked c w t.turn t.note t.older l2.1 t.takes in
    let own = finds-mark c w t.turn t.note t.older l2 t.takes.finds in
    let here : mark_of w (marks c now) ≡ Some t.note.last.0 = mark_of-append w (marks c t.older) (turn_mark c t.note t.older) ∙ rw none own in
    ap (λ p. mark_of w (marks c p)) t.delivered ∙ (marks-stay c w t.note.last.0 t.newer now here ∙ ap (λ x. Some x) t.last)

pub marks-are-taken : (c : ℕ) (past : List Step) → Legal past → MarksAreTaken c past
marks-are-taken c past l w m = (marked-taken c w m past l, taken-marked c w m past l)
