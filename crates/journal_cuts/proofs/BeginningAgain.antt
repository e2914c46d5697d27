-- A journal that begins again says what is left of the node, and of what comes since what the old one says.
use Rattle.std.proofs.Common.{ℕ, ◌≡◌, ◌==◌, ◌≤◌, Bool, true, false, cond, ◌||◌, List, [], ◌∷◌, ◌++◌, length, Some, refl, ap, sym, subst, ◌∙◌, arith, inl}
use Rattle.std.specs.List.{AllByRecursion, filter, list_any}
use Rattle.std.proofs.lemmas.Bool.Decides.{nat_tests}
use Rattle.cable_model.specs.Steps.{Step}
use Rattle.cable_model.specs.Journal.{cut, is_of}
use Rattle.cable_model.specs.Legal.{FollowsTurn, Legal, LegalStep}
use Rattle.cable_model.specs.Wants.{at_ask, lower, user_of}
use Rattle.cable_model.specs.Possible.{is_booted, is_live, is_opened, is_out, last_turn, opened}
use Rattle.cable_model.proofs.JobsStay.{opened-now, unopened-user}
use Rattle.cable_model.proofs.Stored.{has-plan}
use Rattle.journal_cuts.specs.Cuts.{IsAtRest, SaysNothing, SaysSame, SaysWhatIsLeft, begun_again}
use Rattle.journal_cuts.proofs.Same.{lower-on, out-on, says-on}
use Rattle.journal_cuts.proofs.Nothing.{nothing-said}
use Rattle.journal_cuts.proofs.Resting.{holds-none, jobless, not-of-over, stays-over}
use Rattle.journal_cuts.proofs.Legality.{Allows, both, legal-on, more-both}

either-false : (a b : Bool) → (a || b) ≡ false → (a ≡ false) × (b ≡ false)
either-false false false h = (refl, refl)
either-false false true h = absurd (cc (h))
either-false true b h = absurd (cc (h))

-- ---- a connection that was never opened

module _ (d : ℕ) (past : List Step) (h : is_opened d past ≡ false) where
  not-live : is_live d past ≡ false
  not-live = rw (unopened-user d past h) refl

  -- an entry of a live connection is one of another
  of-live : (c : ℕ) → is_live c past ≡ true → (c == d) ≡ false
  of-live c l = go (c == d) refl
    where
      go : (b : Bool) → (c == d) ≡ b → (c == d) ≡ false
      go false b = b
      go true b =
          let e : c ≡ d = grind (arith, nat_tests) in
          let l' : is_live d past ≡ true = subst (λ x. is_live x past ≡ true) e l in
          absurd (cc (not-live, l'))

  -- and so is the one of a connection with a user
  of-user : (c : ℕ) (user : List ℕ) → user_of c past ≡ Some user → (c == d) ≡ false
  of-user c user u = go (c == d) refl
    where
      go : (b : Bool) → (c == d) ≡ b → (c == d) ≡ false
      go false b = b
      go true b =
          let e : c ≡ d = grind (arith, nat_tests) in
          let u' : user_of d past ≡ Some user = subst (λ x. user_of x past ≡ Some user) e u in
          let none = unopened-user d past h in
          absurd (cc (none, u'))

  not-of : (e : Step) → LegalStep e past → is_opened d (e ∷ past) ≡ false → is_of d e ≡ false
  not-of (Step.Boot last) l g = refl
  not-of (Step.Open c token user) l g = (either-false (c == d) (is_opened d past) (sym (opened-now d c token user past) ∙ g)).0
  not-of (Step.In c text) l g = of-live c (both (is_live c past) _ (both _ _ (both _ _ l).0).0).0
  not-of (Step.Drop c) l g = of-live c (both (is_live c past) _ l).0
  not-of Step.Stop l g = refl
  not-of (Step.Take c) l g = of-live c (both (is_live c past) _ (both _ _ l).0).0
  not-of (Step.Finish c puts plan) l g = let p = has-plan l.0.callbacks c past plan l.0.planned in of-user c p.user p.opened
  not-of (Step.Ask turn) l g = refl
  not-of (Step.Deliver turn note) l g = refl
  not-of (Step.Beat now) l g = refl

unopened-before : (d : ℕ) (e : Step) (past : List Step) → is_opened d (e ∷ past) ≡ false → is_opened d past ≡ false
unopened-before d (Step.Open c token user) past g = (either-false (c == d) (is_opened d past) (sym (opened-now d c token user past) ∙ g)).1
unopened-before d _ past g = g

-- a legal journal has no entry of it
uncut : (d : ℕ) (past : List Step) → Legal past → is_opened d past ≡ false → cut d past ≡ past
uncut d [] l h = refl
uncut d (e ∷ past) l h =
    let before = unopened-before d e past h in
    ap (λ b. cond b (cut d past) (e ∷ cut d past)) (not-of d past before e l.0 h) ∙ ap (λ es. e ∷ es) (uncut d past l.1 before)

nothing-unopened : (d : ℕ) (past : List Step) → Legal past → is_opened d past ≡ false → SaysNothing d past
nothing-unopened d past l h = subst (SaysNothing d) (uncut d past l h) (nothing-said d past)

asked-legal : (past : List Step) → Legal past → Legal (at_ask past)
asked-legal [] l = tt
asked-legal (Step.Ask turn ∷ past) l = l.1
asked-legal (_ ∷ past) l = asked-legal past l.1

asked-unopened : (d : ℕ) (past : List Step) → is_opened d past ≡ false → is_opened d (at_ask past) ≡ false
asked-unopened d [] h = refl
asked-unopened d (Step.Open c token user ∷ past) h = asked-unopened d past (unopened-before d (Step.Open c token user) past h)
asked-unopened d (Step.Ask turn ∷ past) h = h
asked-unopened d (_ ∷ past) h = asked-unopened d past h

-- ---- what comes since

pub begins-same : (c : ℕ) (past : List Step) → Legal past → is_opened c past ≡ false → SaysSame c (begun_again past) past
begins-same c past l h =
    let s = nothing-unopened c past l h in
    let a = nothing-unopened c (at_ask past) (asked-legal past l) (asked-unopened c past h) in
    record {
      opened_is = sym s.unopened;
      user_is = sym s.user;
      seat_is = sym s.unseated_is;
      made_is = sym s.wants;
      marks_is = sym s.unmarked;
      held_is = sym s.unheld;
      asked_user = sym a.user;
      asked_made = sym a.wants;
      asked_held = sym a.unheld;
      queued_is = sym s.unqueued;
      finished_is = λ b w. sym (s.unfinished b w);
    }

pub since-same : (c : ℕ) (more past : List Step) → Legal past → is_opened c past ≡ false → SaysSame c (more ++ begun_again past) (more ++ past)
since-same c [] past l h = begins-same c past l h
since-same c (e ∷ more) past l h = says-on c e (more ++ begun_again past) (more ++ past) (since-same c more past l h)

-- each of these entries is of no connection that the journal opened
abbrev AreNew : (more past : List Step) → Type 0
AreNew more past = AllByRecursion (λ e. (c : ℕ) → is_of c e ≡ true → is_opened c past ≡ false) more

fewer-since : (p q : ℕ → Bool) (more past : List Step) → ((c : ℕ) → is_opened c past ≡ false → p c ≡ q c) → AreNew more past
    → length (filter p (opened (more ++ begun_again past))) ≤ length (filter q (opened (more ++ past)))
fewer-since p q [] past same a = omega arith
fewer-since p q (Step.Open c token user ∷ more) past same a =
    let own : (c == c) ≡ true = grind (arith, nat_tests) in
    more-both p q c (opened (more ++ begun_again past)) (opened (more ++ past)) (same c (a.0 c own)) (fewer-since p q more past same a.1)
fewer-since p q (_ ∷ more) past same a = fewer-since p q more past same a.1

module _ (past : List Step) (l : Legal past) (s : IsAtRest past) where
  since-lower : (more : List Step) → lower (more ++ begun_again past) ≡ lower (more ++ past)
  since-lower [] = refl
  since-lower (e ∷ more) = lower-on e (more ++ begun_again past) (more ++ past) (since-lower more)

  since-out : (more : List Step) → is_out (more ++ begun_again past) ≡ is_out (more ++ past)
  since-out [] = sym s.out
  since-out (e ∷ more) = out-on e (more ++ begun_again past) (more ++ past) (since-out more)

  since-turn : (more : List Step) → is_out (more ++ past) ≡ true → last_turn (more ++ begun_again past) ≡ last_turn (more ++ past)
  since-turn [] o = let none = s.out in absurd (cc (none, o))
  since-turn (Step.Ask turn ∷ more) o = refl
  since-turn (Step.Deliver turn note ∷ more) o = absurd (cc (o))
  since-turn (_ ∷ more) o = since-turn more o

  since-next : (more : List Step) (t : ℕ) → FollowsTurn t (more ++ past) → FollowsTurn t (more ++ begun_again past)
  since-next [] t f = inl refl
  since-next (Step.Ask turn ∷ more) t f = f
  since-next (_ ∷ more) t f = since-next more t f

  since-boots : (more : List Step) → more ++ past ≡ [] → more ++ begun_again past ≡ []
  since-boots [] e = let none = ap is_booted e in let booted = s.booted in absurd (cc (none, booted))
  since-boots (e ∷ more) h = absurd (cc (h))

  since-booted : (more : List Step) → is_booted (more ++ begun_again past) ≡ true
  since-booted [] = refl
  since-booted (e ∷ more) = refl

  since-allows : (more : List Step) → AreNew more past → Allows (more ++ begun_again past) (more ++ past)
  since-allows more a =
      record {
        boots = since-boots more;
        booted = λ b. since-booted more;
        lower_is = since-lower more;
        out = since-out more;
        turn = since-turn more;
        next = since-next more;
        count = fewer-since (λ c. is_live c (more ++ begun_again past)) (λ c. is_live c (more ++ past)) more past
            (λ c h. live-same c (since-same c more past l h)) a;
      }
    where
      live-same : (c : ℕ) → SaysSame c (more ++ begun_again past) (more ++ past) → is_live c (more ++ begun_again past) ≡ is_live c (more ++ past)
      live-same c t = cc (t.user_is, t.seat_is)

  since-legal : (more : List Step) → AreNew more past → Legal (more ++ past) → Legal (more ++ begun_again past)
  since-legal [] a m = (refl, tt)
  since-legal (e ∷ more) a m =
      (legal-on (more ++ begun_again past) (more ++ past) (since-allows more a.1) e (λ c o. since-same c more past l (a.0 c o)) m.0, since-legal more a.1 m.1)

  -- ---- no connection is live

  none-live : (p : ℕ → Bool) (c : ℕ) (ds : List ℕ) → length (filter p ds) ≡ 0 → list_any (λ d. d == c) ds ≡ true → p c ≡ false
  none-live p c [] z h = absurd (cc (h))
  none-live p c (d ∷ ds) z h = go (p d) refl (d == c) refl (none-live p c ds)
    where
      go : (x : Bool) → p d ≡ x → (y : Bool) → (d == c) ≡ y → (length (filter p ds) ≡ 0 → list_any (λ d. d == c) ds ≡ true → p c ≡ false) → p c ≡ false
      go true x y r ih = let z' = rw x at z in absurd (omega (arith, z'))
      go false x true r ih = let same : d ≡ c = grind (arith, nat_tests) in ap p (sym same) ∙ x
      go false x false r ih = let z' = rw x at z in let h' = rw r at h in ih z' h'

  dead : (c : ℕ) → is_live c past ≡ false
  dead c = go (is_opened c past) refl
    where
      go : (b : Bool) → is_opened c past ≡ b → is_live c past ≡ false
      go true b = none-live (λ d. is_live d past) c (opened past) s.live b
      go false b = not-live c past b

  -- a connection that the old journal opened is over, and none of its entries comes
  since-new : (more : List Step) → Legal (more ++ past) → AreNew more past
  since-new [] m = tt
  since-new (e ∷ more) m = ((λ c o. new c o (is_opened c past) refl), since-new more m.1)
    where
      new : (c : ℕ) → is_of c e ≡ true → (b : Bool) → is_opened c past ≡ b → is_opened c past ≡ false
      new c o false b = b
      new c o true b =
          let t = stays-over c more past m.1 (record { opened_is = b; dead = dead c }) in
          let none = not-of-over c (more ++ past) m.1 t.opened_is t.dead e m.0 in
          absurd (cc (none, o))

  pub goes-on-legally : (more : List Step) → Legal (more ++ past) → Legal (more ++ begun_again past)
  goes-on-legally more m = since-legal more (since-new more m) m

  -- ---- what is left

  pub left : SaysWhatIsLeft (begun_again past) past
  left =
      record {
        lower_is = refl;
        out = sym s.out;
        live = λ c. sym (dead c);
        arrives = λ c. let d = dead c in rw d refl;
        drops = λ c. let d = dead c in rw d refl;
        takes = λ c. let d = dead c in rw d refl;
        plan = λ r c. sym (jobless c past l (dead c) r);
        holds = λ c. sym (holds-none c past l (dead c));
        opens = λ c h. (let b = s.booted in let n = s.live in rw (b, h, n) refl);
        stops = sym s.booted;
        asks = (let b = s.booted in let o = s.out in rw (b, o) refl);
        beats = sym s.booted;
      }
