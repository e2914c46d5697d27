-- A journal without the entries of some connections says the same of every other one.
use Rattle.std.specs.List.{AllByRecursion}
use Rattle.std.proofs.Common.{ℕ, ◌≡◌, ◌==◌, Bool, true, false, cond, List, [], ◌∷◌, ◌++◌, refl, ap, sym, ◌∙◌, arith}
use Rattle.std.specs.Prelude.{◌||◌}
use Rattle.std.proofs.lemmas.Bool.Decides.{nat_tests}
use Rattle.cable_model.specs.Steps.{Step}
use Rattle.cable_model.specs.Journal.{cut, cut_all, is_of}
use Rattle.cable_model.specs.Possible.{is_opened}
use Rattle.cable_model.proofs.JobsStay.{opened-now}
use Rattle.journal_cuts.specs.Cuts.{SaysSame, TurnsSame}
use Rattle.journal_cuts.proofs.Same.{says-on, says-through, turns-on}

pub says-itself : (c : ℕ) (past : List Step) → SaysSame c past past
says-itself c past =
    record {
      opened_is = refl;
      user_is = refl;
      seat_is = refl;
      made_is = refl;
      marks_is = refl;
      held_is = refl;
      asked_user = refl;
      asked_made = refl;
      asked_held = refl;
      queued_is = refl;
      finished_is = λ s w. refl;
    }

module _ (c d : ℕ) (differ : ¬ (c ≡ d)) where
  off : (x : ℕ) → (x == d) ≡ true → (x == c) ≡ false
  off x h = go (x == c) refl
    where
      go : (b : Bool) → (x == c) ≡ b → (x == c) ≡ false
      go false b = b
      go true b = let e : x ≡ d = grind (arith, nat_tests) in let f : x ≡ c = grind (arith, nat_tests) in absurd (differ (sym f ∙ e))

  -- an entry of d, left out
  left : (e : Step) (past : List Step) → is_of d e ≡ true → SaysSame c past (e ∷ past)
  left (Step.Boot last) past h = absurd (cc (h))
  left (Step.Open x token user) past h =
      let t = off x h in
      record {
        opened_is = sym (opened-now c x token user past ∙ ap (λ b. b || is_opened c past) t);
        user_is = rw t refl;
        seat_is = refl;
        made_is = refl;
        marks_is = refl;
        held_is = rw t refl;
        asked_user = refl;
        asked_made = refl;
        asked_held = refl;
        queued_is = rw t refl;
        finished_is = λ s w. refl;
      }
  left (Step.In x text) past h =
      let t = off x h in
      record {
        opened_is = refl;
        user_is = refl;
        seat_is = rw t refl;
        made_is = refl;
        marks_is = refl;
        held_is = rw t refl;
        asked_user = refl;
        asked_made = refl;
        asked_held = refl;
        queued_is = refl;
        finished_is = λ s w. refl;
      }
  left (Step.Drop x) past h =
      let t = off x h in
      record {
        opened_is = refl;
        user_is = refl;
        seat_is = rw t refl;
        made_is = refl;
        marks_is = refl;
        held_is = rw t refl;
        asked_user = refl;
        asked_made = refl;
        asked_held = refl;
        queued_is = refl;
        finished_is = λ s w. refl;
      }
  left Step.Stop past h = absurd (cc (h))
  left (Step.Take x) past h =
      let t = off x h in
      record {
        opened_is = refl;
        user_is = refl;
        seat_is = rw t refl;
        made_is = refl;
        marks_is = refl;
        held_is = rw t refl;
        asked_user = refl;
        asked_made = refl;
        asked_held = refl;
        queued_is = refl;
        finished_is = λ s w. refl;
      }
  left (Step.Finish x puts plan) past h =
      let t = off x h in
      record {
        opened_is = refl;
        user_is = refl;
        seat_is = rw t refl;
        made_is = rw t refl;
        marks_is = refl;
        held_is = rw t refl;
        asked_user = refl;
        asked_made = refl;
        asked_held = refl;
        queued_is = rw t refl;
        finished_is = λ s w. rw t refl;
      }
  left (Step.Ask turn) past h = absurd (cc (h))
  left (Step.Deliver turn note) past h = absurd (cc (h))
  left (Step.Beat now) past h = absurd (cc (h))

  pub cut-says : (past : List Step) → SaysSame c (cut d past) past
  cut-says [] = says-itself c []
  cut-says (e ∷ past) = go (is_of d e) refl (cut-says past)
    where
      go : (b : Bool) → is_of d e ≡ b → SaysSame c (cut d past) past → SaysSame c (cond b (cut d past) (e ∷ cut d past)) (e ∷ past)
      go true b s = says-through c (cut d past) past (e ∷ past) s (left e past b)
      go false b s = says-on c e (cut d past) past s

pub all-cut-says : (c : ℕ) (ds : List ℕ) (past : List Step) → AllByRecursion (λ d. ¬ (c ≡ d)) ds → SaysSame c (cut_all ds past) past
all-cut-says c [] past a = says-itself c past
all-cut-says c (d ∷ ds) past a = says-through c (cut d (cut_all ds past)) (cut_all ds past) past (cut-says c d a.0 (cut_all ds past)) (all-cut-says c ds past a.1)

-- ---- turns

skipped : (d : ℕ) (e : Step) (past : List Step) → is_of d e ≡ true → TurnsSame past (e ∷ past)
skipped d (Step.Boot last) past h = absurd (cc (h))
skipped d Step.Stop past h = absurd (cc (h))
skipped d (Step.Ask turn) past h = absurd (cc (h))
skipped d (Step.Deliver turn note) past h = absurd (cc (h))
skipped d (Step.Beat now) past h = absurd (cc (h))
skipped d _ past h = record { lower_is = refl; out = refl; turn = refl; asked = refl }

turns-through : (a b e : List Step) → TurnsSame a b → TurnsSame b e → TurnsSame a e
turns-through a b e s t = record { lower_is = s.lower_is ∙ t.lower_is; out = s.out ∙ t.out; turn = s.turn ∙ t.turn; asked = s.asked ∙ t.asked }

pub cut-turns : (d : ℕ) (past : List Step) → TurnsSame (cut d past) past
cut-turns d [] = record { lower_is = refl; out = refl; turn = refl; asked = refl }
cut-turns d (e ∷ past) = go (is_of d e) refl (cut-turns d past)
  where
    go : (b : Bool) → is_of d e ≡ b → TurnsSame (cut d past) past → TurnsSame (cond b (cut d past) (e ∷ cut d past)) (e ∷ past)
    go true b s = turns-through (cut d past) past (e ∷ past) s (skipped d e past b)
    go false b s = turns-on e (cut d past) past s

pub all-cut-turns : (ds : List ℕ) (past : List Step) → TurnsSame (cut_all ds past) past
all-cut-turns [] past = record { lower_is = refl; out = refl; turn = refl; asked = refl }
all-cut-turns (d ∷ ds) past = turns-through (cut d (cut_all ds past)) (cut_all ds past) past (cut-turns d (cut_all ds past)) (all-cut-turns ds past)

-- ---- entries behind a cut

pub cut-append : (d : ℕ) (more past : List Step) → cut d (more ++ past) ≡ cut d more ++ cut d past
cut-append d [] past = refl
cut-append d (e ∷ more) past = go (is_of d e) (cut-append d more past)
  where
    go : (b : Bool) → cut d (more ++ past) ≡ cut d more ++ cut d past
        → cond b (cut d (more ++ past)) (e ∷ cut d (more ++ past)) ≡ cond b (cut d more) (e ∷ cut d more) ++ cut d past
    go true h = h
    go false h = ap (λ es. e ∷ es) h

uncut : (d : ℕ) (more : List Step) → AllByRecursion (λ e. is_of d e ≡ false) more → cut d more ≡ more
uncut d [] a = refl
uncut d (e ∷ more) a = ap (λ b. cond b (cut d more) (e ∷ cut d more)) a.0 ∙ ap (λ es. e ∷ es) (uncut d more a.1)

pub cut-on : (d : ℕ) (more past : List Step) → AllByRecursion (λ e. is_of d e ≡ false) more → cut d (more ++ past) ≡ more ++ cut d past
cut-on d more past a = cut-append d more past ∙ ap (λ es. es ++ cut d past) (uncut d more a)
