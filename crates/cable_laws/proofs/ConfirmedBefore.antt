-- Before a row is finished, the confirmation of its subscription was said under the identifier that stands.
use Rattle.std.proofs.Common.{ℕ, ◌≡◌, ◌<◌, ◌≤◌, ◌==◌, Bool, true, false, cond, ◌⊎◌, List, [], ◌∷◌, ◌++◌, map, Some, None, Option, refl, ap, sym, subst, ◌∙◌, arith, inl, inr, find, append_assoc, bytes_eq, not}
use Rattle.std.specs.List.{filter, AllByRecursion}
use Rattle.std.proofs.lemmas.Bool.Decides.{nat_tests}
use Rattle.cable_base.specs.declared.numbers.RowId.{RowId}
use Rattle.cable_base.specs.declared.numbers.SubNo.{SubNo}
use Rattle.cable_base.proofs.Each.{All-append, All-filter, All-implied}
use Rattle.cable_base.proofs.Rises.{Rises}
use Rattle.cable_json.specs.Texts.{confirm_text}
use Rattle.cable_model.specs.declared.events.Event.{Event}
use Rattle.cable_model.specs.declared.pieces.Piece.TheVariants as piece
use Rattle.cable_model.specs.declared.plans.Change.{Change}
use Rattle.cable_model.specs.declared.plans.Change.TheVariants as change
use Rattle.cable_model.specs.declared.plans.Plan.{Plan}
use Rattle.cable_model.specs.Steps.{Step}
use Rattle.cable_model.specs.Connection.{Sub, Conn, Planner, changed, first_above, still, streamed, wanted, without}
use Rattle.cable_model.specs.Pieces.{Seat, seat, with_plan}
use Rattle.cable_model.specs.Plans.{Callbacks, confirm_task, plan_for, task_of}
use Rattle.cable_model.specs.Possible.{job_plan}
use Rattle.cable_model.specs.Window.{finished, job}
use Rattle.cable_model.specs.Promise.{AllWorked, due_in}
use Rattle.cable_model.specs.History.{Rules}
use Rattle.cable_model.specs.HistoryLaws.{is_said}
use Rattle.cable_model.specs.Journal.{node_journal}
use Rattle.cable_model.proofs.Entries.{Unfinished, unfinished}
use Rattle.cable_model.proofs.Inbox.{valid-at}
use Rattle.cable_model.proofs.Jobs.{job-piece}
use Rattle.cable_model.proofs.Valid.{streamed-number}
use Rattle.cable_model.proofs.Working.{working}
use Rattle.cable_laws.specs.Said.{ConfirmationSaid, FinishIn, StandsUnder, RowsFollowConfirmationText}
use Rattle.cable_laws.proofs.Finishes.{Finishes, finish-later, earlier-worked, history-finishes, job-planned, plan-of-job, sub-found, found-stands}
use Rattle.cable_laws.proofs.Growing.{AllPlanned}
use Rattle.cable_laws.proofs.RowsBehind.{rows-follow}
use Rattle.cable_laws.proofs.SubscribesConfirm.{said-last, task-tells}

-- ---- a subscription among others

-- one of this number and identifier is among these
abbrev Stands : (s : ℕ) → (identifier : List ℕ) → List Sub → Type 0
Stands s i [] = ⊥
Stands s i (x ∷ xs) = ((x.number ≡ s) × (x.identifier ≡ i)) ⊎ Stands s i xs

under-stands : (s : ℕ) (i : List ℕ) (k : Conn) → StandsUnder s i k → Stands s i k.subs
under-stands s i k u = subst (Stands s i) (sym u.among) (go u.before)
  where
    go : (before : List Sub) → Stands s i (before ++ u.sub ∷ u.after)
    go [] = inl (u.numbered, u.identified)
    go (x ∷ xs) = inr (go xs)

push-stands : (s : ℕ) (i : List ℕ) (xs : List Sub) (y : Sub) → (y.number ≡ s → ⊥) → Stands s i (xs ++ y ∷ []) → Stands s i xs
push-stands s i [] y apart (inl e) = absurd (apart e.0)
push-stands s i [] y apart (inr e) = e
push-stands s i (x ∷ xs) y apart (inl e) = inl e
push-stands s i (x ∷ xs) y apart (inr e) = inr (push-stands s i xs y apart e)

filter-stands : (s : ℕ) (i : List ℕ) (p : Sub → Bool) (xs : List Sub) → Stands s i (filter p xs) → Stands s i xs
filter-stands s i p [] h = h
filter-stands s i p (x ∷ xs) h = go (p x) refl (filter-stands s i p xs)
  where
    go : (b : Bool) → p x ≡ b → (Stands s i (filter p xs) → Stands s i xs) → Stands s i (x ∷ xs)
    go true b ih = let h' : Stands s i (x ∷ filter p xs) = subst (λ t. Stands s i (cond t (x ∷ filter p xs) (filter p xs))) b h in elim h' [ inl e ↦ inl e | inr e ↦ inr (ih e) ]
    go false b ih = inr (ih (subst (λ t. Stands s i (cond t (x ∷ filter p xs) (filter p xs))) b h))

module _ (n : ℕ) (identifier : List ℕ) (stops streams : List (List ℕ)) where
  abbrev made : Sub → Sub
  made = streamed n identifier stops streams

  abbrev written : Sub → Sub
  written x = record { number = x.number; identifier = x.identifier; wants = without stops x.wants ++ wanted n streams; due = x.due }

  same-identifier : (x : Sub) → (made x).identifier ≡ x.identifier
  same-identifier x = elim (bytes_eq x.identifier identifier) as (λ b. (cond b (written x) x).identifier ≡ x.identifier) [ true ↦ refl | false ↦ refl ]

  same-due : (x : Sub) → (made x).due ≡ x.due
  same-due x = elim (bytes_eq x.identifier identifier) as (λ b. (cond b (written x) x).due ≡ x.due) [ true ↦ refl | false ↦ refl ]

  streamed-stands : (s : ℕ) (i : List ℕ) (xs : List Sub) → Stands s i (map made xs) → Stands s i xs
  streamed-stands s i [] h = h
  streamed-stands s i (x ∷ xs) (inl e) = inl (sym (streamed-number n identifier stops streams x) ∙ e.0, sym (same-identifier x) ∙ e.1)
  streamed-stands s i (x ∷ xs) (inr e) = inr (streamed-stands s i xs e)

-- a change makes none but at its own place
changed-stands : (s : ℕ) (i : List ℕ) (place : ℕ) (k : Conn) (c : Change) → (place ≡ s → ⊥) → Stands s i (changed c place k).subs → Stands s i k.subs
changed-stands s i place k change.Nothing apart h = h
changed-stands s i place k (change.Add identifier streams) apart h =
    push-stands s i k.subs (record { number = place; identifier = identifier; wants = wanted k.made streams; due = first_above k.made streams }) apart h
changed-stands s i place k (change.Streams identifier stops streams) apart h = streamed-stands k.made identifier stops streams s i k.subs h
changed-stands s i place k (change.Remove identifier) apart h = filter-stands s i (λ x. not (bytes_eq x.identifier identifier)) k.subs h
changed-stands s i place k change.Close apart h = absurd h

-- where the numbers rise, one is there once
stands-within : (s : ℕ) (i : List ℕ) (b : ℕ) (xs : List Sub) (e : ℕ) → Rises (λ (x : Sub). x.number) b xs e → Stands s i xs → (b < s) × (s ≤ e)
stands-within s i b [] e r h = absurd h
stands-within s i b (x ∷ xs) e r (inl is) = let l = rises-to x.number xs e r.1 in (omega (arith, r.0, is.0), omega (arith, is.0))
  where
    rises-to : (a : ℕ) (ys : List Sub) (z : ℕ) → Rises (λ (y : Sub). y.number) a ys z → a ≤ z
    rises-to a [] z q = q
    rises-to a (y ∷ ys) z q = let l = rises-to y.number ys z q.1 in omega (arith, q.0)
stands-within s i b (x ∷ xs) e r (inr later) = let l = stands-within s i x.number xs e r.1 later in (omega (arith, r.0, l.0), l.1)

number-once : (s : ℕ) (i : List ℕ) (b : ℕ) (xs : List Sub) (e : ℕ) (y : Sub) → Rises (λ (x : Sub). x.number) b xs e → Stands s i xs → find (λ (x : Sub). x.number == s) xs ≡ Some y → y.identifier ≡ i
number-once s i b [] e y r h q = absurd h
number-once s i b (x ∷ xs) e y r (inl is) q =
    let here : (x.number == s) ≡ true = let n = is.0 in grind (arith, nat_tests) in
    let q' = rw here at q in
    let same : x ≡ y = cc (q') in
    sym (ap (λ (z : Sub). z.identifier) same) ∙ is.1
number-once s i b (x ∷ xs) e y r (inr later) q =
    let l = (stands-within s i x.number xs e r.1 later).0 in
    let apart : (x.number == s) ≡ false = grind (arith, nat_tests) in
    let q' = rw apart at q in
    number-once s i x.number xs e y r.1 later q'

-- ---- what an entry makes of a connection

record IsFinish (c : ℕ) (e : Step) : Type 0 where
  puts : List (Option RowId)
  plan : Plan
  is : e ≡ Step.Finish c puts plan

entry : (c : ℕ) (e : Step) (past : List Step) → Unfinished (seat c past) (seat c (e ∷ past)) ⊎ IsFinish c e
entry c (Step.Finish d puts plan) past = go (d == c) refl
  where
    go : (b : Bool) → (d == c) ≡ b → Unfinished (seat c past) (seat c (Step.Finish d puts plan ∷ past)) ⊎ IsFinish c (Step.Finish d puts plan)
    go true b = let same : d ≡ c = grind (arith, nat_tests) in inr (record { puts = puts; plan = plan; is = ap (λ x. Step.Finish x puts plan) same })
    go false b = inl (subst (λ t. Unfinished (seat c past) (cond t (with_plan (seat c past) plan) (seat c past))) (sym b) (record { conn = refl; done = refl }))
entry c e past = inl (unfinished c e past refl)

finish-seat : (c : ℕ) (puts : List (Option RowId)) (plan : Plan) (past : List Step) → seat c (Step.Finish c puts plan ∷ past) ≡ with_plan (seat c past) plan
finish-seat c puts plan past = let own : (c == c) ≡ true = grind (arith, nat_tests) in rw own refl

-- ---- a subscription stood before

record StoodBefore (c s : ℕ) (i : List ℕ) (past : List Step) (now : Seat) : Type 0 where
  stands : Stands s i now.conn.subs → Stands s i (seat c past).conn.subs
  done : (seat c past).done ≤ now.done

-- one whose number was given stood under its identifier
one-back : (pl : Planner) (c s : ℕ) (i : List ℕ) (e : Step) (past : List Step) → AllWorked pl c (e ∷ past) → s ≤ (seat c past).done → StoodBefore c s i past (seat c (e ∷ past))
one-back pl c s i e past a l =
    elim (entry c e past) as (λ _. StoodBefore c s i past (seat c (e ∷ past))) [
      | inl k ↦ record { stands = λ h. subst (λ x. Stands s i x.subs) k.conn h; done = omega (arith, k.done) }
      | inr f ↦ finishing f.puts f.plan f.is
    ]
  where
    finishing : (puts : List (Option RowId)) (plan : Plan) → e ≡ Step.Finish c puts plan → StoodBefore c s i past (seat c (e ∷ past))
    finishing puts plan is =
        let a' : AllWorked pl c (Step.Finish c puts plan ∷ past) = subst (λ x. AllWorked pl c (x ∷ past)) is a in
        let out = (a'.0 refl).0 in
        let now : seat c (e ∷ past) ≡ with_plan (seat c past) plan = ap (λ x. seat c (x ∷ past)) is ∙ finish-seat c puts plan past in
        let more : (seat c past).done < (seat c past).taken = grind (arith, nat_tests) in
        subst (StoodBefore c s i past) (sym now)
        (record { stands = changed-stands s i (seat c past).taken (seat c past).conn plan.change (λ q. omega (arith, more)); done = omega (arith, more) })

stood : (pl : Planner) (c s : ℕ) (i : List ℕ) (after past : List Step) → AllWorked pl c (after ++ past) → s ≤ (seat c past).done → StoodBefore c s i past (seat c (after ++ past))
stood pl c s i [] past a l = record { stands = λ h. h; done = omega arith }
stood pl c s i (e ∷ after) past a l =
    let earlier = stood pl c s i after past a.1 l in
    let last = one-back pl c s i e (after ++ past) a (omega (arith, earlier.done)) in
    record { stands = λ h. earlier.stands (last.stands h); done = omega (arith, earlier.done, last.done) }

-- ---- how a subscription was made

-- the Finish of its Subscribe, whose place is its number. It said the confirmation, where none is due
record Made (c : ℕ) (past : List Step) (x : Sub) : Type 0 where
  finish : FinishIn c past
  place : (seat c finish.past).taken ≡ x.number
  says : x.due ≡ None → is_said (confirm_text x.identifier) finish.plan.texts ≡ true

made-later : (c : ℕ) (e : Step) (past : List Step) (xs : List Sub) → AllByRecursion (Made c past) xs → AllByRecursion (Made c (e ∷ past)) xs
made-later c e past xs all = All-implied (Made c past) (Made c (e ∷ past)) xs (λ x m. record { finish = finish-later c e past m.finish; place = m.place; says = m.says }) all

subs-streamed : (c : ℕ) (past : List Step) (n : ℕ) (identifier : List ℕ) (stops streams : List (List ℕ)) (xs : List Sub) → AllByRecursion (Made c past) xs → AllByRecursion (Made c past) (map (streamed n identifier stops streams) xs)
subs-streamed c past n identifier stops streams [] all = tt
subs-streamed c past n identifier stops streams (x ∷ xs) all = (
  record {
    finish = all.0.finish;
    place = all.0.place ∙ sym (streamed-number n identifier stops streams x);
    says = λ d. ap (λ i. is_said (confirm_text i) all.0.finish.plan.texts) (same-identifier n identifier stops streams x) ∙ all.0.says (sym (same-due n identifier stops streams x) ∙ d);
  },
  subs-streamed c past n identifier stops streams xs all.1,
)

-- what a Finish whose change is this one makes of them
subs-changed : (c : ℕ) (puts : List (Option RowId)) (plan : Plan) (past : List Step) (ch : Change) → plan.change ≡ ch → ((j : List ℕ) → plan.change ≡ change.Add j [] → is_said (confirm_text j) plan.texts ≡ true)
    → AllByRecursion (Made c (Step.Finish c puts plan ∷ past)) (seat c past).conn.subs → AllByRecursion (Made c (Step.Finish c puts plan ∷ past)) (changed ch (seat c past).taken (seat c past).conn).subs
subs-changed c puts plan past change.Nothing e tells all = all
subs-changed c puts plan past (change.Add identifier streams) e tells all =
    All-append (Made c (Step.Finish c puts plan ∷ past)) (seat c past).conn.subs _ all
    (record { finish = record { after = []; puts = puts; plan = plan; past = past; splits = refl }; place = refl; says = λ none. tells identifier (e ∙ ap (change.Add identifier) (unwanted streams none)) }, tt)
  where
    unwanted : (names : List (List ℕ)) → first_above (seat c past).conn.made names ≡ None → names ≡ []
    unwanted [] none = refl
    unwanted (x ∷ xs) none = absurd (cc (none))
subs-changed c puts plan past (change.Streams identifier stops streams) e tells all = subs-streamed c (Step.Finish c puts plan ∷ past) (seat c past).conn.made identifier stops streams (seat c past).conn.subs all
subs-changed c puts plan past (change.Remove identifier) e tells all = All-filter (Made c (Step.Finish c puts plan ∷ past)) (λ x. not (bytes_eq x.identifier identifier)) (seat c past).conn.subs all
subs-changed c puts plan past change.Close e tells all = tt

-- what a planned Finish says where it subscribes
plan-tells : (r : Callbacks) (c : ℕ) (past : List Step) (plan : Plan) → job_plan r c past ≡ Some plan → (j : List ℕ) → plan.change ≡ change.Add j [] → is_said (confirm_text j) plan.texts ≡ true
plan-tells r c past plan e j adds =
    let x = job-planned r c past plan e in
    subst (λ (p : Plan). p.change ≡ change.Add j [] → is_said (confirm_text j) p.texts ≡ true) x.3 (task-tells r x.0 j (task_of (seat c past).conn x.1)) adds

subs-made : (r : Callbacks) (c : ℕ) (past : List Step) → AllPlanned r past → AllByRecursion (Made c past) (seat c past).conn.subs
subs-made r c [] a = tt
subs-made r c (e ∷ past) a = go (subs-made r c past a.1)
  where
    finishing : (puts : List (Option RowId)) (plan : Plan) → e ≡ Step.Finish c puts plan → AllByRecursion (Made c past) (seat c past).conn.subs → AllByRecursion (Made c (e ∷ past)) (seat c (e ∷ past)).conn.subs
    finishing puts plan is all =
        let a' : AllPlanned r (Step.Finish c puts plan ∷ past) = subst (λ x. AllPlanned r (x ∷ past)) is a in
        subst (λ x. AllByRecursion (Made c (x ∷ past)) (seat c (x ∷ past)).conn.subs) (sym is)
        (subst (λ (k : Seat). AllByRecursion (Made c (Step.Finish c puts plan ∷ past)) k.conn.subs) (sym (finish-seat c puts plan past))
        (subs-changed c puts plan past plan.change refl (plan-tells r c past plan a'.0) (made-later c (Step.Finish c puts plan) past (seat c past).conn.subs all)))

    go : AllByRecursion (Made c past) (seat c past).conn.subs → AllByRecursion (Made c (e ∷ past)) (seat c (e ∷ past)).conn.subs
    go all =
        elim (entry c e past) as (λ _. AllByRecursion (Made c (e ∷ past)) (seat c (e ∷ past)).conn.subs) [
          | inl k ↦ subst (λ (x : Conn). AllByRecursion (Made c (e ∷ past)) x.subs) (sym k.conn) (made-later c e past (seat c past).conn.subs all)
          | inr f ↦ finishing f.puts f.plan f.is all
        ]

-- ---- the one that a row is for

all-found : {A : Type 0} (P : A → Type 0) (p : A → Bool) (xs : List A) (x : A) → AllByRecursion P xs → find p xs ≡ Some x → P x × (p x ≡ true)
all-found P p [] x all q = absurd (cc (q))
all-found P p (y ∷ ys) x all q = go (p y) refl (all-found P p ys x all.1)
  where
    go : (b : Bool) → p y ≡ b → (find p ys ≡ Some x → P x × (p x ≡ true)) → P x × (p x ≡ true)
    go true b ih = let q' = rw b at q in let same : y ≡ x = cc (q') in (subst P same all.0, subst (λ z. p z ≡ true) same b)
    go false b ih = let q' = rw b at q in ih q'

due-found : (s : ℕ) (xs : List Sub) (d : Option ℕ) → due_in s xs ≡ Some d → (x : Sub) × (find (λ (y : Sub). y.number == s) xs ≡ Some x) × (x.due ≡ d)
due-found s [] d h = absurd (cc (h))
due-found s (x ∷ xs) d h = go (x.number == s) refl (due-found s xs d)
  where
    go : (b : Bool) → (x.number == s) ≡ b → (due_in s xs ≡ Some d → (y : Sub) × (find (λ (z : Sub). z.number == s) xs ≡ Some y) × (y.due ≡ d)) → (y : Sub) × (find (λ (z : Sub). z.number == s) (x ∷ xs) ≡ Some y) × (y.due ≡ d)
    go true b ih = let h' = rw b at h in (x, rw b refl, cc (h'))
    go false b ih = let h' = rw b at h in let r = ih h' in (r.0, rw b r.1, r.2)

-- ---- over a history

-- a Finish that stands before another one
abbrev earlier : (c : ℕ) (journal : List Step) (f : FinishIn c journal) → FinishIn c f.past → FinishIn c journal
earlier c journal f g =
    record {
      after = f.after ++ Step.Finish c f.puts f.plan ∷ g.after;
      puts = g.puts;
      plan = g.plan;
      past = g.past;
      splits = f.splits ∙ (ap (λ z. f.after ++ Step.Finish c f.puts f.plan ∷ z) g.splits ∙ sym (append_assoc f.after (Step.Finish c f.puts f.plan ∷ g.after) (Step.Finish c g.puts g.plan ∷ g.past)));
    }

module _ (r : Callbacks) (c : ℕ) (sub : SubNo) (i : List ℕ) (plan : Plan) (past : List Step) (x : Finishes r c plan past) (stands : Stands sub.0 i (seat c past).conn.subs) where
  -- it was confirmed by its Subscribe
  at-once : due_in sub.0 (seat c past).conn.subs ≡ Some None → ConfirmationSaid c sub i past
  at-once h =
      let k = (seat c past).conn in
      let found = due-found sub.0 k.subs None h in
      let valid = valid-at x.pl (seat c past) (λ s w. finished c s w past) (working x.pl c past x.works) in
      let same : found.0.identifier ≡ i = number-once sub.0 i 0 k.subs (seat c past).done found.0 valid.subs stands found.1 in
      let one = all-found (Made c past) (λ (y : Sub). y.number == sub.0) k.subs found.0 (subs-made r c past x.plans) found.1 in
      let m = one.0 in
      let is = one.1 in
      let number : found.0.number ≡ sub.0 = grind (arith, nat_tests) in
      record {
        finish = m.finish;
        says = ap (λ t. is_said (confirm_text t) m.finish.plan.texts) (sym same) ∙ m.says found.2;
        piece_is = inl (m.place ∙ number);
      }

  -- it was confirmed by a piece of its own
  by-piece : (g : FinishIn c past) → Finishes r c g.plan g.past → job (seat c g.past) ≡ Some (piece.Confirm sub) → ConfirmationSaid c sub i past
  by-piece g y is =
      let s = seat c g.past in
      let k = s.conn in
      let works = working y.pl c g.past y.works in
      let p = job-piece y.pl s (λ a w. finished c a w g.past) works y.out in
      let q : p.piece ≡ piece.Confirm sub = cc (p.is, is) in
      let found = sub-found sub.0 k.subs (subst (λ t. still k t ≡ true) q p.stands) in
      let valid = valid-at y.pl s (λ a w. finished c a w g.past) works in
      let given = (stands-within sub.0 found.0.identifier 0 k.subs s.done valid.subs (under-stands sub.0 found.0.identifier k (found-stands sub.0 k found.0 found.1))).1 in
      let here : List Step = Step.Finish c g.puts g.plan ∷ g.past in
      let a : AllWorked x.pl c (g.after ++ here) = subst (AllWorked x.pl c) g.splits x.works in
      let own = earlier-worked x.pl c g.after here a in
      let one = one-back x.pl c sub.0 i (Step.Finish c g.puts g.plan) g.past own given in
      let back = stood x.pl c sub.0 i g.after here a (omega (arith, given, one.done)) in
      let stood-there : Stands sub.0 i k.subs = one.stands (back.stands (subst (λ z. Stands sub.0 i (seat c z).conn.subs) g.splits stands)) in
      let same : found.0.identifier ≡ i = number-once sub.0 i 0 k.subs s.done found.0 valid.subs stood-there found.1 in
      let planned = plan-of-job r c g.past g.plan (piece.Confirm sub) y.planned is in
      let texts : confirm_text i ∷ [] ≡ g.plan.texts =
      ap (λ t. confirm_text t ∷ []) (sym same) ∙ ap (λ (z : Plan). z.texts) (ap (λ o. plan_for r planned.0 (confirm_task o)) (sym found.1) ∙ planned.1) in
      record { finish = g; says = ap (is_said (confirm_text i)) (sym texts) ∙ said-last (confirm_text i) []; piece_is = inr is }

pub rows-follow-text : (r : Rules) (events : List Event) → RowsFollowConfirmationText r events
rows-follow-text r events n c f sub want row is i under =
    let x = history-finishes r events n c f in
    let stands = under-stands sub.0 i (seat c f.past).conn under in
    elim (rows-follow r events n c f sub want row is) as (λ _. ConfirmationSaid c sub i f.past) [
      | inl none ↦ at-once r.callbacks c sub i f.plan f.past x stands none
      | inr g ↦ by-piece r.callbacks c sub i f.plan f.past x stands g.0 (history-finishes r events n c (earlier c (node_journal r events n) f g.0)) g.1
    ]
