-- A turn asks for the hash of every name that is held at its Ask, and so of every one that is held at its Deliver.
use Rattle.std.proofs.Common.{ℕ, suc, ◌-◌, ◌≡◌, ◌<◌, ◌≤◌, ◌==◌, Bool, true, false, cond, ◌||◌, List, [], ◌∷◌, ◌++◌, map, Some, None, Option, refl, ap, sym, subst, ◌∙◌, arith, is_some, ℤ}
use Rattle.std.specs.Ordering.{int_eq}
use Rattle.std.proofs.lemmas.Bool.Decides.{nat_tests, Decides-int_eq}
use Rattle.cable_model.specs.Steps.{Step}
use Rattle.cable_model.specs.Connection.{Want, Sub, Planner, changed, want_in, name_in, name_of}
use Rattle.cable_model.specs.Wants.{Mark, marks, mark_of, turn_mark, user_of, made, at_ask, marked}
use Rattle.cable_model.specs.Pieces.{seat}
use Rattle.cable_model.specs.Window.{Reads, finished}
use Rattle.cable_model.specs.Table.{contains}
use Rattle.cable_model.specs.Possible.{is_out, has_job}
use Rattle.cable_model.specs.History.{own_held, held_wants, held_subs, held_of, held_by, hashes_of}
use Rattle.cable_model.specs.Promise.{AllWorked}
use Rattle.cable_model.proofs.Entries.{unfinished}
use Rattle.cable_model.proofs.Valid.{Valid-upto, changed-keeps}
use Rattle.cable_model.proofs.Working.{working}
use Rattle.cable_model.proofs.Inbox.{valid-at}
use Rattle.cable_model.proofs.Marks.{made-at_ask, marked-made, made-conn, mark_of-append, first_mark}
use Rattle.cable_model.proofs.Asking.{AllAskHeld}
use Rattle.cable_model.proofs.Linking.{TurnsRise, delivered, Agree}

-- no entry brings a want back
pub conn-keeps : (pl : Planner) (c s w : ℕ) (name : List ℕ) (e : Step) (past : List Step) → AllWorked pl c (e ∷ past) → w ≤ made c past
    → name_of s w (seat c (e ∷ past)).conn ≡ Some name → name_of s w (seat c past).conn ≡ Some name
conn-keeps pl c s w name (Step.Finish d puts plan) past a l q = go (d == c) refl
  where
    go : (b : Bool) → (d == c) ≡ b → name_of s w (seat c past).conn ≡ Some name
    go false b = let q' = rw b at q in q'
    go true b =
        let q' = rw b at q in
        let job : has_job (seat c past) ≡ true = (a.0 (grind (arith, nat_tests))).0 in
        let h : (seat c past).done < (seat c past).taken = grind (arith, nat_tests) in
        let n : ℕ = (seat c past).taken - 1 in
        let p : (seat c past).taken ≡ suc n = omega arith in
        let v = Valid-upto (seat c past).done n (seat c past).conn (omega arith) (valid-at pl (seat c past) (λ sub want. finished c sub want past) (working pl c past a.1)) in
        let q2 : name_of s w (changed plan.change (suc n) (seat c past).conn) ≡ Some name = subst (λ m. name_of s w (changed plan.change m (seat c past).conn) ≡ Some name) p q' in
        changed-keeps n s w (seat c past).conn plan.change name v (omega (arith, made-conn c past)) q2
conn-keeps pl c s w name e past a l q = sym (ap (name_of s w) (unfinished c e past refl).conn) ∙ q

pub marks-at_ask : (c : ℕ) (past : List Step) → is_out past ≡ true → marks c past ≡ marks c (at_ask past)
marks-at_ask c [] o = refl
marks-at_ask c (Step.Ask turn ∷ past) o = refl
marks-at_ask c (Step.Deliver turn note ∷ past) o = absurd (cc (o))
marks-at_ask c (_ ∷ past) o = marks-at_ask c past o

pub name-at_ask : (pl : Planner) (c s w : ℕ) (name : List ℕ) (past : List Step) → AllWorked pl c past → is_out past ≡ true → w ≤ made c (at_ask past)
    → name_of s w (seat c past).conn ≡ Some name → name_of s w (seat c (at_ask past)).conn ≡ Some name
name-at_ask pl c s w name [] a o l q = q
name-at_ask pl c s w name (Step.Ask turn ∷ past) a o l q = q
name-at_ask pl c s w name (Step.Deliver turn note ∷ past) a o l q = absurd (cc (o))
name-at_ask pl c s w name (e ∷ past) a o l q =
    let g = made-at_ask c past in name-at_ask pl c s w name past a.1 o l (conn-keeps pl c s w name e past a (omega arith) q)

-- c was opened
abbrev pub was_opened : ℕ → List Step → Bool
was_opened c [] = false
was_opened c (Step.Open d token user ∷ past) = (d == c) || was_opened c past
was_opened c (_ ∷ past) = was_opened c past

or-true : (b : Bool) → (b || true) ≡ true
or-true true = refl
or-true false = refl

opened-at_ask : (c : ℕ) (past : List Step) → was_opened c (at_ask past) ≡ true → was_opened c past ≡ true
opened-at_ask c [] h = h
opened-at_ask c (Step.Ask turn ∷ past) h = h
opened-at_ask c (Step.Open d token user ∷ past) h = rw (opened-at_ask c past h) (or-true (d == c))
opened-at_ask c (_ ∷ past) h = opened-at_ask c past h

user-opened : (c : ℕ) (past : List Step) (u : List ℕ) → user_of c past ≡ Some u → was_opened c past ≡ true
user-opened c [] u h = absurd (cc (h))
user-opened c (Step.Open d token user ∷ past) u h = go (d == c) refl (user-opened c past u)
  where
    go : (b : Bool) → (d == c) ≡ b → (user_of c past ≡ Some u → was_opened c past ≡ true) → was_opened c (Step.Open d token user ∷ past) ≡ true
    go true b ih = rw b refl
    go false b ih = let h' = rw b at h in rw b (ih h')
user-opened c (_ ∷ past) u h = user-opened c past u h

pub marked-opened : (c w m : ℕ) (past : List Step) → mark_of w (marks c past) ≡ Some m → was_opened c past ≡ true
marked-opened c w m [] q = absurd (cc (q))
marked-opened c w m (Step.Deliver turn note ∷ past) q = go (mark_of w (marks c past)) refl (λ n. marked-opened c w n past) (user_of c (at_ask past)) refl
  where
    go : (o : Option ℕ) → mark_of w (marks c past) ≡ o → ((n : ℕ) → mark_of w (marks c past) ≡ Some n → was_opened c past ≡ true) → (u : Option (List ℕ)) → user_of c (at_ask past) ≡ u → was_opened c past ≡ true
    go (Some n) o ih u u' = ih n o
    go None o ih (Some u) e = opened-at_ask c past (user-opened c (at_ask past) u e)
    go None o ih None e =
        let q1 : first_mark (mark_of w (marks c past)) (mark_of w (turn_mark c note past)) ≡ Some m = sym (mark_of-append w (marks c past) (turn_mark c note past)) ∙ q in
        let q2 : mark_of w (turn_mark c note past) ≡ Some m = sym (ap (λ z. first_mark z (mark_of w (turn_mark c note past))) o) ∙ q1 in
        let q3 : mark_of w (marked None (made c (at_ask past)) note) ≡ Some m = subst (λ z. mark_of w (marked z (made c (at_ask past)) note) ≡ Some m) e q2 in
        absurd (cc (q3))
marked-opened c w m (Step.Open d token user ∷ past) q = rw (marked-opened c w m past q) (or-true (d == c))
marked-opened c w m (_ ∷ past) q = marked-opened c w m past q

module _ (hash : List ℕ → ℤ) where
  has : List (List ℕ) → List ℕ → Bool
  has names name = contains (map hash names) (hash name)

  has-append : (xs ys : List (List ℕ)) (name : List ℕ) → contains (map hash (xs ++ ys)) (hash name) ≡ (contains (map hash xs) (hash name) || contains (map hash ys) (hash name))
  has-append [] ys name = refl
  has-append (x ∷ xs) ys name =
      rw (has-append xs ys name) (elim (int_eq (hash x) (hash name)) as (λ b. (b || (contains (map hash xs) (hash name) || contains (map hash ys) (hash name))) ≡ ((b || contains (map hash xs) (hash name)) || contains (map hash ys) (hash name))) [ true ↦ refl | false ↦ refl ])

  wants-held : (ms : List Mark) (w m : ℕ) (name : List ℕ) (ws : List Want) → mark_of w ms ≡ Some m → want_in w ws ≡ Some name → contains (map hash (held_wants ms ws)) (hash name) ≡ true
  wants-held ms w m name [] o q = absurd (cc (q))
  wants-held ms w m name (y ∷ ys) o q = go (y.number == w) refl (wants-held ms w m name ys o)
    where
      go : (u : Bool) → (y.number == w) ≡ u → (want_in w ys ≡ Some name → contains (map hash (held_wants ms ys)) (hash name) ≡ true) → contains (map hash (held_wants ms (y ∷ ys))) (hash name) ≡ true
      go true u ih =
          let q' = rw u at q in
          let same : y.name ≡ name = cc (q') in
          let n : y.number ≡ w = grind (arith, nat_tests) in
          let hh : int_eq (hash name) (hash name) ≡ true = (Decides-int_eq (hash name) (hash name)).1 refl in
          rw (n, o, same, hh) refl
      go false u ih =
          let q' = rw u at q in
          let r = ih q' in
          elim (is_some (mark_of y.number ms)) as (λ b. contains (map hash (cond b (y.name ∷ held_wants ms ys) (held_wants ms ys))) (hash name) ≡ true) [ true ↦ rw r (or-true (int_eq (hash y.name) (hash name))) | false ↦ r ]

  subs-held : (ms : List Mark) (s w m : ℕ) (name : List ℕ) (xs : List Sub) → mark_of w ms ≡ Some m → name_in s w xs ≡ Some name → contains (map hash (held_subs ms xs)) (hash name) ≡ true
  subs-held ms s w m name [] o q = absurd (cc (q))
  subs-held ms s w m name (x ∷ xs) o q = go (x.number == s) refl (subs-held ms s w m name xs o)
    where
      go : (u : Bool) → (x.number == s) ≡ u → (name_in s w xs ≡ Some name → contains (map hash (held_subs ms xs)) (hash name) ≡ true) → contains (map hash (held_subs ms (x ∷ xs))) (hash name) ≡ true
      go true u ih = let q' = rw u at q in rw (has-append (held_wants ms x.wants) (held_subs ms xs) name, wants-held ms w m name x.wants o q') refl
      go false u ih = let q' = rw u at q in rw (has-append (held_wants ms x.wants) (held_subs ms xs) name, ih q') (or-true (contains (map hash (held_wants ms x.wants)) (hash name)))

  names-held : (c s w m : ℕ) (name : List ℕ) (past more : List Step) → was_opened c more ≡ true → mark_of w (marks c past) ≡ Some m → name_of s w (seat c past).conn ≡ Some name
      → contains (map hash (held_by past more)) (hash name) ≡ true
  names-held c s w m name past [] h o q = absurd (cc (h))
  names-held c s w m name past (Step.Open d token user ∷ more) h o q = go (d == c) refl (λ h'. names-held c s w m name past more h' o q)
    where
      here : contains (map hash (held_of c past)) (hash name) ≡ true
      here =
          has-append (cond (seat c past).conn.over [] (own_held (user_of c past) (mark_of 0 (marks c past)))) (held_subs (marks c past) (seat c past).conn.subs) name
          ∙ (ap (λ b. contains (map hash (cond (seat c past).conn.over [] (own_held (user_of c past) (mark_of 0 (marks c past))))) (hash name) || b) (subs-held (marks c past) s w m name (seat c past).conn.subs o q)
          ∙ or-true (contains (map hash (cond (seat c past).conn.over [] (own_held (user_of c past) (mark_of 0 (marks c past))))) (hash name)))

      go : (b : Bool) → (d == c) ≡ b → (was_opened c more ≡ true → contains (map hash (held_by past more)) (hash name) ≡ true) → contains (map hash (held_of d past ++ held_by past more)) (hash name) ≡ true
      go true b ih =
          let same : c ≡ d = grind (arith, nat_tests) in
          has-append (held_of d past) (held_by past more) name ∙ ap (λ x. x || contains (map hash (held_by past more)) (hash name)) (subst (λ e. contains (map hash (held_of e past)) (hash name) ≡ true) same here)
      go false b ih =
          let h' = rw b at h in
          has-append (held_of d past) (held_by past more) name ∙ (ap (λ x. contains (map hash (held_of d past)) (hash name) || x) (ih h') ∙ or-true (contains (map hash (held_of d past)) (hash name)))
  names-held c s w m name past (_ ∷ more) h o q = names-held c s w m name past more h o q

-- what a turn asks for has every name that is held while it is out
pub asks-for : (hash : List ℕ → ℤ) (pl : Planner) (c s w m : ℕ) (name : List ℕ) (past : List Step) → AllWorked pl c past → is_out past ≡ true → mark_of w (marks c past) ≡ Some m → name_of s w (seat c past).conn ≡ Some name
    → contains (hashes_of hash past) (hash name) ≡ true
asks-for hash pl c s w m name past a o mk q =
    let mk' : mark_of w (marks c (at_ask past)) ≡ Some m = sym (ap (mark_of w) (marks-at_ask c past o)) ∙ mk in
    names-held hash c s w m name (at_ask past) (at_ask past) (marked-opened c w m (at_ask past) mk') mk' (name-at_ask pl c s w name past a o (marked-made c w m (at_ask past) mk') q)

-- a later table's journal
pub asks-more : (reads reads' : Reads) (c : ℕ) (past : List Step) → TurnsRise past → ((t : ℕ) → t ≤ delivered past → Agree reads reads' t) → AllAskHeld reads c past → AllAskHeld reads' c past
asks-more reads reads' c [] n a l = tt
asks-more reads reads' c (Step.Deliver turn note ∷ past) n a l =
    (λ f s w m name o q row b. ((a turn (omega arith)) row).1 ∙ l.0 f s w m name o q row b, asks-more reads reads' c past n.1 (λ t h. a t (omega (arith, n.0))) l.1)
asks-more reads reads' c (_ ∷ past) n a l = (tt, asks-more reads reads' c past n a l.1)
