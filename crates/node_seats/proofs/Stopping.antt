-- What a stop makes of each number.
use Rattle.std.proofs.Common.{◌≡◌, ◌||◌, ℕ, Bool, true, false, List, [], ◌∷◌, Option, Some, None, refl, sym, ap, ◌∙◌, arith, subst}
use Rattle.std.specs.Prelude.{is_some}
use Rattle.std.specs.List.{AllByRecursion, list_any}
use Rattle.std.specs.List.Sorted.{IsStrictlySortedBy}
use Rattle.std.specs.Ordering.{nat_cmp}
use Rattle.std.specs.BTreeMap.{is_at}
use Rattle.std.specs.BTreeSet.{BTreeSet, IsOrdered}
use Rattle.std.specs.Map.{keys_of}
use Rattle.std.proofs.lemmas.Bool.Decides.{nat_tests}
use Rattle.std.proofs.lemmas.Map.{keys-set_value}
use Rattle.node_seats.specs.Numbers.{Numbers, Opened, CanRestart, CanRestartAll, Restarts, RestartsIn, Stops, StopsOne, Rising, opened_at, seat_in}
use Rattle.node_seats.specs.Inside.{IsTidy}
use Rattle.node_seats.proofs.Faces.{Written, found-now, others-now}
use Rattle.node_seats.proofs.Lookups.{at-self, below-all, each-entry}
use Rattle.node_seats.proofs.Moving.{room-of, roomy-with}

-- ---- on one number

pub stops-one : (c : ℕ) (kept became : Opened) (v new : Numbers) → Written c kept became v new → (CanRestart kept → Restarts kept became)
    → (CanRestart kept → CanRestart became) → CanRestartAll v → StopsOne c v new
stops-one c kept became v new w restarts keeps can =
    record {
      numbers = ap keys_of w.now ∙ keys-set_value (is_at (nat_cmp c)) v became;
      stopped =
          subst (λ o. RestartsIn o (opened_at c new)) (sym w.found)
          (became, restarts (room-of c kept v w.found can), found-now c kept became v new w);
      others = others-now c kept became v new w;
      roomy = roomy-with c kept became v new w keeps can;
    }

pub stops-none : (c : ℕ) (v new : Numbers) → opened_at c v ≡ None → new ≡ v → CanRestartAll v → StopsOne c v new
stops-none c v new none same can =
    record {
      numbers = ap keys_of same;
      stopped = subst (λ o. RestartsIn o (opened_at c new)) (sym none) (ap (opened_at c) same ∙ none);
      others = λ d apart. ap (opened_at d) same;
      roomy = subst CanRestartAll (sym same) can;
    }

-- ---- on one after the other

-- those of the rest are as before, and on each of the others its piece was put
pub record Stopping (rest : List ℕ) (v new : Numbers) : Type 0 where
  pub numbers : keys_of new ≡ keys_of v
  pub rising : IsStrictlySortedBy nat_cmp rest
  pub waiting : (c : ℕ) → list_any (is_at (nat_cmp c)) rest ≡ true → opened_at c new ≡ opened_at c v
  pub stopped : (c : ℕ) → list_any (is_at (nat_cmp c)) rest ≡ false → RestartsIn (opened_at c v) (opened_at c new)
  pub roomy : CanRestartAll new

-- on one that is over none is to be put
pub stop-begins : (v : Numbers) (live : BTreeSet ℕ) → IsOrdered nat_cmp live → IsTidy v live → Stopping live.keys v v
stop-begins v live ordered is =
    record {
      numbers = refl;
      rising = ordered;
      waiting = λ c there. refl;
      stopped = λ c none. stays (opened_at c v) (sym (is.indexed c) ∙ none);
      roomy = is.roomy;
    }
  where
    stays : (o : Option Opened) → is_some (seat_in o) ≡ false → RestartsIn o o
    stays None over = refl
    stays (Some Opened.Over) over = (Opened.Over, refl, refl)
    stays (Some (Opened.Live s)) over = absurd cc

pub stop-next : (n : ℕ) (rest : List ℕ) (v old new : Numbers) → StopsOne n old new → Stopping (n ∷ rest) v old → Stopping rest v new
unfolding IsStrictlySortedBy
stop-next n rest v old new one s =
    record {
      numbers = one.numbers ∙ s.numbers;
      rising = s.rising.1;
      waiting = λ c there. one.others c (apart c there) ∙ s.waiting c (later c (is_at (nat_cmp c) n) there);
      stopped = λ c none. by-test c (is_at (nat_cmp c) n) refl none;
      roomy = one.roomy;
    }
  where
    apart : (c : ℕ) → list_any (is_at (nat_cmp c)) rest ≡ true → n ≡ c → ⊥
    apart c there same =
        let gone = below-all n rest s.rising.0 in
        absurd (let no_way : true ≡ false = sym there ∙ sym (ap (λ (x : ℕ). list_any (is_at (nat_cmp x)) rest) same) ∙ gone in cc)

    later : (c : ℕ) (b : Bool) → list_any (is_at (nat_cmp c)) rest ≡ true → (b || list_any (is_at (nat_cmp c)) rest) ≡ true
    later c true there = refl
    later c false there = there

    by-test : (c : ℕ) (b : Bool) → is_at (nat_cmp c) n ≡ b → list_any (is_at (nat_cmp c)) rest ≡ false → RestartsIn (opened_at c v) (opened_at c new)
    by-test c true is none =
        let same : n ≡ c = grind (arith, nat_tests, is) in
        let first : list_any (is_at (nat_cmp n)) (n ∷ rest) ≡ true = let t = at-self n in rw t refl in
        subst (λ (x : ℕ). RestartsIn (opened_at x v) (opened_at x new)) same
        (subst (λ o. RestartsIn o (opened_at n new)) (s.waiting n first) one.stopped)
    by-test c false is none =
        let passed : list_any (is_at (nat_cmp c)) (n ∷ rest) ≡ false = rw is none in
        let other : n ≡ c → ⊥ = λ same. absurd (let t = at-self n in let no_way : true ≡ false = sym t ∙ ap (λ (x : ℕ). is_at (nat_cmp x) n) same ∙ is in cc) in
        subst (RestartsIn (opened_at c v)) (sym (one.others c other)) (s.stopped c passed)

-- ---- on all of them

each-stops : (v new es fs : Numbers) → keys_of fs ≡ keys_of es → AllByRecursion (λ (e : ℕ × Opened). opened_at e.0 v ≡ Some e.1) es
    → AllByRecursion (λ (e : ℕ × Opened). opened_at e.0 new ≡ Some e.1) fs → ((c : ℕ) → RestartsIn (opened_at c v) (opened_at c new)) → Stops es fs
each-stops v new [] [] numbers was is each = refl
each-stops v new [] (f ∷ fs) numbers was is each = absurd cc
each-stops v new (e ∷ es) [] numbers was is each = absurd cc
each-stops v new (e ∷ es) (f ∷ fs) numbers was is each =
    (f.1, fs, here, each-stops v new es fs (cc numbers) was.1 is.1 each, ap (λ (k : ℕ). (k, f.1) ∷ fs) first)
  where
    first : f.0 ≡ e.0
    first = cc numbers

    here : Restarts e.1 f.1
    here =
        let r = subst (λ o. RestartsIn o (opened_at e.0 new)) was.0 (each e.0) in
        let there : Some r.0 ≡ Some f.1 = sym r.2 ∙ subst (λ (k : ℕ). opened_at k new ≡ Some f.1) first is.0 in
        let same : r.0 ≡ f.1 = cc there in
        subst (Restarts e.1) same r.1

same-live : (o p : Option Opened) → RestartsIn o p → is_some (seat_in o) ≡ is_some (seat_in p)
same-live None p r = ap (λ (x : Option Opened). is_some (seat_in x)) (sym r)
same-live (Some (Opened.Live s)) p r = ap (λ (x : Option Opened). is_some (seat_in x)) (sym (r.2 ∙ ap (λ (o : Opened). Some o) r.1.2))
same-live (Some Opened.Over) p r = ap (λ (x : Option Opened). is_some (seat_in x)) (sym (r.2 ∙ ap (λ (o : Opened). Some o) r.1))

module _ (v new : Numbers) (live : BTreeSet ℕ) (is : IsTidy v live) (s : Stopping [] v new) where
  rises : Rising new
  rises = subst (IsStrictlySortedBy nat_cmp) (sym s.numbers) is.rising

  pub stop-ends : Stops v new
  stop-ends =
      each-stops v new v new s.numbers (each-entry (λ c o. opened_at c v ≡ Some o) v is.rising (λ c o at. at))
      (each-entry (λ c o. opened_at c new ≡ Some o) new rises (λ c o at. at)) (λ c. s.stopped c refl)

  -- the same are live, and there is room on them
  pub tidy-stopped : IsTidy new live
  tidy-stopped =
      record { rising = rises; indexed = λ c. is.indexed c ∙ same-live (opened_at c v) (opened_at c new) (s.stopped c refl); roomy = s.roomy }
