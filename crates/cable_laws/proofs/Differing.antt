-- On a connection no two subscriptions have one identifier or one number, none wants a stream twice, and no two wants have one number.
use Rattle.std.proofs.Common.{ℕ, suc, ◌+◌, ◌-◌, ◌≡◌, ◌<◌, ◌≤◌, ◌==◌, Bool, true, false, cond, not, List, [], ◌∷◌, ◌++◌, append-nil, map, length, Some, None, Option, refl, ap, sym, subst, ◌∙◌, arith, bytes_eq, find}
use Rattle.std.specs.List.{list_any, AllByRecursion, IsDistinct}
use Rattle.std.proofs.lemmas.Bool.Decides.{nat_tests}
use Rattle.std.proofs.lemmas.Cmp.{nat_list_eq_equiv}
use Rattle.std.proofs.lemmas.Grind.{flat_map-append}
use Rattle.std.proofs.lemmas.List.{map-append}
use Rattle.std.proofs.lemmas.Map.Keys.{IsDistinct-push}
use Rattle.cable_base.proofs.Each.{All-append, All-back, All-filter, All-implied}
use Rattle.cable_base.proofs.Rises.{Rises}
use Rattle.cable_model.specs.declared.events.Event.{Event}
use Rattle.cable_model.specs.declared.pieces.Piece.{Piece}
use Rattle.cable_model.specs.declared.plans.Change.{Change}
use Rattle.cable_model.specs.declared.plans.Change.TheVariants as change
use Rattle.cable_model.specs.declared.plans.Plan.{Plan}
use Rattle.cable_model.specs.Steps.{Step}
use Rattle.cable_model.specs.Connection.{Want, Sub, Conn, Planner, wanted, first_above, among, without, streamed, changed}
use Rattle.cable_model.specs.Wants.{user_of}
use Rattle.cable_model.specs.Pieces.{seat}
use Rattle.cable_model.specs.Plans.{Callbacks, names_of, plan_of, unstopped}
use Rattle.cable_model.specs.Possible.{has_job, job_plan}
use Rattle.cable_model.specs.Window.{job, finished}
use Rattle.cable_model.specs.History.{Rules, start, run}
use Rattle.cable_model.specs.HistoryLaws.{planner_of}
use Rattle.cable_model.specs.Promise.{AllWorked}
use Rattle.cable_model.proofs.Entries.{unfinished}
use Rattle.cable_model.proofs.Inbox.{valid-at}
use Rattle.cable_model.proofs.NodeSound.{plans-for}
use Rattle.cable_model.proofs.Sound.{start-sound, run-sound}
use Rattle.cable_model.proofs.Valid.{Valid, changed-valid, wanted-rises, Valid-upto}
use Rattle.cable_model.proofs.Working.{working}
use Rattle.cable_laws.specs.Differ.{AreDistinct, AreDistinctTexts, identifiers, numbers_of, want_numbers, Differ, AllDiffer}
use Rattle.cable_laws.proofs.Growing.{AllPlanned, run-planned}
use Rattle.cable_laws.proofs.Distinct.{Differs, distinct-filter, distinct-append, distinct-front, distinct-back, distinct-parts, distinct-filter-flat, Rises-above, Rises-most, Rises-distinct, bound-differs, differs-swap, All-front, All-filter-map, empty-distinct}
use Rattle.cable_laws.proofs.Streaming.{StreamsDiffer, FitsConn, plan-fits, without-names}

wanted-names : (n : ℕ) (names : List (List ℕ)) → names_of (wanted n names) ≡ names
wanted-names n [] = refl
wanted-names n (name ∷ names) = ap (λ ns. name ∷ ns) (wanted-names (n + 1) names)

-- ---- a new subscription

none-named : (identifier : List ℕ) (xs : List Sub) → find (λ (s : Sub). bytes_eq s.identifier identifier) xs ≡ None → list_any (bytes_eq identifier) (identifiers xs) ≡ false
none-named identifier [] e = refl
none-named identifier (x ∷ xs) e = go (bytes_eq x.identifier identifier) refl (none-named identifier xs)
  where
    go : (b : Bool) → bytes_eq x.identifier identifier ≡ b → (find (λ (s : Sub). bytes_eq s.identifier identifier) xs ≡ None → list_any (bytes_eq identifier) (identifiers xs) ≡ false)
        → list_any (bytes_eq identifier) (identifiers (x ∷ xs)) ≡ false
    go true b ih = let e' = rw b at e in absurd (cc (e'))
    go false b ih = let e' = rw b at e in rw (nat_list_eq_equiv.symm identifier x.identifier, b) (ih e')

numbers-within : (m : ℕ) (xs : List Sub) → AllByRecursion (λ (x : Sub). Rises (λ (y : Want). y.number) 0 x.wants m) xs → AllByRecursion (λ n. n ≤ m) (want_numbers xs)
numbers-within m [] h = tt
numbers-within m (x ∷ xs) h = All-append (λ n. n ≤ m) (numbers_of x.wants) (want_numbers xs) (Rises-most (λ (y : Want). y.number) 0 x.wants m h.0) (numbers-within m xs h.1)

wanted-above : (m : ℕ) (names : List (List ℕ)) → AllByRecursion (λ n. m < n) (numbers_of (wanted m names))
wanted-above m names = Rises-above (λ (y : Want). y.number) m (wanted m names) (m + length names) (wanted-rises m names)

wanted-distinct : (m : ℕ) (names : List (List ℕ)) → AreDistinct (numbers_of (wanted m names))
wanted-distinct m names = Rises-distinct (λ (y : Want). y.number) m (wanted m names) (m + length names) (wanted-rises m names)

-- ---- streams of a subscription

-- the subscription isn't the one of this identifier
abbrev IsOther : List ℕ → Sub → Type 0
IsOther identifier x = bytes_eq x.identifier identifier ≡ false

others-of : (identifier : List ℕ) (x : Sub) (xs : List Sub) → bytes_eq x.identifier identifier ≡ true → AllByRecursion (λ i. bytes_eq x.identifier i ≡ false) (identifiers xs) → AllByRecursion (IsOther identifier) xs
others-of identifier x [] b d = tt
others-of identifier x (y ∷ xs) b d =
    (nat_list_eq_equiv.symm y.identifier identifier ∙ (sym (nat_list_eq_equiv.congr x.identifier identifier y.identifier b) ∙ d.0), others-of identifier x xs b d.1)

module _ (m : ℕ) (identifier : List ℕ) (stops streams : List (List ℕ)) where
  abbrev gets : Sub → Sub
  gets = streamed m identifier stops streams

  gets-identifier : (x : Sub) → (gets x).identifier ≡ x.identifier
  gets-identifier x = elim (bytes_eq x.identifier identifier) as (λ b. (cond b (record { number = x.number; identifier = x.identifier; wants = without stops x.wants ++ wanted m streams; due = x.due }) x).identifier ≡ x.identifier) [ true ↦ refl | false ↦ refl ]

  same-identifiers : (xs : List Sub) → identifiers (map gets xs) ≡ identifiers xs
  same-identifiers [] = refl
  same-identifiers (x ∷ xs) = rw (gets-identifier x, same-identifiers xs) refl

  others-same : (xs : List Sub) → AllByRecursion (IsOther identifier) xs → map gets xs ≡ xs
  others-same [] o = refl
  others-same (x ∷ xs) o = let b = o.0 in rw (b, others-same xs o.1) refl

  streams-differ : (xs : List Sub) → AreDistinctTexts (identifiers xs) → StreamsDiffer xs
      → ((s : Sub) → find (λ (y : Sub). bytes_eq y.identifier identifier) xs ≡ Some s → AreDistinctTexts (unstopped stops (names_of s.wants) ++ streams)) → StreamsDiffer (map gets xs)
  unfolding IsDistinct
  streams-differ [] i d new = tt
  streams-differ (x ∷ xs) i d new = go (bytes_eq x.identifier identifier) refl (streams-differ xs i.1 d.1)
    where
      go : (b : Bool) → bytes_eq x.identifier identifier ≡ b
          → (((s : Sub) → find (λ (y : Sub). bytes_eq y.identifier identifier) xs ≡ Some s → AreDistinctTexts (unstopped stops (names_of s.wants) ++ streams)) → StreamsDiffer (map gets xs))
          → StreamsDiffer (map gets (x ∷ xs))
      go true b ih =
          let here : find (λ (y : Sub). bytes_eq y.identifier identifier) (x ∷ xs) ≡ Some x = rw b refl in
          let names : names_of (without stops x.wants ++ wanted m streams) ≡ unstopped stops (names_of x.wants) ++ streams =
          map-append (λ (w : Want). w.name) (without stops x.wants) (wanted m streams) ∙ rw (without-names stops x.wants, wanted-names m streams) refl in
          rw (b, others-same xs (others-of identifier x xs b i.0)) (subst AreDistinctTexts (sym names) (new x here), d.1)
      go false b ih =
          rw b (d.0, ih (λ s e. new s (rw b e)))

  -- a fact of the old numbers and of the new ones
  numbers-hold : (P : ℕ → Type 0) → ((n : ℕ) → m < n → P n) → (xs : List Sub) → AllByRecursion P (want_numbers xs) → AllByRecursion P (want_numbers (map gets xs))
  numbers-hold P new [] h = tt
  numbers-hold P new (x ∷ xs) h = go (bytes_eq x.identifier identifier) refl (numbers-hold P new xs (All-back P (numbers_of x.wants) (want_numbers xs) h))
    where
      go : (b : Bool) → bytes_eq x.identifier identifier ≡ b → AllByRecursion P (want_numbers (map gets xs)) → AllByRecursion P (want_numbers (map gets (x ∷ xs)))
      go true b ih =
          let old = All-filter-map P (λ (w : Want). w.number) (λ w. not (among stops w.name)) x.wants (All-front P (numbers_of x.wants) (want_numbers xs) h) in
          let made = All-implied (λ n. m < n) P (numbers_of (wanted m streams)) new (wanted-above m streams) in
          let both = All-append P (numbers_of (without stops x.wants)) (numbers_of (wanted m streams)) old made in
          rw (b, map-append (λ (w : Want). w.number) (without stops x.wants) (wanted m streams))
          (All-append P (numbers_of (without stops x.wants) ++ numbers_of (wanted m streams)) (want_numbers (map gets xs)) both ih)
      go false b ih = rw b (All-append P (numbers_of x.wants) (want_numbers (map gets xs)) (All-front P (numbers_of x.wants) (want_numbers xs) h) ih)

  numbers-differ : (xs : List Sub) → AreDistinctTexts (identifiers xs) → AllByRecursion (λ n. n ≤ m) (want_numbers xs) → AreDistinct (want_numbers xs) → AreDistinct (want_numbers (map gets xs))
  unfolding IsDistinct
  numbers-differ [] i l d = tt
  numbers-differ (x ∷ xs) i l d =
      go (bytes_eq x.identifier identifier) refl (numbers-differ xs i.1 (All-back (λ n. n ≤ m) (numbers_of x.wants) (want_numbers xs) l) (distinct-back (λ a b. a == b) (numbers_of x.wants) (want_numbers xs) d))
    where
      old : AreDistinct (numbers_of x.wants)
      old = distinct-front (λ a b. a == b) (numbers_of x.wants) (want_numbers xs) d

      apart : Differs (λ a b. a == b) (numbers_of x.wants) (want_numbers xs)
      apart = distinct-parts (λ a b. a == b) (numbers_of x.wants) (want_numbers xs) d

      low : AllByRecursion (λ n. n ≤ m) (numbers_of x.wants)
      low = All-front (λ n. n ≤ m) (numbers_of x.wants) (want_numbers xs) l

      still-apart : (ns : List ℕ) → AllByRecursion (λ n. n ≤ m) ns → Differs (λ a b. a == b) ns (want_numbers xs) → Differs (λ a b. a == b) ns (want_numbers (map gets xs))
      still-apart [] a e = tt
      still-apart (n ∷ ns) a e =
          (numbers-hold (λ k. (n == k) ≡ false) (λ k above. let below = a.0 in grind (arith, nat_tests)) xs e.0, still-apart ns a.1 e.1)

      go : (b : Bool) → bytes_eq x.identifier identifier ≡ b → AreDistinct (want_numbers (map gets xs)) → AreDistinct (want_numbers (map gets (x ∷ xs)))
      go true b ih =
          let kept = without stops x.wants in
          let old' = distinct-filter (λ a b. a == b) (λ (w : Want). w.number) (λ w. not (among stops w.name)) x.wants old in
          let low' = All-filter-map (λ n. n ≤ m) (λ (w : Want). w.number) (λ w. not (among stops w.name)) x.wants low in
          let mine = distinct-append (λ a b. a == b) (numbers_of kept) (numbers_of (wanted m streams)) old' (wanted-distinct m streams) (bound-differs m (numbers_of kept) (numbers_of (wanted m streams)) low' (wanted-above m streams)) in
          let ours : Differs (λ a b. a == b) (numbers_of kept ++ numbers_of (wanted m streams)) (want_numbers xs) =
          All-append (λ a. AllByRecursion (λ b. (a == b) ≡ false) (want_numbers xs)) (numbers_of kept) (numbers_of (wanted m streams))
          (All-filter-map (λ a. AllByRecursion (λ b. (a == b) ≡ false) (want_numbers xs)) (λ (w : Want). w.number) (λ w. not (among stops w.name)) x.wants apart)
          (differs-swap (want_numbers xs) (numbers_of (wanted m streams)) (bound-differs m (want_numbers xs) (numbers_of (wanted m streams)) (All-back (λ n. n ≤ m) (numbers_of x.wants) (want_numbers xs) l) (wanted-above m streams))) in
          rw (b, others-same xs (others-of identifier x xs b i.0), map-append (λ (w : Want). w.number) kept (wanted m streams))
          (distinct-append (λ a b. a == b) (numbers_of kept ++ numbers_of (wanted m streams)) (want_numbers xs) mine (distinct-back (λ a b. a == b) (numbers_of x.wants) (want_numbers xs) d) ours)
      go false b ih = rw b (distinct-append (λ a b. a == b) (numbers_of x.wants) (want_numbers (map gets xs)) old ih (still-apart (numbers_of x.wants) low apart))

-- ---- any change

pub changed-differ : (n : ℕ) (k : Conn) (x : Change) → Valid n k → FitsConn k x → Differ k → Differ (changed x (suc n) k)
changed-differ n k change.Nothing v f d = d
changed-differ n k (change.Add identifier streams) v f d =
    let y : Sub = record { number = suc n; identifier = identifier; wants = wanted k.made streams; due = first_above k.made streams } in
    record {
      identifiers = rw (map-append (λ (x : Sub). x.identifier) k.subs (y ∷ [])) (IsDistinct-push nat_list_eq_equiv (identifiers k.subs) identifier d.identifiers (none-named identifier k.subs f.0));
      numbers = Rises-distinct (λ (x : Sub). x.number) 0 (k.subs ++ y ∷ []) (suc n) (changed-valid n k (change.Add identifier streams) v).subs;
      streams = All-append (λ (s : Sub). AreDistinctTexts (names_of s.wants)) k.subs (y ∷ []) d.streams (subst AreDistinctTexts (sym (wanted-names k.made streams)) f.1, tt);
      wants =
          rw (flat_map-append (λ (s : Sub). numbers_of s.wants) k.subs (y ∷ []), append-nil (numbers_of (wanted k.made streams)))
          (distinct-append (λ a b. a == b) (want_numbers k.subs) (numbers_of (wanted k.made streams)) d.wants (wanted-distinct k.made streams)
          (bound-differs k.made (want_numbers k.subs) (numbers_of (wanted k.made streams)) (numbers-within k.made k.subs v.wants) (wanted-above k.made streams)));
    }
changed-differ n k (change.Streams identifier stops streams) v f d =
    record {
      identifiers = subst AreDistinctTexts (sym (same-identifiers k.made identifier stops streams k.subs)) d.identifiers;
      numbers = Rises-distinct (λ (x : Sub). x.number) 0 (map (streamed k.made identifier stops streams) k.subs) (suc n) (changed-valid n k (change.Streams identifier stops streams) v).subs;
      streams = streams-differ k.made identifier stops streams k.subs d.identifiers d.streams f;
      wants = numbers-differ k.made identifier stops streams k.subs d.identifiers (numbers-within k.made k.subs v.wants) d.wants;
    }
changed-differ n k (change.Remove identifier) v f d =
    let stays = λ (x : Sub). not (bytes_eq x.identifier identifier) in
    record {
      identifiers = distinct-filter bytes_eq (λ (x : Sub). x.identifier) stays k.subs d.identifiers;
      numbers = distinct-filter (λ a b. a == b) (λ (x : Sub). x.number) stays k.subs d.numbers;
      streams = All-filter (λ (s : Sub). AreDistinctTexts (names_of s.wants)) stays k.subs d.streams;
      wants = distinct-filter-flat (λ a b. a == b) (λ (s : Sub). numbers_of s.wants) stays k.subs d.wants;
    }
changed-differ n k change.Close v f d = record { identifiers = empty-distinct bytes_eq; numbers = empty-distinct (λ a b. a == b); streams = tt; wants = empty-distinct (λ a b. a == b) }

-- ---- any journal

-- what is planned for the job that is out fits the connection
planned-fits : (r : Callbacks) (c : ℕ) (plan : Plan) (past : List Step) → job_plan r c past ≡ Some plan → Differ (seat c past).conn → FitsConn (seat c past).conn plan.change
planned-fits r c plan past e d = go (has_job (seat c past)) refl (user_of c past) (job (seat c past)) refl refl
  where
    go : (b : Bool) → has_job (seat c past) ≡ b → (u : Option (List ℕ)) (o : Option Piece) → user_of c past ≡ u → job (seat c past) ≡ o → FitsConn (seat c past).conn plan.change
    go false b u o u' o' = let e' = rw b at e in absurd (cc (e'))
    go true b None o u' o' = let e' = rw (b, u') at e in absurd (cc (e'))
    go true b (Some user) None u' o' = let e' = rw (b, u', o') at e in absurd (cc (e'))
    go true b (Some user) (Some p) u' o' =
        let e' = rw (b, u', o') at e in
        let same : plan_of r user (seat c past).conn p ≡ plan = cc (e') in
        subst (λ (x : Plan). FitsConn (seat c past).conn x.change) same (plan-fits r user (seat c past).conn p d.streams)

seat-differ : (r : Callbacks) (pl : Planner) (c : ℕ) (past : List Step) → AllPlanned r past → AllWorked pl c past → Differ (seat c past).conn
seat-differ r pl c [] p a = record { identifiers = empty-distinct bytes_eq; numbers = empty-distinct (λ a b. a == b); streams = tt; wants = empty-distinct (λ a b. a == b) }
seat-differ r pl c (Step.Finish d puts plan ∷ past) p a = go (d == c) refl (seat-differ r pl c past p.1 a.1)
  where
    go : (b : Bool) → (d == c) ≡ b → Differ (seat c past).conn → Differ (seat c (Step.Finish d puts plan ∷ past)).conn
    go true b ih =
        let same : d ≡ c = grind (arith, nat_tests) in
        let out : has_job (seat c past) ≡ true = (a.0 same).0 in
        let h : (seat c past).done < (seat c past).taken = grind (arith, nat_tests) in
        let n : ℕ = (seat c past).taken - 1 in
        let place : (seat c past).taken ≡ suc n = omega arith in
        let v = Valid-upto (seat c past).done n (seat c past).conn (omega arith) (valid-at pl (seat c past) (λ sub want. finished c sub want past) (working pl c past a.1)) in
        let is : job_plan r c past ≡ Some plan = subst (λ x. job_plan r x past ≡ Some plan) same p.0 in
        let new : Differ (changed plan.change (suc n) (seat c past).conn) = changed-differ n (seat c past).conn plan.change v (planned-fits r c plan past is ih) ih in
        rw b (subst (λ m. Differ (changed plan.change m (seat c past).conn)) (sym place) new)
    go false b ih = rw b ih
seat-differ r pl c (e ∷ past) p a = subst Differ (sym (unfinished c e past refl).conn) (seat-differ r pl c past p.1 a.1)

pub all-differ : (r : Rules) (events : List Event) → AllDiffer r events
all-differ r events n c =
    let past = (run r start events).nodes n in
    let user = user_of c past in
    let sound = run-sound r start events (start-sound r) in
    seat-differ r.callbacks (planner_of r.callbacks user) c past (run-planned r start events n tt) ((sound.nodes n).worked c (planner_of r.callbacks user) (plans-for r.callbacks user))
