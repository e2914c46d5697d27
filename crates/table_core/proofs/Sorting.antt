-- Where moments no longer fall: no row behind one that isn't old is old.
use Rattle.std.proofs.Common.{ℕ, zero, suc, ◌-◌, ◌<◌, ◌≤◌, ◌≡◌, Bool, true, false, cond, List, [], ◌∷◌, ◌++◌, length, refl, arith, sym, ap, subst, ◌∙◌, leb, ltb, get_or, take, drop}
use Rattle.std.specs.List.{AllByRecursion, filter}
use Rattle.std.proofs.lemmas.Bool.{and_parts}
use Rattle.std.proofs.lemmas.Bool.Decides.{nat_tests}
use Rattle.std.proofs.lemmas.List.{take-append-drop}
use Rattle.cable_base.proofs.Each.{All-append}
use Rattle.table_core.specs.Inside.{IsSortedFrom, ends_old, is_taken, left_of, rows_of}
use Rattle.table_core.specs.declared.memory.Kept.{Kept}
use Rattle.table_core.proofs.Taking.{left-all, next-of}

-- ---- the front goes

pub sorted-next : (from at : ℕ) (ks : List Kept) (k : Kept) → at < length ks → k ≡ get_or ks at k → IsSortedFrom from (drop at ks) → IsSortedFrom from (drop (suc at) ks)
sorted-next from at ks k l e c = (subst (IsSortedFrom from) (next-of (λ x. true) ks at k l e) c).1

pub sorted-left : (from n : ℕ) (test : Kept → Bool) (ks : List Kept) → IsSortedFrom from ks → IsSortedFrom from (left_of test n ks)
sorted-left from n test [] c = tt
sorted-left from zero test (k ∷ ks) c = c
sorted-left from (suc n) test (k ∷ ks) c =
    let t = sorted-left from n test ks c.1 in
    let f = sorted-left from (suc n) test ks c.1 in
    elim (test k) as (λ b. IsSortedFrom from (cond b (left_of test n ks) (k ∷ left_of test (suc n) ks)))
    [ true ↦ t | false ↦ (λ h. left-all test (λ j. k.row.created_at.0 ≤ j.row.created_at.0) (suc n) ks (c.0 h), f) ]

-- ---- a walk from the front stops

young-left : (before below n : ℕ) (ks : List Kept) → AllByRecursion (λ j. before ≤ j.row.created_at.0) ks → left_of (is_taken before below) n ks ≡ ks
young-left before below n [] a = refl
young-left before below zero (k ∷ ks) a = refl
young-left before below (suc n) (k ∷ ks) a =
    let t : ltb k.row.created_at.0 before ≡ false = grind (arith, nat_tests, a.0) in
    rw t (ap (λ js. k ∷ js) (young-left before below (suc n) ks a.1))

young-filter : (before below : ℕ) (ks : List Kept) → AllByRecursion (λ j. before ≤ j.row.created_at.0) ks → filter (is_taken before below) ks ≡ []
young-filter before below [] a = refl
young-filter before below (k ∷ ks) a =
    let t : ltb k.row.created_at.0 before ≡ false = grind (arith, nat_tests, a.0) in
    rw t (young-filter before below ks a.1)

later : (a b : ℕ) (ks : List Kept) → a ≤ b → AllByRecursion (λ j. b ≤ j.row.created_at.0) ks → AllByRecursion (λ j. a ≤ j.row.created_at.0) ks
later a b [] l h = tt
later a b (k ∷ ks) l h = (omega (arith, h.0), later a b ks l h.1)

young : (from before at : ℕ) (ks : List Kept) (k : Kept) → at < length ks → k ≡ get_or ks at k → ends_old from before k ≡ true → IsSortedFrom from (drop at ks) → AllByRecursion (λ j. before ≤ j.row.created_at.0) (drop at ks)
young from before at ks k l e t c =
    let n = next-of (λ x. true) ks at k l e in
    let p = and_parts (leb from k.row.id.0) (leb before k.row.created_at.0) t in
    let a : from ≤ k.row.id.0 = grind (arith, nat_tests, p.0) in
    let b : before ≤ k.row.created_at.0 = grind (arith, nat_tests, p.1) in
    let c' = subst (IsSortedFrom from) n c in
    subst (AllByRecursion (λ j. before ≤ j.row.created_at.0)) (sym n) (b, later before k.row.created_at.0 (drop (suc at) ks) b (c'.0 a))

pub stops-left : (from before below n at : ℕ) (ks : List Kept) (k : Kept) → at < length ks → k ≡ get_or ks at k → ends_old from before k ≡ true → IsSortedFrom from (drop at ks)
    → take at ks ++ left_of (is_taken before below) n (drop at ks) ≡ ks
stops-left from before below n at ks k l e t c = ap (λ js. take at ks ++ js) (young-left before below n (drop at ks) (young from before at ks k l e t c)) ∙ take-append-drop at ks

pub stops-count : (from before below n at : ℕ) (ks : List Kept) (k : Kept) → at < length ks → k ≡ get_or ks at k → ends_old from before k ≡ true → IsSortedFrom from (drop at ks)
    → length (take n (filter (is_taken before below) (drop at ks))) ≡ 0
stops-count from before below n at ks k l e t c = ap (λ js. length (take n js)) (young-filter before below (drop at ks) (young from before at ks k l e t c)) ∙ none n
  where
    none : (n : ℕ) → length (take {A = Kept} n []) ≡ 0
    none zero = refl
    none (suc n) = refl

-- ---- a row comes

at-end : (P : Kept → Type 0) (k : Kept) (ks : List Kept) (d : Kept) → AllByRecursion P (k ∷ ks) → P (get_or (k ∷ ks) (length ks) d)
at-end P k [] d a = a.0
at-end P k (j ∷ ks) d a = at-end P j ks d a.1

upto : (from t : ℕ) (k : Kept) (ks : List Kept) (d : Kept) → IsSortedFrom from (k ∷ ks) → (get_or (k ∷ ks) (length ks) d).row.created_at.0 ≤ t → AllByRecursion (λ j. from ≤ j.row.id.0 → j.row.created_at.0 ≤ t) (k ∷ ks)
upto from t k [] d c l = (λ h. l, tt)
upto from t k (j ∷ ks) d c l = (λ h. (let e = at-end (λ x. k.row.created_at.0 ≤ x.row.created_at.0) j ks d (c.0 h) in omega arith), upto from t j ks d c.1 l)

sorted-with : (from : ℕ) (ks : List Kept) (k : Kept) → IsSortedFrom from ks → AllByRecursion (λ j. from ≤ j.row.id.0 → j.row.created_at.0 ≤ k.row.created_at.0) ks → IsSortedFrom from (ks ++ k ∷ [])
sorted-with from [] k c u = (λ h. tt, tt)
sorted-with from (j ∷ ks) k c u = (λ h. All-append (λ x. j.row.created_at.0 ≤ x.row.created_at.0) ks (k ∷ []) (c.0 h) (u.0 h, tt), sorted-with from ks k c.1 u.1)

-- the moments go on from the last one
pub sorted-pushed : (from n : ℕ) (ks : List Kept) (k d : Kept) → IsSortedFrom from ks → n ≡ length ks → (0 < length ks → (get_or ks (n - 1) d).row.created_at.0 ≤ k.row.created_at.0) → IsSortedFrom from (ks ++ k ∷ [])
sorted-pushed from n [] k d c e l = (λ h. tt, tt)
sorted-pushed from n (j ∷ ks) k d c e l =
    let m : n - 1 ≡ length ks = omega arith in
    let l' : (get_or (j ∷ ks) (length ks) d).row.created_at.0 ≤ k.row.created_at.0 = subst (λ i. (get_or (j ∷ ks) i d).row.created_at.0 ≤ k.row.created_at.0) m (l (omega arith)) in
    sorted-with from (j ∷ ks) k c (upto from k.row.created_at.0 j ks d c l')

-- or they begin anew
pub sorted-anew : (ks : List Kept) (k : Kept) → AllByRecursion (λ r. r.id.0 < k.row.id.0) (rows_of ks) → IsSortedFrom k.row.id.0 (ks ++ k ∷ [])
sorted-anew [] k a = (λ h. tt, tt)
sorted-anew (j ∷ ks) k a = (λ h. absurd (omega (arith, a.0)), sorted-anew ks k a.1)

pub sorted-none : (from : ℕ) (ks : List Kept) (k : Kept) → rows_of ks ≡ [] → IsSortedFrom from (ks ++ k ∷ [])
sorted-none from [] k e = (λ h. tt, tt)
sorted-none from (j ∷ ks) k e = absurd (cc (e))
