-- What is left of rows when the first that pass a test were taken.
use Rattle.std.proofs.Common.{ℕ, zero, suc, ◌+◌, ◌<◌, ◌≤◌, ◌≡◌, ◌==◌, Bool, true, false, not, cond, List, [], ◌∷◌, ◌++◌, length, refl, arith, sym, ap, subst, ◌∙◌, get_or, take, drop, append_assoc}
use Rattle.std.specs.List.{AllByRecursion, filter, remove}
use Rattle.std.proofs.lemmas.Bool.Decides.{nat_tests}
use Rattle.std.proofs.lemmas.List.{drop_more, take_more, take_at, drop_at, length-take-le, take-append-drop}
use Rattle.std.proofs.lemmas.List.Elements.{All-from_recursion, recursion_from_All}
use Rattle.cable_base.specs.declared.rows.Row.{Row}
use Rattle.cable_base.proofs.Rises.{Rises, Rises-filter, increasing-rises}
use Rattle.cable_model.specs.Table.{has_id}
use Rattle.cable_model.proofs.Delivered.{id_of}
use Rattle.table_core.specs.Keepers.{is_before, first_before, without}
use Rattle.table_core.specs.Inside.{AreKept, IsKept, is_taken, left_of, rows_of}
use Rattle.table_core.specs.declared.memory.Kept.{Kept}
use Rattle.table_core.proofs.Rows.{rises-increasing}

-- ---- step by step

left-none : {A : Type 0} (test : A → Bool) (xs : List A) → left_of test 0 xs ≡ xs
left-none test [] = refl
left-none test (x ∷ xs) = refl

module _ {A : Type 0} (test : A → Bool) where
  pub take-removed : (xs : List A) (at : ℕ) → at < length xs → take at (remove xs at) ≡ take at xs
  take-removed xs at l = take_at (take at xs) (drop (suc at) xs) at (length-take-le at xs (omega arith))

  pub drop-removed : (xs : List A) (at : ℕ) → at < length xs → drop at (remove xs at) ≡ drop (suc at) xs
  drop-removed xs at l = drop_at (take at xs) (drop (suc at) xs) at (length-take-le at xs (omega arith))

  pub next-of : (xs : List A) (at : ℕ) (x : A) → at < length xs → x ≡ get_or xs at x → drop at xs ≡ x ∷ drop (suc at) xs
  next-of xs at x l e =
      let n : at + 1 ≡ suc at = omega arith in
      let d = drop_more xs at x l in
      d ∙ (ap (λ y. y ∷ drop (at + 1) xs) (sym e) ∙ ap (λ m. x ∷ drop m xs) n)

  -- the row at this place is taken
  pub left-taken : (xs ys : List A) (at n m : ℕ) (x : A) → at < length xs → x ≡ get_or xs at x → test x ≡ true → n ≡ suc m → ys ≡ remove xs at
      → take at ys ++ left_of test m (drop at ys) ≡ take at xs ++ left_of test n (drop at xs)
  left-taken xs ys at n m x l e t s r =
      rw (r, s, take-removed xs at l, drop-removed xs at l, next-of xs at x l e, t) refl

  pub count-taken : (xs ys : List A) (at n m : ℕ) (x : A) → at < length xs → x ≡ get_or xs at x → test x ≡ true → n ≡ suc m → ys ≡ remove xs at
      → suc (length (take m (filter test (drop at ys)))) ≡ length (take n (filter test (drop at xs)))
  count-taken xs ys at n m x l e t s r = rw (r, s, drop-removed xs at l, next-of xs at x l e, t) refl

  -- it is passed over
  pub left-passed : (xs : List A) (at n m : ℕ) (x : A) → at < length xs → x ≡ get_or xs at x → test x ≡ false → n ≡ suc m
      → take (at + 1) xs ++ left_of test n (drop (at + 1) xs) ≡ take at xs ++ left_of test n (drop at xs)
  left-passed xs at n m x l e t s =
      let k : at + 1 ≡ suc at = omega arith in
      let g = take_more xs at x l in
      let front : take (at + 1) xs ≡ take at xs ++ x ∷ [] = g ∙ ap (λ y. take at xs ++ y ∷ []) (sym e) in
      rw (front, k, s, next-of xs at x l e, t) (append_assoc (take at xs) (x ∷ []) (left_of test (suc m) (drop (suc at) xs)))

  pub count-passed : (xs : List A) (at n : ℕ) (x : A) → at < length xs → x ≡ get_or xs at x → test x ≡ false → length (take n (filter test (drop (at + 1) xs))) ≡ length (take n (filter test (drop at xs)))
  count-passed xs at n x l e t =
      let k : at + 1 ≡ suc at = omega arith in
      rw (k, next-of xs at x l e, t) refl

  -- at the end nothing more is taken
  pub left-done : (xs : List A) (at n : ℕ) → at ≤ length xs → (n ≡ 0) → take at xs ++ left_of test n (drop at xs) ≡ xs
  left-done xs at n l z = rw (z, left-none test (drop at xs)) (take-append-drop at xs)

  pub left-all : (P : A → Type 0) (n : ℕ) (xs : List A) → AllByRecursion P xs → AllByRecursion P (left_of test n xs)
  left-all P n [] a = tt
  left-all P zero (x ∷ xs) a = a
  left-all P (suc n) (x ∷ xs) a =
      let t = left-all P n xs a.1 in
      let f = left-all P (suc n) xs a.1 in
      elim (test x) as (λ b. AllByRecursion P (cond b (left_of test n xs) (x ∷ left_of test (suc n) xs))) [ true ↦ t | false ↦ (a.0, f) ]

-- ---- what is left, by ids

-- among rows above an id no row has it
none-has : (r : Row) (b e : ℕ) (rows : List Row) → r.id.0 ≤ b → Rises id_of b rows e → has_id r rows ≡ false
none-has r b e [] l h = refl
none-has r b e (x ∷ rows) l h =
    let t : (x.id.0 == r.id.0) ≡ false = grind (arith, nat_tests, h.0) in
    rw t (none-has r x.id.0 e rows (omega (arith, h.0)) h.1)

rises-taken : (n b e : ℕ) (rows : List Row) → Rises id_of b rows e → (d : ℕ) × Rises id_of b (take n rows) d
rises-taken zero b e rows h = (b, omega arith)
rises-taken (suc n) b e [] h = (e, h)
rises-taken (suc n) b e (r ∷ rows) h = let k = rises-taken n r.id.0 e rows h.1 in (k.0, (h.0, k.1))

-- tests that agree above an id keep the same of rows above it
agree-above : (p q : Row → Bool) (b e : ℕ) (rows : List Row) → Rises id_of b rows e → ((r : Row) → b < r.id.0 → p r ≡ q r) → filter p rows ≡ filter q rows
agree-above p q b e [] h s = refl
agree-above p q b e (r ∷ rows) h s =
    let here = s r h.0 in
    let rest = agree-above p q r.id.0 e rows h.1 (λ x l. s x (omega (arith, h.0))) in
    rw (here, rest) refl

without-none : (rows : List Row) → without [] rows ≡ rows
without-none [] = refl
without-none (r ∷ rows) = ap (λ ys. r ∷ ys) (without-none rows)

pub left-without : (test : Row → Bool) (n b e : ℕ) (rows : List Row) → Rises id_of b rows e → left_of test n rows ≡ without (take n (filter test rows)) rows
left-without test n b e [] h = refl
left-without test zero b e (r ∷ rows) h = sym (without-none (r ∷ rows))
left-without test (suc n) b e (r ∷ rows) h = go (test r) refl (left-without test n r.id.0 e rows h.1) (left-without test (suc n) r.id.0 e rows h.1)
  where
    self : (r.id.0 == r.id.0) ≡ true
    self = grind (arith, nat_tests)

    go : (t : Bool) → test r ≡ t → left_of test n rows ≡ without (take n (filter test rows)) rows → left_of test (suc n) rows ≡ without (take (suc n) (filter test rows)) rows
        → left_of test (suc n) (r ∷ rows) ≡ without (take (suc n) (filter test (r ∷ rows))) (r ∷ rows)
    go true t ih other =
        let same = agree-above (λ x. not (has_id x (take n (filter test rows)))) (λ x. not (has_id x (r ∷ take n (filter test rows)))) r.id.0 e rows h.1
        (λ x l. (let f : (r.id.0 == x.id.0) ≡ false = grind (arith, nat_tests) in rw f refl)) in
        let kept : filter test (r ∷ rows) ≡ r ∷ filter test rows = rw t refl in
        subst (λ xs. left_of test (suc n) (r ∷ rows) ≡ without (take (suc n) xs) (r ∷ rows)) (sym kept) (rw (t, self) (ih ∙ same))
    go false t other ih =
        let k = rises-taken (suc n) r.id.0 e (filter test rows) (Rises-filter id_of test r.id.0 rows e h.1) in
        let f = none-has r r.id.0 k.0 (take (suc n) (filter test rows)) (omega arith) k.1 in
        let same : filter test (r ∷ rows) ≡ filter test rows = rw t refl in
        subst (λ xs. left_of test (suc n) (r ∷ rows) ≡ without (take (suc n) xs) (r ∷ rows)) (sym same) (rw (t, f) (ap (λ ys. r ∷ ys) ih))

-- ---- of kept rows

left-rows : (before below n : ℕ) (ks : List Kept) → rows_of (left_of (is_taken before below) n ks) ≡ left_of (is_before before below) n (rows_of ks)
left-rows before below n [] = refl
left-rows before below zero (k ∷ ks) = refl
left-rows before below (suc n) (k ∷ ks) = go (is_taken before below k) refl (left-rows before below n ks) (left-rows before below (suc n) ks)
  where
    go : (t : Bool) → is_taken before below k ≡ t → rows_of (left_of (is_taken before below) n ks) ≡ left_of (is_before before below) n (rows_of ks)
        → rows_of (left_of (is_taken before below) (suc n) ks) ≡ left_of (is_before before below) (suc n) (rows_of ks)
        → rows_of (left_of (is_taken before below) (suc n) (k ∷ ks)) ≡ left_of (is_before before below) (suc n) (rows_of (k ∷ ks))
    go true t a b = rw t a
    go false t a b = rw t (ap (λ ys. k.row ∷ ys) b)

pub trimmed-rows : (before below n : ℕ) (ks : List Kept) → AreKept ks → rows_of (left_of (is_taken before below) n ks) ≡ without (first_before before below n (rows_of ks)) (rows_of ks)
trimmed-rows before below n ks a =
    let r = increasing-rises id_of 0 (rows_of ks) a.rising in
    left-rows before below n ks ∙ left-without (is_before before below) n 0 r.0 (rows_of ks) r.1

pub trimmed-kept : (before below n : ℕ) (ks : List Kept) → AreKept ks → AreKept (left_of (is_taken before below) n ks)
trimmed-kept before below n ks a =
    let r = increasing-rises id_of 0 (rows_of ks) a.rising in
    record {
      rising = rw (trimmed-rows before below n ks a) (rises-increasing id_of 0 (without (first_before before below n (rows_of ks)) (rows_of ks)) r.0 (Rises-filter id_of (λ x. not (has_id x (first_before before below n (rows_of ks)))) 0 (rows_of ks) r.0 r.1));
      each = All-from_recursion IsKept (left_of (is_taken before below) n ks) (left-all (is_taken before below) IsKept n ks (recursion_from_All IsKept ks a.each));
    }

pub count-rows : (before below n : ℕ) (ks : List Kept) → length (take n (filter (is_taken before below) ks)) ≡ length (first_before before below n (rows_of ks))
count-rows before below zero ks = refl
count-rows before below (suc n) [] = refl
count-rows before below (suc n) (k ∷ ks) = go (is_taken before below k) refl (count-rows before below n ks) (count-rows before below (suc n) ks)
  where
    go : (t : Bool) → is_taken before below k ≡ t → length (take n (filter (is_taken before below) ks)) ≡ length (first_before before below n (rows_of ks))
        → length (take (suc n) (filter (is_taken before below) ks)) ≡ length (first_before before below (suc n) (rows_of ks))
        → length (take (suc n) (filter (is_taken before below) (k ∷ ks))) ≡ length (first_before before below (suc n) (rows_of (k ∷ ks)))
    go true t a b = rw t (ap suc a)
    go false t a b = rw t b
