-- The first place at which a test passes, and the index that gives it for each name.
use Rattle.std.proofs.Common.{◌≡◌, ℕ, zero, suc, ◌+◌, ◌<◌, ◌≤◌, Bool, true, false, cond, ◌||◌, List, [], ◌∷◌, ◌++◌, take, drop, length, get_or, add-one, Option, Some, None, refl, sym, ap, subst, ◌∙◌, arith, is_some}
use Rattle.std.specs.Prelude.{nat_lt, slice_get, find, String, bytes_eq}
use Rattle.std.specs.List.{list_any, position_from}
use Rattle.std.specs.Option.{option_or}
use Rattle.std.specs.Map.{update}
use Rattle.std.specs.HashMap.{HashMap, get_by_text}
use Rattle.std.proofs.Math.Seq.{drop-cons, take-suc}
use Rattle.std.proofs.lemmas.Bool.Decides.{nat_tests}
use Rattle.std.proofs.lemmas.Slice.Eq.{bytes_eq-Decides}
use Rattle.channel_book.specs.Names.{is_named, IsIndex, IndexesSoFar}

never : {A : Type 0} → false ≡ true → A
never e = absurd cc

-- the items that are left begin with the one at this place
pub next_item : {X : Type 0} (xs : List X) (i : ℕ) (x : X) → i < length xs → x ≡ get_or xs i x → drop i xs ≡ x ∷ drop (i + 1) xs
next_item xs i x lt is = rw add-one (drop-cons xs i x lt ∙ ap (λ (y : _). y ∷ drop (suc i) xs) (sym is))

-- the items so far end with the one at this place
pub taken_item : {X : Type 0} (xs : List X) (i : ℕ) (x : X) → i < length xs → x ≡ get_or xs i x → take (i + 1) xs ≡ take i xs ++ x ∷ []
taken_item xs i x lt is = rw add-one (take-suc xs i x lt ∙ ap (λ (y : _). take i xs ++ y ∷ []) (sym is))

-- ---- the first place

-- where a test passes first stands what it finds
found_at : {X : Type 0} (test : X → Bool) (i : ℕ) (xs : List X) (p : ℕ) → position_from test i xs ≡ Some p → (k : ℕ) × (p ≡ i + k) × (slice_get xs k ≡ find test xs)
found_at test i [] p e = absurd cc
found_at {X} test i (x ∷ xs) p e = tested (test x) (found_at test (i + 1) xs p) e
  where
    tested : (b : Bool) → (position_from test (i + 1) xs ≡ Some p → (k : ℕ) × (p ≡ i + 1 + k) × (slice_get xs k ≡ find test xs)) → cond b (Some i) (position_from test (i + 1) xs) ≡ Some p
        → (k : ℕ) × (p ≡ i + k) × (slice_get (x ∷ xs) k ≡ cond b (Some x) (find test xs))
    tested true again e = let is : i ≡ p = cc in (0, omega (arith, is), refl)
    tested false again e = let h = again e in (suc h.0, omega (arith, h.1), h.2)

pub get_found : {X : Type 0} (test : X → Bool) (xs : List X) (p : ℕ) → position_from test 0 xs ≡ Some p → slice_get xs p ≡ find test xs
get_found test xs p e =
    let h = found_at test 0 xs p e in
    let is : p ≡ h.0 = omega (arith, h.1) in
    subst (λ (k : ℕ). slice_get xs k ≡ find test xs) (sym is) h.2

pub none_found : {X : Type 0} (test : X → Bool) (i : ℕ) (xs : List X) → position_from test i xs ≡ None → find test xs ≡ None
none_found test i [] e = refl
none_found {X} test i (x ∷ xs) e = tested (test x) (none_found test (i + 1) xs) e
  where
    tested : (b : Bool) → (position_from test (i + 1) xs ≡ None → find test xs ≡ None) → cond b (Some i) (position_from test (i + 1) xs) ≡ None → cond b (Some x) (find test xs) ≡ None
    tested true again e = absurd cc
    tested false again e = again e

-- it passes somewhere exactly where it has a first place
pub any_placed : {X : Type 0} (test : X → Bool) (i : ℕ) (xs : List X) → is_some (position_from test i xs) ≡ list_any test xs
any_placed test i [] = refl
any_placed {X} test i (x ∷ xs) = tested (test x) (any_placed test (i + 1) xs)
  where
    tested : (b : Bool) → is_some (position_from test (i + 1) xs) ≡ list_any test xs → is_some (cond b (Some i) (position_from test (i + 1) xs)) ≡ (b || list_any test xs)
    tested true again = refl
    tested false again = again

-- a first place before this one
abbrev pub is_before : ℕ → Option ℕ → Bool
is_before n None = false
is_before n (Some p) = nat_lt p n

none_before : {X : Type 0} (test : X → Bool) (i n : ℕ) (xs : List X) → n ≤ i → is_before n (position_from test i xs) ≡ false
none_before test i n [] le = refl
none_before {X} test i n (x ∷ xs) le = tested (test x) (none_before test (i + 1) n xs (omega arith))
  where
    tested : (b : Bool) → is_before n (position_from test (i + 1) xs) ≡ false → is_before n (cond b (Some i) (position_from test (i + 1) xs)) ≡ false
    tested true again = grind (arith, nat_tests)
    tested false again = again

any_before_from : {X : Type 0} (test : X → Bool) (i n : ℕ) (xs : List X) → is_before (i + n) (position_from test i xs) ≡ list_any test (take n xs)
any_before_from test i zero [] = refl
any_before_from test i (suc n) [] = refl
any_before_from test i zero (x ∷ xs) = none_before test i (i + 0) (x ∷ xs) (omega arith)
any_before_from {X} test i (suc n) (x ∷ xs) = tested (test x) (any_before_from test (i + 1) n xs)
  where
    tested : (b : Bool) → is_before (i + 1 + n) (position_from test (i + 1) xs) ≡ list_any test (take n xs) → is_before (i + suc n) (cond b (Some i) (position_from test (i + 1) xs)) ≡ (b || list_any test (take n xs))
    tested true again = grind (arith, nat_tests)
    tested false again = let e : i + suc n ≡ i + 1 + n = omega arith in rw e again

pub any_before : {X : Type 0} (test : X → Bool) (n : ℕ) (xs : List X) → is_before n (position_from test 0 xs) ≡ list_any test (take n xs)
any_before test n xs = let e : n ≡ 0 + n = omega arith in subst (λ (m : ℕ). is_before m (position_from test 0 xs) ≡ list_any test (take n xs)) (sym e) (any_before_from test 0 n xs)

-- ---- the index, as it is made

kept : (i : ℕ) (o : Option ℕ) (b : Bool) (rest all : Option ℕ) → (b ≡ true → is_some o ≡ true) → option_or o (cond b (Some i) rest) ≡ all → option_or o rest ≡ all
kept i None true rest all h e = never (h refl)
kept i None false rest all h e = e
kept i (Some p) b rest all h e = e

-- a name that stands in the index keeps its place
pub present_step : {X Y S : Type 0} (name_of : X → List ℕ) (places : HashMap (String Y) ℕ S) (i : ℕ) (x : X) (now rest xs : List X)
    → now ≡ x ∷ rest → is_some (get_by_text places (name_of x)) ≡ true → IndexesSoFar name_of places i now xs → IndexesSoFar name_of places (i + 1) rest xs
present_step {X} name_of places i x now rest xs is_now present h = λ q.
    let before : option_or (get_by_text places q) (position_from (is_named name_of q) i (x ∷ rest)) ≡ position_from (is_named name_of q) 0 xs = subst (λ (ys : List X). option_or (get_by_text places q) (position_from (is_named name_of q) i ys) ≡ position_from (is_named name_of q) 0 xs) is_now (h q) in
    kept i (get_by_text places q) (bytes_eq (name_of x) q) (position_from (is_named name_of q) (i + 1) rest) (position_from (is_named name_of q) 0 xs)
    (λ same. subst (λ (y : List ℕ). is_some (get_by_text places y) ≡ true) ((bytes_eq-Decides (name_of x) q).0 same) present) before

added : (i : ℕ) (o : Option ℕ) (b : Bool) (rest all : Option ℕ) → (b ≡ true → o ≡ None) → option_or o (cond b (Some i) rest) ≡ all → option_or (cond b (Some i) o) rest ≡ all
added i None true rest all h e = e
added i None false rest all h e = e
added i (Some p) true rest all h e = absurd (let no = h refl in cc)
added i (Some p) false rest all h e = e

pub none_of : (o : Option ℕ) → is_some o ≡ false → o ≡ None
none_of None e = refl
none_of (Some p) e = absurd cc

-- a new name gets this place
pub absent_step : {X Y S : Type 0} (name_of : X → List ℕ) (places new : HashMap (String Y) ℕ S) (i : ℕ) (x : X) (now rest xs : List X)
    → now ≡ x ∷ rest → get_by_text places (name_of x) ≡ None → ((q : List ℕ) → get_by_text new q ≡ update bytes_eq (get_by_text places) (name_of x) (Some i) q) → IndexesSoFar name_of places i now xs → IndexesSoFar name_of new (i + 1) rest xs
absent_step {X} name_of places new i x now rest xs is_now absent updates h = λ q.
    let before : option_or (get_by_text places q) (position_from (is_named name_of q) i (x ∷ rest)) ≡ position_from (is_named name_of q) 0 xs = subst (λ (ys : List X). option_or (get_by_text places q) (position_from (is_named name_of q) i ys) ≡ position_from (is_named name_of q) 0 xs) is_now (h q) in
    rw (updates q)
    (added i (get_by_text places q) (bytes_eq (name_of x) q) (position_from (is_named name_of q) (i + 1) rest) (position_from (is_named name_of q) 0 xs)
    (λ same. subst (λ (y : List ℕ). get_by_text places y ≡ None) ((bytes_eq-Decides (name_of x) q).0 same) absent) before)

or_none : (o : Option ℕ) → option_or o None ≡ o
or_none None = refl
or_none (Some p) = refl

-- behind the last item the index is whole
pub whole_index : {X Y S : Type 0} (name_of : X → List ℕ) (places : HashMap (String Y) ℕ S) (i : ℕ) (rest xs : List X) → rest ≡ [] → IndexesSoFar name_of places i rest xs → IsIndex name_of places xs
whole_index {X} name_of places i rest xs done h = λ q.
    sym (or_none (get_by_text places q)) ∙ subst (λ (ys : List X). option_or (get_by_text places q) (position_from (is_named name_of q) i ys) ≡ position_from (is_named name_of q) 0 xs) done (h q)

-- ---- look-ups

-- what stands at the place that the index gives is the item of the name
pub looked_up : {X Y S : Type 0} (name_of : X → List ℕ) (places : HashMap (String Y) ℕ S) (xs : List X) (q : List ℕ) (p : ℕ) → IsIndex name_of places xs → get_by_text places q ≡ Some p → slice_get xs p ≡ find (is_named name_of q) xs
looked_up name_of places xs q p h e = get_found (is_named name_of q) xs p (sym (h q) ∙ e)

pub looked_up_none : {X Y S : Type 0} (name_of : X → List ℕ) (places : HashMap (String Y) ℕ S) (xs : List X) (q : List ℕ) → IsIndex name_of places xs → get_by_text places q ≡ None → find (is_named name_of q) xs ≡ None
looked_up_none name_of places xs q h e = none_found (is_named name_of q) 0 xs (sym (h q) ∙ e)

pub contained : {X Y S : Type 0} (name_of : X → List ℕ) (places : HashMap (String Y) ℕ S) (xs : List X) (q : List ℕ) → IsIndex name_of places xs → is_some (get_by_text places q) ≡ list_any (is_named name_of q) xs
contained name_of places xs q h = ap (λ (o : Option ℕ). is_some o) (h q) ∙ any_placed (is_named name_of q) 0 xs

pub stood : {X Y S : Type 0} (name_of : X → List ℕ) (places : HashMap (String Y) ℕ S) (xs : List X) (q : List ℕ) (n : ℕ) → IsIndex name_of places xs → is_before n (get_by_text places q) ≡ list_any (is_named name_of q) (take n xs)
stood name_of places xs q n h = ap (is_before n) (h q) ∙ any_before (is_named name_of q) n xs
