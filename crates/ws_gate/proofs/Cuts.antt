-- A text has one cut at the bytes of one kind: the parts that `split` gives.
use Rattle.std.proofs.Common.{◌≡◌, ℕ, ◌==◌, Bool, true, false, ◌||◌, cond, List, [], ◌∷◌, ◌++◌, refl, sym, ap, ◌∙◌, arith}
use Rattle.std.specs.List.{list_any, slice_split, onto_first, join_with_byte, AllByRecursion}
use Rattle.std.proofs.lemmas.Bool.Decides.{nat_tests}
use Rattle.std.proofs.lemmas.List.Splits.{slice_split-cons_yes, slice_split-cons_no, join_with_byte-slice_split}
use Rattle.ws_gate.specs.Parts.{Lacks, IsCutAt}

either_false : (a b : Bool) → (a || b) ≡ false → (a ≡ false) × (b ≡ false)
either_false true b e = absurd cc
either_false false b e = (refl, e)

eq_self : (c : ℕ) → (c == c) ≡ true
eq_self c = grind (arith, nat_tests)

-- ---- the parts of `split` are a cut

onto_free : (c x : ℕ) (ps : List (List ℕ)) → (x == c) ≡ false → AllByRecursion (Lacks c) ps → AllByRecursion (Lacks c) (onto_first x ps)
onto_free c x [] e free = (rw e refl, tt)
onto_free c x (p ∷ ps) e free = (rw e free.0, free.1)

parts_free : (c : ℕ) (text : List ℕ) → AllByRecursion (Lacks c) (slice_split (λ b. b == c) text)
parts_free c [] = (refl, tt)
parts_free c (x ∷ text) = by_byte (x == c) refl (parts_free c text)
  where
    by_byte : (b : Bool) → (x == c) ≡ b → AllByRecursion (Lacks c) (slice_split (λ y. y == c) text)
        → AllByRecursion (Lacks c) (cond b ([] ∷ slice_split (λ y. y == c) text) (onto_first x (slice_split (λ y. y == c) text)))
    by_byte true e again = (refl, again)
    by_byte false e again = onto_free c x (slice_split (λ y. y == c) text) e again

pub is_cut : (c : ℕ) (text : List ℕ) → IsCutAt c text (slice_split (λ b. b == c) text)
is_cut c text = record { joined = sym (join_with_byte-slice_split c text); free = parts_free c text }

-- ---- and there is no other

split_at : (c : ℕ) (part behind : List ℕ) → Lacks c part → slice_split (λ b. b == c) (part ++ c ∷ behind) ≡ part ∷ slice_split (λ b. b == c) behind
split_at c [] behind none = slice_split-cons_yes (λ (b : ℕ). b == c) c behind (eq_self c)
split_at c (x ∷ part) behind none =
    let e = either_false (x == c) (list_any (λ b. b == c) part) none in
    slice_split-cons_no (λ (b : ℕ). b == c) x (part ++ c ∷ behind) e.0 ∙ ap (onto_first x) (split_at c part behind e.1)

split_none : (c : ℕ) (part : List ℕ) → Lacks c part → slice_split (λ b. b == c) part ≡ part ∷ []
split_none c [] none = refl
split_none c (x ∷ part) none =
    let e = either_false (x == c) (list_any (λ b. b == c) part) none in
    slice_split-cons_no (λ (b : ℕ). b == c) x part e.0 ∙ ap (onto_first x) (split_none c part e.1)

joined_split : (c : ℕ) (part : List ℕ) (parts : List (List ℕ)) → AllByRecursion (Lacks c) (part ∷ parts) → slice_split (λ b. b == c) (join_with_byte c (part ∷ parts)) ≡ part ∷ parts
joined_split c part [] free = split_none c part free.0
joined_split c part (next ∷ parts) free = split_at c part (join_with_byte c (next ∷ parts)) free.0 ∙ ap (λ (ps : List (List ℕ)). part ∷ ps) (joined_split c next parts free.1)

-- a cut with this part is what `split` gives
pub split_is : (c : ℕ) (text : List ℕ) (earlier : List (List ℕ)) (part : List ℕ) (later : List (List ℕ)) → IsCutAt c text (earlier ++ part ∷ later)
    → slice_split (λ b. b == c) text ≡ earlier ++ part ∷ later
split_is c text [] part later cut = ap (slice_split (λ (b : ℕ). b == c)) cut.joined ∙ joined_split c part later cut.free
split_is c text (first ∷ earlier) part later cut = ap (slice_split (λ (b : ℕ). b == c)) cut.joined ∙ joined_split c first (earlier ++ part ∷ later) cut.free
