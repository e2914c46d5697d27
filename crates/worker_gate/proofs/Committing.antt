-- The commits of a list of casts, one after the other.
use Rattle.std.proofs.Common.{◌≡◌, ◌<◌, ℕ, zero, suc, ◌+◌, ◌-◌, List, [], ◌∷◌, ◌++◌, length, take, drop, Option, Some, None, slice_get, refl, sym, ap, subst, ◌∙◌, add-one, arith}
use Rattle.std.specs.Prelude.{Result, Ok, Err, OnErr}
use Rattle.std.proofs.lemmas.List.{length-append}
use Rattle.cable_base.specs.declared.numbers.ConnNo.{ConnNo}
use Rattle.cable_base.specs.declared.numbers.RowId.{RowId}
use Rattle.channel_book.specs.declared.answers.Cast.{Cast}
use Rattle.node_core.specs.Jobs.{WorkState}
use Rattle.worker_gate.specs.Working.{Commits, CommitsCast, CommitsFirst, Committing, WantsMemory, with_puts}

-- ---- an item of a list

get-behind : {A : Type 0} (xs : List A) (n : ℕ) (x : A) → slice_get xs n ≡ Some x → take (suc n) xs ≡ take n xs ++ x ∷ []
get-behind [] n x at = absurd cc
get-behind (y ∷ ys) zero x at = let e : y ≡ x = cc at in ap (λ z. z ∷ []) e
get-behind (y ∷ ys) (suc n) x at = ap (λ zs. y ∷ zs) (get-behind ys n x at)

get-parts : {A : Type 0} (xs : List A) (n : ℕ) (x : A) → slice_get xs n ≡ Some x → xs ≡ take n xs ++ x ∷ drop (suc n) xs
get-parts [] n x at = absurd cc
get-parts (y ∷ ys) zero x at = let e : y ≡ x = cc at in ap (λ z. z ∷ ys) e
get-parts (y ∷ ys) (suc n) x at = ap (λ zs. y ∷ zs) (get-parts ys n x at)

get-none : {A : Type 0} (xs : List A) (n : ℕ) → slice_get xs n ≡ None → take n xs ≡ xs
get-none [] zero at = refl
get-none [] (suc n) at = refl
get-none (y ∷ ys) zero at = absurd cc
get-none (y ∷ ys) (suc n) at = ap (λ zs. y ∷ zs) (get-none ys n at)

-- ---- commits

commits-more : {S : Type 0} (by : Committing S) (conn : ConnNo) (at : ℕ) (old : S) (cs : List Cast) (ids : List (Option RowId)) (mid : S) (c : Cast) (id : Option RowId) (new : S)
    → Commits by conn at old cs ids mid → CommitsCast by conn at mid c id new → Commits by conn at old (cs ++ c ∷ []) (ids ++ id ∷ []) new
commits-more by conn at old [] [] mid c id new h s = (new, subst (λ m. CommitsCast by conn at m c id new) h s, refl)
commits-more by conn at old [] (i ∷ is) mid c id new h s = absurd h
commits-more by conn at old (x ∷ xs) [] mid c id new h s = absurd h
commits-more by conn at old (x ∷ xs) (i ∷ is) mid c id new h s = (h.0, h.1, commits-more by conn at h.0 xs is mid c id new h.2 s)

-- so many of the first casts as there are notes were committed
abbrev pub CommitsSoFar : {S : Type 0} → (by : Committing S) → (conn : ConnNo) → (at : ℕ) → (old : S) → List Cast → List (Option RowId) → (here : S) → Type 0
CommitsSoFar by conn at old casts ids here = Commits by conn at old (take (length ids) casts) ids here

one-more : {S : Type 0} (by : Committing S) (conn : ConnNo) (at : ℕ) (old : S) (casts : List Cast) (ids : List (Option RowId)) (mid : S) (c : Cast) (id : Option RowId) (new : S)
    → slice_get casts (length ids) ≡ Some c → CommitsSoFar by conn at old casts ids mid → CommitsCast by conn at mid c id new → CommitsSoFar by conn at old casts (ids ++ id ∷ []) new
one-more by conn at old casts ids mid c id new got h s =
    let n : length (ids ++ id ∷ []) ≡ suc (length ids) = length-append ids (id ∷ []) ∙ add-one (length ids) in
    subst (λ xs. Commits by conn at old xs (ids ++ id ∷ []) new) (sym (ap (λ k. take k casts) n ∙ get-behind casts (length ids) c got)) (commits-more by conn at old (take (length ids) casts) ids mid c id new h s)

-- ---- the casts of a work

-- the work is this one but for its notes, and so many of its first casts as there are notes were committed
pub record NotedSoFar {S : Type 0} (by : Committing S) (at : ℕ) (old : S) (from w : WorkState) (here : S) : Type 0 where
  pub kept : w ≡ with_puts w.puts from
  pub made : CommitsSoFar by from.conn at old from.plan.casts w.puts here

same-casts : (from w : WorkState) (o : Option Cast) → w ≡ with_puts w.puts from → o ≡ slice_get w.plan.casts (length w.puts) → slice_get from.plan.casts (length w.puts) ≡ o
same-casts from w o kept got = sym (got ∙ ap (λ (v : WorkState). slice_get v.plan.casts (length w.puts)) kept)

pub noted-more : {S : Type 0} (by : Committing S) (conn : ConnNo) (at : ℕ) (old : S) (from w w' : WorkState) (mid : S) (c : Cast) (id : Option RowId) (new : S)
    → conn ≡ from.conn → NotedSoFar by at old from w mid → Some c ≡ slice_get w.plan.casts (length w.puts) → CommitsCast by conn at mid c id new → w' ≡ with_puts (w.puts ++ id ∷ []) w
    → NotedSoFar by at old from w' new
noted-more by conn at old from w w' mid c id new is h got s is' =
    let puts : w'.puts ≡ w.puts ++ id ∷ [] = ap (λ (v : WorkState). v.puts) is' in
    record {
      kept = is' ∙ ap (with_puts (w.puts ++ id ∷ [])) h.kept ∙ ap (λ ps. with_puts ps from) (sym puts);
      made = subst (λ ps. CommitsSoFar by from.conn at old from.plan.casts ps new) (sym puts)
          (one-more by from.conn at old from.plan.casts w.puts mid c id new (same-casts from w (Some c) h.kept got) h.made (subst (λ k. CommitsCast by k at mid c id new) is s));
    }

pub fewer-left : (w w' : WorkState) (id : Option RowId) → length w.puts < length w.plan.casts → w' ≡ with_puts (w.puts ++ id ∷ []) w → length w'.plan.casts - length w'.puts < length w.plan.casts - length w.puts
fewer-left w w' id l is =
    let casts : length w'.plan.casts ≡ length w.plan.casts = ap (λ (v : WorkState). length v.plan.casts) is in
    let puts : length w'.puts ≡ length w.puts + 1 = ap (λ (v : WorkState). length v.puts) is ∙ length-append w.puts (id ∷ []) in
    omega (arith, l, casts, puts)

pub all-noted : {S : Type 0} (by : Committing S) (at : ℕ) (old : S) (from w : WorkState) (new : S)
    → NotedSoFar by at old from w new → None ≡ slice_get w.plan.casts (length w.puts) → Commits by from.conn at old from.plan.casts w.puts new
all-noted by at old from w new h got =
    subst (λ xs. Commits by from.conn at old xs w.puts new) (get-none from.plan.casts (length w.puts) (same-casts from w None h.kept got)) h.made

pub stopped : {S : Type 0} (by : Committing S) (conn : ConnNo) (at : ℕ) (old : S) (from w : WorkState) (mid : S) (c : Cast) (new : S)
    → conn ≡ from.conn → NotedSoFar by at old from w mid → Some c ≡ slice_get w.plan.casts (length w.puts) → WantsMemory by conn at mid c new → CommitsFirst by from.conn at old from.plan.casts new
stopped by conn at old from w mid c new is h got wants =
    record {
      made = take (length w.puts) from.plan.casts;
      wanting = c;
      left = drop (suc (length w.puts)) from.plan.casts;
      ids = w.puts;
      mid = mid;
      casts_are = get-parts from.plan.casts (length w.puts) c (same-casts from w (Some c) h.kept got);
      commits = h.made;
      wants = subst (λ k. WantsMemory by k at mid c new) is wants;
    }

pub on-err : {T E P : Type 0} (r : Result T E) → P → OnErr r P
on-err (Ok x) p = tt
on-err (Err e) p = p
