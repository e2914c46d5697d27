-- What is taken out of the queues of connections that differ, one after the other.
use Rattle.std.proofs.Common.{◌≡◌, ◌≤◌, ℕ, zero, suc, ◌+◌, ◌==◌, Bool, true, false, ◌||◌, List, [], ◌∷◌, ◌++◌, length, map, flat_map, drop, Some, Result, Ok, Err, refl, sym, ap, subst, ◌∙◌, append_assoc, add-one, arith}
use Rattle.std.specs.Prelude.{slice_get, IfOk}
use Rattle.std.specs.List.{list_any, AllByRecursion, IsDistinct}
use Rattle.std.specs.Ordering.{nat_cmp, eq_by_cmp}
use Rattle.std.proofs.lemmas.Bool.Decides.{nat_tests}
use Rattle.std.proofs.lemmas.List.{append-nil}
use Rattle.std.proofs.lemmas.Option.{slice_get_within}
use Rattle.std.proofs.lemmas.Map.Keys.{IsDistinct-head, IsDistinct-tail}
use Rattle.cable_base.specs.declared.numbers.ConnNo.{ConnNo}
use Rattle.cable_model.specs.declared.lines.Line.{Line}
use Rattle.cable_model.specs.Journal.{Kept, past_of}
use Rattle.cable_model.specs.Transcript.{queued}
use Rattle.node_core.specs.Nodes.{NodeState, past, taken_out}
use Rattle.node_world.specs.Draining.{left_on}

-- ---- one connection

drop-got : {A : Type 0} (xs : List A) (n : ℕ) (x : A) → slice_get xs n ≡ Some x → drop n xs ≡ x ∷ drop (suc n) xs
drop-got [] n x at = absurd cc
drop-got (y ∷ ys) zero x at = let e : y ≡ x = cc at in ap (λ z. z ∷ ys) e
drop-got (y ∷ ys) (suc n) x at = drop-got ys n x at

pub line-more : (lines lines' : List Line) (x : Line) (c : ℕ) (n n' : NodeState) → lines' ≡ lines ++ x ∷ [] → n'.kept ≡ n.kept → slice_get (queued c (past n)) (taken_out c n) ≡ Some x
    → taken_out c n' ≡ taken_out c n + 1 → lines' ++ left_on n' c ≡ lines ++ left_on n c
line-more lines lines' x c n n' more kept got taken =
    ap (λ ls. ls ++ left_on n' c) more
    ∙ append_assoc lines (x ∷ []) (left_on n' c)
    ∙ ap (λ (k : Kept). lines ++ x ∷ drop (taken_out c n') (queued c (past_of k))) kept
    ∙ ap (λ m. lines ++ x ∷ drop m (queued c (past n))) (taken ∙ add-one (taken_out c n))
    ∙ ap (λ ls. lines ++ ls) (sym (drop-got (queued c (past n)) (taken_out c n) x got))

pub within-more : (x : Line) (c : ℕ) (n n' : NodeState) → n'.kept ≡ n.kept → slice_get (queued c (past n)) (taken_out c n) ≡ Some x → taken_out c n' ≡ taken_out c n + 1
    → taken_out c n' ≤ length (queued c (past n'))
within-more x c n n' kept got taken =
    let within = slice_get_within (queued c (past n)) (taken_out c n) x got in
    let less : taken_out c n' ≤ length (queued c (past n)) = omega (arith, within, taken) in
    subst (λ (k : Kept). taken_out c n' ≤ length (queued c (past_of k))) (sym kept) less

-- ---- one after the other

abbrev pub is_in : ℕ → List ConnNo → Bool
is_in c conns = list_any (λ (d : ConnNo). d.0 == c) conns

-- all but the rest is taken out
pub record Drains (old now : NodeState) (conns rest : List ConnNo) (told : List Line) : Type 0 where
  pub distinct : IsDistinct (eq_by_cmp nat_cmp) (map (λ (c : ConnNo). c.0) rest)
  pub kept : now.kept ≡ old.kept
  pub no : now.no ≡ old.no
  pub lines : told ++ flat_map (λ (c : ConnNo). left_on old c.0) rest ≡ flat_map (λ (c : ConnNo). left_on old c.0) conns
  pub still : (c : ℕ) → is_in c rest ≡ true → taken_out c now ≡ taken_out c old
  pub done : (c : ℕ) → is_in c conns ≡ true → is_in c rest ≡ false → taken_out c now ≡ length (queued c (past old))
  pub others : (c : ℕ) → is_in c conns ≡ false → taken_out c now ≡ taken_out c old
  pub among : (c : ℕ) → is_in c rest ≡ true → is_in c conns ≡ true

pub drains-none : (old : NodeState) (conns : List ConnNo) → IsDistinct (eq_by_cmp nat_cmp) (map (λ (c : ConnNo). c.0) conns) → Drains old old conns conns []
drains-none old conns apart = record {
  distinct = apart;
  kept = refl;
  no = refl;
  lines = refl;
  still = λ c i. refl;
  done = λ c i n. absurd (let f : true ≡ false = sym i ∙ n in cc);
  others = λ c n. refl;
  among = λ c i. i;
}

apart : (x c : ℕ) (more : List ConnNo) → AllByRecursion (λ y. eq_by_cmp nat_cmp x y ≡ false) (map (λ (d : ConnNo). d.0) more) → is_in c more ≡ true → (c == x) ≡ false
apart x c [] all i = absurd cc
apart x c (d ∷ ds) all i = by-test (d.0 == c) refl i (apart x c ds all.1)
  where
    by-test : (b : Bool) → (d.0 == c) ≡ b → (b || is_in c ds) ≡ true → (is_in c ds ≡ true → (c == x) ≡ false) → (c == x) ≡ false
    by-test true e h ih = let first = all.0 in grind (arith, nat_tests, first)
    by-test false e h ih = ih h

or-here : (a b : Bool) → a ≡ true → (a || b) ≡ true
or-here a b e = rw e refl

or-there : (a b : Bool) → b ≡ true → (a || b) ≡ true
or-there true b e = refl
or-there false b e = e

self : (c : ℕ) → (c == c) ≡ true
self c = grind (arith, nat_tests)

module _ (old now : NodeState) (conns more : List ConnNo) (x : ConnNo) (lines : List Line) (d : Drains old now conns (x ∷ more) lines) where
  left-same : left_on now x.0 ≡ left_on old x.0
  left-same =
      ap (λ (k : Kept). drop (taken_out x.0 now) (queued x.0 (past_of k))) d.kept
      ∙ ap (λ n. drop n (queued x.0 (past old))) (d.still x.0 (or-here (x.0 == x.0) (is_in x.0 more) (self x.0)))

  pub drains-within : ((c : ℕ) → taken_out c old ≤ length (queued c (past old))) → taken_out x.0 now ≤ length (queued x.0 (past now))
  drains-within within =
      subst (λ (k : Kept). taken_out x.0 now ≤ length (queued x.0 (past_of k))) (sym d.kept)
      (subst (λ n. n ≤ length (queued x.0 (past old))) (sym (d.still x.0 (or-here (x.0 == x.0) (is_in x.0 more) (self x.0)))) (within x.0))

  elsewhere : (c : ℕ) (b : Bool) → (c == x.0) ≡ b → is_in c conns ≡ false → (c == x.0) ≡ false
  elsewhere c false e n = e
  elsewhere c true e n =
      let same : (x.0 == c) ≡ true = grind (arith, nat_tests) in
      absurd (let f : true ≡ false = sym (d.among c (or-here (x.0 == c) (is_in c more) same)) ∙ n in cc)

  -- also where the taking out breaks off
  pub drains-others : (now' : NodeState) → ((c : ℕ) → (c == x.0) ≡ false → taken_out c now' ≡ taken_out c now) → (c : ℕ) → is_in c conns ≡ false → taken_out c now' ≡ taken_out c old
  drains-others now' others c n = others c (elsewhere c (c == x.0) refl n) ∙ d.others c n

  pub drains-one : (now' : NodeState) (lines' : List Line) → now'.kept ≡ now.kept → now'.no ≡ now.no → lines' ≡ lines ++ left_on now x.0 → taken_out x.0 now' ≡ length (queued x.0 (past now))
      → ((c : ℕ) → (c == x.0) ≡ false → taken_out c now' ≡ taken_out c now) → Drains old now' conns more lines'
  drains-one now' lines' kept same_no more_lines taken others = record {
    distinct = IsDistinct-tail (eq_by_cmp nat_cmp) x.0 (map (λ (c : ConnNo). c.0) more) d.distinct;
    kept = kept ∙ d.kept;
    no = same_no ∙ d.no;
    lines =
        ap (λ ls. ls ++ flat_map (λ (c : ConnNo). left_on old c.0) more) (more_lines ∙ ap (λ ls. lines ++ ls) left-same)
        ∙ append_assoc lines (left_on old x.0) (flat_map (λ (c : ConnNo). left_on old c.0) more)
        ∙ d.lines;
    still = λ c i. others c (apart x.0 c more (IsDistinct-head (eq_by_cmp nat_cmp) x.0 (map (λ (c : ConnNo). c.0) more) d.distinct) i) ∙ d.still c (or-there (x.0 == c) (is_in c more) i);
    done = λ c i n. done-now c (x.0 == c) refl i n;
    others = drains-others now' others;
    among = λ c i. d.among c (or-there (x.0 == c) (is_in c more) i);
  }
    where
      done-now : (c : ℕ) (b : Bool) → (x.0 == c) ≡ b → is_in c conns ≡ true → is_in c more ≡ false → taken_out c now' ≡ length (queued c (past old))
      done-now c true e i n =
          let same : x.0 ≡ c = grind (arith, nat_tests) in
          subst (λ k. taken_out k now' ≡ length (queued k (past old))) same (taken ∙ ap (λ (k : Kept). length (queued x.0 (past_of k))) d.kept)
      done-now c false e i n =
          let other : (c == x.0) ≡ false = grind (arith, nat_tests) in
          others c other ∙ d.done c i (ap (λ b. b || is_in c more) e ∙ n)

-- none is left
pub drains-all : (old now : NodeState) (conns : List ConnNo) (lines : List Line) → Drains old now conns [] lines → lines ≡ flat_map (λ (c : ConnNo). left_on old c.0) conns
drains-all old now conns lines d = sym (append-nil lines) ∙ d.lines

-- what two clauses say of a result together
pub ok-both : {T E : Type 0} (r : Result T E) (P Q S : T → Type 0) → ((x : T) → P x → Q x → S x) → IfOk r P → IfOk r Q → IfOk r S
ok-both (Ok x) P Q S h p q = h x p q
ok-both (Err e) P Q S h p q = tt
