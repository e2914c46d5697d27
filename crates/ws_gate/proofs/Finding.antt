-- What `find` and `any` find among texts: one that passes, behind those that don't.
use Rattle.std.proofs.Common.{◌≡◌, ℕ, Bool, true, false, ◌||◌, cond, List, [], ◌∷◌, ◌++◌, find, Option, Some, refl, ap, subst, ◌∙◌}
use Rattle.std.specs.List.{list_any, AllByRecursion}
use Rattle.std.proofs.lemmas.Option.{same_Some}
use Rattle.std.proofs.Math.Bool.{or-true}

-- the text stands among these, it passes, and none before it does
pub record IsFirst (p : List ℕ → Bool) (texts : List (List ℕ)) (text : List ℕ) : Type 0 where
  pub earlier : List (List ℕ)
  pub later : List (List ℕ)
  pub parts : texts ≡ earlier ++ text ∷ later
  pub none : AllByRecursion (λ t. p t ≡ false) earlier
  pub passes : p text ≡ true

behind_one : (p : List ℕ → Bool) (first : List ℕ) (texts : List (List ℕ)) (text : List ℕ) → p first ≡ false → IsFirst p texts text → IsFirst p (first ∷ texts) text
behind_one p first texts text fails is =
    record { earlier = first ∷ is.earlier; later = is.later; parts = ap (λ (ts : List (List ℕ)). first ∷ ts) is.parts; none = (fails, is.none); passes = is.passes }

pub found_first : (p : List ℕ → Bool) (texts : List (List ℕ)) (text : List ℕ) → find p texts ≡ Some text → IsFirst p texts text
found_first p [] text e = absurd cc
found_first p (first ∷ texts) text e = by_test (p first) refl (found_first p texts text) e
  where
    by_test : (b : Bool) → p first ≡ b → (find p texts ≡ Some text → IsFirst p texts text) → cond b (Some first) (find p texts) ≡ Some text → IsFirst p (first ∷ texts) text
    by_test true is again e =
        let same : first ≡ text = same_Some first text e in
        record { earlier = []; later = texts; parts = ap (λ (t : List ℕ). t ∷ texts) same; none = tt; passes = subst (λ (t : List ℕ). p t ≡ true) same is }
    by_test false is again e = behind_one p first texts text is (again e)

pub first_found : (p : List ℕ → Bool) (earlier : List (List ℕ)) (text : List ℕ) (later : List (List ℕ)) → AllByRecursion (λ t. p t ≡ false) earlier → p text ≡ true
    → find p (earlier ++ text ∷ later) ≡ Some text
first_found p [] text later none passes = ap (λ (b : Bool). cond {A = Option (List ℕ)} b (Some text) (find p later)) passes
first_found p (first ∷ earlier) text later none passes =
    ap (λ (b : Bool). cond {A = Option (List ℕ)} b (Some first) (find p (earlier ++ text ∷ later))) none.0 ∙ first_found p earlier text later none.1 passes

pub any_first : (p : List ℕ → Bool) (texts : List (List ℕ)) → list_any p texts ≡ true → (text : List ℕ) × IsFirst p texts text
any_first p [] e = absurd cc
any_first p (first ∷ texts) e = by_test (p first) refl (any_first p texts) e
  where
    by_test : (b : Bool) → p first ≡ b → (list_any p texts ≡ true → (text : List ℕ) × IsFirst p texts text) → (b || list_any p texts) ≡ true → (text : List ℕ) × IsFirst p (first ∷ texts) text
    by_test true is again e = (first, record { earlier = []; later = texts; parts = refl; none = tt; passes = is })
    by_test false is again e = let more = again e in (more.0, behind_one p first texts more.0 is more.1)

pub any_at : (p : List ℕ → Bool) (earlier : List (List ℕ)) (text : List ℕ) (later : List (List ℕ)) → p text ≡ true → list_any p (earlier ++ text ∷ later) ≡ true
any_at p [] text later passes = ap (λ (b : Bool). b || list_any p later) passes
any_at p (first ∷ earlier) text later passes = ap (λ (b : Bool). p first || b) (any_at p earlier text later passes) ∙ or-true (p first)
