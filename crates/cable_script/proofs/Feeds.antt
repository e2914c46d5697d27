-- Bytes with line feeds have one first line: two cuts at the first line feed are the same.
use Rattle.std.proofs.Common.{◌≡◌, ℕ, ◌≤◌, List, [], ◌∷◌, ◌++◌, length, false, sym, ap, subst, ◌∙◌, arith}
use Rattle.std.specs.Prelude.{◌==◌}
use Rattle.std.specs.List.{list_any}
use Rattle.cable_model.specs.Limits.{most_line}
use Rattle.cable_model.specs.Script.{HasNoFeed}
use Rattle.cable_model.specs.Breaks.{BeginsTooLong, IsBegun}
use Rattle.cable_script.proofs.Cuts.{cut_at, cut_of, some_is, eq_self, either_false}

head_same : (x y : ℕ) (xs ys : List ℕ) → x ∷ xs ≡ y ∷ ys → x ≡ y
head_same x y xs ys e = cc

tail_same : (x y : ℕ) (xs ys : List ℕ) → x ∷ xs ≡ y ∷ ys → xs ≡ ys
tail_same x y xs ys e = cc

-- a line feed is one
fed : (b : ℕ) (more : List ℕ) → b ≡ 10 → HasNoFeed (b ∷ more) → ⊥
fed b more is none =
    let no : (10 == 10) ≡ false = subst (λ (c : ℕ). (c == 10) ≡ false) is (either_false (b == 10) (list_any (λ c. c == 10) more) none).0 in
    let yes = eq_self 10 in
    absurd cc

unfed : (b : ℕ) (more : List ℕ) → HasNoFeed (b ∷ more) → HasNoFeed more
unfed b more none = (either_false (b == 10) (list_any (λ c. c == 10) more) none).1

-- two lines without a line feed, each with its line feed behind it, in front of the same bytes
pub one_line : (a b x y : List ℕ) → HasNoFeed a → HasNoFeed b → a ++ 10 ∷ x ≡ b ++ 10 ∷ y → (a ≡ b) × (x ≡ y)
one_line a b x y ha hb e =
    let pair = some_is (a, x) (b, y) (sym (cut_of 10 a x ha) ∙ ap (cut_at 10) e ∙ cut_of 10 b y hb) in
    (ap (λ (p : List ℕ × List ℕ). p.0) pair, ap (λ (p : List ℕ × List ℕ). p.1) pair)

-- what has no line feed ends before the first one
front_within : (front line x y : List ℕ) → HasNoFeed front → front ++ x ≡ line ++ 10 ∷ y → length front ≤ length line
front_within [] line x y none e = omega arith
front_within (b ∷ front) [] x y none e = absurd (fed b front (head_same b 10 (front ++ x) y e) none)
front_within (b ∷ front) (c ∷ line) x y none e =
    let ih = front_within front line x y (unfed b front none) (tail_same b c (front ++ x) (line ++ 10 ∷ y) e) in omega arith

-- where there is no line feed, no line is ended
no_line : (rest line next : List ℕ) → HasNoFeed rest → ¬ (rest ≡ line ++ 10 ∷ next)
no_line [] [] next none e = absurd cc
no_line [] (c ∷ line) next none e = absurd cc
no_line (b ∷ rest) [] next none e = fed b rest (head_same b 10 rest next e) none
no_line (b ∷ rest) (c ∷ line) next none e = no_line rest line next (unfed b rest none) (tail_same b c rest (line ++ 10 ∷ next) e)

all_within : (front rest x : List ℕ) → front ++ x ≡ rest → length front ≤ length rest
all_within [] rest x e = omega arith
all_within (b ∷ front) [] x e = absurd cc
all_within (b ∷ front) (c ∷ rest) x e = let ih = all_within front rest x (tail_same b c (front ++ x) rest e) in omega arith

-- ---- what bytes begin with excludes each other

pub long_or_line : (bytes line next : List ℕ) → BeginsTooLong bytes → length line ≤ most_line → ¬ (bytes ≡ line ++ 10 ∷ next)
long_or_line bytes line next long short e = let within = front_within long.front line long.rest next long.one (sym long.parts ∙ e) in absurd (omega arith)

pub begun_or_line : (bytes line next : List ℕ) → IsBegun bytes → ¬ (bytes ≡ line ++ 10 ∷ next)
begun_or_line bytes line next begun e = no_line bytes line next begun.one e

pub long_or_begun : (bytes : List ℕ) → BeginsTooLong bytes → ¬ IsBegun bytes
long_or_begun bytes long begun = let within = all_within long.front bytes long.rest (sym long.parts) in absurd (omega arith)
