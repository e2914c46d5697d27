-- A line stays one where a text behind a blank is squeezed, and short texts with blanks between them are a line.
use Rattle.std.proofs.Common.{◌≡◌, ℕ, ◌+◌, ◌^◌, ◌<◌, ◌≤◌, List, [], ◌∷◌, ◌++◌, length, take, Bool, true, false, refl, sym, ap, subst, ◌∙◌, append_assoc, arith, rules, cond}
use Rattle.std.specs.Prelude.{◌==◌, decimal, IsUtf8}
use Rattle.std.specs.Char.{is_ascii_digit}
use Rattle.std.specs.List.{list_all, list_any}
use Rattle.std.proofs.Math.Seq.{drop-append-add, get_or-append_seam}
use Rattle.std.proofs.lemmas.Bool.{and_parts}
use Rattle.std.proofs.lemmas.Bool.Decides.{nat_tests}
use Rattle.std.proofs.lemmas.Fmt.{IsAscii-decimal, digits_decimal, length-decimal-le}
use Rattle.std.proofs.lemmas.List.{length-append}
use Rattle.std.proofs.lemmas.List.Folds.{list_any-append}
use Rattle.std.proofs.lemmas.Str.{IsUtf8-append, IsUtf8-drop, IsUtf8-from_ascii, IsUtf8-take, IsCharBoundary-after_ascii, IsCharBoundary-before_ascii}
use Rattle.cable_base.specs.declared.squeezing.Quoting.{Quoting}
use Rattle.cable_base.specs.declared.squeezing.Quoting.TheVariants.{Outside, Inside, Escaped}
use Rattle.cable_base.specs.Squeeze.{squeezed, squeezed_from, next_quoting, is_kept}
use Rattle.cable_model.specs.Limits.{most_line}
use Rattle.cable_model.specs.Script.{HasNoFeed, IsLine}
use Rattle.cable_script.proofs.Cuts.{either_false}
use Rattle.cable_script.proofs.Spellings.{own}

-- ---- text around an ASCII byte

place_in : (c : ℕ) (front rest : List ℕ) → length front < length (front ++ c ∷ rest)
place_in c front rest = let len = length-append front (c ∷ rest) in omega arith

take_front : (front rest : List ℕ) → take (length front) (front ++ rest) ≡ front
take_front [] rest = refl
take_front (b ∷ front) rest = ap (λ (t : List ℕ). b ∷ t) (take_front front rest)

-- what stands before such a byte in a text is a text
utf8_before : (c : ℕ) (front rest : List ℕ) → c < 128 → IsUtf8 (front ++ c ∷ rest) → IsUtf8 front
utf8_before c front rest low u =
    let there = get_or-append_seam front c rest 0 in
    let cut = IsCharBoundary-before_ascii (front ++ c ∷ rest) (length front) (place_in c front rest) (omega (arith, there, low)) in
    subst IsUtf8 (take_front front (c ∷ rest)) (IsUtf8-take _ _ u cut)

-- and so is what stands behind it
utf8_behind : (c : ℕ) (front rest : List ℕ) → c < 128 → IsUtf8 (front ++ c ∷ rest) → IsUtf8 rest
utf8_behind c front rest low u =
    let there = get_or-append_seam front c rest 0 in
    let cut = IsCharBoundary-after_ascii (front ++ c ∷ rest) (length front) u (place_in c front rest) (omega (arith, there, low)) in
    subst IsUtf8 (drop-append-add front (c ∷ rest) 1) (IsUtf8-drop _ _ u cut)

-- ---- text around a blank

utf8_joined : (front rest : List ℕ) → IsUtf8 front → IsUtf8 rest → IsUtf8 (front ++ 32 ∷ rest)
utf8_joined front rest u v = IsUtf8-append front (32 ∷ rest) u (IsUtf8-append (32 ∷ []) rest (IsUtf8-from_ascii (32 ∷ []) (search rules)) v)

feeds_around : (front rest : List ℕ) → HasNoFeed (front ++ 32 ∷ rest) → HasNoFeed front × HasNoFeed rest
feeds_around front rest h = either_false (list_any (λ b. b == 10) front) (list_any (λ b. b == 10) (32 ∷ rest)) (sym (list_any-append (λ b. b == 10) front (32 ∷ rest)) ∙ h)

feeds_joined : (front rest : List ℕ) → HasNoFeed front → HasNoFeed rest → HasNoFeed (front ++ 32 ∷ rest)
feeds_joined front rest h i = rw (list_any-append (λ b. b == 10) front (32 ∷ rest), h, i) refl

-- ---- a text in the place of another

-- it is text and has no line feed where the other is and has none, and isn't longer
pub record Replaces (other text : List ℕ) : Type 0 where
  pub utf8 : IsUtf8 text → IsUtf8 other
  pub short : length other ≤ length text
  pub one : HasNoFeed text → HasNoFeed other

-- behind a blank, too
pub replaced_behind : (front other text : List ℕ) → Replaces other text → Replaces (front ++ 32 ∷ other) (front ++ 32 ∷ text)
replaced_behind front other text r =
    record {
      utf8 = λ u. utf8_joined front other (utf8_before 32 front text (omega arith) u) (r.utf8 (utf8_behind 32 front text (omega arith) u));
      short = let short = r.short in let a = length-append front (32 ∷ other) in let b = length-append front (32 ∷ text) in omega arith;
      one = λ h. let parts = feeds_around front text h in feeds_joined front other parts.0 (r.one parts.1);
    }

pub replaced_line : (other text : List ℕ) → Replaces other text → IsLine text → IsLine other
replaced_line other text r l = record { utf8 = r.utf8 l.utf8; short = let a = r.short in let b = l.short in omega arith; one = r.one l.one }

-- ---- squeezed text

squeezed_short : (p : Quoting) (bs : List ℕ) → length (squeezed_from p bs) ≤ length bs
squeezed_short p [] = omega arith
squeezed_short p (b ∷ bs) = kept_or_not (is_kept p b) (squeezed_from (next_quoting p b) bs) (squeezed_short (next_quoting p b) bs)
  where
    kept_or_not : (kept : Bool) (rest : List ℕ) → length rest ≤ length bs → length (cond kept (b ∷ rest) rest) ≤ length (b ∷ bs)
    kept_or_not true rest h = omega arith
    kept_or_not false rest h = omega arith

squeezed_unfed : (p : Quoting) (bs : List ℕ) → HasNoFeed bs → HasNoFeed (squeezed_from p bs)
squeezed_unfed p [] h = refl
squeezed_unfed p (b ∷ bs) h =
    let parts = either_false (b == 10) (list_any (λ c. c == 10) bs) h in
    kept_or_not (is_kept p b) (squeezed_from (next_quoting p b) bs) parts.0 (squeezed_unfed (next_quoting p b) bs parts.1)
  where
    kept_or_not : (kept : Bool) (rest : List ℕ) → (b == 10) ≡ false → HasNoFeed rest → HasNoFeed (cond kept (b ∷ rest) rest)
    kept_or_not true rest e i = rw (e, i) refl
    kept_or_not false rest e i = i

-- only ASCII is dropped
dropped_low : (p : Quoting) (b : ℕ) → is_kept p b ≡ false → b < 128
dropped_low Outside b e = grind (arith, nat_tests)
dropped_low Inside b e = absurd cc
dropped_low Escaped b e = absurd cc

squeezed_utf8 : (p : Quoting) (front bs : List ℕ) → IsUtf8 (front ++ bs) → IsUtf8 (front ++ squeezed_from p bs)
squeezed_utf8 p front [] u = u
squeezed_utf8 p front (b ∷ bs) u = kept_or_not (is_kept p b) (squeezed_from (next_quoting p b) bs) refl (λ before v. squeezed_utf8 (next_quoting p b) before bs v)
  where
    kept_or_not : (kept : Bool) (rest : List ℕ) → is_kept p b ≡ kept → ((before : List ℕ) → IsUtf8 (before ++ bs) → IsUtf8 (before ++ rest)) → IsUtf8 (front ++ cond kept (b ∷ rest) rest)
    kept_or_not true rest e more = subst IsUtf8 (append_assoc front (b ∷ []) rest) (more (front ++ b ∷ []) (subst IsUtf8 (sym (append_assoc front (b ∷ []) bs)) u))
    kept_or_not false rest e more = let low = dropped_low p b e in more front (IsUtf8-append front bs (utf8_before b front bs low u) (utf8_behind b front bs low u))

pub squeezed_replaces : (text : List ℕ) → Replaces (squeezed text) text
squeezed_replaces text = record { utf8 = squeezed_utf8 Outside [] text; short = squeezed_short Outside text; one = squeezed_unfed Outside text }

-- ---- short texts

-- text of at most so many bytes, without a line feed
pub record IsShort (most : ℕ) (text : List ℕ) : Type 0 where
  pub utf8 : IsUtf8 text
  pub short : length text ≤ most
  pub one : HasNoFeed text

pub short_joined : (m n : ℕ) (front rest : List ℕ) → IsShort m front → IsShort n rest → IsShort (m + 1 + n) (front ++ 32 ∷ rest)
short_joined m n front rest f r =
    record {
      utf8 = utf8_joined front rest f.utf8 r.utf8;
      short = let a = f.short in let b = r.short in let c = length-append front (32 ∷ rest) in omega arith;
      one = feeds_joined front rest f.one r.one;
    }

pub short_line : (n : ℕ) (text : List ℕ) → n ≤ most_line → IsShort n text → IsLine text
short_line n text le s = record { utf8 = s.utf8; short = let a = s.short in omega arith; one = s.one }

digit_unfed : (b : ℕ) → is_ascii_digit b ≡ true → (b == 10) ≡ false
digit_unfed b e = grind (arith, nat_tests)

digits_unfed : (ds : List ℕ) → list_all is_ascii_digit ds ≡ true → HasNoFeed ds
digits_unfed [] e = refl
digits_unfed (d ∷ ds) e = let h = and_parts _ _ e in rw (digit_unfed d h.0, digits_unfed ds h.1) refl

-- the digits of a number of a script
pub short_number : (n : ℕ) → n < 10 ^ 16 → IsShort 16 (decimal n)
short_number n small =
    let fits : n < 2 ^ 64 = omega arith in
    record {
      utf8 = IsUtf8-from_ascii (decimal n) (IsAscii-decimal n fits);
      short = length-decimal-le 16 n (omega arith) small fits;
      one = digits_unfed (decimal n) (digits_decimal own n fits);
    }
