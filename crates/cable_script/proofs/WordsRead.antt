-- Words are found exactly where blanks separate them, and a number exactly where its digits stand.
use Rattle.std.proofs.Common.{◌≡◌, ℕ, ◌^◌, ◌<◌, List, [], ◌∷◌, ◌++◌, length, Bool, true, false, not, cond, Option, Some, None, refl, ap, subst, arith}
use Rattle.std.specs.Prelude.{decimal, nat_lt, ◌==◌}
use Rattle.std.specs.Char.{is_ascii_digit}
use Rattle.std.specs.List.{list_all, list_any, position_or_len, after_first}
use Rattle.std.proofs.lemmas.Bool.{and_parts, ltb-false}
use Rattle.std.proofs.lemmas.Bool.Decides.{nat_tests}
use Rattle.std.proofs.lemmas.List.{take_all}
use Rattle.std.proofs.lemmas.Option.{cond_some, same_Some}
use Rattle.std.proofs.lemmas.Fmt.{digits_decimal, decimal_nonempty}
use Rattle.cable_model.specs.Script.{IsWord}
use Rattle.cable_script.specs.Words.{◌>>=◌, is_blank, first_word, after_word, is_word, next_word, one_word, two_words, three_words, two_words_and_rest}
use Rattle.cable_script.proofs.Cuts.{Cut, cut_is, cut_of}
use Rattle.cable_script.proofs.Spellings.{own}

-- ---- steps of a chain

-- a step that gave something, and what came of it
pub bind_is : {A B : Type 0} (m : Option A) (f : A → Option B) (y : B) → (m >>= f) ≡ Some y → (x : A) × ((m ≡ Some x) × (f x ≡ Some y))
bind_is None f y e = absurd cc
bind_is (Some x) f y e = (x, (refl, e))

pub bind_of : {A B : Type 0} (m : Option A) (f : A → Option B) (x : A) (y : B) → m ≡ Some x → f x ≡ Some y → (m >>= f) ≡ Some y
bind_of m f x y e h = rw e h

-- ---- the first word

-- what stands before a blank, and behind it
pub word_is : (line rest : List ℕ) → after_word line ≡ Some rest → Cut 32 line (first_word line) rest
word_is line rest e =
    let c = cond_some _ (after_first is_blank line) rest e in
    cut_is 32 line (first_word line) rest (rw c.0 (ap (λ (r : List ℕ). Some (first_word line, r)) c.1))

-- a word without blanks is cut off
pub word_found : (front rest : List ℕ) → list_any (λ b. b == 32) front ≡ false → (first_word (front ++ 32 ∷ rest) ≡ front) × (after_word (front ++ 32 ∷ rest) ≡ Some rest)
word_found front rest none =
    let c = cond_some _ (first_word (front ++ 32 ∷ rest), after_first is_blank (front ++ 32 ∷ rest)) (front, rest) (cut_of 32 front rest none) in
    (ap (λ (p : List ℕ × List ℕ). p.0) c.1, rw c.0 (ap (λ (p : List ℕ × List ℕ). Some p.1) c.1))

-- a line without a blank is its first word
pub word_alone : (line : List ℕ) → after_word line ≡ None → first_word line ≡ line
word_alone line e = by_test (nat_lt (position_or_len is_blank line) (length line)) refl e
  where
    by_test : (t : Bool) → nat_lt (position_or_len is_blank line) (length line) ≡ t → cond {A = Option (List ℕ)} t (Some (after_first is_blank line)) None ≡ None → first_word line ≡ line
    by_test true t e = absurd cc
    by_test false t e = take_all (position_or_len is_blank line) line (ltb-false _ _ t)

-- ---- words

not_false : (b : Bool) → not b ≡ true → b ≡ false
not_false true e = absurd cc
not_false false e = refl

pub word_of : (text : List ℕ) → is_word text ≡ true → IsWord text
word_of text e =
    let h = and_parts _ _ e in
    let full : not (length text == 0) ≡ true = h.0 in
    record { some = grind (arith, nat_tests); one = not_false (list_any (λ b. b == 32) text) h.1 }

pub is_word_of : (text : List ℕ) → IsWord text → is_word text ≡ true
is_word_of text w =
    let some : 0 < length text = w.some in
    let full : not (length text == 0) ≡ true = grind (arith, nat_tests) in
    rw (full, w.one) refl

-- an `if` that gave something where it was refused
refused_not : {A : Type 0} (b : Bool) (x y : A) → cond {A = Option A} b None (Some x) ≡ Some y → (b ≡ false) × (x ≡ y)
refused_not true x y e = absurd cc
refused_not false x y e = (refl, same_Some x y e)

-- the text is a word, and the rest behind a blank
pub record IsNext (text word rest : List ℕ) : Type 0 where
  pub word_is : IsWord word
  pub parts : text ≡ word ++ 32 ∷ rest

next_parts : (text word rest : List ℕ) (p : List ℕ × List ℕ) → Cut 32 text word rest → (length word == 0) ≡ false → (word, rest) ≡ p → IsNext text p.0 p.1
next_parts text word rest p c full same =
    let some : 0 < length word = grind (arith, nat_tests) in
    subst (λ (q : List ℕ × List ℕ). IsNext text q.0 q.1) same (record { word_is = record { some = some; one = c.none }; parts = c.parts })

pub next_is : (text : List ℕ) (p : List ℕ × List ℕ) → next_word text ≡ Some p → IsNext text p.0 p.1
unfolding next_word
next_is text p e =
    let rest = bind_is _ _ p e in
    let last = refused_not (length (first_word text) == 0) (first_word text, rest.0) p rest.1.1 in
    next_parts text (first_word text) rest.0 p (word_is text rest.0 rest.1.0) last.0 last.1

pub one_is : (text word : List ℕ) → one_word text ≡ Some word → IsWord word × (text ≡ word)
unfolding one_word
one_is text word e =
    let c = cond_some _ text word e in
    subst (λ (w : List ℕ). IsWord w × (text ≡ w)) c.1 (word_of text c.0, refl)

-- the text is two words
pub record AreTwo (text first second : List ℕ) : Type 0 where
  pub first_is : IsWord first
  pub second_is : IsWord second
  pub parts : text ≡ first ++ 32 ∷ second

pub two_are : (text : List ℕ) (p : List ℕ × List ℕ) → two_words text ≡ Some p → AreTwo text p.0 p.1
unfolding two_words
two_are text p e =
    let first = bind_is _ _ p e in
    let second = bind_is _ _ p first.1.1 in
    let n = next_is text first.0 first.1.0 in
    let o = one_is first.0.1 second.0 second.1.0 in
    subst (λ (q : List ℕ × List ℕ). AreTwo text q.0 q.1) (same_Some _ p second.1.1)
    (record { first_is = n.word_is; second_is = o.0; parts = subst (λ (r : List ℕ). text ≡ first.0.0 ++ 32 ∷ r) o.1 n.parts })

-- the text is three words
pub record AreThree (text first second third : List ℕ) : Type 0 where
  pub first_is : IsWord first
  pub second_is : IsWord second
  pub third_is : IsWord third
  pub parts : text ≡ first ++ 32 ∷ (second ++ 32 ∷ third)

pub three_are : (text : List ℕ) (p : List ℕ × List ℕ × List ℕ) → three_words text ≡ Some p → AreThree text p.0 p.1 p.2
unfolding three_words
three_are text p e =
    let first = bind_is _ _ p e in
    let others = bind_is _ _ p first.1.1 in
    let n = next_is text first.0 first.1.0 in
    let o = two_are first.0.1 others.0 others.1.0 in
    subst (λ (q : List ℕ × List ℕ × List ℕ). AreThree text q.0 q.1 q.2) (same_Some _ p others.1.1)
    (record { first_is = n.word_is; second_is = o.first_is; third_is = o.second_is; parts = subst (λ (r : List ℕ). text ≡ first.0.0 ++ 32 ∷ r) o.parts n.parts })

-- the text is two words, and the rest behind a blank
pub record AreTwoAndRest (text first second rest : List ℕ) : Type 0 where
  pub first_is : IsWord first
  pub second_is : IsWord second
  pub parts : text ≡ first ++ 32 ∷ (second ++ 32 ∷ rest)

pub two_and_rest_are : (text : List ℕ) (p : List ℕ × List ℕ × List ℕ) → two_words_and_rest text ≡ Some p → AreTwoAndRest text p.0 p.1 p.2
unfolding two_words_and_rest
two_and_rest_are text p e =
    let first = bind_is _ _ p e in
    let second = bind_is _ _ p first.1.1 in
    let n = next_is text first.0 first.1.0 in
    let o = next_is first.0.1 second.0 second.1.0 in
    subst (λ (q : List ℕ × List ℕ × List ℕ). AreTwoAndRest text q.0 q.1 q.2) (same_Some _ p second.1.1)
    (record { first_is = n.word_is; second_is = o.word_is; parts = subst (λ (r : List ℕ). text ≡ first.0.0 ++ 32 ∷ r) o.parts n.parts })

-- ---- words are found

pub next_found : (word rest : List ℕ) → IsWord word → next_word (word ++ 32 ∷ rest) ≡ Some (word, rest)
unfolding next_word
next_found word rest w =
    let f = word_found word rest w.one in
    let some : 0 < length word = w.some in
    let full : (length word == 0) ≡ false = grind (arith, nat_tests) in
    bind_of _ _ rest _ f.1 (rw (f.0, full) refl)

pub one_found : (word : List ℕ) → IsWord word → one_word word ≡ Some word
unfolding one_word
one_found word w = rw (is_word_of word w) refl

pub two_found : (first second : List ℕ) → IsWord first → IsWord second → two_words (first ++ 32 ∷ second) ≡ Some (first, second)
unfolding two_words
two_found first second w v = bind_of _ _ (first, second) _ (next_found first second w) (bind_of _ _ second _ (one_found second v) refl)

pub three_found : (first second third : List ℕ) → IsWord first → IsWord second → IsWord third → three_words (first ++ 32 ∷ (second ++ 32 ∷ third)) ≡ Some (first, second, third)
unfolding three_words
three_found first second third w v u = bind_of _ _ (first, second ++ 32 ∷ third) _ (next_found first (second ++ 32 ∷ third) w) (bind_of _ _ (second, third) _ (two_found second third v u) refl)

pub two_and_rest_found : (first second rest : List ℕ) → IsWord first → IsWord second → two_words_and_rest (first ++ 32 ∷ (second ++ 32 ∷ rest)) ≡ Some (first, second, rest)
unfolding two_words_and_rest
two_and_rest_found first second rest w v =
    bind_of _ _ (first, second ++ 32 ∷ rest) _ (next_found first (second ++ 32 ∷ rest) w) (bind_of _ _ (second, rest) _ (next_found second rest v) refl)

-- ---- a number is a word

digit_alone : (b : ℕ) → is_ascii_digit b ≡ true → (b == 32) ≡ false
digit_alone b e = grind (arith, nat_tests)

no_blank : (ds : List ℕ) → list_all is_ascii_digit ds ≡ true → list_any (λ b. b == 32) ds ≡ false
no_blank [] e = refl
no_blank (d ∷ ds) e = let h = and_parts _ _ e in rw (digit_alone d h.0, no_blank ds h.1) refl

pub number_word : (n : ℕ) → n < 2 ^ 64 → IsWord (decimal n)
number_word n fits = record { some = decimal_nonempty n fits; one = no_blank (decimal n) (digits_decimal own n fits) }
