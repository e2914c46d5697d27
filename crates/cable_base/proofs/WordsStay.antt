-- Squeezing keeps a word, such as a number, and what follows it may be squeezed by itself.
use Rattle.std.proofs.Common.{◌≡◌, ℕ, suc, ◌+◌, ◌-◌, Bool, true, false, ◌&&◌, ◌||◌, ◌==◌, cond, List, [], ◌∷◌, ◌++◌, length, take, drop, Option, Some, None, option_and_then, refl, sym, ap, subst, ◌∙◌, arith, inl, inr, ◌⊎◌}
use Rattle.std.specs.List.{prefix_len, starts_with}
use Rattle.std.specs.Char.{is_ascii_digit}
use Rattle.std.specs.Prelude.{nat_eq}
use Rattle.std.proofs.lemmas.Bool.{eqb-true, and_parts, false≢true}
use Rattle.std.proofs.lemmas.Bool.Decides.{nat_tests}
use Rattle.std.proofs.lemmas.List.{take-append-drop, append_assoc, length-append, take_at}
use Rattle.std.proofs.lemmas.Option.{option_and_then_some, same_Some}
use Rattle.std.proofs.lemmas.Slice.Eq.{bytes_eq-Decides}
use Rattle.json.specs.Token.{Token}
use Rattle.json.specs.Word.{is_operator, is_space, head, ends_word, after_digits, after_minus, after_sign, after_whole, after_fraction, after_exponent, after_number, number_before, literal, word}
use Rattle.json.specs.Print.{IsNumber}
use Rattle.json.specs.Lex.{token, other, class, between, lex}
use Rattle.json.specs.Align.{is_good}
use Rattle.json.proofs.Printed.Numbers.{in_word-ended, number_alone, lex-number}
use Rattle.cable_base.specs.declared.squeezing.Quoting.TheVariants.{Outside}
use Rattle.cable_base.specs.Squeeze.{squeezed_from}
use Rattle.cable_base.proofs.ByteClasses.{squeezed_from-other}

-- ---- a word is a run of other bytes

-- none of these bytes is a quote, a backslash, an operator or a space
abbrev pub AllOther : List ℕ → Type 0
AllOther [] = Unit {0}
AllOther (x ∷ xs) = (class x ≡ other) × AllOther xs

AllOther-append : (u v : List ℕ) → AllOther u → AllOther v → AllOther (u ++ v)
AllOther-append [] v p q = q
AllOther-append (x ∷ u) v p q = (p.0, AllOther-append u v p.1 q)

pub squeezed_from-run : (u r : List ℕ) → AllOther u → squeezed_from Outside (u ++ r) ≡ u ++ squeezed_from Outside r
squeezed_from-run [] r p = refl
squeezed_from-run (x ∷ u) r p = squeezed_from-other x (u ++ r) p.0 ∙ ap (λ (t : List ℕ). x ∷ t) (squeezed_from-run u r p.1)

-- r is what is left of t behind some other bytes
abbrev Plain : List ℕ → List ℕ → Type 0
Plain t r = (u : List ℕ) × (t ≡ u ++ r) × AllOther u

Plain-refl : (t : List ℕ) → Plain t t
Plain-refl t = ([], refl, tt)

Plain-trans : (a b c : List ℕ) → Plain a b → Plain b c → Plain a c
Plain-trans a b c p q = (p.0 ++ q.0, p.1 ∙ ap (λ (t : List ℕ). p.0 ++ t) q.1 ∙ sym (append_assoc p.0 q.0 c), AllOther-append p.0 q.0 p.2 q.2)

-- the first byte, if it is c
one : (c : ℕ) (t : List ℕ) → class c ≡ other → (head t == c) ≡ true → Plain t (drop 1 t)
one c [] k e = absurd (let same : 32 ≡ c = eqb-true 32 c e in let bad : class 32 ≡ other = subst (λ (y : ℕ). class y ≡ other) (sym same) k in cc)
one c (x ∷ xs) k e = (x ∷ [], refl, (subst (λ (y : ℕ). class y ≡ other) (sym (eqb-true x c e)) k, tt))

digit_other : (x : ℕ) → is_ascii_digit x ≡ true → class x ≡ other
digit_other x e =
    let q : (x == 34) ≡ false = grind (arith, nat_tests) in
    let b : (x == 92) ≡ false = grind (arith, nat_tests) in
    let o : is_operator x ≡ false = grind (arith, nat_tests) in
    let s : is_space x ≡ false = grind (arith, nat_tests) in
    rw (q, b, o, s) refl

digits_at : (b : Bool) (x : ℕ) (xs : List ℕ) (n : ℕ) → (b ≡ true → class x ≡ other) → Plain xs (drop n xs) → Plain (x ∷ xs) (drop (cond b (1 + n) 0) (x ∷ xs))
digits_at true x xs n k ih =
    let e : 1 + n ≡ suc n = omega arith in
    subst (λ (m : ℕ). Plain (x ∷ xs) (drop m (x ∷ xs))) (sym e) (x ∷ ih.0, ap (λ (t : List ℕ). x ∷ t) ih.1, (k refl, ih.2))
digits_at false x xs n k ih = Plain-refl (x ∷ xs)

digits : (t : List ℕ) → Plain t (drop (prefix_len is_ascii_digit t) t)
digits [] = Plain-refl []
digits (x ∷ xs) = digits_at (is_ascii_digit x) x xs (prefix_len is_ascii_digit xs) (digit_other x) (digits xs)

digits_stage : (t r : List ℕ) → after_digits t ≡ Some r → Plain t r
digits_stage t r e = subst (Plain t) (taken (prefix_len is_ascii_digit t == 0) (drop (prefix_len is_ascii_digit t) t) e) (digits t)
  where
    taken : (b : Bool) (x : List ℕ) → cond b None (Some x) ≡ Some r → x ≡ r
    taken true x e = absurd cc
    taken false x e = same_Some x r e

dropped_if : (b : Bool) (t : List ℕ) → (b ≡ true → Plain t (drop 1 t)) → Plain t (cond b (drop 1 t) t)
dropped_if true t h = h refl
dropped_if false t h = Plain-refl t

either_true : (a b : Bool) → (a || b) ≡ true → (a ≡ true) ⊎ (b ≡ true)
either_true true b e = inl refl
either_true false b e = inr e

minus_plain : (t : List ℕ) → Plain t (after_minus t)
minus_plain t = dropped_if (head t == 45) t (one 45 t refl)

one_of : (c d : ℕ) (t : List ℕ) → class c ≡ other → class d ≡ other → ((head t == c) || (head t == d)) ≡ true → Plain t (drop 1 t)
one_of c d t k l e = elim (either_true (head t == c) (head t == d) e) [ inl h ↦ one c t k h | inr h ↦ one d t l h ]

sign_plain : (t : List ℕ) → Plain t (after_sign t)
sign_plain t = dropped_if ((head t == 45) || (head t == 43)) t (one_of 45 43 t refl refl)

whole_stage : (t r : List ℕ) → after_whole t ≡ Some r → Plain t r
whole_stage t r e = by_zero (head t == 48) (one 48 t refl) e
  where
    by_zero : (b : Bool) → (b ≡ true → Plain t (drop 1 t)) → cond b (Some (drop 1 t)) (after_digits t) ≡ Some r → Plain t r
    by_zero true h e = subst (Plain t) (same_Some (drop 1 t) r e) (h refl)
    by_zero false h e = digits_stage t r e

fraction_stage : (t r : List ℕ) → after_fraction t ≡ Some r → Plain t r
fraction_stage t r e = by_dot (head t == 46) (one 46 t refl) e
  where
    by_dot : (b : Bool) → (b ≡ true → Plain t (drop 1 t)) → cond b (after_digits (drop 1 t)) (Some t) ≡ Some r → Plain t r
    by_dot true h e = Plain-trans t (drop 1 t) r (h refl) (digits_stage (drop 1 t) r e)
    by_dot false h e = subst (Plain t) (same_Some t r e) (Plain-refl t)

exponent_stage : (t r : List ℕ) → after_exponent t ≡ Some r → Plain t r
exponent_stage t r e = by_e ((head t == 101) || (head t == 69)) (one_of 101 69 t refl refl) e
  where
    by_e : (b : Bool) → (b ≡ true → Plain t (drop 1 t)) → cond b (after_digits (after_sign (drop 1 t))) (Some t) ≡ Some r → Plain t r
    by_e true h e = Plain-trans t (drop 1 t) r (h refl) (Plain-trans (drop 1 t) (after_sign (drop 1 t)) r (sign_plain (drop 1 t)) (digits_stage (after_sign (drop 1 t)) r e))
    by_e false h e = subst (Plain t) (same_Some t r e) (Plain-refl t)

-- a number is made of other bytes
number_plain : (t r : List ℕ) → after_number t ≡ Some r → Plain t r
unfolding after_number
number_plain t r e =
    option_and_then_some after_exponent (option_and_then after_fraction (after_whole (after_minus t))) r e (λ y ey fy.
    option_and_then_some after_fraction (after_whole (after_minus t)) y ey (λ x ex fx.
    Plain-trans t (after_minus t) r (minus_plain t)
    (Plain-trans (after_minus t) x r (whole_stage (after_minus t) x ex) (Plain-trans x y r (fraction_stage x y fx) (exponent_stage y r fy)))))

-- ---- a good word, whatever ends it

-- t is a word and what follows it, and whatever else ends a word may follow in its place
pub record WordSplit (t : List ℕ) (k : Token) : Type 0 where
  pub word : List ℕ
  pub rest : List ℕ
  pub parts : t ≡ word ++ rest
  pub others : AllOther word
  pub ended : ends_word rest ≡ true
  pub lexes : (r : List ℕ) → ends_word r ≡ true → lex between (word ++ r) ≡ token k ∷ lex between r

lex-true : (r : List ℕ) → ends_word r ≡ true → lex between (116 ∷ 114 ∷ 117 ∷ 101 ∷ r) ≡ token (Token.boolean true) ∷ lex between r
unfolding lex word
lex-true r e = rw (e, in_word-ended r e) refl

lex-false : (r : List ℕ) → ends_word r ≡ true → lex between (102 ∷ 97 ∷ 108 ∷ 115 ∷ 101 ∷ r) ≡ token (Token.boolean false) ∷ lex between r
unfolding lex word
lex-false r e = rw (e, in_word-ended r e) refl

lex-null : (r : List ℕ) → ends_word r ≡ true → lex between (110 ∷ 117 ∷ 108 ∷ 108 ∷ r) ≡ token Token.null ∷ lex between r
unfolding lex word
lex-null r e = rw (e, in_word-ended r e) refl

literal_split : (name : List ℕ) (k : Token) (t : List ℕ) → AllOther name → ((r : List ℕ) → ends_word r ≡ true → lex between (name ++ r) ≡ token k ∷ lex between r)
    → is_good (literal name k t) ≡ true → WordSplit t (literal name k t)
literal_split name k t run law good = tested (starts_with nat_eq t name && ends_word (drop (length name) t)) refl good
  where
    tested : (b : Bool) → (starts_with nat_eq t name && ends_word (drop (length name) t)) ≡ b → is_good (cond b k Token.bad) ≡ true → WordSplit t (cond b k Token.bad)
    tested true e good =
        let both = and_parts _ _ e in
        let same : name ≡ take (length name) t = (bytes_eq-Decides name (take (length name) t)).0 both.0 in
        record {
          word = name;
          rest = drop (length name) t;
          parts = sym (take-append-drop (length name) t) ∙ ap (λ (u : List ℕ). u ++ drop (length name) t) (sym same);
          others = run;
          ended = both.1;
          lexes = law;
        }
    tested false e good = absurd (false≢true good)

take_front : (s r : List ℕ) → take (length (s ++ r) - length r) (s ++ r) ≡ s
take_front s r = let n : length (s ++ r) - length r ≡ length s = omega (arith, length-append s r) in rw n (take_at s r (length s) refl)

number_split : (t : List ℕ) (o : Option (List ℕ)) → after_number t ≡ o → is_good (number_before t o) ≡ true → WordSplit t (number_before t o)
number_split t None e good = absurd (false≢true good)
number_split t (Some r) e good = tested (ends_word r) refl good
  where
    tested : (b : Bool) → ends_word r ≡ b → is_good (cond b (Token.number (take (length t - length r) t)) Token.bad) ≡ true → WordSplit t (cond b (Token.number (take (length t - length r) t)) Token.bad)
    tested true ended good =
        let p = number_plain t r e in
        let spelled : after_number (p.0 ++ r) ≡ Some r = subst (λ (u : List ℕ). after_number u ≡ Some r) p.1 e in
        let number : IsNumber p.0 = number_alone p.0 r ended spelled in
        let text : take (length t - length r) t ≡ p.0 = subst (λ (u : List ℕ). take (length u - length r) u ≡ p.0) (sym p.1) (take_front p.0 r) in
        record {
          word = p.0;
          rest = r;
          parts = p.1;
          others = p.2;
          ended = ended;
          lexes = λ r2 e2. lex-number p.0 r2 number e2 ∙ ap (λ (u : List ℕ). token (Token.number u) ∷ lex between r2) (sym text);
        }
    tested false ended good = absurd (false≢true good)

-- a good word ends somewhere
pub word_split : (t : List ℕ) → is_good (word t) ≡ true → WordSplit t (word t)
unfolding word
word_split t good = by_head (head t == 116) (head t == 102) (head t == 110) good
  where
    by_head : (a b c : Bool)
        → is_good (cond a (literal (116 ∷ 114 ∷ 117 ∷ 101 ∷ []) (Token.boolean true) t) (cond b (literal (102 ∷ 97 ∷ 108 ∷ 115 ∷ 101 ∷ []) (Token.boolean false) t) (cond c (literal (110 ∷ 117 ∷ 108 ∷ 108 ∷ []) Token.null t) (number_before t (after_number t))))) ≡ true
        → WordSplit t (cond a (literal (116 ∷ 114 ∷ 117 ∷ 101 ∷ []) (Token.boolean true) t) (cond b (literal (102 ∷ 97 ∷ 108 ∷ 115 ∷ 101 ∷ []) (Token.boolean false) t) (cond c (literal (110 ∷ 117 ∷ 108 ∷ 108 ∷ []) Token.null t) (number_before t (after_number t)))))
    by_head true b c good = literal_split (116 ∷ 114 ∷ 117 ∷ 101 ∷ []) (Token.boolean true) t (refl, (refl, (refl, (refl, tt)))) lex-true good
    by_head false true c good = literal_split (102 ∷ 97 ∷ 108 ∷ 115 ∷ 101 ∷ []) (Token.boolean false) t (refl, (refl, (refl, (refl, (refl, tt))))) lex-false good
    by_head false false true good = literal_split (110 ∷ 117 ∷ 108 ∷ 108 ∷ []) Token.null t (refl, (refl, (refl, (refl, tt)))) lex-null good
    by_head false false false good = number_split t (after_number t) refl good
