-- Squeezing keeps a string to its closing quote, and what follows it may be squeezed by itself.
use Rattle.std.proofs.Common.{◌≡◌, ℕ, Bool, true, false, ◌&&◌, ◌==◌, cond, List, [], ◌∷◌, ◌++◌, Option, Some, None, option_and_then, refl, sym, ap, subst, ◌∙◌}
use Rattle.std.specs.Char.{is_digit, encode_utf8}
use Rattle.std.specs.Prelude.{nat_lt}
use Rattle.std.proofs.lemmas.Bool.{eqb-true, and_parts, false≢true, false_from_ne_true}
use Rattle.std.proofs.lemmas.List.{append_assoc}
use Rattle.std.proofs.lemmas.Option.{option_and_then_some, cond_some, same_Some}
use Rattle.json.specs.Word.{is_operator, is_space}
use Rattle.json.specs.Text.{code_unit, short_escape, is_high_surrogate, is_low_surrogate, surrogate_pair, prepend, Within, plain, after_backslash, after_u, after_high, content}
use Rattle.json.specs.Lex.{operator, space, other, Mode, between, in_string, in_escape, lex_byte, lex}
use Rattle.cable_base.specs.declared.squeezing.Quoting.{Quoting}
use Rattle.cable_base.specs.declared.squeezing.Quoting.TheVariants.{Outside, Inside, Escaped}
use Rattle.cable_base.specs.Squeeze.{squeezed_from}

-- ---- a string, whatever follows it

-- how the lexer stands within a string
abbrev mode_of : Within → Mode
mode_of plain = in_string
mode_of after_backslash = in_escape
mode_of after_u = in_string
mode_of (after_high h) = in_string

-- how squeezing stands within a string
abbrev quoting_of : Within → Quoting
quoting_of plain = Inside
quoting_of after_backslash = Escaped
quoting_of after_u = Inside
quoting_of (after_high h) = Inside

-- xs is the string to its closing quote and what follows it, and whatever else may follow in its place
pub record StringSplit (w : Within) (xs s : List ℕ) : Type 0 where
  pub front : List ℕ
  pub rest : List ℕ
  pub parts : xs ≡ front ++ rest
  pub reads : (r : List ℕ) → content w (front ++ r) ≡ Some s
  pub lexes : (r : List ℕ) → lex (mode_of w) (front ++ r) ≡ lex between r
  pub keeps : (r : List ℕ) → squeezed_from (quoting_of w) (front ++ r) ≡ front ++ squeezed_from Outside r

prepended : (bytes : List ℕ) (o : Option (List ℕ)) (s : List ℕ) → prepend bytes o ≡ Some s → (t : List ℕ) × (o ≡ Some t) × (bytes ++ t ≡ s)
prepended bytes None s e = absurd cc
prepended bytes (Some t) s e = (t, refl, same_Some (bytes ++ t) s e)

lex_byte-inside : (x : ℕ) (ys : List ℕ) (o s : Bool) → lex_byte in_string (cond o operator (cond s space other)) x ys (λ next. lex next ys) ≡ lex in_string ys
lex_byte-inside x ys true s = refl
lex_byte-inside x ys false true = refl
lex_byte-inside x ys false false = refl

lex-inside : (x : ℕ) (ys : List ℕ) → (x == 34) ≡ false → (x == 92) ≡ false → lex in_string (x ∷ ys) ≡ lex in_string ys
unfolding lex
lex-inside x ys q b = rw (q, b) (lex_byte-inside x ys (is_operator x) (is_space x))

squeezed_from-inside : (x : ℕ) (ys : List ℕ) → (x == 34) ≡ false → (x == 92) ≡ false → squeezed_from Inside (x ∷ ys) ≡ x ∷ squeezed_from Inside ys
squeezed_from-inside x ys q b = rw (q, b) refl

hex_is : (x k : ℕ) → is_digit k 16 ≡ false → is_digit x 16 ≡ true → (x == k) ≡ false
hex_is x k apart h = false_from_ne_true (x == k) (λ e. let same : x ≡ k = eqb-true x k e in let bad : is_digit k 16 ≡ true = subst (λ (y : ℕ). is_digit y 16 ≡ true) same h in absurd (false≢true (sym apart ∙ bad)))

-- four hexadecimal digits
abbrev AreHex : ℕ → ℕ → ℕ → ℕ → Type 0
AreHex a b c d = (is_digit a 16 ≡ true) × (is_digit b 16 ≡ true) × (is_digit c 16 ≡ true) × (is_digit d 16 ≡ true)

code_unit_hex : (a b c d u : ℕ) → code_unit a b c d ≡ Some u → AreHex a b c d
unfolding code_unit
code_unit_hex a b c d u e =
    let all = cond_some _ _ u e in
    let abc = and_parts _ _ all.0 in
    let ab = and_parts _ _ abc.0 in
    let one = and_parts _ _ ab.0 in
    (one.0, one.1, ab.1, abc.1)

lex-hex : (a b c d : ℕ) (ys : List ℕ) → AreHex a b c d → lex in_string (a ∷ b ∷ c ∷ d ∷ ys) ≡ lex in_string ys
lex-hex a b c d ys h =
    lex-inside a (b ∷ c ∷ d ∷ ys) (hex_is a 34 refl h.0) (hex_is a 92 refl h.0) ∙ lex-inside b (c ∷ d ∷ ys) (hex_is b 34 refl h.1) (hex_is b 92 refl h.1)
    ∙ lex-inside c (d ∷ ys) (hex_is c 34 refl h.2) (hex_is c 92 refl h.2) ∙ lex-inside d ys (hex_is d 34 refl h.3) (hex_is d 92 refl h.3)

squeezed_from-hex : (a b c d : ℕ) (ys : List ℕ) → AreHex a b c d → squeezed_from Inside (a ∷ b ∷ c ∷ d ∷ ys) ≡ a ∷ b ∷ c ∷ d ∷ squeezed_from Inside ys
squeezed_from-hex a b c d ys h =
    squeezed_from-inside a (b ∷ c ∷ d ∷ ys) (hex_is a 34 refl h.0) (hex_is a 92 refl h.0)
    ∙ ap (λ (t : List ℕ). a ∷ t) (squeezed_from-inside b (c ∷ d ∷ ys) (hex_is b 34 refl h.1) (hex_is b 92 refl h.1)
    ∙ ap (λ (t : List ℕ). b ∷ t) (squeezed_from-inside c (d ∷ ys) (hex_is c 34 refl h.2) (hex_is c 92 refl h.2)
    ∙ ap (λ (t : List ℕ). c ∷ t) (squeezed_from-inside d ys (hex_is d 34 refl h.3) (hex_is d 92 refl h.3))))

-- the parts of a string behind one more piece of it
behind : (w v : Within) (piece xs s t : List ℕ) → StringSplit v xs t
    → ((ys : List ℕ) → content v ys ≡ Some t → content w (piece ++ ys) ≡ Some s)
    → ((ys : List ℕ) → lex (mode_of w) (piece ++ ys) ≡ lex (mode_of v) ys)
    → ((ys : List ℕ) → squeezed_from (quoting_of w) (piece ++ ys) ≡ piece ++ squeezed_from (quoting_of v) ys)
    → StringSplit w (piece ++ xs) s
behind w v piece xs s t q read lexed kept = record {
  front = piece ++ q.front;
  rest = q.rest;
  parts = ap (λ (u : List ℕ). piece ++ u) q.parts ∙ sym (append_assoc piece q.front q.rest);
  reads = λ r. ap (content w) (append_assoc piece q.front r) ∙ read (q.front ++ r) (q.reads r);
  lexes = λ r. ap (lex (mode_of w)) (append_assoc piece q.front r) ∙ lexed (q.front ++ r) ∙ q.lexes r;
  keeps = λ r. ap (squeezed_from (quoting_of w)) (append_assoc piece q.front r) ∙ kept (q.front ++ r) ∙ ap (λ (u : List ℕ). piece ++ u) (q.keeps r) ∙ sym (append_assoc piece q.front (squeezed_from Outside r));
}

abbrev some_list : List ℕ → Option (List ℕ)
some_list t = Some t

quote_end : (x : ℕ) (xs s : List ℕ) → (x == 34) ≡ true → some_list [] ≡ some_list s → StringSplit plain (x ∷ xs) s
unfolding content lex
quote_end x xs s q e =
    let same : x ≡ 34 = eqb-true x 34 q in
    record {
      front = x ∷ [];
      rest = xs;
      parts = refl;
      reads = λ r. rw q e;
      lexes = λ r. rw q refl;
      keeps = λ r. rw q refl;
    }

-- a string that reads has a closing quote
pub string_split : (w : Within) (xs s : List ℕ) → content w xs ≡ Some s → StringSplit w xs s
unfolding content lex
string_split plain [] s e = absurd cc
string_split plain (x ∷ xs) s e = by_byte (λ w t. string_split w xs t) (x == 34) (x == 92) (nat_lt x 32) refl refl refl e
  where
    by_byte : ((w : Within) (t : List ℕ) → content w xs ≡ Some t → StringSplit w xs t) → (q b c : Bool) → (x == 34) ≡ q → (x == 92) ≡ b → nat_lt x 32 ≡ c
        → cond q (Some []) (cond b (content after_backslash xs) (cond c None (prepend (x ∷ []) (content plain xs)))) ≡ Some s → StringSplit plain (x ∷ xs) s
    by_byte again true b c qe be ce e = quote_end x xs s qe e
    by_byte again false true c qe be ce e =
        behind plain after_backslash (x ∷ []) xs s s (again after_backslash s e)
        (λ ys h. rw (qe, be) h) (λ ys. rw (qe, be) refl) (λ ys. rw (qe, be) refl)
    by_byte again false false true qe be ce e = absurd cc
    by_byte again false false false qe be ce e =
        let t = prepended (x ∷ []) (content plain xs) s e in
        behind plain plain (x ∷ []) xs s t.0 (again plain t.0 t.1)
        (λ ys h. rw (qe, be, ce, h) (ap (λ (u : List ℕ). Some u) t.2)) (λ ys. lex-inside x ys qe be) (λ ys. squeezed_from-inside x ys qe be)
string_split after_backslash [] s e = absurd cc
string_split after_backslash (x ∷ xs) s e = by_letter (λ w t. string_split w xs t) (x == 117) refl e
  where
    by_letter : ((w : Within) (t : List ℕ) → content w xs ≡ Some t → StringSplit w xs t) → (u : Bool) → (x == 117) ≡ u → cond u (content after_u xs) (option_and_then (λ c. prepend (c ∷ []) (content plain xs)) (short_escape x)) ≡ Some s → StringSplit after_backslash (x ∷ xs) s
    by_letter again true ue e = behind after_backslash after_u (x ∷ []) xs s s (again after_u s e) (λ ys h. rw ue h) (λ ys. refl) (λ ys. refl)
    by_letter again false ue e =
        option_and_then_some (λ c. prepend (c ∷ []) (content plain xs)) (short_escape x) s e (λ c ec fc.
        let t = prepended (c ∷ []) (content plain xs) s fc in
        behind after_backslash plain (x ∷ []) xs s t.0 (again plain t.0 t.1)
        (λ ys h. rw (ue, ec, h) (ap (λ (u : List ℕ). Some u) t.2)) (λ ys. refl) (λ ys. refl))
string_split after_u [] s e = absurd cc
string_split after_u (a ∷ []) s e = absurd cc
string_split after_u (a ∷ b ∷ []) s e = absurd cc
string_split after_u (a ∷ b ∷ c ∷ []) s e = absurd cc
string_split after_u (a ∷ b ∷ c ∷ d ∷ xs) s e =
    option_and_then_some (λ u. cond (is_high_surrogate u) (content (after_high u) xs) (cond (is_low_surrogate u) None (prepend (encode_utf8 u) (content plain xs)))) (code_unit a b c d) s e
    (λ u eu fu. by_unit (λ w t. string_split w xs t) u eu (is_high_surrogate u) (is_low_surrogate u) refl refl fu)
  where
    by_unit : ((w : Within) (t : List ℕ) → content w xs ≡ Some t → StringSplit w xs t) → (u : ℕ) → code_unit a b c d ≡ Some u → (high low : Bool) → is_high_surrogate u ≡ high → is_low_surrogate u ≡ low
        → cond high (content (after_high u) xs) (cond low None (prepend (encode_utf8 u) (content plain xs))) ≡ Some s → StringSplit after_u (a ∷ b ∷ c ∷ d ∷ xs) s
    by_unit again u eu true low he le e =
        behind after_u (after_high u) (a ∷ b ∷ c ∷ d ∷ []) xs s s (again (after_high u) s e)
        (λ ys h. rw (eu, he) h) (λ ys. lex-hex a b c d ys (code_unit_hex a b c d u eu)) (λ ys. squeezed_from-hex a b c d ys (code_unit_hex a b c d u eu))
    by_unit again u eu false true he le e = absurd cc
    by_unit again u eu false false he le e =
        let t = prepended (encode_utf8 u) (content plain xs) s e in
        behind after_u plain (a ∷ b ∷ c ∷ d ∷ []) xs s t.0 (again plain t.0 t.1)
        (λ ys h. rw (eu, he, le, h) (ap (λ (v : List ℕ). Some v) t.2)) (λ ys. lex-hex a b c d ys (code_unit_hex a b c d u eu)) (λ ys. squeezed_from-hex a b c d ys (code_unit_hex a b c d u eu))
string_split (after_high h) [] s e = absurd cc
string_split (after_high h) (x ∷ []) s e = absurd cc
string_split (after_high h) (x ∷ u ∷ []) s e = absurd cc
string_split (after_high h) (x ∷ u ∷ a ∷ []) s e = absurd cc
string_split (after_high h) (x ∷ u ∷ a ∷ b ∷ []) s e = absurd cc
string_split (after_high h) (x ∷ u ∷ a ∷ b ∷ c ∷ []) s e = absurd cc
string_split (after_high h) (x ∷ u ∷ a ∷ b ∷ c ∷ d ∷ xs) s e = by_start (λ w t. string_split w xs t) ((x == 92) && (u == 117)) refl e
  where
    by_low : ((w : Within) (t : List ℕ) → content w xs ≡ Some t → StringSplit w xs t) → (l : ℕ) → ((x == 92) && (u == 117)) ≡ true → code_unit a b c d ≡ Some l → (low : Bool) → is_low_surrogate l ≡ low
        → cond low (prepend (encode_utf8 (surrogate_pair h l)) (content plain xs)) None ≡ Some s → StringSplit (after_high h) (x ∷ u ∷ a ∷ b ∷ c ∷ d ∷ xs) s
    by_low again l start eu false le e = absurd cc
    by_low again l start eu true le e =
        let t = prepended (encode_utf8 (surrogate_pair h l)) (content plain xs) s e in
        let both = and_parts _ _ start in
        let slash : x ≡ 92 = eqb-true x 92 both.0 in
        let hex = code_unit_hex a b c d l eu in
        behind (after_high h) plain (x ∷ u ∷ a ∷ b ∷ c ∷ d ∷ []) xs s t.0 (again plain t.0 t.1)
        (λ ys g. rw (start, eu, le, g) (ap (λ (v : List ℕ). Some v) t.2))
        (λ ys. subst (λ (y : ℕ). lex in_string (y ∷ u ∷ a ∷ b ∷ c ∷ d ∷ ys) ≡ lex in_string ys) (sym slash) (lex-hex a b c d ys hex))
        (λ ys. subst (λ (y : ℕ). squeezed_from Inside (y ∷ u ∷ a ∷ b ∷ c ∷ d ∷ ys) ≡ y ∷ u ∷ a ∷ b ∷ c ∷ d ∷ squeezed_from Inside ys) (sym slash) (ap (λ (t : List ℕ). 92 ∷ u ∷ t) (squeezed_from-hex a b c d ys hex)))

    by_start : ((w : Within) (t : List ℕ) → content w xs ≡ Some t → StringSplit w xs t) → (start : Bool) → ((x == 92) && (u == 117)) ≡ start
        → cond start (option_and_then (λ l. cond (is_low_surrogate l) (prepend (encode_utf8 (surrogate_pair h l)) (content plain xs)) None) (code_unit a b c d)) None ≡ Some s → StringSplit (after_high h) (x ∷ u ∷ a ∷ b ∷ c ∷ d ∷ xs) s
    by_start again false se e = absurd cc
    by_start again true se e =
        option_and_then_some (λ l. cond (is_low_surrogate l) (prepend (encode_utf8 (surrogate_pair h l)) (content plain xs)) None) (code_unit a b c d) s e
        (λ l eu fu. by_low again l se eu (is_low_surrogate l) refl fu)
