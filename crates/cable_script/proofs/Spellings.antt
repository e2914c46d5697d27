-- A number has one spelling, and text is what is UTF-8.
use Rattle.std.proofs.Common.{◌≡◌, ℕ, ◌^◌, ◌<◌, ◌≤◌, List, length, get_or, Bool, true, false, ◌||◌, not, Some, None, Result, Ok, Err, refl, sym, ap, subst, arith, rules, cond, inl, inr, Bor}
use Rattle.std.specs.Prelude.{decimal, nat_le, nat_lt, ◌==◌}
use Rattle.std.specs.Char.{is_ascii_digit}
use Rattle.std.specs.List.{list_all}
use Rattle.std.specs.Result.{OkIff, MatchResult, result_ok}
use Rattle.std.specs.Option.{option_map}
use Rattle.std.specs.Str.{IsUtf8, is_utf8}
use Rattle.std.proofs.lemmas.Str.{is_utf8-from_IsUtf8, IsUtf8-from_is_utf8}
use Rattle.std.specs.Str.Parse.{digits_value}
use Rattle.std.proofs.lemmas.Bool.{cases_lt, lt-ltb, le-ltb, leb-true, and_parts}
use Rattle.std.proofs.lemmas.Bool.Decides.{nat_tests}
use Rattle.std.proofs.lemmas.Option.{cond_some}
use Rattle.std.proofs.lemmas.Str.Parse.{IsNumeralModel, IsDigitsTest, numerals_by_value}
use Rattle.std.proofs.lemmas.Fmt.{decimal-digits_value, digits_decimal, digits_value-decimal, decimal_nonempty, first_decimal, decimal_digit}
use Rattle.cable_script.specs.Words.{is_number, number_in}

tested : IsDigitsTest (λ ds. list_all is_ascii_digit ds ≡ true)
tested = search rules

pub own : IsNumeralModel (λ ds. list_all is_ascii_digit ds ≡ true) (digits_value 10)
own = numerals_by_value _ tested

-- ---- numbers

zero_alone : (n first : ℕ) → ((n == 1) || not (first == 48)) ≡ true → first ≡ 48 → n ≡ 1
zero_alone n first h e = grind (arith, nat_tests)

-- what is_number says
pub record Digits (word : List ℕ) : Type 0 where
  pub digits : list_all is_ascii_digit word ≡ true
  pub some : 0 < length word
  pub shape : ((length word == 1) || not (get_or word 0 0 == 48)) ≡ true

pub digits_of : (word : List ℕ) → is_number word ≡ true → Digits word
digits_of word e =
    let parts = and_parts _ _ e in
    let shape = and_parts _ _ parts.0 in
    record { digits = shape.0; some = let full = shape.1 in grind (arith, nat_tests); shape = parts.1 }

pub number_is : (lo hi n : ℕ) (word : List ℕ) → hi < 2 ^ 64 → number_in lo hi word ≡ Some n → (word ≡ decimal n) × (lo ≤ n) × (n ≤ hi)
number_is lo hi n word fits e =
    let c = cond_some _ (digits_value 10 word) n e in
    let outer = and_parts _ _ c.0 in
    let inner = and_parts _ _ outer.0 in
    let d = digits_of word inner.0 in
    let low : lo ≤ digits_value 10 word = leb-true _ _ inner.1 in
    let high : digits_value 10 word ≤ hi = leb-true _ _ outer.1 in
    let spelled : decimal (digits_value 10 word) ≡ word = decimal-digits_value own word d.digits d.some (zero_alone (length word) (get_or word 0 0) d.shape) (omega arith) in
    subst (λ (m : ℕ). (word ≡ decimal m) × (lo ≤ m) × (m ≤ hi)) c.1 (sym spelled, low, high)

true_shape : (n first : ℕ) → 0 < n → (first ≡ 48 → n ≡ 1) → ((n == 1) || not (first == 48)) ≡ true
true_shape n first some h = grind (arith, nat_tests)

zero_is : (n : ℕ) → n < 2 ^ 64 → get_or (decimal n) 0 0 ≡ 48 → length (decimal n) ≡ 1
zero_is n fits e =
    elim (cases_lt 0 n) [
      | inl lt ↦ absurd (let f = first_decimal n lt fits in omega arith)
      | inr le ↦ let z : n ≡ 0 = omega arith in rw (z, decimal_digit 0 (omega arith)) refl
    ]

pub number_of_decimal : (lo hi n : ℕ) → hi < 2 ^ 64 → lo ≤ n → n ≤ hi → number_in lo hi (decimal n) ≡ Some n
number_of_decimal lo hi n fits low high =
    let below : n < 2 ^ 64 = omega arith in
    let digits = digits_decimal own n below in
    let value = digits_value-decimal own n below in
    let some = decimal_nonempty n below in
    let filled : not (length (decimal n) == 0) ≡ true = grind (arith, nat_tests) in
    let shape = true_shape (length (decimal n)) (get_or (decimal n) 0 0) some (zero_is n below) in
    let above : nat_le lo n ≡ true = grind (arith, nat_tests) in
    let under : nat_le n hi ≡ true = grind (arith, nat_tests) in
    rw (digits, filled, shape, value, above, under) refl

-- what parsing the digits gives
pub parsed_is : {E : Type 0} → (word : List ℕ) (r : Result ℕ E) → 0 < length word → OkIff r ((0 < length word) × (digits_value 10 word < 2 ^ 64)) (digits_value 10 word)
    → result_ok r ≡ cond (nat_lt (digits_value 10 word) (2 ^ 64)) (Some (digits_value 10 word)) None
parsed_is word (Ok x) some h = rw (lt-ltb _ _ h.0.1) (ap (λ (n : ℕ). Some n) h.1)
parsed_is word (Err e) some h =
    elim (cases_lt (digits_value 10 word) (2 ^ 64)) [
      | inl lt ↦ absurd (h (some, lt))
      | inr le ↦ rw (le-ltb _ _ le) refl
    ]

-- ---- text

-- what reading the bytes as text gives
pub text_is : {E : Type 0} → (bytes : List ℕ) (r : Result (Bor (List ℕ)) E) (Q : E → Type 0) → MatchResult r (λ s. (s.now ≡ bytes) × IsUtf8 bytes) (λ e. ¬ (IsUtf8 bytes) × Q e)
    → option_map (λ s. s.now) (result_ok r) ≡ cond (is_utf8 bytes) (Some bytes) None
text_is bytes (Ok s) Q h = rw (is_utf8-from_IsUtf8 bytes h.1) (ap (λ (t : List ℕ). Some t) h.0)
text_is bytes (Err e) Q h = by_test (is_utf8 bytes) refl
  where
    by_test : (b : Bool) → is_utf8 bytes ≡ b → None ≡ cond b (Some bytes) None
    by_test true u = absurd (h.0 (IsUtf8-from_is_utf8 bytes u))
    by_test false u = refl
