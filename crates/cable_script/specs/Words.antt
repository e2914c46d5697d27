-- The words of a line, which one blank separates, and the one spelling of a number.
use Rattle.std.specs.Prelude.{ℕ, ◌==◌, ◌&&◌, ◌||◌, not, nat_lt, nat_le, slice_index, if◌then◌else◌, Bool, List, length, Option, Some, None}
use Rattle.std.specs.List.{before_first, after_first, position_or_len, list_all, list_any}
use Rattle.std.specs.Char.{is_ascii_digit}
use Rattle.std.specs.Str.Parse.{digits_value}

infixl 10 ◌>>=◌
abbrev pub ◌>>=◌ : {A B : Type 0} → Option A → (A → Option B) → Option B
None >>= f = None
(Some x) >>= f = f x

abbrev pub is_blank : ℕ → Bool
is_blank b = b == 32

-- the bytes up to the first blank, or all where there is none
abbrev pub first_word : List ℕ → List ℕ
first_word line = before_first is_blank line

-- what stands behind the first blank, where there is one
abbrev pub after_word : List ℕ → Option (List ℕ)
after_word line = if nat_lt (position_or_len is_blank line) (length line) then Some (after_first is_blank line) else None

-- it isn't empty, and has no blank
abbrev pub is_word : List ℕ → Bool
is_word text = not (length text == 0) && not (list_any is_blank text)

-- ---- what stands behind a verb, as so many words. Nothing where there are more or fewer, or one is empty

-- a word that isn't empty, and all that follows its blank
unfoldable pub next_word : List ℕ → Option (List ℕ × List ℕ)
next_word text = do
  rest ← after_word text
  if length (first_word text) == 0 then None else Some (first_word text, rest)

unfoldable pub one_word : List ℕ → Option (List ℕ)
one_word text = if is_word text then Some text else None

unfoldable pub two_words : List ℕ → Option (List ℕ × List ℕ)
two_words text = do
  first ← next_word text
  second ← one_word first.1
  Some (first.0, second)

unfoldable pub three_words : List ℕ → Option (List ℕ × List ℕ × List ℕ)
three_words text = do
  first ← next_word text
  others ← two_words first.1
  Some (first.0, others.0, others.1)

-- two words, and all that follows the blank behind them
unfoldable pub two_words_and_rest : List ℕ → Option (List ℕ × List ℕ × List ℕ)
two_words_and_rest text = do
  first ← next_word text
  second ← next_word first.1
  Some (first.0, second.0, second.1)

-- ---- numbers

-- decimal digits without a leading zero
abbrev pub is_number : List ℕ → Bool
is_number word = list_all is_ascii_digit word && not (length word == 0) && ((length word == 1) || not (slice_index word 0 == 48))

-- the number that a word spells, where it is from lo to hi
abbrev pub number_in : ℕ → ℕ → List ℕ → Option ℕ
number_in lo hi word =
    if is_number word && nat_le lo (digits_value 10 word) && nat_le (digits_value 10 word) hi then Some (digits_value 10 word) else None
