-- How far bytes are a script: the whole lines that keep its rules, and the first break behind them.
use Rattle.std.specs.Prelude.{◌≡◌, ◌⊎◌, ℕ, ◌+◌, ◌<◌, ◌≤◌, List, [], ◌∷◌, ◌++◌, length, IsUtf8, Ok, Err}
use Rattle.channel_book.specs.declared.faults.BookFault.{BookFault}
use Rattle.channel_book.specs.Books.{book_of}
use Rattle.cable_model.specs.declared.statuses.BreakReason.{BreakReason}
use Rattle.cable_model.specs.declared.statuses.BreakReason.TheVariants as reason
use Rattle.cable_model.specs.declared.statuses.Status.{Status}
use Rattle.cable_model.specs.declared.statuses.Status.TheVariants as status
use Rattle.cable_model.specs.declared.verbs.Verb.{Verb}
use Rattle.cable_model.specs.Limits.{most_line}
use Rattle.cable_model.specs.LineBreaks.{BreaksFirst}
use Rattle.cable_model.specs.Script.{Script, IsScript, IsLine, Spells, HasNoFeed, bytes_of_lines, header, book_line}

-- ---- the lines that keep the rules

-- what whole lines from the front of a script say: there is none, there is the header alone, or header and book and lines that spell verbs
pub data GoodLines : Type 0 where
  Nothing : GoodLines
  Header : GoodLines
  Session : Script → GoodLines

-- the bytes are these lines, each with its line feed
abbrev pub AreGood : GoodLines → List ℕ → Type 0
AreGood Nothing bytes = bytes ≡ []
AreGood Header bytes = bytes ≡ bytes_of_lines (header ∷ [])
AreGood (Session s) bytes = IsScript bytes s

-- the number of the line behind them, counted from 1
abbrev pub next_number : GoodLines → ℕ
next_number Nothing = 1
next_number Header = 2
next_number (Session s) = 3 + length s.verbs

-- with this line behind them they are those
abbrev pub GoesOn : GoodLines → (line : List ℕ) → GoodLines → Type 0
GoesOn Nothing line Header = line ≡ header
GoesOn Header line (Session s) = IsLine line × (line ≡ book_line s.text) × (book_of s.text ≡ Ok s.book) × (s.verbs ≡ [])
GoesOn (Session s) line (Session t) = (v : Verb) × (IsLine line × Spells v line × (t ≡ record { text = s.text; book = s.book; verbs = s.verbs ++ v ∷ [] }))
GoesOn _ line _ = ⊥

-- the bytes are these lines, and then this rest
pub record Splits (bytes : List ℕ) (lines : GoodLines) (rest : List ℕ) : Type 0 where
  pub before : List ℕ
  pub good : AreGood lines before
  pub parts : bytes ≡ before ++ rest

-- ---- a line that breaks the rules of its place

-- where the header stands
abbrev pub BreaksHeader : BreakReason → List ℕ → Type 0
BreaksHeader reason.NotUtf8 line = ¬ IsUtf8 line
BreaksHeader reason.NoHeader line = IsUtf8 line × (¬ (line ≡ header))
BreaksHeader _ line = ⊥

-- where the line of the book stands
abbrev pub BreaksBook : BreakReason → List ℕ → Type 0
BreaksBook reason.NotUtf8 line = ¬ IsUtf8 line
BreaksBook reason.NoBook line = IsUtf8 line × ((text : List ℕ) → ¬ (line ≡ book_line text))
BreaksBook _ line = ⊥

-- behind these lines
abbrev pub BreaksRule : GoodLines → BreakReason → List ℕ → Type 0
BreaksRule Nothing why line = BreaksHeader why line
BreaksRule Header why line = BreaksBook why line
BreaksRule (Session s) why line = BreaksFirst why line

-- the line of a book whose text is refused
pub record RefusesBook (fault : BookFault) (line : List ℕ) : Type 0 where
  pub utf8 : IsUtf8 line
  pub text : List ℕ
  pub names : line ≡ book_line text
  pub refused : book_of text ≡ Err fault

-- a line that isn't too long is refused behind these lines with this status
abbrev pub RefusesLine : GoodLines → (line : List ℕ) → Status → Type 0
RefusesLine lines line (status.BadScript number why) = BreaksRule lines why line × (number ≡ next_number lines)
RefusesLine Header line (status.BadBook fault) = RefusesBook fault line
RefusesLine _ line _ = ⊥

-- ---- the first break

-- the bytes begin with this line and its line feed, and it isn't too long
pub record BeginsWithLine (bytes line : List ℕ) : Type 0 where
  pub one : HasNoFeed line
  pub short : length line ≤ most_line
  pub rest : List ℕ
  pub parts : bytes ≡ line ++ 10 ∷ rest

-- the line with which the bytes begin is too long, whether it is whole or not
pub record BeginsTooLong (bytes : List ℕ) : Type 0 where
  pub front : List ℕ
  pub one : HasNoFeed front
  pub long : most_line < length front
  pub rest : List ℕ
  pub parts : bytes ≡ front ++ rest

-- a line that has begun, and may go on
pub record IsBegun (line : List ℕ) : Type 0 where
  pub one : HasNoFeed line
  pub short : length line ≤ most_line

-- behind these lines the rest is refused with this status, whatever would come behind it
abbrev pub Refuses : GoodLines → (rest : List ℕ) → Status → Type 0
Refuses lines rest (status.TooLong number) = BeginsTooLong rest × (number ≡ next_number lines)
Refuses lines rest s = (line : List ℕ) × (BeginsWithLine rest line × RefusesLine lines line s)

-- or it is refused since nothing comes behind it
abbrev pub RefusesEnd : GoodLines → (rest : List ℕ) → Status → Type 0
RefusesEnd lines rest status.Unended = IsBegun rest × (0 < length rest)
RefusesEnd Nothing rest (status.BadScript number why) = (rest ≡ []) × (why ≡ reason.NoHeader) × (number ≡ 1)
RefusesEnd Header rest (status.BadScript number why) = (rest ≡ []) × (why ≡ reason.NoBook) × (number ≡ 2)
RefusesEnd _ rest _ = ⊥

-- these lines are good, and this is the first break behind them, whatever comes behind the bytes
pub record BreaksIn (bytes : List ℕ) (lines : GoodLines) (s : Status) : Type 0 where
  pub rest : List ℕ
  pub splits : Splits bytes lines rest
  pub refuses : Refuses lines rest s

-- these lines are good, and the first break is that the bytes end behind them
pub record BreaksAtEnd (bytes : List ℕ) (lines : GoodLines) (s : Status) : Type 0 where
  pub rest : List ℕ
  pub splits : Splits bytes lines rest
  pub refuses : RefusesEnd lines rest s

-- the first break of these bytes
abbrev pub FirstBreak : List ℕ → GoodLines → Status → Type 0
FirstBreak bytes lines s = BreaksIn bytes lines s ⊎ BreaksAtEnd bytes lines s

-- no line of the bytes breaks: these are whole, and the one that has begun behind them may go on
pub record IsUnbroken (bytes : List ℕ) (lines : GoodLines) : Type 0 where
  pub rest : List ℕ
  pub splits : Splits bytes lines rest
  pub begun : IsBegun rest
