-- The words of the command line, and what is written for them.
use Rattle.std.specs.Prelude.{ℕ, ◌^◌, ◌-◌, List, [], ◌∷◌, ◌++◌, codes, Option, Some, None, if◌then◌else◌, bytes_eq}
use Rattle.cable_model.specs.declared.lines.Totals.{Totals}
use Rattle.cable_model.specs.Breaks.{GoodLines}
use Rattle.cable_model.specs.Breaks.GoodLines.{Nothing, Header, Session}
use Rattle.cable_model.specs.Printed.{printed}
use Rattle.cable_model.specs.Script.{Script, events_of, header, rules_of}
use Rattle.cable_model.specs.Transcript.{ended, end_line, totals_line, said_text, end_text, totals_text}
use Rattle.cable_script.specs.Words.{◌>>=◌, number_in}
use Rattle.replay_cli.specs.declared.modes.TheConstants.{MOST_MADE}
use Rattle.replay_cli.specs.declared.modes.Mode.{Mode}
use Rattle.replay_cli.specs.declared.modes.Mode.TheVariants as mode
use Rattle.replay_cli.specs.declared.modes.Order.{Order}
use Rattle.replay_cli.specs.declared.modes.Order.TheVariants as order

-- ---- the four lists of words

abbrev pub most_made : ℕ
most_made = MOST_MADE

-- a seed below 2^64, and a count from 1 to `most_made`
unfoldable pub made_order : (seed count : List ℕ) → Option Order
made_order seed count = do
  s ← number_in 0 (2 ^ 64 - 1) seed
  n ← number_in 1 most_made count
  Some (order.Make s n)

abbrev pub word_order : List ℕ → Option Order
word_order word = if bytes_eq word (codes "--totals") then Some (order.Read mode.Totals) else if bytes_eq word (codes "--print") then Some (order.Read mode.Print) else None

-- no words, `--totals`, `--print`, or `--make` with a seed and a count
abbrev pub order_of : List (List ℕ) → Option Order
order_of [] = Some (order.Read mode.Transcript)
order_of (word ∷ []) = word_order word
order_of (word ∷ seed ∷ []) = None
order_of (word ∷ seed ∷ count ∷ []) = if bytes_eq word (codes "--make") then made_order seed count else None
order_of (word ∷ seed ∷ count ∷ next ∷ words) = None

-- ---- what is written

-- for whole lines. Printing begins with the header, and the line of a book is printed once the book is read
abbrev pub written : Mode → GoodLines → List ℕ
written mode.Print Nothing = []
written mode.Print Header = ended header
written mode.Print (Session s) = printed s
written mode.Transcript (Session s) = said_text (rules_of s.book) (events_of s)
written mode.Totals (Session s) = said_text (rules_of s.book) (events_of s)
written _ _ = []

-- behind the lines of a whole script
abbrev pub tail_of : Mode → Script → List ℕ
tail_of mode.Transcript s = end_text (rules_of s.book) (events_of s)
tail_of mode.Totals s = end_text (rules_of s.book) (events_of s) ++ totals_text (rules_of s.book) (events_of s)
tail_of mode.Print s = []

-- for a whole script
abbrev pub output_of : Mode → Script → List ℕ
output_of m s = written m (Session s) ++ tail_of m s

-- for a made script: its end line and its totals line alone
abbrev pub made_output : Script → List ℕ
made_output s = tail_of mode.Totals s

-- the end line, and the totals line where it is asked for
abbrev pub tail_lines : Mode → (events idle : ℕ) → Totals → List ℕ
tail_lines mode.Transcript events idle totals = ended (end_line events idle)
tail_lines mode.Totals events idle totals = ended (end_line events idle) ++ ended (totals_line totals)
tail_lines mode.Print events idle totals = []
