-- Where a script stands that is worked line by line, and what a further line does.
use Rattle.std.specs.Prelude.{◌≡◌, ◌⊎◌, ℕ, List, ◌++◌, All, IsUtf8, Result, Ok, Err}
use Rattle.channel_book.specs.declared.faults.BookFault.{BookFault}
use Rattle.channel_book.specs.Books.{book_of}
use Rattle.cable_model.specs.declared.events.Event.{Event}
use Rattle.cable_model.specs.declared.statuses.BreakReason.{BreakReason}
use Rattle.cable_model.specs.declared.statuses.BreakReason.TheVariants as reason
use Rattle.cable_model.specs.declared.statuses.Status.{Status}
use Rattle.cable_model.specs.declared.statuses.Status.TheVariants as status
use Rattle.cable_model.specs.Breaks.{GoodLines, GoesOn, RefusesLine, next_number}
use Rattle.cable_model.specs.Breaks.GoodLines.{Nothing, Header, Session}
use Rattle.cable_model.specs.declared.verbs.Verb.{Verb}
use Rattle.cable_model.specs.LineBreaks.{BreaksFirst}
use Rattle.cable_model.specs.Printed.{printed_events}
use Rattle.cable_model.specs.Script.{Script, IsLine, Spells, book_line, events_of, expand, rules_of}
use Rattle.cable_script.specs.declared.faults.LineFault.{LineFault}
use Rattle.cable_script.specs.declared.faults.LineFault.TheVariants as fault
use Rattle.node_world.specs.Steps.{IsPlayed}
use Rattle.node_world.specs.Worlds.{WorldState, StandsFor}
use Rattle.replay_cli.specs.declared.modes.Mode.{Mode}
use Rattle.replay_cli.specs.declared.modes.Mode.TheVariants as mode
use Rattle.replay_cli.specs.declared.stages.Stage.{Stage}
use Rattle.replay_cli.specs.declared.stages.Stage.TheVariants as stage
use Rattle.replay_cli.specs.declared.stages.Work.{Work}
use Rattle.replay_cli.specs.declared.stages.Work.TheVariants as work
use Rattle.replay_cli.specs.Modes.{written}
use Rattle.replay_cli.specs.Running.{IsTallyOf, RunsAs}

-- the world has the script's book, and stands for the events of its lines
pub record IsWorldOf (s : Script) (w : WorldState) : Type 0 where
  pub book : w.book ≡ s.book
  pub stands : StandsFor w (events_of s)

-- the lines of this script were worked so
abbrev pub IsWorkOf : Mode → Script → Work → Type 0
IsWorkOf mode.Print s (work.Run world tally) = ⊥
IsWorkOf _ s (work.Run world tally) = IsWorldOf s world × IsTallyOf (rules_of s.book) (events_of s) tally
IsWorkOf mode.Print s work.Print = Unit {0}
IsWorkOf _ s work.Print = ⊥

-- the stage that these lines have come to
abbrev pub IsAt : Mode → GoodLines → Stage → Type 0
IsAt m Nothing stage.Header = Unit {0}
IsAt m Header stage.Book = Unit {0}
IsAt m (Session s) (stage.Lines next w) = (next ≡ next_number (Session s)) × IsWorkOf m s w
IsAt m _ _ = ⊥

-- the text has what is to be written for these lines, behind what is written already
abbrev pub Holds : Mode → GoodLines → (out : List ℕ) → (before : List ℕ) → Type 0
Holds m lines out before = before ++ out ≡ written m lines

-- a line was good behind these
pub record TakesLine (m : Mode) (lines : GoodLines) (line : List ℕ) (new : Stage) (out out' : List ℕ) : Type 0 where
  pub lines' : GoodLines
  pub goes_on : GoesOn lines line lines'
  pub at : IsAt m lines' new
  pub wrote : (before : List ℕ) → Holds m lines out before → Holds m lines' out' before

-- a line was refused behind these. Nothing came of it
pub record RefusesAt (m : Mode) (lines : GoodLines) (line : List ℕ) (s : Status) (new : Stage) (out out' : List ℕ) : Type 0 where
  pub refuses : RefusesLine lines line s
  pub at : IsAt m lines new
  pub same : out' ≡ out

-- what a further line came to behind these
abbrev pub LineDoes : Mode → GoodLines → (line : List ℕ) → (new : Stage) → (out out' : List ℕ) → Result (Unit {0}) Status → Type 0
LineDoes m lines line new out out' (Ok u) = TakesLine m lines line new out out'
LineDoes m lines line new out out' (Err s) = (s ≡ status.OutOfMemory) ⊎ RefusesAt m lines line s new out out'

-- ---- the steps of a line

-- memory ran out, or the line was refused behind these and nothing was written
abbrev pub IsRefused : GoodLines → (line : List ℕ) → (out out' : List ℕ) → Status → Type 0
IsRefused lines line out out' s = (s ≡ status.OutOfMemory) ⊎ (RefusesLine lines line s × (out' ≡ out))

-- the line names this text as its book's
pub record NamesBook (line text : List ℕ) : Type 0 where
  pub utf8 : IsUtf8 line
  pub names : line ≡ book_line text

-- memory ran out, or the text is refused as a book
abbrev pub IsNoBook : (text : List ℕ) → Status → Type 0
IsNoBook text s = (s ≡ status.OutOfMemory) ⊎ ((fault : BookFault) × ((s ≡ status.BadBook fault) × (book_of text ≡ Err fault)))

-- how a line of this number with this fault is refused
abbrev pub refusal_of : ℕ → LineFault → Status
refusal_of number fault.NotUtf8 = status.BadScript number reason.NotUtf8
refusal_of number fault.UnknownVerb = status.BadScript number reason.UnknownVerb
refusal_of number fault.BadWords = status.BadScript number reason.BadWords
refusal_of number fault.BadNumber = status.BadScript number reason.BadNumber
refusal_of number fault.BadJson = status.BadScript number reason.BadJson
refusal_of number fault.TooLarge = status.BadScript number reason.TooLarge
refusal_of number fault.OutOfMemory = status.OutOfMemory

-- these are the events of the line, and a world steps them
pub record IsLineOf (line : List ℕ) (events : List Event) : Type 0 where
  pub verb : Verb
  pub is_line : IsLine line
  pub spells : Spells verb line
  pub are : events ≡ expand verb
  pub played : All IsPlayed events

-- memory ran out, or the line of this number breaks a rule
abbrev pub IsBroken : (number : ℕ) → (line : List ℕ) → Status → Type 0
IsBroken number line s = (s ≡ status.OutOfMemory) ⊎ ((why : BreakReason) × ((s ≡ status.BadScript number why) × BreaksFirst why line))

-- these events were run, or printed
abbrev pub WorksAs : (events : List Event) → (old new : Work) → (out out' : List ℕ) → Type 0
WorksAs events (work.Run world tally) (work.Run world' tally') out out' = RunsAs events world world' out out' tally tally' × (world'.book ≡ world.book)
WorksAs events work.Print work.Print out out' = out' ≡ out ++ printed_events events
WorksAs events _ _ out out' = ⊥
