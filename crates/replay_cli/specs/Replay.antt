-- What a replay came to.
use Rattle.std.specs.Prelude.{◌≡◌, ℕ, ◌++◌, ◌<◌, ◌≤◌, ◌⊎◌, List, [], length, Option, Some, None, Result, Ok, Err}
use Rattle.cable_base.specs.Causes.{Rose}
use Rattle.channel_book.specs.Books.{book_of}
use Rattle.cable_model.specs.declared.events.Event.{Event}
use Rattle.cable_model.specs.declared.statuses.Status.{Status}
use Rattle.cable_model.specs.declared.statuses.Status.TheVariants as status
use Rattle.cable_model.specs.Breaks.{GoodLines, BreaksIn, BreaksAtEnd, FirstBreak, IsUnbroken}
use Rattle.cable_model.specs.Breaks.GoodLines.{Nothing, Header, Session}
use Rattle.cable_model.specs.HistoryLaws.{HistoryWindows}
use Rattle.cable_model.specs.Limits.{most_script}
use Rattle.cable_model.specs.Script.{Script, IsScript, events_of, rules_of}
use Rattle.node_world.specs.Worlds.{WorldState}
use Rattle.replay_cli.specs.declared.modes.Mode.{Mode}
use Rattle.replay_cli.specs.declared.modes.Mode.TheVariants as mode
use Rattle.replay_cli.specs.declared.modes.Order.{Order}
use Rattle.replay_cli.specs.declared.modes.Order.TheVariants as order
use Rattle.replay_cli.specs.Inputs.{Reading, Gave, GaveFew, GaveAll, WasNotRead}
use Rattle.replay_cli.specs.Made.{made_book, made_script}
use Rattle.replay_cli.specs.Modes.{order_of, written, output_of, made_output}
use Rattle.replay_cli.specs.Outputs.{Writing, Took, IsFront}
use Rattle.replay_cli.specs.declared.replaying.Replaying.{Replaying}
use Rattle.replay_cli.specs.Reading.{WroteFront, HasEnded, HasReplayed, ReadRefused}
use Rattle.replay_cli.specs.Stages.{IsAt, IsWorldOf}

-- what a call met: its words, its source and its sink, and the world that it hands out
pub record Call : Type 0 where
  pub words : List (List ℕ)
  pub source : Reading
  pub sink : Writing
  pub world : Option WorldState

-- ---- the lines that were worked

-- a world that stands for their events, unless they were printed or no book was read
abbrev pub HandsOut : Mode → GoodLines → Option WorldState → Type 0
HandsOut mode.Print lines world = world ≡ None
HandsOut _ Nothing world = world ≡ None
HandsOut _ Header world = world ≡ None
HandsOut _ (Session s) world = (w : WorldState) × ((world ≡ Some w) × IsWorldOf s w)

-- however many of the script's events were worked, the rows that they finished are those of the windows
abbrev pub HasWindows : Script → Type 0
HasWindows s = (worked rest : List Event) → worked ++ rest ≡ events_of s → HistoryWindows (rules_of s.book) worked

abbrev pub HaveWindows : Mode → GoodLines → Type 0
HaveWindows mode.Print lines = Unit {0}
HaveWindows _ (Session s) = HasWindows s
HaveWindows _ _ = Unit {0}

-- exactly what is to be written for these lines is written, and the world stands for their events
pub record Worked (m : Mode) (lines : GoodLines) (c : Call) : Type 0 where
  pub wrote : Took c.sink (written m lines)
  pub world : HandsOut m lines c.world
  pub windows : HaveWindows m lines

-- ---- the script of the source

-- a front of what is to be written for it is written: for the lines that the source gave, or for the whole
pub record WroteSome (m : Mode) (c : Call) : Type 0 where
  pub given : List ℕ
  pub gave : Gave c.source given
  pub front : List ℕ
  pub took : Took c.sink front
  pub front_of : WroteFront m given front ⊎ ((s : Script) × (GaveAll c.source given × IsScript given s × IsFront front (output_of m s)))
  pub windows : (lines : GoodLines) → HaveWindows m lines

-- this is the first break of what the source gave. That nothing more comes is known only of a source that was read to its end
abbrev pub Broke : Reading → List ℕ → GoodLines → Status → Type 0
Broke r given lines s = (GaveFew r given × BreaksIn given lines s) ⊎ (GaveAll r given × BreaksAtEnd given lines s)

abbrev pub Refused : Mode → Call → Status → Type 0
Refused m c s = (given : List ℕ) × (lines : GoodLines) × (Broke c.source given lines s × Worked m lines c)

-- what a status says of a call that reads the source
abbrev pub ReadOutcome : Mode → Status → Call → Type 0
-- it was read to its end, its bytes are a script, and what the words ask for is written
ReadOutcome m status.Ok c = (given : List ℕ) × (s : Script) × (GaveAll c.source given × IsScript given s × Took c.sink (output_of m s) × HandsOut m (Session s) c.world × HaveWindows m (Session s))
-- this is the first break, and the lines before it were worked
ReadOutcome m (status.BadScript line why) c = Refused m c (status.BadScript line why)
ReadOutcome m (status.BadBook fault) c = Refused m c (status.BadBook fault)
ReadOutcome m status.Unended c = Refused m c status.Unended
ReadOutcome m (status.TooLong line) c = Refused m c (status.TooLong line)
-- no line that was read breaks, and those that were whole were worked
ReadOutcome m status.ReadFault c =
    (given : List ℕ) × (lines : GoodLines) × (GaveFew c.source given × IsUnbroken given lines × Rose c.source.faults c.source.faults_behind × Worked m lines c)
-- no line breaks before the piece with which the source gave over `most_script` bytes, and those that were whole before it were worked
ReadOutcome m status.TooMuch c =
    (given piece : List ℕ) × (lines : GoodLines)
    × (Gave c.source (given ++ piece) × (length given ≤ most_script) × (most_script < length (given ++ piece)) × IsUnbroken given lines × Worked m lines c)
ReadOutcome m status.WriteFault c = Rose c.sink.faults c.sink.faults_behind × WroteSome m c
ReadOutcome m status.OutOfMemory c = WroteSome m c
ReadOutcome m status.Usage c = ⊥
ReadOutcome m status.StoreFault c = ⊥
ReadOutcome m status.NetFault c = ⊥

-- ---- the script of the source, before the last of what is to be written goes out

-- what a status says of bytes that were read and worked. What is to be written for their lines is taken or still to be written
abbrev pub Met : (m : Mode) → Reading → Writing → (new : Replaying) → Status → Type 0
Met m r w new status.Ok = (given taken : List ℕ) × (GaveAll r given × Took w taken × HasReplayed given taken new)
Met m r w new status.ReadFault = ReadRefused m r w new status.ReadFault
Met m r w new status.TooMuch = ReadRefused m r w new status.TooMuch
Met m r w new status.WriteFault = ReadRefused m r w new status.WriteFault
Met m r w new status.OutOfMemory = ReadRefused m r w new status.OutOfMemory
Met m r w new s = (given taken : List ℕ) × (lines : GoodLines) × (Broke r given lines s × Took w taken × HasEnded lines taken new)

-- this is what it hands out
abbrev pub Hands : Replaying → Option WorldState → Type 0
Hands r world = (lines : GoodLines) → IsAt r.mode lines r.stage → HandsOut r.mode lines world

-- ---- the made script

-- the script that is made of a seed, under the book that its text declares
pub record IsMade (seed count : ℕ) (s : Script) : Type 0 where
  pub declares : book_of made_book ≡ Ok s.book
  pub made : s ≡ made_script seed count s.book

-- what running the made script of a seed came to
abbrev pub MadeDoes : (seed count : ℕ) → Writing → Result WorldState Status → Type 0
MadeDoes seed count sink (Ok w) = (s : Script) × (IsMade seed count s × Took sink (made_output s) × IsWorldOf s w)
MadeDoes seed count sink (Err status.WriteFault) =
    (s : Script) × (front : List ℕ) × (IsMade seed count s × Took sink front × IsFront front (made_output s) × Rose sink.faults sink.faults_behind)
MadeDoes seed count sink (Err status.OutOfMemory) = (s : Script) × (front : List ℕ) × (IsMade seed count s × Took sink front × IsFront front (made_output s))
MadeDoes seed count sink (Err _) = ⊥

-- what a status says of a call that makes its script. The source isn't asked
abbrev pub MadeOutcome : (seed count : ℕ) → Status → Call → Type 0
MadeOutcome seed count status.Ok c =
    (s : Script) × (IsMade seed count s × WasNotRead c.source × Took c.sink (made_output s) × HandsOut mode.Totals (Session s) c.world × HasWindows s)
MadeOutcome seed count status.WriteFault c =
    (s : Script) × (front : List ℕ)
    × (IsMade seed count s × WasNotRead c.source × Took c.sink front × IsFront front (made_output s) × Rose c.sink.faults c.sink.faults_behind × HasWindows s)
MadeOutcome seed count status.OutOfMemory c =
    (s : Script) × (front : List ℕ) × (IsMade seed count s × WasNotRead c.source × Took c.sink front × IsFront front (made_output s) × HasWindows s)
MadeOutcome seed count _ c = ⊥

-- ---- all calls

-- the words are none of the four lists: nothing is read, written or run
pub record DidNothing (s : Status) (c : Call) : Type 0 where
  pub usage : s ≡ status.Usage
  pub source : WasNotRead c.source
  pub sink : Took c.sink []
  pub world : c.world ≡ None

abbrev pub OutcomeFor : Option Order → Status → Call → Type 0
OutcomeFor None s c = DidNothing s c
OutcomeFor (Some (order.Read m)) s c = ReadOutcome m s c
OutcomeFor (Some (order.Make seed count)) s c = MadeOutcome seed count s c

-- what a status says of a call
abbrev pub Outcome : Status → Call → Type 0
Outcome s c = OutcomeFor (order_of c.words) s c

-- neither the source nor the sink failed
pub record NothingFailed (c : Call) : Type 0 where
  pub read : Rose c.source.faults c.source.faults_behind → ⊥
  pub wrote : Rose c.sink.faults c.sink.faults_behind → ⊥

-- the source tells its bytes, and they are at most `most_script`
pub record Tells (c : Call) (all : List ℕ) : Type 0 where
  pub left : c.source.left ≡ Some all
  pub few : length all ≤ most_script

-- where nothing fails, a script is replayed whole, and bytes that are none are refused with their first break. Only memory can be wanted
pub record IsComplete (s : Status) (c : Call) : Type 0 where
  pub whole : NothingFailed c → (m : Mode) → order_of c.words ≡ Some (order.Read m) → (all : List ℕ) → Tells c all
      → (script : Script) → IsScript all script → (s ≡ status.Ok) ⊎ (s ≡ status.OutOfMemory)
  pub broken : NothingFailed c → (m : Mode) → order_of c.words ≡ Some (order.Read m) → (all : List ℕ) → Tells c all
      → (lines : GoodLines) → (b : Status) → FirstBreak all lines b → (s ≡ b) ⊎ (s ≡ status.OutOfMemory)
  pub made : NothingFailed c → (seed count : ℕ) → order_of c.words ≡ Some (order.Make seed count) → (s ≡ status.Ok) ⊎ (s ≡ status.OutOfMemory)
