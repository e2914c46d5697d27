-- The session script: which bytes are one, and the events that its lines stand for.
use Rattle.std.specs.Prelude.{◌≡◌, ◌==◌, ℕ, ◌<◌, ◌≤◌, false, List, [], ◌∷◌, ◌++◌, length, codes, decimal, replicate, IsSome, IsUtf8, Ok}
use Rattle.std.specs.List.{list_any}
use Rattle.serde_json.specs.Read.{read}
use Rattle.cable_base.specs.declared.numbers.ConnNo.{ConnNo}
use Rattle.cable_base.specs.declared.numbers.NodeNo.{NodeNo}
use Rattle.cable_base.specs.declared.numbers.Millis.{Millis}
use Rattle.cable_base.specs.Squeeze.{squeezed}
use Rattle.cable_base.specs.Hash.{channel_hash_of}
use Rattle.channel_book.specs.Shapes.{Declared}
use Rattle.channel_book.specs.Books.{book_of}
use Rattle.channel_book.specs.Answers.{callbacks_of}
use Rattle.cable_model.specs.declared.events.Event.{Event}
use Rattle.cable_model.specs.declared.events.Event.TheVariants.{Boot, Open, In, Drop, Stop, Take, Put, Finish, Cast, Trim, Ask, Read, Deliver, Beat, Fault}
use Rattle.cable_model.specs.Limits.{most_name, most_payload, most_line, last_node, last_conn, last_moment, most_batch, most_puts, page_rows}
use Rattle.cable_model.specs.History.{Rules}
use Rattle.cable_model.specs.declared.verbs.Verb.{Verb}
use Rattle.cable_model.specs.declared.verbs.Verb.TheVariants.{One, Work, Poll}

-- ---- what a line stands for

abbrev pub expand : Verb → List Event
expand (One event) = event ∷ []
expand (Work conn at puts) = (Take conn ∷ replicate puts (Put conn at)) ++ Finish conn ∷ []
expand (Poll node) = Ask node ∷ Read node ∷ Deliver node ∷ []

abbrev pub expand_all : List Verb → List Event
expand_all [] = []
expand_all (v ∷ vs) = expand v ++ expand_all vs

-- ---- words and numbers. A number is spelled by its decimal digits, without a leading zero

-- words with one blank between them
abbrev pub spaced : List (List ℕ) → List ℕ
spaced [] = []
spaced (word ∷ []) = word
spaced (word ∷ next ∷ words) = word ++ 32 ∷ spaced (next ∷ words)

-- it isn't empty, and has no blank
pub record IsWord (word : List ℕ) : Type 0 where
  pub some : 0 < length word
  pub one : list_any (λ b. b == 32) word ≡ false

abbrev pub IsFrom : ℕ → ℕ → ℕ → Type 0
IsFrom low high n = (low ≤ n) × (n ≤ high)

abbrev pub IsNode : NodeNo → Type 0
IsNode node = IsFrom 1 last_node node.0

abbrev pub IsConn : ConnNo → Type 0
IsConn conn = IsFrom 1 last_conn conn.0

-- from 0 to the last moment
abbrev pub IsMoment : Millis → Type 0
IsMoment at = IsFrom 0 last_moment at.0

-- ---- the lines

-- the payload is the JSON without its white space, and with the name it is within the limits
pub record IsCast (channel json payload : List ℕ) : Type 0 where
  pub name : IsWord channel
  pub reads : IsSome (read json)
  pub squeezes : payload ≡ squeezed json
  pub short_name : length channel ≤ most_name
  pub short_payload : length payload ≤ most_payload

-- the line of an event
abbrev pub SpellsEvent : Event → List ℕ → Type 0
SpellsEvent (Boot node) line = IsNode node × (line ≡ spaced (codes "boot" ∷ decimal node.0 ∷ []))
SpellsEvent (Open node conn token) line =
    IsNode node × IsConn conn × IsWord token × (line ≡ spaced (codes "open" ∷ decimal node.0 ∷ decimal conn.0 ∷ token ∷ []))
SpellsEvent (In conn text) line = IsConn conn × (line ≡ spaced (codes "in" ∷ decimal conn.0 ∷ text ∷ []))
SpellsEvent (Drop conn) line = IsConn conn × (line ≡ spaced (codes "drop" ∷ decimal conn.0 ∷ []))
SpellsEvent (Stop node) line = IsNode node × (line ≡ spaced (codes "stop" ∷ decimal node.0 ∷ []))
SpellsEvent (Take conn) line = IsConn conn × (line ≡ spaced (codes "take" ∷ decimal conn.0 ∷ []))
SpellsEvent (Put conn at) line = IsConn conn × IsMoment at × (line ≡ spaced (codes "put" ∷ decimal conn.0 ∷ decimal at.0 ∷ []))
SpellsEvent (Finish conn) line = IsConn conn × (line ≡ spaced (codes "finish" ∷ decimal conn.0 ∷ []))
SpellsEvent (Cast at channel payload) line =
    (json : List ℕ) × (IsMoment at × IsCast channel json payload × (line ≡ spaced (codes "cast" ∷ decimal at.0 ∷ channel ∷ json ∷ [])))
SpellsEvent (Trim now retention batch) line =
    IsMoment now × IsMoment retention × IsFrom 1 most_batch batch
    × (line ≡ spaced (codes "trim" ∷ decimal now.0 ∷ decimal retention.0 ∷ decimal batch ∷ []))
SpellsEvent (Ask node) line = IsNode node × (line ≡ spaced (codes "ask" ∷ decimal node.0 ∷ []))
SpellsEvent (Read node) line = IsNode node × (line ≡ spaced (codes "read" ∷ decimal node.0 ∷ []))
SpellsEvent (Deliver node) line = IsNode node × (line ≡ spaced (codes "deliver" ∷ decimal node.0 ∷ []))
SpellsEvent (Beat node now) line = IsNode node × IsMoment now × (line ≡ spaced (codes "beat" ∷ decimal node.0 ∷ decimal now.0 ∷ []))
SpellsEvent Fault line = line ≡ codes "fault"

-- the line of a verb
abbrev pub Spells : Verb → List ℕ → Type 0
Spells (One event) line = SpellsEvent event line
Spells (Work conn at puts) line =
    IsConn conn × IsMoment at × IsFrom 0 most_puts puts × (line ≡ spaced (codes "work" ∷ decimal conn.0 ∷ decimal at.0 ∷ decimal puts ∷ []))
Spells (Poll node) line = IsNode node × (line ≡ spaced (codes "poll" ∷ decimal node.0 ∷ []))

abbrev pub HasNoFeed : List ℕ → Type 0
HasNoFeed bytes = list_any (λ b. b == 10) bytes ≡ false

-- what may stand between two line feeds: UTF-8 of at most `most_line` bytes
pub record IsLine (line : List ℕ) : Type 0 where
  pub utf8 : IsUtf8 line
  pub short : length line ≤ most_line
  pub one : HasNoFeed line

-- each line spells its verb
abbrev pub AllSpell : List Verb → List (List ℕ) → Type 0
AllSpell [] [] = Unit {0}
AllSpell [] (line ∷ lines) = ⊥
AllSpell (v ∷ vs) [] = ⊥
AllSpell (v ∷ vs) (line ∷ lines) = IsLine line × Spells v line × AllSpell vs lines

-- ---- the script

-- lines, each ended by a line feed
abbrev pub bytes_of_lines : List (List ℕ) → List ℕ
bytes_of_lines [] = []
bytes_of_lines (line ∷ lines) = line ++ 10 ∷ bytes_of_lines lines

abbrev pub header : List ℕ
header = codes "cable-script 1"

abbrev pub book_line : List ℕ → List ℕ
book_line text = spaced (codes "book" ∷ text ∷ [])

-- what a script says: the text of its book, the book that this is, and what the lines behind it stand for
pub record Script : Type 0 where
  pub text : List ℕ
  pub book : Declared
  pub verbs : List Verb

-- the header, the line of the book, and lines that spell these verbs
pub record IsScript (bytes : List ℕ) (s : Script) : Type 0 where
  pub lines : List (List ℕ)
  pub parts : bytes ≡ bytes_of_lines (header ∷ book_line s.text ∷ lines)
  pub second : IsLine (book_line s.text)
  pub declares : book_of s.text ≡ Ok s.book
  pub spelled : AllSpell s.verbs lines

-- the events of its lines, in their order
abbrev pub events_of : Script → List Event
events_of s = expand_all s.verbs

-- ---- the rules of a session

-- the rules under which a script with this book runs
abbrev pub rules_of : Declared → Rules
rules_of book = record { callbacks = callbacks_of book; hash = channel_hash_of; page = page_rows }
