-- The one line of an event, and a script written out with a line for each event.
use Rattle.std.specs.Prelude.{ℕ, List, [], ◌∷◌, ◌++◌, flat_map, codes, decimal, IsUtf8}
use Rattle.cable_base.specs.Squeeze.{squeezed}
use Rattle.cable_model.specs.declared.events.Event.{Event}
use Rattle.cable_model.specs.declared.events.Event.TheVariants.{Boot, Open, In, Drop, Stop, Take, Put, Finish, Cast, Trim, Ask, Read, Deliver, Beat, Fault}
use Rattle.cable_model.specs.Limits.{CanBeRow, most_batch}
use Rattle.cable_model.specs.Script.{Script, IsConn, IsFrom, IsMoment, IsNode, IsWord, HasNoFeed, book_line, events_of, header, spaced}
use Rattle.cable_model.specs.Transcript.{ended}

-- the line of an event. A cast's JSON is its payload as it stands
abbrev pub event_line : Event → List ℕ
event_line (Boot node) = spaced (codes "boot" ∷ decimal node.0 ∷ [])
event_line (Open node conn token) = spaced (codes "open" ∷ decimal node.0 ∷ decimal conn.0 ∷ token ∷ [])
event_line (In conn text) = spaced (codes "in" ∷ decimal conn.0 ∷ text ∷ [])
event_line (Drop conn) = spaced (codes "drop" ∷ decimal conn.0 ∷ [])
event_line (Stop node) = spaced (codes "stop" ∷ decimal node.0 ∷ [])
event_line (Take conn) = spaced (codes "take" ∷ decimal conn.0 ∷ [])
event_line (Put conn at) = spaced (codes "put" ∷ decimal conn.0 ∷ decimal at.0 ∷ [])
event_line (Finish conn) = spaced (codes "finish" ∷ decimal conn.0 ∷ [])
event_line (Cast at channel payload) = spaced (codes "cast" ∷ decimal at.0 ∷ channel ∷ payload ∷ [])
event_line (Trim now retention batch) = spaced (codes "trim" ∷ decimal now.0 ∷ decimal retention.0 ∷ decimal batch ∷ [])
event_line (Ask node) = spaced (codes "ask" ∷ decimal node.0 ∷ [])
event_line (Read node) = spaced (codes "read" ∷ decimal node.0 ∷ [])
event_line (Deliver node) = spaced (codes "deliver" ∷ decimal node.0 ∷ [])
event_line (Beat node now) = spaced (codes "beat" ∷ decimal node.0 ∷ decimal now.0 ∷ [])
event_line Fault = codes "fault"

-- a text that a line may have behind its last blank
pub record IsRest (text : List ℕ) : Type 0 where
  pub utf8 : IsUtf8 text
  pub one : HasNoFeed text

-- a word that a line may have
pub record IsLineWord (word : List ℕ) : Type 0 where
  pub is_word : IsWord word
  pub rest : IsRest word

-- its numbers are in the ranges of a script, its name and payload within the limits, the payload is squeezed, and no text has a line feed
abbrev pub CanBePrinted : Event → Type 0
CanBePrinted (Boot node) = IsNode node
CanBePrinted (Open node conn token) = IsNode node × IsConn conn × IsLineWord token
CanBePrinted (In conn text) = IsConn conn × IsRest text
CanBePrinted (Drop conn) = IsConn conn
CanBePrinted (Stop node) = IsNode node
CanBePrinted (Take conn) = IsConn conn
CanBePrinted (Put conn at) = IsConn conn × IsMoment at
CanBePrinted (Finish conn) = IsConn conn
CanBePrinted (Cast at channel payload) = IsMoment at × IsLineWord channel × IsRest payload × CanBeRow channel payload
CanBePrinted (Trim now retention batch) = IsMoment now × IsMoment retention × IsFrom 1 most_batch batch
CanBePrinted (Ask node) = IsNode node
CanBePrinted (Read node) = IsNode node
CanBePrinted (Deliver node) = IsNode node
CanBePrinted (Beat node now) = IsNode node × IsMoment now
CanBePrinted Fault = Unit {0}

-- a line for each event
abbrev pub printed_events : List Event → List ℕ
printed_events events = flat_map (λ e. ended (event_line e)) events

-- the header, the line of the book without white space, and a line for each event
abbrev pub printed : Script → List ℕ
printed s = ended header ++ ended (book_line (squeezed s.text)) ++ printed_events (events_of s)
