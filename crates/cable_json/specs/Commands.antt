-- The command that a client's text is, or the first rule that it breaks.
use Rattle.std.specs.Prelude.{◌≡◌, ⊤, IsSome, ℕ, List, codes, Option, Some, None, Result, Ok, Err, if◌then◌else◌}
use Rattle.std.specs.Str.{bytes_eq}
use Rattle.serde_json.specs.Data.{Data, Members}
use Rattle.serde_json.specs.Read.{read}
use Rattle.serde_json.specs.Find.{as_object}
use Rattle.cable_base.specs.Squeeze.{squeezed, IsSqueezedJson}
use Rattle.cable_json.specs.Members.{text_at}
use Rattle.cable_json.specs.declared.commands.Command.{Command}
use Rattle.cable_json.specs.declared.commands.Command.TheVariants.{Subscribe, Unsubscribe, Message}
use Rattle.cable_json.specs.declared.commands.CommandFault.{CommandFault}
use Rattle.cable_json.specs.declared.commands.CommandFault.TheVariants as fault

-- what is there, or else this fault
abbrev pub or_fault : {A : Type 0} → CommandFault → Option A → Result A CommandFault
or_fault f None = Err f
or_fault f (Some x) = Ok x

infixl 10 ◌>>=◌
abbrev pub ◌>>=◌ : {A B : Type 0} → Result A CommandFault → (A → Result B CommandFault) → Result B CommandFault
(Ok x) >>= f = f x
(Err f) >>= g = Err f

-- the identifier, which is a string, by its characters
abbrev pub identifier_in : Data → Result (List ℕ) CommandFault
identifier_in value = or_fault fault.NoIdentifier (text_at (codes "identifier") value)

-- the payload of a message: a string that holds JSON, squeezed
abbrev pub payload_in : Data → Result (List ℕ) CommandFault
payload_in value = do
  text ← or_fault fault.BadData (text_at (codes "data") value)
  held ← or_fault fault.BadData (read text)
  Ok (squeezed text)

abbrev pub subscribe_in : Data → Result Command CommandFault
subscribe_in value = do
  identifier ← identifier_in value
  Ok (Subscribe identifier)

abbrev pub unsubscribe_in : Data → Result Command CommandFault
unsubscribe_in value = do
  identifier ← identifier_in value
  Ok (Unsubscribe identifier)

abbrev pub message_in : Data → Result Command CommandFault
message_in value = do
  identifier ← identifier_in value
  payload ← payload_in value
  Ok (Message identifier payload)

-- the command of that name
abbrev pub command_named : List ℕ → Data → Result Command CommandFault
command_named name value =
    if bytes_eq name (codes "subscribe") then subscribe_in value
    else (if bytes_eq name (codes "unsubscribe") then unsubscribe_in value
    else (if bytes_eq name (codes "message") then message_in value
    else Err fault.UnknownCommand))

-- the command that a text is, or the first rule that it breaks
abbrev pub command_of : List ℕ → Result Command CommandFault
command_of text = do
  value ← or_fault fault.BadJson (read text)
  members ← or_fault fault.BadJson (as_object value)
  name ← or_fault fault.UnknownCommand (text_at (codes "command") value)
  command_named name value

-- ---- what a text says

-- the text is an object whose members say this command and this identifier
pub record Asks (text : List ℕ) (value : Data) (name identifier : List ℕ) : Type 0 where
  pub reads : read text ≡ Some value
  pub named : text_at (codes "command") value ≡ Some name
  pub identified : text_at (codes "identifier") value ≡ Some identifier

-- the member `data` is a string that holds JSON, and this is its squeezed text
pub record Holds (value : Data) (text payload : List ℕ) : Type 0 where
  pub there : text_at (codes "data") value ≡ Some text
  pub reads : IsSome (read text)
  pub squeezes : payload ≡ squeezed text

-- the text says this command
abbrev pub Says : List ℕ → Command → Type 0
Says text (Subscribe identifier) = (value : Data) × Asks text value (codes "subscribe") identifier
Says text (Unsubscribe identifier) = (value : Data) × Asks text value (codes "unsubscribe") identifier
Says text (Message identifier payload) = (value : Data) × (held : List ℕ) × Asks text value (codes "message") identifier × Holds value held payload

-- the text reads as a JSON object
abbrev pub IsObject : List ℕ → Type 0
IsObject text = (value : Data) × (members : Members) × (read text ≡ Some value) × (as_object value ≡ Some members)

-- the payload of a message is squeezed JSON
abbrev pub CarriesJson : Command → Type 0
CarriesJson (Subscribe identifier) = ⊤
CarriesJson (Unsubscribe identifier) = ⊤
CarriesJson (Message identifier payload) = IsSqueezedJson payload

-- the fault is the one that is expected, unless memory ran out
abbrev pub Faults : {A : Type 0} → CommandFault → Result A CommandFault → Type 0
Faults fault.BadJson expected = expected ≡ Err fault.BadJson
Faults fault.UnknownCommand expected = expected ≡ Err fault.UnknownCommand
Faults fault.NoIdentifier expected = expected ≡ Err fault.NoIdentifier
Faults fault.BadData expected = expected ≡ Err fault.BadData
Faults fault.OutOfMemory expected = ⊤

-- a call answered what is expected, unless memory ran out
abbrev pub Gives : {A : Type 0} → Result A CommandFault → Result A CommandFault → Type 0
Gives (Ok x) expected = expected ≡ Ok x
Gives (Err f) expected = Faults f expected
