-- Which rule of commands a client's text breaks first. The rules in their order: it is a JSON object, its member `command` is one of the
-- three commands, its member `identifier` is a string, and of a message the member `data` is a string that holds JSON.
use Rattle.std.specs.Prelude.{◌≡◌, ◌⊎◌, ℕ, List, codes, Some}
use Rattle.serde_json.specs.Data.{Data, Members}
use Rattle.serde_json.specs.Read.{read}
use Rattle.serde_json.specs.Find.{as_object}
use Rattle.cable_json.specs.Members.{text_at}
use Rattle.cable_json.specs.Commands.{Asks, Holds, IsObject}
use Rattle.cable_json.specs.declared.commands.CommandFault.{CommandFault}
use Rattle.cable_json.specs.declared.commands.CommandFault.TheVariants as fault

-- one of the three commands
abbrev pub IsCommandName : List ℕ → Type 0
IsCommandName name = (name ≡ codes "subscribe") ⊎ (name ≡ codes "unsubscribe") ⊎ (name ≡ codes "message")

-- the text is an object whose member `command` is missing, no string, or none of the three
pub record NamesNoCommand (text : List ℕ) : Type 0 where
  pub value : Data
  pub members : Members
  pub reads : read text ≡ Some value
  pub is_object : as_object value ≡ Some members
  pub none : (name : List ℕ) → text_at (codes "command") value ≡ Some name → ¬ IsCommandName name

-- the text is an object that asks for one of the three commands, and its member `identifier` is missing or no string
pub record LacksIdentifier (text : List ℕ) : Type 0 where
  pub value : Data
  pub name : List ℕ
  pub reads : read text ≡ Some value
  pub named : text_at (codes "command") value ≡ Some name
  pub known : IsCommandName name
  pub none : (identifier : List ℕ) → ¬ (text_at (codes "identifier") value ≡ Some identifier)

-- the text asks for `message` with an identifier, and its member `data` is missing, no string, or a string that isn't JSON
pub record LacksData (text : List ℕ) : Type 0 where
  pub value : Data
  pub identifier : List ℕ
  pub asks : Asks text value (codes "message") identifier
  pub none : (held payload : List ℕ) → ¬ Holds value held payload

-- the text breaks the rule of this fault, and none before it. Want of memory is no property of a text
abbrev pub BreaksFirst : CommandFault → List ℕ → Type 0
BreaksFirst fault.BadJson text = ¬ IsObject text
BreaksFirst fault.UnknownCommand text = NamesNoCommand text
BreaksFirst fault.NoIdentifier text = LacksIdentifier text
BreaksFirst fault.BadData text = LacksData text
BreaksFirst fault.OutOfMemory text = ⊥
