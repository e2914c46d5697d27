-- Which texts are channel books, and the fault of each other text.
use Rattle.std.specs.Prelude.{◌≡◌, ◌⊎◌, ℕ, List, ◌∷◌, ◌++◌, map, Some, None}
use Rattle.std.specs.List.{AllByRecursion}
use Rattle.serde_json.specs.Data.{Data}
use Rattle.serde_json.specs.Read.{read}
use Rattle.cable_base.specs.Names.{reserved_prefix}
use Rattle.channel_book.specs.declared.declarations.Action.{Action}
use Rattle.channel_book.specs.declared.declarations.Channel.{Channel}
use Rattle.channel_book.specs.declared.faults.BookFault.{BookFault}
use Rattle.channel_book.specs.declared.faults.BookFault.TheVariants as fault
use Rattle.channel_book.specs.Shapes.{Declared}
use Rattle.channel_book_laws.specs.Lists.{IsAmong, AreDistinct, IsFirst}
use Rattle.channel_book_laws.specs.Books.{IsBook}
use Rattle.channel_book_laws.specs.Walk.{book_places, templates_at, IsFirstBreak}

-- a text is JSON that has the shape of this book
pub record HasShape (text : List ℕ) (book : Declared) : Type 0 where
  pub value : Data
  pub json : read text ≡ Some value
  pub shape : IsBook value book

-- ---- reserved streams

-- a template begins with the name space that the server keeps to itself
abbrev pub IsReserved : List ℕ → Type 0
IsReserved template = (rest : List ℕ) × (template ≡ reserved_prefix ++ rest)

abbrev pub IsUnreserved : List ℕ → Type 0
IsUnreserved template = ¬ IsReserved template

-- the templates of a value in the order of the walk
abbrev pub templates_of : Data → List (List ℕ)
templates_of d = templates_at (book_places d)

-- ---- repeated names

abbrev pub channel_names : List Channel → List (List ℕ)
channel_names channels = map (λ (channel : Channel). channel.name) channels

abbrev pub action_names : Channel → List (List ℕ)
action_names channel = map (λ (action : Action). action.name) channel.rules.actions

-- no two channels have one name, and no two actions of one channel
pub record AreNamedApart (channels : List Channel) : Type 0 where
  pub names : AreDistinct (channel_names channels)
  pub actions : AllByRecursion (λ channel. AreDistinct (action_names channel)) channels

-- the first of these names that stood before
pub record IsFirstRepeat (names : List (List ℕ)) (name : List ℕ) : Type 0 where
  pub before : List (List ℕ)
  pub after : List (List ℕ)
  pub split : names ≡ before ++ name ∷ after
  pub stood : IsAmong before name
  pub distinct : AreDistinct before

-- a name stood before: it is the channel's, and one of the channels before has it, or else the first of its actions' names that stood before
abbrev pub IsRepeatAt : List Channel → Channel → List ℕ → Type 0
IsRepeatAt before channel name = ((channel.name ≡ name) × IsAmong (channel_names before) name) ⊎ ((¬ IsAmong (channel_names before) channel.name) × IsFirstRepeat (action_names channel) name)

-- the first name that stood before, channel by channel: none did in the channels before
pub record IsFirstRepeatIn (channels : List Channel) (name : List ℕ) : Type 0 where
  pub before : List Channel
  pub channel : Channel
  pub after : List Channel
  pub split : channels ≡ before ++ channel ∷ after
  pub apart : AreNamedApart before
  pub repeat : IsRepeatAt before channel name

-- ---- books and faults

-- a text is this book
pub record IsBookText (text : List ℕ) (book : Declared) : Type 0 where
  pub shape : HasShape text book
  pub unreserved : AllByRecursion IsUnreserved (templates_of shape.value)
  pub apart : AreNamedApart book.channels

-- the fault of a text: it isn't JSON; the first place that breaks the table; the first template that is reserved; the first name that stood before.
-- Want of memory is no fault of a text.
abbrev pub IsFaultOf : List ℕ → BookFault → Type 0
IsFaultOf text fault.BadJson = read text ≡ None
IsFaultOf text (fault.BadShape path) = (d : Data) × (read text ≡ Some d) × IsFirstBreak (book_places d) path
IsFaultOf text (fault.ReservedStream template) = (book : Declared) × (shape : HasShape text book) × IsFirst IsUnreserved IsReserved (templates_of shape.value) template
IsFaultOf text (fault.RepeatedName name) = (book : Declared) × (shape : HasShape text book) × AllByRecursion IsUnreserved (templates_of shape.value) × IsFirstRepeatIn book.channels name
IsFaultOf text fault.OutOfMemory = ⊥
