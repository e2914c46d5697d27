-- What a channel book is: the table of its members.
use Rattle.std.specs.Prelude.{◌≡◌, ◌≤◌, ℕ, Bool, false, List, [], ◌∷◌, length, codes, Option, Some, None, IsSome}
use Rattle.serde_json.specs.Data.{Data, boolean, string, array, object, Items, Members, no_members, member}
use Rattle.serde_json.specs.Read.{read}
use Rattle.serde_json.specs.Find.{get}
use Rattle.cable_base.specs.Squeeze.{squeezed}
use Rattle.cable_base.specs.declared.limits.TheConstants.{MOST_USER}
use Rattle.channel_book.specs.declared.templates.Template.{Template}
use Rattle.channel_book.specs.declared.declarations.CastRule.{CastRule}
use Rattle.channel_book.specs.declared.declarations.Action.{Action}
use Rattle.channel_book.specs.declared.declarations.Rules.{Rules}
use Rattle.channel_book.specs.declared.declarations.Channel.{Channel}
use Rattle.channel_book.specs.Templates.{IsPlain, IsTemplate}
use Rattle.channel_book.specs.Shapes.{Users, Declared}
use Rattle.channel_book_laws.specs.Lists.{AreDistinct, AreItems}

-- an object, whatever its members
abbrev pub IsObject : Data → Type 0
IsObject d = (members : Members) × (d ≡ object members)

-- an array of these, in order. One that is missing is empty.
abbrev pub IsList : {X : Type 0} → (Data → X → Type 0) → Option Data → List X → Type 0
IsList Is None xs = xs ≡ []
IsList Is (Some d) xs = (items : Items) × (d ≡ array items) × AreItems Is items xs

-- ---- tokens

-- a user is a string of at most `MOST_USER` bytes
pub record IsUser (d : Data) (user : List ℕ) : Type 0 where
  pub text : d ≡ string user
  pub short : length user ≤ MOST_USER

-- the members are these tokens with their users, in order
abbrev pub AreUsers : Members → Users → Type 0
AreUsers no_members [] = Unit {0}
AreUsers no_members (u ∷ us) = ⊥
AreUsers (member token d ms) [] = ⊥
AreUsers (member token d ms) (u ∷ us) = (u.0 ≡ token) × IsUser d u.1 × AreUsers ms us

-- an object from token to user. One that is missing has no users.
abbrev pub IsTokens : Option Data → Users → Type 0
IsTokens None users = users ≡ []
IsTokens (Some d) users = (members : Members) × (d ≡ object members) × AreUsers members users

-- ---- what channels and actions are made of

-- a string that isn't empty
pub record IsName (value : Option Data) (name : List ℕ) : Type 0 where
  pub text : value ≡ Some (string name)
  pub some : ¬ (name ≡ [])

-- `true` or `false`, and `false` where it is missing
abbrev pub IsFlag : Option Data → Bool → Type 0
IsFlag None flag = flag ≡ false
IsFlag (Some d) flag = d ≡ boolean flag

-- a string that is a template: text, and names in braces, each `user` or one of these
abbrev pub IsTemplateString : List (List ℕ) → Data → Template → Type 0
IsTemplateString names d template = (text : List ℕ) × (d ≡ string text) × IsTemplate names text template

-- a string that holds JSON, which is kept without white space
pub record IsJsonString (d : Data) (json : List ℕ) : Type 0 where
  pub text : List ℕ
  pub string : d ≡ string text
  pub read : IsSome (read text)
  pub kept : json ≡ squeezed text

-- an object with `to`, a template, and `payload`, a string that holds JSON. Both are required.
pub record IsCastRule (names : List (List ℕ)) (d : Data) (rule : CastRule) : Type 0 where
  pub object : IsObject d
  pub to : (value : Data) × (get (codes "to") d ≡ Some value) × IsTemplateString names value rule.to
  pub payload : (value : Data) × (get (codes "payload") d ≡ Some value) × IsJsonString value rule.payload

-- a string that isn't empty, isn't `user`, and has no brace
pub record IsRequirable (d : Data) (name : List ℕ) : Type 0 where
  pub text : d ≡ string name
  pub some : ¬ (name ≡ [])
  pub other : ¬ (name ≡ codes "user")
  pub plain : IsPlain name

-- a list of different names that a channel may require
pub record IsRequired (value : Option Data) (names : List (List ℕ)) : Type 0 where
  pub list : IsList IsRequirable value names
  pub distinct : AreDistinct names

-- ---- the table

-- an action, whose templates take up these names
pub record IsAction (names : List (List ℕ)) (d : Data) (action : Action) : Type 0 where
  pub object : IsObject d
  pub name : IsName (get (codes "name") d) action.name
  pub casts : IsList (IsTemplateString names) (get (codes "casts") d) action.casts
  pub echo : IsFlag (get (codes "echo") d) action.echo
  pub streams : IsList (IsTemplateString names) (get (codes "streams") d) action.streams
  pub stops : IsList (IsTemplateString names) (get (codes "stops") d) action.stops

-- what happens on a channel that requires these names
pub record IsRules (names : List (List ℕ)) (d : Data) (rules : Rules) : Type 0 where
  pub streams : IsList (IsTemplateString names) (get (codes "streams") d) rules.streams
  pub says : IsList IsJsonString (get (codes "says") d) rules.says
  pub enter : IsList (IsCastRule names) (get (codes "enter") d) rules.enter
  pub leave : IsList (IsCastRule names) (get (codes "leave") d) rules.leave
  pub actions : IsList (IsAction names) (get (codes "actions") d) rules.actions

-- a channel
pub record IsChannel (d : Data) (channel : Channel) : Type 0 where
  pub object : IsObject d
  pub name : IsName (get (codes "name") d) channel.name
  pub required : IsRequired (get (codes "requires") d) channel.required
  pub rules : IsRules channel.required d channel.rules

-- the list of channels, which is required
abbrev pub IsChannels : Option Data → List Channel → Type 0
IsChannels value channels = (items : Items) × (value ≡ Some (array items)) × AreItems IsChannel items channels

-- a JSON value is a channel book that declares these users and channels
pub record IsBook (d : Data) (book : Declared) : Type 0 where
  pub object : IsObject d
  pub tokens : IsTokens (get (codes "tokens") d) book.users
  pub channels : IsChannels (get (codes "channels") d) book.channels
