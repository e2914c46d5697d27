-- Which rule of lines a line breaks first. The rules in their order: it is UTF-8, it begins with a verb, it has the words of that verb, its
-- numbers are spelled so and lie in their ranges, and what a cast commits is JSON within the limits.
use Rattle.std.specs.Prelude.{◌≡◌, ◌⊎◌, ℕ, ◌<◌, List, [], ◌∷◌, length, IsSome, IsUtf8}
use Rattle.serde_json.specs.Read.{read}
use Rattle.cable_base.specs.Squeeze.{squeezed}
use Rattle.cable_model.specs.Limits.{most_name, most_payload}
use Rattle.cable_model.specs.declared.statuses.BreakReason.{BreakReason}
use Rattle.cable_model.specs.declared.statuses.BreakReason.TheVariants as reason
use Rattle.cable_model.specs.declared.verb_names.VerbName.{VerbName}
use Rattle.cable_model.specs.declared.verb_names.VerbName.TheVariants as name
use Rattle.cable_model.specs.VerbTable.{spelling, kinds_behind, IsInRange, Each, BeginsWith, HasWords, HasNumbers}

-- the first word is none of the verbs
pub record NamesNoVerb (line : List ℕ) : Type 0 where
  pub word : List ℕ
  pub first : BeginsWith line word
  pub none : (verb : VerbName) → ¬ (word ≡ spelling verb)

-- the first word is a verb, and there are too few or too many words behind it, or one is empty
pub record LacksWords (line : List ℕ) : Type 0 where
  pub verb : VerbName
  pub first : BeginsWith line (spelling verb)
  pub none : (words : List (List ℕ)) → ¬ HasWords verb words line

-- the words are there, and a number among them is spelled otherwise or lies out of its range
pub record LacksNumber (line : List ℕ) : Type 0 where
  pub verb : VerbName
  pub words : List (List ℕ)
  pub has : HasWords verb words line
  pub none : ¬ Each IsInRange (kinds_behind verb) words

-- a cast of this name and this JSON, whose moment is a number
abbrev pub Casts : (channel json line : List ℕ) → Type 0
Casts channel json line = (moment : List ℕ) × HasNumbers name.Cast (moment ∷ channel ∷ json ∷ []) line

-- a cast whose JSON isn't read
pub record CastsNoJson (line : List ℕ) : Type 0 where
  pub channel : List ℕ
  pub json : List ℕ
  pub casts : Casts channel json line
  pub none : ¬ IsSome (read json)

-- a cast whose name is too long, or its JSON without white space
pub record CastsTooMuch (line : List ℕ) : Type 0 where
  pub channel : List ℕ
  pub json : List ℕ
  pub casts : Casts channel json line
  pub reads : IsSome (read json)
  pub long : (most_name < length channel) ⊎ (most_payload < length (squeezed json))

-- the line breaks this rule, and none before it. Those of the first two lines are no rules of a line behind them
abbrev pub BreaksFirst : BreakReason → List ℕ → Type 0
BreaksFirst reason.NoHeader line = ⊥
BreaksFirst reason.NoBook line = ⊥
BreaksFirst reason.NotUtf8 line = ¬ IsUtf8 line
BreaksFirst reason.UnknownVerb line = IsUtf8 line × NamesNoVerb line
BreaksFirst reason.BadWords line = IsUtf8 line × LacksWords line
BreaksFirst reason.BadNumber line = IsUtf8 line × LacksNumber line
BreaksFirst reason.BadJson line = IsUtf8 line × CastsNoJson line
BreaksFirst reason.TooLarge line = IsUtf8 line × CastsTooMuch line
