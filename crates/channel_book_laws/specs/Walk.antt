-- The places of a book in the order in which they are looked at, and what the table says of each.
use Rattle.std.specs.Prelude.{◌≡◌, ◌⊎◌, ℕ, ◌+◌, Bool, List, [], ◌∷◌, ◌++◌, map, codes, decimal, Option, Some, None, unwrap_or, option_and_then}
use Rattle.serde_json.specs.Data.{Data, array, Items, no_items, item}
use Rattle.serde_json.specs.Find.{get, as_str, as_array}
use Rattle.channel_book.specs.declared.templates.Template.{Template}
use Rattle.channel_book.specs.declared.declarations.CastRule.{CastRule}
use Rattle.channel_book.specs.Json.{text_at}
use Rattle.channel_book.specs.Shapes.{Users}
use Rattle.channel_book_laws.specs.Lists.{IsFirst}
use Rattle.channel_book_laws.specs.Books.{IsObject, IsTokens, IsName, IsFlag, IsTemplateString, IsJsonString, IsCastRule, IsRequired}

-- what the table says of a place: an object; the book's tokens; the list of channels; a name; what a channel requires; a list that may be missing; a template
-- over these names; a string that holds JSON; a broadcast with a template over these names; a truth value
pub data Row : Type 0 where
  an_object : Row
  the_tokens : Row
  the_channels : Row
  a_name : Row
  required_names : Row
  a_list : Row
  a_template : List (List ℕ) → Row
  json_string : Row
  a_cast : List (List ℕ) → Row
  a_flag : Row

-- a place of a book: its path, what the table says of it, and what stands there, if anything does
pub record Place : Type 0 where
  pub path : List ℕ
  pub row : Row
  pub value : Option Data

-- the value is what the row says
abbrev pub Meets : Row → Option Data → Type 0
Meets an_object value = (d : Data) × (value ≡ Some d) × IsObject d
Meets the_tokens value = (users : Users) × IsTokens value users
Meets the_channels value = (items : Items) × (value ≡ Some (array items))
Meets a_name value = (name : List ℕ) × IsName value name
Meets required_names value = (names : List (List ℕ)) × IsRequired value names
Meets a_list value = (value ≡ None) ⊎ ((items : Items) × (value ≡ Some (array items)))
Meets (a_template names) value = (d : Data) × (value ≡ Some d) × ((template : Template) × IsTemplateString names d template)
Meets json_string value = (d : Data) × (value ≡ Some d) × ((json : List ℕ) × IsJsonString d json)
Meets (a_cast names) value = (d : Data) × (value ≡ Some d) × ((rule : CastRule) × IsCastRule names d rule)
Meets a_flag value = (flag : Bool) × IsFlag value flag

abbrev pub IsMet : Place → Type 0
IsMet place = Meets place.row place.value

-- ---- the walk

-- a value as a place of its own
abbrev pub at : Row → Option Data → List Place
at row value = record { path = []; row = row; value = value } ∷ []

-- these places behind a step of the path
abbrev pub under : List ℕ → List Place → List Place
under step places = map (λ (place : Place). record { path = 47 ∷ step ++ place.path; row = place.row; value = place.value }) places

-- these places, one list behind the other
abbrev pub in_turn : List (List Place) → List Place
in_turn [] = []
in_turn (places ∷ more) = places ++ in_turn more

-- a member as one place
abbrev pub member_at : List ℕ → Row → Data → List Place
member_at key row d = under key (at row (get key d))

-- the items of an array. Anything else has none.
abbrev pub items_of : Option Data → Items
items_of None = no_items
items_of (Some d) = unwrap_or (as_array d) no_items

-- the items of a list from the i-th on, each with its places
abbrev pub item_places : (Data → List Place) → ℕ → Items → List Place
item_places places_of i no_items = []
item_places places_of i (item d ds) = under (decimal i) (places_of d) ++ item_places places_of (i + 1) ds

-- a member that is a list: the list itself, then its items
abbrev pub list_at : List ℕ → (Data → List Place) → Data → List Place
list_at key places_of d = under key (at a_list (get key d) ++ item_places places_of 0 (items_of (get key d)))

abbrev pub template_places : List (List ℕ) → Data → List Place
template_places names d = at (a_template names) (Some d)

abbrev pub json_places : Data → List Place
json_places d = at json_string (Some d)

abbrev pub cast_places : List (List ℕ) → Data → List Place
cast_places names d = at (a_cast names) (Some d)

-- an action, then its members in the order of the table
abbrev pub action_places : List (List ℕ) → Data → List Place
action_places names d =
    in_turn
    (at an_object (Some d)
    ∷ member_at (codes "name") a_name d
    ∷ list_at (codes "casts") (template_places names) d
    ∷ member_at (codes "echo") a_flag d
    ∷ list_at (codes "streams") (template_places names) d
    ∷ list_at (codes "stops") (template_places names) d
    ∷ [])

-- the name that is there, before these
abbrev pub onto : Option (List ℕ) → List (List ℕ) → List (List ℕ)
onto None names = names
onto (Some name) names = name ∷ names

-- the strings among the items
abbrev pub strings : Items → List (List ℕ)
strings no_items = []
strings (item d ds) = onto (as_str d) (strings ds)

-- the names that a channel's templates may take up: the strings of its `requires`
abbrev pub names_at : Option Data → List (List ℕ)
names_at value = strings (items_of value)

abbrev pub rules_places : List (List ℕ) → Data → List Place
rules_places names d =
    in_turn
    (list_at (codes "streams") (template_places names) d
    ∷ list_at (codes "says") json_places d
    ∷ list_at (codes "enter") (cast_places names) d
    ∷ list_at (codes "leave") (cast_places names) d
    ∷ list_at (codes "actions") (action_places names) d
    ∷ [])

-- a channel, then its members in the order of the table
abbrev pub channel_places : Data → List Place
channel_places d =
    in_turn
    (at an_object (Some d)
    ∷ member_at (codes "name") a_name d
    ∷ member_at (codes "requires") required_names d
    ∷ rules_places (names_at (get (codes "requires") d)) d
    ∷ [])

-- the book, its tokens, its list of channels, and the channels in order
abbrev pub book_places : Data → List Place
book_places d =
    in_turn
    (at an_object (Some d)
    ∷ member_at (codes "tokens") the_tokens d
    ∷ under (codes "channels") (at the_channels (get (codes "channels") d) ++ item_places channel_places 0 (items_of (get (codes "channels") d)))
    ∷ [])

-- ---- what the walk meets

-- the template that stands at a place, where one does
abbrev pub template_at : Row → Option Data → Option (List ℕ)
template_at (a_template names) value = option_and_then as_str value
template_at (a_cast names) value = option_and_then (text_at (codes "to")) value
template_at row value = None

-- the templates that stand at these places, in order
abbrev pub templates_at : List Place → List (List ℕ)
templates_at [] = []
templates_at (place ∷ places) = onto (template_at place.row place.value) (templates_at places)

-- path leads to the first of these places at which the value isn't what the table says
abbrev pub IsFirstBreak : List Place → List ℕ → Type 0
IsFirstBreak places path = (place : Place) × IsFirst IsMet (λ p. ¬ IsMet p) places place × (place.path ≡ path)
