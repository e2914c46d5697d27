-- The shape of a channel book: the table of its members, walked in order.
use Rattle.std.specs.Prelude.{ℕ, ◌==◌, ◌&&◌, not, nat_le, Bool, false, List, [], ◌∷◌, length, codes, Option, Some, None, is_some, option_and_then}
use Rattle.std.specs.Prelude.{bytes_eq, Result, Ok, Err, if◌then◌else◌}
use Rattle.std.specs.List.{list_any}
use Rattle.serde_json.specs.Data.{Data, Items, no_items, item, Members, no_members, member}
use Rattle.serde_json.specs.Find.{get, as_str, as_bool, as_object, as_array}
use Rattle.cable_base.specs.declared.limits.TheConstants.{MOST_USER}
use Rattle.channel_book.specs.declared.templates.Template.{Template}
use Rattle.channel_book.specs.declared.declarations.CastRule.{CastRule}
use Rattle.channel_book.specs.declared.declarations.Action.{Action}
use Rattle.channel_book.specs.declared.declarations.Rules.{Rules}
use Rattle.channel_book.specs.declared.declarations.Channel.{Channel}
use Rattle.channel_book.specs.Steps.{◌>>=◌}
use Rattle.channel_book.specs.Json.{text_at, json_text}
use Rattle.channel_book.specs.Names.{first_repeat}
use Rattle.channel_book.specs.Paths.{here, within, each, list_of}
use Rattle.channel_book.specs.Templates.{opens, closes, template_of}

-- each token with its user, in the order of the tokens' bytes
abbrev pub Users : Type 0
Users = List (List ℕ × List ℕ)

-- what a book declares
pub record Declared : Type 0 where
  pub users : Users
  pub channels : List Channel

-- ---- the book's tokens

-- a user is a string of at most `MOST_USER` bytes
abbrev pub user_in : List ℕ → Data → Result (List ℕ × List ℕ) (List ℕ)
user_in token d = here (as_str d) >>= λ user. (if nat_le (length user) MOST_USER then Ok (token, user) else Err [])

abbrev pub users_in : Members → Result Users (List ℕ)
users_in no_members = Ok []
users_in (member token d ms) = user_in token d >>= λ user. (users_in ms >>= λ users. Ok (user ∷ users))

-- an object from token to user, which may be missing
unfoldable pub tokens_in : Option Data → Result Users (List ℕ)
tokens_in None = Ok []
tokens_in (Some d) = here (as_object d) >>= users_in

-- ---- what channels and actions are made of

-- a template is a string
unfoldable pub template_in : List (List ℕ) → Data → Result Template (List ℕ)
template_in names d = here (option_and_then (template_of names) (as_str d))

-- a string that holds JSON
unfoldable pub json_in : Data → Result (List ℕ) (List ℕ)
json_in d = here (option_and_then json_text (as_str d))

-- an object with the template of a stream and a payload
unfoldable pub cast_in : List (List ℕ) → Data → Result CastRule (List ℕ)
cast_in names d = do
  to ← here (option_and_then (template_of names) (text_at (codes "to") d))
  payload ← here (option_and_then json_text (text_at (codes "payload") d))
  Ok (record { to = to; payload = payload })

-- a string that isn't empty
unfoldable pub name_in : Option Data → Result (List ℕ) (List ℕ)
name_in o = here (option_and_then as_str o) >>= λ name. (if not (length name == 0) then Ok name else Err [])

-- `true` or `false`, and `false` where it is missing
unfoldable pub flag_in : Option Data → Result Bool (List ℕ)
flag_in None = Ok false
flag_in (Some d) = here (as_bool d)

-- a name that a channel may require: not empty, not `user`, without braces
abbrev pub is_requirable : List ℕ → Bool
is_requirable name = not (length name == 0) && not (bytes_eq name (codes "user")) && not (list_any opens name) && not (list_any closes name)

abbrev pub required_in : Data → Result (List ℕ) (List ℕ)
required_in d = here (as_str d) >>= λ name. (if is_requirable name then Ok name else Err [])

abbrev pub names_in : Items → Result (List (List ℕ)) (List ℕ)
names_in no_items = Ok []
names_in (item d ds) = required_in d >>= λ name. (names_in ds >>= λ names. Ok (name ∷ names))

-- no name stands twice
abbrev pub distinct_names : List (List ℕ) → Result (List (List ℕ)) (List ℕ)
distinct_names names = if is_some (first_repeat (λ name. name) [] names) then Err [] else Ok names

-- the names that a channel requires, which are all different. A fault in one is a fault of the whole list.
unfoldable pub requires_in : Option Data → Result (List (List ℕ)) (List ℕ)
requires_in None = Ok []
requires_in (Some d) = here (as_array d) >>= λ items. (names_in items >>= distinct_names)

-- ---- the table

unfoldable pub action_in : List (List ℕ) → Data → Result Action (List ℕ)
action_in names d = do
  members ← here (as_object d)
  name ← within (codes "name") (name_in (get (codes "name") d))
  casts ← within (codes "casts") (list_of (template_in names) (get (codes "casts") d))
  echo ← within (codes "echo") (flag_in (get (codes "echo") d))
  streams ← within (codes "streams") (list_of (template_in names) (get (codes "streams") d))
  stops ← within (codes "stops") (list_of (template_in names) (get (codes "stops") d))
  Ok (record { name = name; casts = casts; echo = echo; streams = streams; stops = stops })

unfoldable pub rules_in : List (List ℕ) → Data → Result Rules (List ℕ)
rules_in names d = do
  streams ← within (codes "streams") (list_of (template_in names) (get (codes "streams") d))
  says ← within (codes "says") (list_of json_in (get (codes "says") d))
  enter ← within (codes "enter") (list_of (cast_in names) (get (codes "enter") d))
  leave ← within (codes "leave") (list_of (cast_in names) (get (codes "leave") d))
  actions ← within (codes "actions") (list_of (action_in names) (get (codes "actions") d))
  Ok (record { streams = streams; says = says; enter = enter; leave = leave; actions = actions })

unfoldable pub channel_in : Data → Result Channel (List ℕ)
channel_in d = do
  members ← here (as_object d)
  name ← within (codes "name") (name_in (get (codes "name") d))
  required ← within (codes "requires") (requires_in (get (codes "requires") d))
  rules ← rules_in required d
  Ok (record { name = name; required = required; rules = rules })

unfoldable pub channels_in : Option Data → Result (List Channel) (List ℕ)
channels_in o = do
  d ← here o
  items ← here (as_array d)
  each channel_in 0 items

-- what a JSON value declares, or the path of the first place that breaks the format
abbrev pub shape_in : Data → Result Declared (List ℕ)
shape_in d = do
  members ← here (as_object d)
  users ← within (codes "tokens") (tokens_in (get (codes "tokens") d))
  channels ← within (codes "channels") (channels_in (get (codes "channels") d))
  Ok (record { users = users; channels = channels })
