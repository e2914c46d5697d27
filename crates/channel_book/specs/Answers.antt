-- What a book answers.
use Rattle.std.specs.Prelude.{ℕ, Bool, true, false, not, List, [], ◌∷◌, map, codes, Option, Some, None, is_some, option_and_then, option_map, find}
use Rattle.std.specs.Prelude.{Result, Ok, if◌then◌else◌}
use Rattle.std.specs.List.{list_all}
use Rattle.std.specs.Option.{option_or}
use Rattle.serde_json.specs.Data.{Data, null, boolean, number, string, array, object, no_items, item, no_members, member}
use Rattle.serde_json.specs.Read.{read}
use Rattle.serde_json.specs.Find.{get, as_str, as_object}
use Rattle.cable_base.specs.Squeeze.{is_space, squeezed}
use Rattle.channel_book.specs.declared.answers.Answer.{Answer}
use Rattle.channel_book.specs.declared.answers.Cast.{Cast}
use Rattle.channel_book.specs.declared.answers.CallFault.{CallFault}
use Rattle.channel_book.specs.declared.answers.CallFault.TheVariants as fault
use Rattle.channel_book.specs.declared.templates.Template.{Template}
use Rattle.channel_book.specs.declared.declarations.CastRule.{CastRule}
use Rattle.channel_book.specs.declared.declarations.Action.{Action}
use Rattle.channel_book.specs.declared.declarations.Channel.{Channel}
use Rattle.channel_book.specs.Steps.{◌>>=◌, or_fault}
use Rattle.channel_book.specs.Json.{text_at}
use Rattle.channel_book.specs.Names.{is_named}
use Rattle.channel_book.specs.Parameters.{can_fill}
use Rattle.channel_book.specs.Templates.{filling}
use Rattle.channel_book.specs.Callbacks.{Callbacks}
use Rattle.channel_book.specs.Shapes.{Users, Declared}

-- ---- who and where

-- the user of a token
abbrev pub user_among : List ℕ → Users → Option (List ℕ)
user_among token users = option_map (λ u. u.1) (find (is_named (λ u. u.0) token) users)

abbrev pub identified_by : Declared → List ℕ → Option (List ℕ)
identified_by book token = user_among token book.users

-- a good identifier is a JSON object whose member `channel` is a string
abbrev pub is_good : Data → Bool
is_good d = is_some (text_at (codes "channel") d)

abbrev pub identifier_of : List ℕ → Option Data
identifier_of text = option_and_then (λ d. if is_good d then Some d else None) (read text)

-- the channel that an identifier names
abbrev pub channel_among : List Channel → Data → Option Channel
channel_among channels identifier = option_and_then (λ name. find (is_named (λ (c : Channel). c.name) name) channels) (text_at (codes "channel") identifier)

-- ---- answers

-- nothing is held, said or cast, and nothing is refused
abbrev pub nothing : Answer
nothing = record { rejected = false; streams = []; stops = []; says = []; casts = [] }

-- the subscription is refused
abbrev pub rejection : Answer
rejection = record { rejected = true; streams = []; stops = []; says = []; casts = [] }

abbrev pub names_of : List ℕ → Data → List Template → List (List ℕ)
names_of user identifier templates = map (filling user identifier) templates

abbrev pub cast_of : List ℕ → Data → CastRule → Cast
cast_of user identifier rule = record { channel = filling user identifier rule.to; payload = rule.payload }

abbrev pub casts_of : List ℕ → Data → List CastRule → List Cast
casts_of user identifier rules = map (cast_of user identifier) rules

-- the same payload goes to each of these streams
abbrev pub casts_to : List ℕ → Data → List ℕ → List Template → List Cast
casts_to user identifier payload templates = map (λ template. record { channel = filling user identifier template; payload = payload }) templates

-- the payload, where it is said back
abbrev pub echo_of : Bool → List ℕ → List (List ℕ)
echo_of echo payload = if echo then payload ∷ [] else []

abbrev pub beginning : List ℕ → Data → Channel → Answer
beginning user identifier channel =
    record {
      rejected = false;
      streams = names_of user identifier channel.rules.streams;
      stops = [];
      says = channel.rules.says;
      casts = casts_of user identifier channel.rules.enter;
    }

abbrev pub ending : List ℕ → Data → Channel → Answer
ending user identifier channel = record { rejected = false; streams = []; stops = []; says = []; casts = casts_of user identifier channel.rules.leave }

abbrev pub performance : List ℕ → Data → List ℕ → Action → Answer
performance user identifier payload action =
    record {
      rejected = false;
      streams = names_of user identifier action.streams;
      stops = names_of user identifier action.stops;
      says = echo_of action.echo payload;
      casts = casts_to user identifier payload action.casts;
    }

-- ---- actions

abbrev pub receive : List ℕ
receive = codes "receive"

-- a text without a character that isn't white space
abbrev pub is_blank : List ℕ → Bool
is_blank text = list_all is_space text

-- `null`, `false`, an empty list or an empty object
abbrev pub is_nothing : Data → Bool
is_nothing null = true
is_nothing (boolean b) = not b
is_nothing (number n) = false
is_nothing (string s) = false
is_nothing (array no_items) = true
is_nothing (array (item d ds)) = false
is_nothing (object no_members) = true
is_nothing (object (member k d ms)) = false

-- the action that a value asks for: a string with a character that isn't white space is its name, and where nothing is asked for it is `receive`
abbrev pub asked_by : Data → Option (List ℕ)
asked_by d = option_or (option_map (λ s. if is_blank s then receive else s) (as_str d)) (if is_nothing d then Some receive else None)

abbrev pub asked_at : Option Data → Option (List ℕ)
asked_at None = Some receive
asked_at (Some d) = asked_by d

-- the declared action that a payload asks for
abbrev pub action_among : List Action → Data → Option Action
action_among actions payload = option_and_then (λ name. find (is_named (λ (a : Action). a.name) name) actions) (asked_at (get (codes "action") payload))

abbrev pub object_of : List ℕ → Option Data
object_of text = option_and_then (λ d. if is_some (as_object d) then Some d else None) (read text)

-- ---- the callbacks

-- the answer to a subscribe: where a required parameter can't be filled in, the subscription is refused
abbrev pub subscription : List ℕ → Data → Channel → Answer
subscription user identifier channel = if can_fill channel.required identifier then beginning user identifier channel else rejection

abbrev pub termination : List ℕ → Data → Channel → Answer
termination user identifier channel = if can_fill channel.required identifier then ending user identifier channel else nothing

abbrev pub reaction : List ℕ → Data → Channel → List ℕ → Action → Answer
reaction user identifier channel payload action =
    if can_fill channel.required identifier then performance user identifier (squeezed payload) action else nothing

abbrev pub subscribed_among : List Channel → List ℕ → List ℕ → Result Answer CallFault
subscribed_among channels user text = do
  identifier ← or_fault fault.BadIdentifier (identifier_of text)
  channel ← or_fault fault.UnknownChannel (channel_among channels identifier)
  Ok (subscription user identifier channel)

abbrev pub unsubscribed_among : List Channel → List ℕ → List ℕ → Result Answer CallFault
unsubscribed_among channels user text = do
  identifier ← or_fault fault.BadIdentifier (identifier_of text)
  channel ← or_fault fault.UnknownChannel (channel_among channels identifier)
  Ok (termination user identifier channel)

abbrev pub performed_among : List Channel → List ℕ → List ℕ → List ℕ → Result Answer CallFault
performed_among channels user text payload = do
  identifier ← or_fault fault.BadIdentifier (identifier_of text)
  channel ← or_fault fault.UnknownChannel (channel_among channels identifier)
  asked ← or_fault fault.BadData (object_of payload)
  action ← or_fault fault.UnknownAction (action_among channel.rules.actions asked)
  Ok (reaction user identifier channel payload action)

abbrev pub subscribed_by : Declared → List ℕ → List ℕ → Result Answer CallFault
subscribed_by book user text = subscribed_among book.channels user text

abbrev pub unsubscribed_by : Declared → List ℕ → List ℕ → Result Answer CallFault
unsubscribed_by book user text = unsubscribed_among book.channels user text

abbrev pub performed_by : Declared → List ℕ → List ℕ → List ℕ → Result Answer CallFault
performed_by book user text payload = performed_among book.channels user text payload

-- the callbacks that a book stands for
abbrev pub callbacks_of : Declared → Callbacks
callbacks_of book =
    record { identify = identified_by book; subscribed = subscribed_by book; unsubscribed = unsubscribed_by book; perform = performed_by book }
