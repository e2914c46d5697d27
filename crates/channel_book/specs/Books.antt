-- The book of a text, or the fault for which it is none.
use Rattle.std.specs.Prelude.{◌≡◌, ⊤, ℕ, List, [], ◌∷◌, ◌++◌, map, flat_map, Option, Some, None, Result, Ok, Err, if◌then◌else◌}
use Rattle.std.specs.List.{list_any}
use Rattle.std.specs.Option.{option_or}
use Rattle.serde_json.specs.Read.{read}
use Rattle.channel_book.specs.declared.templates.Template.{Template}
use Rattle.channel_book.specs.declared.declarations.CastRule.{CastRule}
use Rattle.channel_book.specs.declared.declarations.Action.{Action}
use Rattle.channel_book.specs.declared.declarations.Channel.{Channel}
use Rattle.channel_book.specs.declared.faults.BookFault.{BookFault}
use Rattle.channel_book.specs.declared.faults.BookFault.TheVariants as fault
use Rattle.channel_book.specs.Steps.{◌>>=◌, or_fault}
use Rattle.channel_book.specs.Names.{is_named, first_repeat}
use Rattle.channel_book.specs.Templates.{is_reserved}
use Rattle.channel_book.specs.Shapes.{Declared, shape_in}

-- the fault is the one that is expected, unless memory ran out
abbrev pub Faults : {X : Type 0} → BookFault → Result X BookFault → Type 0
Faults fault.BadJson expected = expected ≡ Err fault.BadJson
Faults (fault.BadShape path) expected = expected ≡ Err (fault.BadShape path)
Faults (fault.ReservedStream template) expected = expected ≡ Err (fault.ReservedStream template)
Faults (fault.RepeatedName name) expected = expected ≡ Err (fault.RepeatedName name)
Faults fault.OutOfMemory expected = ⊤

-- reading gave what is expected, unless memory ran out
abbrev pub Reads : {X : Type 0} → Result X BookFault → Result X BookFault → Type 0
Reads (Ok x) expected = expected ≡ Ok x
Reads (Err f) expected = Faults f expected

-- ---- reserved streams

-- the first of these templates that begins with the server's own name space
abbrev pub first_reserved : List Template → Option (List ℕ)
first_reserved [] = None
first_reserved (template ∷ templates) = if is_reserved template.text then Some template.text else first_reserved templates

abbrev pub targets : List CastRule → List Template
targets rules = map (λ (rule : CastRule). rule.to) rules

-- the templates of an action, in the order of the walk
abbrev pub action_templates : Action → List Template
action_templates action = action.casts ++ action.streams ++ action.stops

-- the templates of a channel, in the order of the walk
abbrev pub channel_templates : Channel → List Template
channel_templates channel = channel.rules.streams ++ targets channel.rules.enter ++ targets channel.rules.leave ++ flat_map action_templates channel.rules.actions

abbrev pub reserved_in : List Channel → Option (List ℕ)
reserved_in channels = first_reserved (flat_map channel_templates channels)

-- ---- repeated names

-- the first name that stood before: a channel's among the channels before it, or an action's in its channel
abbrev pub repeated_from : List Channel → List Channel → Option (List ℕ)
repeated_from before [] = None
repeated_from before (channel ∷ channels) =
    if list_any (is_named (λ (c : Channel). c.name) channel.name) before then Some channel.name
    else option_or (first_repeat (λ (a : Action). a.name) [] channel.rules.actions) (repeated_from (before ++ channel ∷ []) channels)

abbrev pub repeated_in : List Channel → Option (List ℕ)
repeated_in channels = repeated_from [] channels

-- ---- the book

-- the shape of a book, or the path of the first place that breaks it
abbrev pub shape_or_fault : Result Declared (List ℕ) → Result Declared BookFault
shape_or_fault (Ok book) = Ok book
shape_or_fault (Err path) = Err (fault.BadShape path)

-- the book, unless there is a text for which it has this fault
abbrev pub book_unless : (List ℕ → BookFault) → Option (List ℕ) → Declared → Result Declared BookFault
book_unless fault_of None book = Ok book
book_unless fault_of (Some text) book = Err (fault_of text)

abbrev pub unless_reserved : Declared → Result Declared BookFault
unless_reserved book = book_unless (λ text. fault.ReservedStream text) (reserved_in book.channels) book

abbrev pub unless_repeated : Declared → Result Declared BookFault
unless_repeated book = book_unless (λ text. fault.RepeatedName text) (repeated_in book.channels) book

-- the book of a text, or the first fault
abbrev pub book_of : List ℕ → Result Declared BookFault
book_of text = do
  d ← or_fault fault.BadJson (read text)
  book ← shape_or_fault (shape_in d)
  unreserved ← unless_reserved book
  unless_repeated unreserved
