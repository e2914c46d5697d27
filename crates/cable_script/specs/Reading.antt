-- The verb that a line stands for, or the first rule that it breaks. That the lines read are exactly those of the grammar is the law `lines_are_read`.
use Rattle.std.specs.Prelude.{◌≡◌, ⊤, ℕ, ◌&&◌, nat_le, List, length, Option, Some, None, Result, Ok, Err, if◌then◌else◌}
use Rattle.std.specs.List.{find}
use Rattle.std.specs.Str.{is_utf8, bytes_eq}
use Rattle.serde_json.specs.Read.{read}
use Rattle.cable_base.specs.declared.numbers.ConnNo.{ConnNo}
use Rattle.cable_base.specs.declared.numbers.NodeNo.{NodeNo}
use Rattle.cable_base.specs.declared.numbers.Millis.{Millis}
use Rattle.cable_base.specs.Squeeze.{squeezed}
use Rattle.cable_model.specs.Limits.{most_name, most_payload, last_node, last_conn, last_moment, most_batch, most_puts}
use Rattle.cable_model.specs.declared.events.Event.TheVariants as event
use Rattle.cable_model.specs.declared.verbs.Verb.{Verb}
use Rattle.cable_model.specs.declared.verbs.Verb.TheVariants as verb
use Rattle.cable_script.specs.declared.faults.LineFault.{LineFault}
use Rattle.cable_script.specs.declared.faults.LineFault.TheVariants as fault
use Rattle.cable_model.specs.declared.verb_names.VerbName.{VerbName}
use Rattle.cable_model.specs.declared.verb_names.VerbName.TheVariants as name
use Rattle.cable_model.specs.VerbTable.{spelling, all_verbs}
use Rattle.cable_script.specs.Words.{first_word, after_word, next_word, one_word, two_words, three_words, two_words_and_rest, number_in}

-- what is there, or else this fault
abbrev pub or_fault : {A : Type 0} → LineFault → Option A → Result A LineFault
or_fault f None = Err f
or_fault f (Some x) = Ok x

infixl 10 ◌>>=◌
abbrev pub ◌>>=◌ : {A B : Type 0} → Result A LineFault → (A → Result B LineFault) → Result B LineFault
(Ok x) >>= f = f x
(Err f) >>= g = Err f

-- ---- numbers, each with its range

unfoldable pub node_in : List ℕ → Result NodeNo LineFault
node_in word = do
  n ← or_fault fault.BadNumber (number_in 1 last_node word)
  Ok (record { 0 = n })

unfoldable pub conn_in : List ℕ → Result ConnNo LineFault
conn_in word = do
  n ← or_fault fault.BadNumber (number_in 1 last_conn word)
  Ok (record { 0 = n })

-- a moment or a span
unfoldable pub millis_in : List ℕ → Result Millis LineFault
millis_in word = do
  n ← or_fault fault.BadNumber (number_in 0 last_moment word)
  Ok (record { 0 = n })

abbrev pub batch_in : List ℕ → Result ℕ LineFault
batch_in word = or_fault fault.BadNumber (number_in 1 most_batch word)

abbrev pub puts_in : List ℕ → Result ℕ LineFault
puts_in word = or_fault fault.BadNumber (number_in 0 most_puts word)

-- ---- what stands behind each verb

-- a node's number alone
unfoldable pub node_alone : List ℕ → Result NodeNo LineFault
node_alone text = do
  word ← or_fault fault.BadWords (one_word text)
  node_in word

-- a connection's number alone
unfoldable pub conn_alone : List ℕ → Result ConnNo LineFault
conn_alone text = do
  word ← or_fault fault.BadWords (one_word text)
  conn_in word

unfoldable pub boot_in : List ℕ → Result Verb LineFault
boot_in text = do
  node ← node_alone text
  Ok (verb.One (event.Boot node))

unfoldable pub open_in : List ℕ → Result Verb LineFault
open_in text = do
  words ← or_fault fault.BadWords (three_words text)
  node ← node_in words.0
  conn ← conn_in words.1
  Ok (verb.One (event.Open node conn words.2))

-- the text is all that follows the blank behind the connection's number, and may be empty
unfoldable pub text_in : List ℕ → Result Verb LineFault
text_in text = do
  words ← or_fault fault.BadWords (next_word text)
  conn ← conn_in words.0
  Ok (verb.One (event.In conn words.1))

unfoldable pub drop_in : List ℕ → Result Verb LineFault
drop_in text = do
  conn ← conn_alone text
  Ok (verb.One (event.Drop conn))

unfoldable pub stop_in : List ℕ → Result Verb LineFault
stop_in text = do
  node ← node_alone text
  Ok (verb.One (event.Stop node))

unfoldable pub take_in : List ℕ → Result Verb LineFault
take_in text = do
  conn ← conn_alone text
  Ok (verb.One (event.Take conn))

unfoldable pub put_in : List ℕ → Result Verb LineFault
put_in text = do
  words ← or_fault fault.BadWords (two_words text)
  conn ← conn_in words.0
  at ← millis_in words.1
  Ok (verb.One (event.Put conn at))

unfoldable pub finish_in : List ℕ → Result Verb LineFault
finish_in text = do
  conn ← conn_alone text
  Ok (verb.One (event.Finish conn))

unfoldable pub work_in : List ℕ → Result Verb LineFault
work_in text = do
  words ← or_fault fault.BadWords (three_words text)
  conn ← conn_in words.0
  at ← millis_in words.1
  puts ← puts_in words.2
  Ok (verb.Work conn at puts)

-- the payload is the JSON without its white space
unfoldable pub payload_in : List ℕ → Result (List ℕ) LineFault
payload_in json = do
  value ← or_fault fault.BadJson (read json)
  Ok (squeezed json)

-- name and payload are within the limits
unfoldable pub cast_of : Millis → List ℕ → List ℕ → Result Verb LineFault
cast_of at channel payload =
    if nat_le (length channel) most_name && nat_le (length payload) most_payload then Ok (verb.One (event.Cast at channel payload)) else Err fault.TooLarge

-- the JSON is all that follows the blank behind the name
unfoldable pub cast_in : List ℕ → Result Verb LineFault
cast_in text = do
  words ← or_fault fault.BadWords (two_words_and_rest text)
  at ← millis_in words.0
  payload ← payload_in words.2
  cast_of at words.1 payload

unfoldable pub trim_in : List ℕ → Result Verb LineFault
trim_in text = do
  words ← or_fault fault.BadWords (three_words text)
  now ← millis_in words.0
  retention ← millis_in words.1
  batch ← batch_in words.2
  Ok (verb.One (event.Trim now retention batch))

unfoldable pub ask_in : List ℕ → Result Verb LineFault
ask_in text = do
  node ← node_alone text
  Ok (verb.One (event.Ask node))

unfoldable pub read_in : List ℕ → Result Verb LineFault
read_in text = do
  node ← node_alone text
  Ok (verb.One (event.Read node))

unfoldable pub deliver_in : List ℕ → Result Verb LineFault
deliver_in text = do
  node ← node_alone text
  Ok (verb.One (event.Deliver node))

unfoldable pub poll_in : List ℕ → Result Verb LineFault
poll_in text = do
  node ← node_alone text
  Ok (verb.Poll node)

unfoldable pub beat_in : List ℕ → Result Verb LineFault
beat_in text = do
  words ← or_fault fault.BadWords (two_words text)
  node ← node_in words.0
  now ← millis_in words.1
  Ok (verb.One (event.Beat node now))

-- ---- the table of verbs

-- the verb that is written so
abbrev pub verb_named : List ℕ → Option VerbName
verb_named word = find (λ v. bytes_eq word (spelling v)) all_verbs

-- the verb with this text behind its blank
abbrev pub verb_with : VerbName → List ℕ → Result Verb LineFault
verb_with name.Boot text = boot_in text
verb_with name.Open text = open_in text
verb_with name.In text = text_in text
verb_with name.Drop text = drop_in text
verb_with name.Stop text = stop_in text
verb_with name.Take text = take_in text
verb_with name.Put text = put_in text
verb_with name.Finish text = finish_in text
verb_with name.Work text = work_in text
verb_with name.Cast text = cast_in text
verb_with name.Trim text = trim_in text
verb_with name.Ask text = ask_in text
verb_with name.Read text = read_in text
verb_with name.Deliver text = deliver_in text
verb_with name.Poll text = poll_in text
verb_with name.Beat text = beat_in text
verb_with name.Fault text = Err fault.BadWords

-- the verb without a blank behind it: only a fault has no further word
abbrev pub verb_alone : VerbName → Result Verb LineFault
verb_alone name.Fault = Ok (verb.One event.Fault)
verb_alone _ = Err fault.BadWords

abbrev pub verb_behind : VerbName → Option (List ℕ) → Result Verb LineFault
verb_behind v None = verb_alone v
verb_behind v (Some text) = verb_with v text

-- the verb of a line of text
abbrev pub verb_in : List ℕ → Result Verb LineFault
verb_in line = do
  v ← or_fault fault.UnknownVerb (verb_named (first_word line))
  verb_behind v (after_word line)

-- a line's text
abbrev pub text_of : List ℕ → Option (List ℕ)
text_of line = if is_utf8 line then Some line else None

-- the verb of a line, or the first rule that it breaks
abbrev pub verb_of : List ℕ → Result Verb LineFault
verb_of line = do
  text ← or_fault fault.NotUtf8 (text_of line)
  verb_in text

-- ---- what a call answers

-- the fault is the one that is expected, unless memory ran out
abbrev pub Faults : {A : Type 0} → LineFault → Result A LineFault → Type 0
Faults fault.NotUtf8 expected = expected ≡ Err fault.NotUtf8
Faults fault.UnknownVerb expected = expected ≡ Err fault.UnknownVerb
Faults fault.BadWords expected = expected ≡ Err fault.BadWords
Faults fault.BadNumber expected = expected ≡ Err fault.BadNumber
Faults fault.BadJson expected = expected ≡ Err fault.BadJson
Faults fault.TooLarge expected = expected ≡ Err fault.TooLarge
Faults fault.OutOfMemory expected = ⊤

-- a call answered what is expected, unless memory ran out
abbrev pub Gives : {A : Type 0} → Result A LineFault → Result A LineFault → Type 0
Gives (Ok x) expected = expected ≡ Ok x
Gives (Err f) expected = Faults f expected
