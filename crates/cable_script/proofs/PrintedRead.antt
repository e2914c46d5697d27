-- The line of an event is UTF-8 and spells the event, so it is read as it.
use Rattle.std.proofs.Common.{◌≡◌, ℕ, ◌^◌, ◌<◌, List, [], ◌∷◌, ◌++◌, Ok, refl, sym, arith, rules}
use Rattle.std.specs.Prelude.{decimal, IsUtf8}
use Rattle.std.proofs.lemmas.Fmt.{IsAscii-decimal}
use Rattle.std.proofs.lemmas.Str.{IsUtf8-append, IsUtf8-from_ascii}
use Rattle.cable_base.specs.declared.numbers.ConnNo.{ConnNo}
use Rattle.cable_base.specs.declared.numbers.NodeNo.{NodeNo}
use Rattle.cable_base.specs.declared.numbers.Millis.{Millis}
use Rattle.cable_model.specs.declared.events.Event.{Event}
use Rattle.cable_model.specs.declared.events.Event.TheVariants.{Boot, Open, In, Drop, Stop, Take, Put, Finish, Cast, Trim, Ask, Read, Deliver, Beat, Fault}
use Rattle.cable_model.specs.declared.verb_names.VerbName.{VerbName}
use Rattle.cable_model.specs.declared.verb_names.VerbName.TheVariants as name
use Rattle.cable_model.specs.declared.verbs.Verb.TheVariants as verb
use Rattle.cable_model.specs.Limits.{CanBeRow, last_conn, last_moment, last_node, most_batch}
use Rattle.cable_model.specs.Printed.{event_line, CanBePrinted, IsLineWord}
use Rattle.cable_model.specs.Script.{SpellsEvent, IsCast, IsConn, IsFrom, IsMoment, IsNode}
use Rattle.cable_model.specs.VerbTable.{spelling}
use Rattle.cable_script.specs.Reading.{verb_of}
use Rattle.cable_script.proofs.GrammarRead.{line_of}

-- ---- what is built of UTF-8 with blanks is UTF-8

-- a word, a blank, and what is behind it
joined : (word rest : List ℕ) → IsUtf8 word → IsUtf8 rest → IsUtf8 (word ++ 32 ∷ rest)
joined word rest u v = IsUtf8-append word (32 ∷ rest) u (IsUtf8-append (32 ∷ []) rest (IsUtf8-from_ascii (32 ∷ []) (search rules)) v)

-- the word of a verb
spelling_utf8 : (k : VerbName) → IsUtf8 (spelling k)
spelling_utf8 name.Boot = IsUtf8-from_ascii _ (search rules)
spelling_utf8 name.Open = IsUtf8-from_ascii _ (search rules)
spelling_utf8 name.In = IsUtf8-from_ascii _ (search rules)
spelling_utf8 name.Drop = IsUtf8-from_ascii _ (search rules)
spelling_utf8 name.Stop = IsUtf8-from_ascii _ (search rules)
spelling_utf8 name.Take = IsUtf8-from_ascii _ (search rules)
spelling_utf8 name.Put = IsUtf8-from_ascii _ (search rules)
spelling_utf8 name.Finish = IsUtf8-from_ascii _ (search rules)
spelling_utf8 name.Work = IsUtf8-from_ascii _ (search rules)
spelling_utf8 name.Cast = IsUtf8-from_ascii _ (search rules)
spelling_utf8 name.Trim = IsUtf8-from_ascii _ (search rules)
spelling_utf8 name.Ask = IsUtf8-from_ascii _ (search rules)
spelling_utf8 name.Read = IsUtf8-from_ascii _ (search rules)
spelling_utf8 name.Deliver = IsUtf8-from_ascii _ (search rules)
spelling_utf8 name.Poll = IsUtf8-from_ascii _ (search rules)
spelling_utf8 name.Beat = IsUtf8-from_ascii _ (search rules)
spelling_utf8 name.Fault = IsUtf8-from_ascii _ (search rules)

-- a verb's word, and what is behind it
behind : (k : VerbName) (rest : List ℕ) → IsUtf8 rest → IsUtf8 (spelling k ++ 32 ∷ rest)
behind k rest u = joined (spelling k) rest (spelling_utf8 k) u

-- a number in a range of 64 bits
number_utf8 : (low high n : ℕ) → high < 2 ^ 64 → IsFrom low high n → IsUtf8 (decimal n)
number_utf8 low high n fits h = IsUtf8-from_ascii (decimal n) (IsAscii-decimal n (let most = h.1 in omega (arith, fits, most)))

node_utf8 : (node : NodeNo) → IsNode node → IsUtf8 (decimal node.0)
node_utf8 node h = number_utf8 1 last_node node.0 (omega arith) h

conn_utf8 : (conn : ConnNo) → IsConn conn → IsUtf8 (decimal conn.0)
conn_utf8 conn h = number_utf8 1 last_conn conn.0 (omega arith) h

moment_utf8 : (moment : Millis) → IsMoment moment → IsUtf8 (decimal moment.0)
moment_utf8 moment h = number_utf8 0 last_moment moment.0 (omega arith) h

-- ---- the line of an event

line_utf8 : (e : Event) → CanBePrinted e → IsUtf8 (event_line e)
line_utf8 (Boot node) h = behind name.Boot _ (node_utf8 node h)
line_utf8 (Open node conn token) h = behind name.Open _ (joined _ _ (node_utf8 node h.0) (joined _ _ (conn_utf8 conn h.1) h.2.rest.utf8))
line_utf8 (In conn text) h = behind name.In _ (joined _ _ (conn_utf8 conn h.0) h.1.utf8)
line_utf8 (Drop conn) h = behind name.Drop _ (conn_utf8 conn h)
line_utf8 (Stop node) h = behind name.Stop _ (node_utf8 node h)
line_utf8 (Take conn) h = behind name.Take _ (conn_utf8 conn h)
line_utf8 (Put conn moment) h = behind name.Put _ (joined _ _ (conn_utf8 conn h.0) (moment_utf8 moment h.1))
line_utf8 (Finish conn) h = behind name.Finish _ (conn_utf8 conn h)
line_utf8 (Cast moment channel payload) h = behind name.Cast _ (joined _ _ (moment_utf8 moment h.0) (joined _ _ h.1.rest.utf8 h.2.utf8))
line_utf8 (Trim now retention batch) h =
    behind name.Trim _ (joined _ _ (moment_utf8 now h.0)
    (joined _ _ (moment_utf8 retention h.1) (number_utf8 1 most_batch batch (omega arith) h.2)))
line_utf8 (Ask node) h = behind name.Ask _ (node_utf8 node h)
line_utf8 (Read node) h = behind name.Read _ (node_utf8 node h)
line_utf8 (Deliver node) h = behind name.Deliver _ (node_utf8 node h)
line_utf8 (Beat node now) h = behind name.Beat _ (joined _ _ (node_utf8 node h.0) (moment_utf8 now h.1))
line_utf8 Fault h = spelling_utf8 name.Fault

-- a payload that can be a row is its own JSON
cast_spelled : (channel payload : List ℕ) → IsLineWord channel → CanBeRow channel payload → IsCast channel payload payload
cast_spelled channel payload word row = record { name = word.is_word; reads = row.message.reads; squeezes = sym row.message.whole; short_name = row.channel_len; short_payload = row.payload_len }

line_spells : (e : Event) → CanBePrinted e → SpellsEvent e (event_line e)
line_spells (Boot node) h = (h, refl)
line_spells (Open node conn token) h = (h.0, h.1, h.2.is_word, refl)
line_spells (In conn text) h = (h.0, refl)
line_spells (Drop conn) h = (h, refl)
line_spells (Stop node) h = (h, refl)
line_spells (Take conn) h = (h, refl)
line_spells (Put conn moment) h = (h.0, h.1, refl)
line_spells (Finish conn) h = (h, refl)
line_spells (Cast moment channel payload) h = (payload, (h.0, cast_spelled channel payload h.1 h.3, refl))
line_spells (Trim now retention batch) h = (h.0, h.1, h.2, refl)
line_spells (Ask node) h = (h, refl)
line_spells (Read node) h = (h, refl)
line_spells (Deliver node) h = (h, refl)
line_spells (Beat node now) h = (h.0, h.1, refl)
line_spells Fault h = refl

-- what is printed of an event is read as it
pub printed_is_read : (e : Event) → CanBePrinted e → verb_of (event_line e) ≡ Ok (verb.One e)
printed_is_read e h = line_of (event_line e) (verb.One e) (line_utf8 e h) (line_spells e h)
