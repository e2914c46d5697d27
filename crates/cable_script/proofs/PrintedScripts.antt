-- What is printed of a script is a script again, of the same book and the same events.
use Rattle.std.proofs.Common.{◌≡◌, ℕ, zero, suc, ◌+◌, ◌≤◌, List, [], ◌∷◌, ◌++◌, length, map, Option, Some, None, Result, Ok, refl, sym, ap, subst, ◌∙◌, append_assoc, arith, rules}
use Rattle.std.specs.Prelude.{codes, decimal, replicate, IsAscii, IsSome}
use Rattle.std.specs.List.{AllByRecursion}
use Rattle.std.proofs.lemmas.Str.{IsUtf8-from_ascii}
use Rattle.serde_json.specs.Data.{Data}
use Rattle.serde_json.specs.Read.{read}
use Rattle.cable_base.specs.declared.numbers.ConnNo.{ConnNo}
use Rattle.cable_base.specs.declared.numbers.NodeNo.{NodeNo}
use Rattle.cable_base.specs.declared.numbers.Millis.{Millis}
use Rattle.cable_base.specs.Squeeze.{squeezed, IsSqueezedJson}
use Rattle.cable_base.proofs.Each.{All-append}
use Rattle.channel_book.specs.declared.faults.BookFault.{BookFault}
use Rattle.channel_book.specs.declared.faults.BookFault.TheVariants as fault
use Rattle.channel_book.specs.Books.{book_of, shape_or_fault, unless_reserved, unless_repeated}
use Rattle.channel_book.specs.Shapes.{Declared, shape_in}
use Rattle.channel_book.specs.Steps.{◌>>=◌, or_fault}
use Rattle.cable_model.specs.declared.events.Event.{Event}
use Rattle.cable_model.specs.declared.events.Event.TheVariants.{Boot, Open, In, Drop, Stop, Take, Put, Finish, Cast, Trim, Ask, Read, Deliver, Beat, Fault}
use Rattle.cable_model.specs.declared.verbs.Verb.{Verb}
use Rattle.cable_model.specs.declared.verbs.Verb.TheVariants.{One, Work, Poll}
use Rattle.cable_model.specs.Printed.{event_line, printed, printed_events}
use Rattle.cable_model.specs.Script.{Script, IsScript, IsLine, IsCast, IsConn, IsNode, IsMoment, HasNoFeed, AllSpell, Spells, SpellsEvent, expand, expand_all, bytes_of_lines, header, book_line, events_of}
use Rattle.cable_model.specs.Transcript.{ended}
use Rattle.cable_script.specs.Prints.{PrintsAs}
use Rattle.cable_script.proofs.ShorterLines.{Replaces, replaced_behind, replaced_line, squeezed_replaces, IsShort, short_joined, short_line, short_number}

-- what squeezing does to JSON
abbrev KeepsValue : Type 0
KeepsValue = (text : List ℕ) → IsSome (read text) → read (squeezed text) ≡ read text

abbrev LeavesNothing : Type 0
LeavesNothing = (text : List ℕ) → IsSome (read text) → IsSqueezedJson (squeezed text)

-- ---- the line of an event

-- a line that spells it
record Prints (e : Event) : Type 0 where
  is_line : IsLine (event_line e)
  spells : SpellsEvent e (event_line e)

-- where the line that spells it is its own
same_line : (e : Event) (line : List ℕ) → IsLine line → line ≡ event_line e → SpellsEvent e line → Prints e
same_line e line l is s = record { is_line = subst IsLine is l; spells = subst (SpellsEvent e) is s }

-- the payload of a cast stands in the place of its JSON
cast_line : LeavesNothing → (moment : Millis) (channel json payload : List ℕ) → IsMoment moment → IsCast channel json payload
    → IsLine (codes "cast" ++ 32 ∷ (decimal moment.0 ++ 32 ∷ (channel ++ 32 ∷ json))) → Prints (Cast moment channel payload)
cast_line leaves moment channel json payload m c l =
    let good = leaves json c.reads in
    let own : IsCast channel payload payload =
    record {
      name = c.name;
      reads = subst (λ (p : List ℕ). IsSome (read p)) (sym c.squeezes) good.reads;
      squeezes = subst (λ (p : List ℕ). p ≡ squeezed p) (sym c.squeezes) (sym good.whole);
      short_name = c.short_name;
      short_payload = c.short_payload;
    } in
    let replaces : Replaces payload json = subst (λ (p : List ℕ). Replaces p json) (sym c.squeezes) (squeezed_replaces json) in
    record {
      is_line = replaced_line _ _ (replaced_behind (codes "cast") _ _ (replaced_behind (decimal moment.0) _ _ (replaced_behind channel _ _ replaces))) l;
      spells = (payload, (m, own, refl));
    }

event_prints : LeavesNothing → (e : Event) (line : List ℕ) → IsLine line → SpellsEvent e line → Prints e
event_prints leaves (Boot node) line l s = same_line _ line l s.1 s
event_prints leaves (Open node conn token) line l s = same_line _ line l s.3 s
event_prints leaves (In conn text) line l s = same_line _ line l s.1 s
event_prints leaves (Drop conn) line l s = same_line _ line l s.1 s
event_prints leaves (Stop node) line l s = same_line _ line l s.1 s
event_prints leaves (Take conn) line l s = same_line _ line l s.1 s
event_prints leaves (Put conn moment) line l s = same_line _ line l s.2 s
event_prints leaves (Finish conn) line l s = same_line _ line l s.1 s
event_prints leaves (Cast moment channel payload) line l s = cast_line leaves moment channel s.0 payload s.1.0 s.1.1 (subst IsLine s.1.2 l)
event_prints leaves (Trim now retention batch) line l s = same_line _ line l s.3 s
event_prints leaves (Ask node) line l s = same_line _ line l s.1 s
event_prints leaves (Read node) line l s = same_line _ line l s.1 s
event_prints leaves (Deliver node) line l s = same_line _ line l s.1 s
event_prints leaves (Beat node now) line l s = same_line _ line l s.2 s
event_prints leaves Fault line l s = same_line _ line l s s

-- ---- the lines of the events that `work` and `poll` stand for

-- the word of a verb
short_word : (word : List ℕ) → IsAscii word → length word ≤ 7 → HasNoFeed word → IsShort 7 word
short_word word ascii short one = record { utf8 = IsUtf8-from_ascii word ascii; short = short; one = one }

-- the number of a connection or of a node, and a moment
conn_short : (conn : ConnNo) → IsConn conn → IsShort 16 (decimal conn.0)
conn_short conn h = let most = h.1 in short_number conn.0 (omega arith)

node_short : (node : NodeNo) → IsNode node → IsShort 16 (decimal node.0)
node_short node h = let most = h.1 in short_number node.0 (omega arith)

moment_short : (moment : Millis) → IsMoment moment → IsShort 16 (decimal moment.0)
moment_short moment h = let most = h.1 in short_number moment.0 (omega arith)

-- a word of a verb, and short text behind it
word_line : (word rest : List ℕ) (n : ℕ) → n ≤ 40 → IsShort 7 word → IsShort n rest → IsLine (word ++ 32 ∷ rest)
word_line word rest n le w r = short_line (7 + 1 + n) _ (omega arith) (short_joined 7 n word rest w r)

take_prints : (conn : ConnNo) → IsConn conn → Prints (Take conn)
take_prints conn h =
    record { is_line = word_line (codes "take") _ 16 (omega arith) (short_word (codes "take") (search rules) (omega arith) refl) (conn_short conn h); spells = (h, refl) }

put_prints : (conn : ConnNo) (moment : Millis) → IsConn conn → IsMoment moment → Prints (Put conn moment)
put_prints conn moment h m =
    record {
      is_line = word_line (codes "put") _ 33 (omega arith) (short_word (codes "put") (search rules) (omega arith) refl)
          (short_joined 16 16 _ _ (conn_short conn h) (moment_short moment m));
      spells = (h, m, refl);
    }

finish_prints : (conn : ConnNo) → IsConn conn → Prints (Finish conn)
finish_prints conn h =
    record { is_line = word_line (codes "finish") _ 16 (omega arith) (short_word (codes "finish") (search rules) (omega arith) refl) (conn_short conn h); spells = (h, refl) }

ask_prints : (node : NodeNo) → IsNode node → Prints (Ask node)
ask_prints node h =
    record { is_line = word_line (codes "ask") _ 16 (omega arith) (short_word (codes "ask") (search rules) (omega arith) refl) (node_short node h); spells = (h, refl) }

read_prints : (node : NodeNo) → IsNode node → Prints (Read node)
read_prints node h =
    record { is_line = word_line (codes "read") _ 16 (omega arith) (short_word (codes "read") (search rules) (omega arith) refl) (node_short node h); spells = (h, refl) }

deliver_prints : (node : NodeNo) → IsNode node → Prints (Deliver node)
deliver_prints node h =
    record { is_line = word_line (codes "deliver") _ 16 (omega arith) (short_word (codes "deliver") (search rules) (omega arith) refl) (node_short node h); spells = (h, refl) }

-- ---- all events of a script

all_same : (n : ℕ) (e : Event) → Prints e → AllByRecursion Prints (replicate n e)
all_same zero e h = tt
all_same (suc n) e h = (h, all_same n e h)

verb_prints : LeavesNothing → (v : Verb) (line : List ℕ) → IsLine line → Spells v line → AllByRecursion Prints (expand v)
verb_prints leaves (One e) line l s = (event_prints leaves e line l s, tt)
verb_prints leaves (Work conn moment puts) line l s =
    (take_prints conn s.0, All-append Prints (replicate puts (Put conn moment)) (Finish conn ∷ []) (all_same puts (Put conn moment) (put_prints conn moment s.0 s.1)) (finish_prints conn s.0, tt))
verb_prints leaves (Poll node) line l s = (ask_prints node s.0, (read_prints node s.0, (deliver_prints node s.0, tt)))

verbs_print : LeavesNothing → (vs : List Verb) (lines : List (List ℕ)) → AllSpell vs lines → AllByRecursion Prints (expand_all vs)
verbs_print leaves [] [] h = tt
verbs_print leaves [] (line ∷ lines) h = absurd h
verbs_print leaves (v ∷ vs) [] h = absurd h
verbs_print leaves (v ∷ vs) (line ∷ lines) h = All-append Prints (expand v) (expand_all vs) (verb_prints leaves v line h.0 h.1) (verbs_print leaves vs lines h.2)

-- ---- the lines of a list of events

abbrev verbs_of : List Event → List Verb
verbs_of events = map (λ e. One e) events

abbrev lines_of : List Event → List (List ℕ)
lines_of events = map event_line events

all_spell : (events : List Event) → AllByRecursion Prints events → AllSpell (verbs_of events) (lines_of events)
all_spell [] h = tt
all_spell (e ∷ events) h = (h.0.is_line, h.0.spells, all_spell events h.1)

expanded : (events : List Event) → expand_all (verbs_of events) ≡ events
expanded [] = refl
expanded (e ∷ events) = ap (λ (es : List Event). e ∷ es) (expanded events)

ended_before : (line rest : List ℕ) → ended line ++ rest ≡ line ++ 10 ∷ rest
ended_before line rest = append_assoc line (10 ∷ []) rest

bytes_printed : (events : List Event) → printed_events events ≡ bytes_of_lines (lines_of events)
bytes_printed [] = refl
bytes_printed (e ∷ events) = ended_before (event_line e) (printed_events events) ∙ ap (λ (t : List ℕ). event_line e ++ 10 ∷ t) (bytes_printed events)

-- ---- the book

-- the book of what the text reads as
abbrev book_with : Option Data → Result Declared BookFault
book_with o = do
  d ← or_fault fault.BadJson o
  book ← shape_or_fault (shape_in d)
  unreserved ← unless_reserved book
  unless_repeated unreserved

book_reads : (o : Option Data) (book : Declared) → book_with o ≡ Ok book → IsSome o
book_reads None book e = absurd cc
book_reads (Some d) book e = refl

same_book : KeepsValue → (text : List ℕ) (book : Declared) → book_of text ≡ Ok book → book_of (squeezed text) ≡ Ok book
same_book keeps text book e = ap book_with (keeps text (book_reads (read text) book e)) ∙ e

-- ---- the script

abbrev again_of : Script → Script
again_of s = record { text = squeezed s.text; book = s.book; verbs = verbs_of (events_of s) }

printed_parts : (s : Script) → printed s ≡ bytes_of_lines (header ∷ book_line (squeezed s.text) ∷ lines_of (events_of s))
printed_parts s =
    let book = book_line (squeezed s.text) in
    let rest = printed_events (events_of s) in
    append_assoc (ended header) (ended book) rest ∙ ended_before header (ended book ++ rest)
    ∙ ap (λ (t : List ℕ). header ++ 10 ∷ t) (ended_before book rest ∙ ap (λ (t : List ℕ). book ++ 10 ∷ t) (bytes_printed (events_of s)))

pub prints_again : KeepsValue → LeavesNothing → (bytes : List ℕ) (s : Script) → IsScript bytes s → PrintsAs s
prints_again keeps leaves bytes s h =
    record {
      again = again_of s;
      is_script =
          record {
            lines = lines_of (events_of s);
            parts = printed_parts s;
            second = replaced_line _ _ (replaced_behind (codes "book") _ _ (squeezed_replaces s.text)) h.second;
            declares = same_book keeps s.text s.book h.declares;
            spelled = all_spell (events_of s) (verbs_print leaves s.verbs h.lines h.spelled);
          };
      same_book = refl;
      same_events = expanded (events_of s);
    }
