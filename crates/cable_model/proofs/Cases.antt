-- Worked sessions, computed: events with short texts, over a small application.
pub mod Turns
pub mod Ends
pub mod Shared
pub mod Commands
use Rattle.std.proofs.Common.{◌≡◌, refl, ℕ, ◌==◌, List, [], ◌∷◌, ◌++◌, length, map, Bool, true, false, cond, Option, None, Some}
use Rattle.std.specs.Prelude.{codes, flat_map, bytes_eq, Result, Ok, Err, ℤ, pos}
use Rattle.json.specs.Json.{value}
use Rattle.json.specs.Lex.{punctuate, lex}
use Rattle.json.specs.Text.{content}
use Rattle.json.specs.Word.{word, after_number}
use Rattle.json.specs.Print.{escape_byte}
use Rattle.serde_json.specs.Read.{number_of}
use Rattle.std.specs.Fmt.{digits}
use Rattle.std.specs.Float.Numeral.{scan_numeral}
use Rattle.cable_base.specs.declared.rows.Row.{Row}
use Rattle.channel_book.specs.declared.answers.Answer.{Answer}
use Rattle.channel_book.specs.declared.answers.Cast.{Cast}
use Rattle.channel_book.specs.declared.answers.CallFault.{CallFault}
use Rattle.channel_book.specs.declared.answers.CallFault.TheVariants as fault
use Rattle.cable_model.specs.declared.events.Event.{Event}
use Rattle.cable_model.specs.declared.events.Event.TheVariants as event
use Rattle.cable_model.specs.Plans.{Callbacks, planner}
use Rattle.cable_model.specs.Window.{window, finished}
use Rattle.cable_model.specs.Table.{commits, reads_of}
use Rattle.cable_model.specs.History.{Rules, World, start, run}
use Rattle.cable_model.specs.Transcript.{transcript}

-- what unfolds where a text is read or written
unfoldable pub texts : Unit {0}
unfolding value punctuate lex content word after_number scan_numeral number_of escape_byte digits
texts = tt

-- ---- the application

abbrev pub nothing : Answer
nothing = record { rejected = false; streams = []; stops = []; says = []; casts = [] }

abbrev pub holding : List (List ℕ) → Answer
holding names = record { rejected = false; streams = names; stops = []; says = []; casts = [] }

abbrev pub casting : List ℕ → List ℕ → Answer
casting name payload = record { rejected = false; streams = []; stops = []; says = []; casts = record { channel = name; payload = payload } ∷ [] }

abbrev pub saying : List ℕ → Answer
saying payload = record { rejected = false; streams = []; stops = []; says = payload ∷ []; casts = [] }

abbrev pub stopping : List ℕ → Answer
stopping name = record { rejected = false; streams = []; stops = name ∷ []; says = []; casts = [] }

abbrev pub refusing : Answer
refusing = record { rejected = true; streams = []; stops = []; says = []; casts = [] }

-- C holds the stream r, D the streams a and b, K the stream k, X a reserved one, and P none. Y is rejected
abbrev pub subscribed : List ℕ → Result Answer CallFault
subscribed i =
    cond (bytes_eq i (codes "C")) (Ok (holding (codes "r" ∷ []))) (cond (bytes_eq i (codes "D")) (Ok (holding (codes "a" ∷ codes "b" ∷ [])))
    (cond (bytes_eq i (codes "K")) (Ok (holding (codes "k" ∷ []))) (cond (bytes_eq i (codes "X")) (Ok (holding (codes "action_cable/u" ∷ [])))
    (cond (bytes_eq i (codes "P")) (Ok nothing) (cond (bytes_eq i (codes "Y")) (Ok refusing) (Err fault.UnknownChannel))))))

-- K casts to its stream where it is left
abbrev pub unsubscribed : List ℕ → Result Answer CallFault
unsubscribed i = cond (bytes_eq i (codes "K")) (Ok (casting (codes "k") (codes "0"))) (Ok nothing)

-- 1 stops the stream r, 2 casts to it, 3 is said, and 4 is cast to a reserved name
abbrev pub performed : List ℕ → Result Answer CallFault
performed p =
    cond (bytes_eq p (codes "1")) (Ok (stopping (codes "r"))) (cond (bytes_eq p (codes "2")) (Ok (casting (codes "r") p))
    (cond (bytes_eq p (codes "3")) (Ok (saying p)) (cond (bytes_eq p (codes "4")) (Ok (casting (codes "action_cable/u") p)) (Err fault.UnknownAction))))

-- the token is the user, but for t
abbrev pub callbacks : Callbacks
callbacks = record {
  identify = λ token. cond (bytes_eq token (codes "t")) None (Some token);
  subscribed = λ user i. subscribed i;
  unsubscribed = λ user i. unsubscribed i;
  perform = λ user i p. performed p;
}

-- names of one length have one hash
abbrev pub rules : ℕ → Rules
rules page = record { callbacks = callbacks; hash = λ name. pos (length name); page = page }

-- ---- events

abbrev pub boot : ℕ → List Event
boot n = event.Boot (record { 0 = n }) ∷ []

abbrev pub opens : ℕ → ℕ → List ℕ → List Event
opens n c token = event.Open (record { 0 = n }) (record { 0 = c }) token ∷ []

abbrev pub sends : ℕ → List ℕ → List Event
sends c text = event.In (record { 0 = c }) text ∷ []

abbrev pub subscribes : ℕ → List ℕ → List Event
subscribes c i = sends c (codes "{\"command\":\"subscribe\",\"identifier\":\"" ++ i ++ codes "\"}")

abbrev pub unsubscribes : ℕ → List ℕ → List Event
unsubscribes c i = sends c (codes "{\"command\":\"unsubscribe\",\"identifier\":\"" ++ i ++ codes "\"}")

abbrev pub messages : ℕ → List ℕ → List ℕ → List Event
messages c i p = sends c (codes "{\"command\":\"message\",\"identifier\":\"" ++ i ++ codes "\",\"data\":\"" ++ p ++ codes "\"}")

abbrev pub takes : ℕ → List Event
takes c = event.Take (record { 0 = c }) ∷ []

abbrev pub puts : ℕ → ℕ → List Event
puts c at = event.Put (record { 0 = c }) (record { 0 = at }) ∷ []

abbrev pub finishes : ℕ → List Event
finishes c = event.Finish (record { 0 = c }) ∷ []

abbrev pub work : ℕ → List Event
work c = takes c ++ finishes c

abbrev pub drops : ℕ → List Event
drops c = event.Drop (record { 0 = c }) ∷ []

abbrev pub stops : ℕ → List Event
stops n = event.Stop (record { 0 = n }) ∷ []

abbrev pub casts : ℕ → List ℕ → List ℕ → List Event
casts at name payload = event.Cast (record { 0 = at }) name payload ∷ []

abbrev pub trims : ℕ → ℕ → ℕ → List Event
trims now retention batch = event.Trim (record { 0 = now }) (record { 0 = retention }) batch ∷ []

abbrev pub asks : ℕ → List Event
asks n = event.Ask (record { 0 = n }) ∷ []

abbrev pub reads : ℕ → List Event
reads n = event.Read (record { 0 = n }) ∷ []

abbrev pub delivers : ℕ → List Event
delivers n = event.Deliver (record { 0 = n }) ∷ []

abbrev pub poll : ℕ → List Event
poll n = asks n ++ reads n ++ delivers n

abbrev pub beats : ℕ → ℕ → List Event
beats n now = event.Beat (record { 0 = n }) (record { 0 = now }) ∷ []

abbrev pub faults : List Event
faults = event.Fault ∷ []

-- connection 7 of node 1 has asked for the stream of C
abbrev pub asked : List Event
asked = boot 1 ++ opens 1 7 (codes "u") ++ subscribes 7 (codes "C") ++ work 7

-- it holds the stream
abbrev pub held : List Event
held = asked ++ poll 1 ++ work 7

-- ---- what is said

abbrev pub wel : List ℕ
wel = codes "{\"type\":\"welcome\"}"

abbrev pub ok : List ℕ → List ℕ
ok i = codes "{\"identifier\":\"" ++ i ++ codes "\",\"type\":\"confirm_subscription\"}"

abbrev pub no_to : List ℕ → List ℕ
no_to i = codes "{\"identifier\":\"" ++ i ++ codes "\",\"type\":\"reject_subscription\"}"

abbrev pub say : List ℕ → List ℕ → List ℕ
say i p = codes "{\"identifier\":\"" ++ i ++ codes "\",\"message\":" ++ p ++ codes "}"

-- a line of connection 7, of 8
abbrev pub to7 : List ℕ → List ℕ
to7 text = codes "7 " ++ text

abbrev pub to8 : List ℕ → List ℕ
to8 text = codes "8 " ++ text

-- these lines, each with its line feed
abbrev pub lines : List (List ℕ) → List ℕ
lines ls = flat_map (λ l. l ++ 10 ∷ []) ls

-- ---- what is finished, and what the window is

abbrev pub ids : List Row → List ℕ
ids rows = map (λ (r : Row). r.id.0) rows

abbrev pub end : ℕ → List Event → World
end page es = run (rules page) start es

-- the ids of the rows finished for the want w of the subscription s of connection 7
abbrev pub done_ids : (page s w : ℕ) → List Event → List ℕ
done_ids page s w es = ids (finished 7 s w ((end page es).nodes 1))

-- the ids of its window
abbrev pub window_ids : (page s w : ℕ) → List Event → List ℕ
window_ids page s w es =
    let x = end page es in ids (window (planner callbacks (codes "u")) (reads_of (rules page).hash 1 x.table) 7 s w (x.nodes 1) (commits x.table))
