-- The script that is made of a seed: eight clients in two nodes, and a line for each draw.
use Rattle.std.specs.Prelude.{ℕ, zero, suc, ◌+◌, ◌-◌, ◌*◌, ◌/◌, ◌%◌, ◌==◌, nat_le, if◌then◌else◌, List, [], ◌∷◌, ◌++◌, codes, decimal}
use Rattle.rand_pcg.specs.Lcg.{Lcg, started, increment_of}
use Rattle.rand_pcg.specs.Pcg.{pcg32, multiplier_64}
use Rattle.cable_base.specs.declared.numbers.ConnNo.{ConnNo}
use Rattle.cable_base.specs.declared.numbers.NodeNo.{NodeNo}
use Rattle.cable_base.specs.declared.numbers.Millis.{Millis}
use Rattle.channel_book.specs.Shapes.{Declared}
use Rattle.cable_model.specs.declared.events.Event.TheVariants as event
use Rattle.cable_model.specs.declared.verbs.Verb.{Verb}
use Rattle.cable_model.specs.declared.verbs.Verb.TheVariants.{One, Work}
use Rattle.cable_model.specs.Script.{Script}

-- ---- the book

-- eight users, and one channel of rooms to which each may speak
abbrev pub made_book : List ℕ
made_book =
    codes "{\"tokens\":{\"t1\":\"u1\",\"t2\":\"u2\",\"t3\":\"u3\",\"t4\":\"u4\",\"t5\":\"u5\",\"t6\":\"u6\",\"t7\":\"u7\",\"t8\":\"u8\"},\"channels\":[{\"name\":\"Chat\",\"requires\":[\"room\"],\"streams\":[\"room_{room}\"],\"actions\":[{\"name\":\"speak\",\"casts\":[\"room_{room}\"]}]}]}"

-- ---- the beginning

abbrev pub node_no : ℕ → NodeNo
node_no n = record { 0 = n }

abbrev pub conn_no : ℕ → ConnNo
conn_no c = record { 0 = c }

-- the node of a client: 1 for odd ones, 2 for even ones
abbrev pub home_of : ℕ → ℕ
home_of c = 2 - c % 2

abbrev pub token_of : ℕ → List ℕ
token_of c = codes "t" ++ decimal c

abbrev pub opens : ℕ → Verb
opens c = One (event.Open (node_no (home_of c)) (conn_no c) (token_of c))

-- two nodes are booted, and eight clients come
abbrev pub opening : List Verb
opening =
    One (event.Boot (node_no 1)) ∷ One (event.Boot (node_no 2)) ∷ opens 1 ∷ opens 2 ∷ opens 3 ∷ opens 4 ∷ opens 5 ∷ opens 6 ∷ opens 7 ∷ opens 8 ∷ []

-- ---- a draw

-- what a draw says: which kind of line, which client, which room, which node, and the line's place, counted from 1
pub record Draw : Type 0 where
  pub kind : ℕ
  pub conn : ℕ
  pub room : ℕ
  pub node : ℕ
  pub place : ℕ

abbrev pub draw_of : (place word : ℕ) → Draw
draw_of place word = record { kind = word % 16; conn = 1 + (word / 16) % 8; room = (word / 128) % 4; node = 1 + (word / 512) % 2; place = place }

-- a line a second
abbrev pub moment_of : Draw → Millis
moment_of d = record { 0 = 1000 * d.place }

-- the identifier of a room, as a JSON string
abbrev pub identifier_of : Draw → List ℕ
identifier_of d = codes "\"{\\\"channel\\\":\\\"Chat\\\",\\\"room\\\":" ++ decimal d.room ++ codes "}\""

abbrev pub subscribe_text : Draw → List ℕ
subscribe_text d = codes "{\"command\":\"subscribe\",\"identifier\":" ++ identifier_of d ++ codes "}"

abbrev pub unsubscribe_text : Draw → List ℕ
unsubscribe_text d = codes "{\"command\":\"unsubscribe\",\"identifier\":" ++ identifier_of d ++ codes "}"

abbrev pub speak_text : Draw → List ℕ
speak_text d =
    codes "{\"command\":\"message\",\"identifier\":" ++ identifier_of d ++ codes ",\"data\":\"{\\\"action\\\":\\\"speak\\\",\\\"i\\\":" ++ decimal d.place ++ codes "}\"}"

abbrev pub room_name : Draw → List ℕ
room_name d = codes "room_" ++ decimal d.room

abbrev pub place_payload : Draw → List ℕ
place_payload d = codes "{\"i\":" ++ decimal d.place ++ codes "}"

abbrev pub says : Draw → List ℕ → Verb
says d text = One (event.In (conn_no d.conn) text)

abbrev pub casts : Draw → Verb
casts d = One (event.Cast (moment_of d) (room_name d) (place_payload d))

abbrev pub works : Draw → Verb
works d = Work (conn_no d.conn) (moment_of d) 1

abbrev pub trims : Draw → Verb
trims d = One (event.Trim (moment_of d) (record { 0 = 60000 }) 10)

-- the line of a draw, by its kind
abbrev pub verb_of_draw : Draw → Verb
verb_of_draw d =
    if d.kind == 0 then says d (subscribe_text d)
    else if d.kind == 1 then says d (unsubscribe_text d)
    else if nat_le d.kind 3 then says d (speak_text d)
    else if nat_le d.kind 8 then works d
    else if nat_le d.kind 10 then casts d
    else if d.kind == 11 then One (event.Ask (node_no d.node))
    else if d.kind == 12 then One (event.Read (node_no d.node))
    else if d.kind == 13 then One (event.Deliver (node_no d.node))
    else if d.kind == 14 then trims d
    else One (event.Beat (node_no d.node) (moment_of d))

-- ---- the script

abbrev pub generator : ℕ → Lcg
generator seed = started 64 multiplier_64 seed (increment_of 64 54)

-- so many lines from this place on, each of the generator's next draw
unfoldable pub drawn : (count place : ℕ) → Lcg → List Verb
drawn zero place g = []
drawn (suc count) place g = verb_of_draw (draw_of place (pcg32 g).0) ∷ drawn count (place + 1) (pcg32 g).1

abbrev pub made_script : (seed count : ℕ) → Declared → Script
made_script seed count book = record { text = made_book; book = book; verbs = opening ++ drawn count 1 (generator seed) }
