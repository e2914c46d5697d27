-- What is said: the lines of each event, and the transcript of a history.
use Rattle.std.specs.Prelude.{ℕ, ◌+◌, ◌/◌, ◌==◌, false, cond, List, [], ◌∷◌, ◌++◌, map, length, flat_map, codes, decimal, Option, None, Some}
use Rattle.cable_base.specs.declared.numbers.ConnNo.{ConnNo}
use Rattle.cable_json.specs.Texts.{welcome_text, ping_text, disconnect_text}
use Rattle.cable_json.specs.declared.reasons.Reason.TheVariants as reason
use Rattle.cable_model.specs.declared.events.Event.{Event}
use Rattle.cable_model.specs.declared.events.Event.TheVariants as event
use Rattle.cable_model.specs.declared.lines.Line.{Line}
use Rattle.cable_model.specs.declared.lines.Line.TheVariants as line
use Rattle.cable_model.specs.declared.lines.Totals.{Totals}
use Rattle.cable_model.specs.declared.notes.Note.{Note}
use Rattle.cable_model.specs.declared.notes.Note.TheVariants as note
use Rattle.cable_model.specs.declared.plans.Plan.{Plan}
use Rattle.cable_model.specs.Steps.{Step}
use Rattle.cable_model.specs.Possible.{is_receiving, receiving, is_too_long, is_busy, job_plan}
use Rattle.cable_model.specs.History.{Rules, World, start, happen, is_possible, is_idle, home_of, new_id, trim_count}

-- ---- the lines of an event

-- the welcome, or where the token has no user the disconnect
abbrev pub greeting : Option (List ℕ) → List ℕ
greeting None = disconnect_text reason.Unauthorized false
greeting (Some user) = welcome_text

abbrev pub conn_line : ℕ → List ℕ → Line
conn_line c text = line.Text (record { 0 = c }) text

abbrev pub conn_note : ℕ → Note → Line
conn_note c n = line.Note (Some (record { 0 = c })) n

-- a text that is too long, or met by too many waiting commands
abbrev pub arrival_lines : ℕ → List ℕ → List Step → List Line
arrival_lines c text past = cond (is_too_long text) (conn_note c note.TooLong ∷ []) (cond (is_busy c past) (conn_note c note.Busy ∷ []) [])

abbrev pub commit_lines : Option ConnNo → Option ℕ → List Line
commit_lines conn None = line.Note conn note.StoreRefused ∷ []
commit_lines conn (Some id) = line.Row (record { 0 = id }) ∷ []

abbrev pub trim_lines : Option ℕ → List Line
trim_lines None = line.Note None note.StoreRefused ∷ []
trim_lines (Some count) = line.Trimmed count ∷ []

-- the texts in order, then the notes in order
abbrev pub plan_lines : ℕ → Plan → List Line
plan_lines c plan = map (conn_line c) plan.texts ++ map (conn_note c) plan.notes

abbrev pub finish_lines : ℕ → Option Plan → List Line
finish_lines c None = []
finish_lines c (Some plan) = plan_lines c plan

-- a ping tells whole seconds
abbrev pub ping_line : (now : ℕ) → ℕ → Line
ping_line now c = conn_line c (ping_text (now / 1000))

-- what a possible event says
abbrev pub lines_of : Rules → World → Event → List Line
lines_of r w (event.Boot node) = []
lines_of r w (event.Open node conn token) = conn_line conn.0 (greeting (r.callbacks.identify token)) ∷ []
lines_of r w (event.In conn text) = arrival_lines conn.0 text (w.nodes (home_of w conn.0))
lines_of r w (event.Drop conn) = []
lines_of r w (event.Stop node) = []
lines_of r w (event.Take conn) = []
lines_of r w (event.Put conn at) = commit_lines (Some conn) (new_id w)
lines_of r w (event.Finish conn) = finish_lines conn.0 (job_plan r.callbacks conn.0 (w.nodes (home_of w conn.0)))
lines_of r w (event.Cast at channel payload) = commit_lines None (new_id w)
lines_of r w (event.Trim now retention batch) = trim_lines (trim_count now.0 retention.0 batch w)
lines_of r w (event.Ask node) = []
lines_of r w (event.Read node) = cond w.failing (line.Note None note.StoreRefused ∷ []) []
lines_of r w (event.Deliver node) = []
lines_of r w (event.Beat node now) = map (ping_line now.0) (receiving (w.nodes node.0))
lines_of r w event.Fault = []

-- what an event says in the world before it. An idle one says nothing
abbrev pub said : Rules → World → Event → List Line
said r w e = cond (is_possible r w e) (lines_of r w e) []

-- what these events say, oldest first
abbrev pub said_all : Rules → World → List Event → List Line
said_all r w [] = []
said_all r w (e ∷ es) = said r w e ++ said_all r (happen r w e) es

-- how many of them are idle
abbrev pub idle_count : Rules → World → List Event → ℕ
idle_count r w [] = 0
idle_count r w (e ∷ es) = cond (is_idle r w e) 1 0 + idle_count r (happen r w e) es

-- ---- the transcript

abbrev pub note_text : Note → List ℕ
note_text note.BadJson = codes "bad-json"
note_text note.UnknownCommand = codes "unknown-command"
note_text note.NoIdentifier = codes "no-identifier"
note_text note.BadData = codes "bad-data"
note_text note.BadIdentifier = codes "bad-identifier"
note_text note.UnknownChannel = codes "unknown-channel"
note_text note.DataNoObject = codes "data-no-object"
note_text note.UnknownAction = codes "unknown-action"
note_text note.UnknownSubscription = codes "unknown-subscription"
note_text note.TooManySubscriptions = codes "too-many-subscriptions"
note_text note.ReservedStream = codes "reserved-stream"
note_text note.NameTooLong = codes "name-too-long"
note_text note.TooManyStreams = codes "too-many-streams"
note_text note.ReservedCast = codes "reserved-cast"
note_text note.PayloadTooLong = codes "payload-too-long"
note_text note.Busy = codes "busy"
note_text note.TooLong = codes "too-long"
note_text note.StoreRefused = codes "store-refused"

-- the connection of a note, or a hyphen
abbrev pub note_place : Option ConnNo → List ℕ
note_place None = codes "-"
note_place (Some conn) = decimal conn.0

-- the text of a line, without its line feed
abbrev pub line_text : Line → List ℕ
line_text (line.Text conn text) = decimal conn.0 ++ codes " " ++ text
line_text (line.Note conn n) = note_place conn ++ codes " ! " ++ note_text n
line_text (line.Row id) = codes "- row " ++ decimal id.0
line_text (line.Trimmed count) = codes "- trimmed " ++ decimal count

abbrev pub ended : List ℕ → List ℕ
ended text = text ++ 10 ∷ []

abbrev pub end_line : (events idle : ℕ) → List ℕ
end_line events idle = codes "end events=" ++ decimal events ++ codes " idle=" ++ decimal idle

-- each line with its line feed
abbrev pub lines_text : List Line → List ℕ
lines_text lines = flat_map (λ l. ended (line_text l)) lines

-- what the events of a history say
abbrev pub said_text : Rules → List Event → List ℕ
said_text r events = lines_text (said_all r start events)

-- the end line of a history
abbrev pub end_text : Rules → List Event → List ℕ
end_text r events = ended (end_line (length events) (idle_count r start events))

-- the bytes that a history's run writes
abbrev pub transcript : Rules → List Event → List ℕ
transcript r events = said_text r events ++ end_text r events

-- ---- totals

abbrev pub no_totals : Totals
no_totals = record { rows = 0; trimmed = 0; texts = 0; notes = 0 }

-- these totals with a line more
abbrev pub with_line : Totals → Line → Totals
with_line t (line.Text conn text) = record { rows = t.rows; trimmed = t.trimmed; texts = t.texts + 1; notes = t.notes }
with_line t (line.Note conn n) = record { rows = t.rows; trimmed = t.trimmed; texts = t.texts; notes = t.notes + 1 }
with_line t (line.Row id) = record { rows = t.rows + 1; trimmed = t.trimmed; texts = t.texts; notes = t.notes }
with_line t (line.Trimmed count) = record { rows = t.rows; trimmed = t.trimmed + count; texts = t.texts; notes = t.notes }

-- these totals with more lines, one after the other
abbrev pub with_lines : Totals → List Line → Totals
with_lines t [] = t
with_lines t (l ∷ ls) = with_lines (with_line t l) ls

-- what lines come to
abbrev pub totals_of : List Line → Totals
totals_of lines = with_lines no_totals lines

abbrev pub totals_line : Totals → List ℕ
totals_line t =
    codes "totals rows=" ++ decimal t.rows ++ codes " trimmed=" ++ decimal t.trimmed ++ codes " texts=" ++ decimal t.texts ++ codes " notes=" ++ decimal t.notes

-- the totals line of a history
abbrev pub totals_text : Rules → List Event → List ℕ
totals_text r events = ended (totals_line (totals_of (said_all r start events)))

-- the transcript with a last line that tells its totals
abbrev pub transcript_with_totals : Rules → List Event → List ℕ
transcript_with_totals r events = transcript r events ++ totals_text r events

-- ---- what is queued on a connection

-- the texts and notes queued on c by its Open, its Finishes and the Beats, in order
abbrev pub queued : ℕ → List Step → List Line
queued c [] = []
queued c (Step.Open d token user ∷ past) = cond (d == c) (queued c past ++ conn_line c (greeting user) ∷ []) (queued c past)
queued c (Step.Finish d puts plan ∷ past) = cond (d == c) (queued c past ++ plan_lines c plan) (queued c past)
queued c (Step.Beat now ∷ past) = cond (is_receiving c past) (queued c past ++ ping_line now c ∷ []) (queued c past)
queued c (_ ∷ past) = queued c past
