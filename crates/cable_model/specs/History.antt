-- The journals that a history of events leaves. An event that isn't possible is idle: it changes nothing, and no definition sees it.
use Rattle.std.specs.Prelude.{ℕ, suc, ◌==◌, Bool, true, false, cond, not, ◌&&◌, List, [], ◌∷◌, ◌++◌, map, length, Option, None, Some, is_some, is_none, unwrap_or, slice_get, ℤ}
use Rattle.cable_base.specs.Names.{own_name}
use Rattle.cable_base.specs.declared.numbers.RowId.{RowId}
use Rattle.channel_book.specs.declared.answers.Cast.{Cast}
use Rattle.cable_model.specs.declared.events.Event.{Event}
use Rattle.cable_model.specs.declared.events.Event.TheVariants as event
use Rattle.cable_model.specs.declared.journals.ReadNote.{ReadNote}
use Rattle.cable_model.specs.declared.plans.Plan.{Plan}
use Rattle.cable_model.specs.Steps.{Step}
use Rattle.cable_model.specs.Connection.{Want, Sub}
use Rattle.cable_model.specs.Wants.{at_ask, Mark, marks, mark_of, user_of, lower}
use Rattle.cable_model.specs.Pieces.{seat}
use Rattle.cable_model.specs.Table.{Offer, TableStep, last_id, trimmed, note_of, missed_note, read_of}
use Rattle.cable_model.specs.Plans.{Callbacks}
use Rattle.cable_model.specs.Possible.{can_open, can_arrive, can_put_command, can_drop, can_stop, can_take, can_put, can_finish, can_ask, can_beat, is_booted, is_out, last_turn, job_plan}

-- what a history stands on: the callbacks, the hash of names, and how many rows a read gives at most
pub record Rules : Type 0 where
  pub callbacks : Callbacks
  pub hash : List ℕ → ℤ
  pub page : ℕ

-- the table's journal and each node's, newest entry first, and what no journal tells: where a connection was opened, the commits made for a
-- job that is out, and whether the next store event fails
pub record World : Type 0 where
  pub table : List TableStep
  pub nodes : ℕ → List Step
  pub home : ℕ → Option ℕ
  pub puts : ℕ → List (Option RowId)
  pub failing : Bool

abbrev pub start : World
start = record { table = []; nodes = λ n. []; home = λ c. None; puts = λ c. []; failing = false }

-- ---- a world with one thing changed

-- f with this value at that number
abbrev pub at_number : {A : Type 0} → ℕ → A → (ℕ → A) → ℕ → A
at_number n x f m = cond (m == n) x (f m)

-- an entry of a node
abbrev pub logged : World → ℕ → Step → World
logged w n e = record { table = w.table; nodes = at_number n (e ∷ w.nodes n) w.nodes; home = w.home; puts = w.puts; failing = w.failing }

-- an entry of the table
abbrev pub tabled : World → TableStep → World
tabled w t = record { table = t ∷ w.table; nodes = w.nodes; home = w.home; puts = w.puts; failing = w.failing }

-- an entry of a store event, which ends a fault
abbrev pub stored : World → TableStep → World
stored w t = record { table = t ∷ w.table; nodes = w.nodes; home = w.home; puts = w.puts; failing = false }

abbrev pub with_puts : World → ℕ → List (Option RowId) → World
with_puts w c ids = record { table = w.table; nodes = w.nodes; home = w.home; puts = at_number c ids w.puts; failing = w.failing }

abbrev pub with_home : World → ℕ → ℕ → World
with_home w c n = record { table = w.table; nodes = w.nodes; home = at_number c (Some n) w.home; puts = w.puts; failing = w.failing }

abbrev pub with_fault : World → World
with_fault w = record { table = w.table; nodes = w.nodes; home = w.home; puts = w.puts; failing = true }

-- ---- names held

abbrev pub held_wants : List Mark → List Want → List (List ℕ)
held_wants ms [] = []
held_wants ms (w ∷ ws) = cond (is_some (mark_of w.number ms)) (w.name ∷ held_wants ms ws) (held_wants ms ws)

abbrev pub held_subs : List Mark → List Sub → List (List ℕ)
held_subs ms [] = []
held_subs ms (s ∷ ss) = held_wants ms s.wants ++ held_subs ms ss

abbrev pub own_held : Option (List ℕ) → Option ℕ → List (List ℕ)
own_held None mark = []
own_held (Some user) None = []
own_held (Some user) (Some mark) = own_name user ∷ []

-- the names that c holds: those of its marked wants that stand, and its own until it is over
abbrev pub held_of : ℕ → List Step → List (List ℕ)
held_of c past = cond (seat c past).conn.over [] (own_held (user_of c past) (mark_of 0 (marks c past))) ++ held_subs (marks c past) (seat c past).conn.subs

-- the names held by the connections that these entries open
abbrev pub held_by : List Step → List Step → List (List ℕ)
held_by past [] = []
held_by past (Step.Open c token user ∷ more) = held_of c past ++ held_by past more
held_by past (_ ∷ more) = held_by past more

-- the names that the node's connections hold. Those of closing ones are among them until they are over
abbrev pub held_names : List Step → List (List ℕ)
held_names past = held_by past past

-- the hashes that the turn out asks for: those of the names held at its Ask, as a set
abbrev pub hashes_of : (hash : List ℕ → ℤ) → List Step → List ℤ
hashes_of hash past = map hash (held_names (at_ask past))

-- ---- store events

-- a commit gets the next id, unless the store fails
abbrev pub new_id : World → Option ℕ
new_id w = cond w.failing None (Some (suc (last_id w.table)))

abbrev pub row_id : Option ℕ → Option RowId
row_id None = None
row_id (Some id) = Some (record { 0 = id })

-- the first cast of the plan for which no commit was made
abbrev pub next_cast : List (Option RowId) → Option Plan → Option Cast
next_cast puts None = None
next_cast puts (Some plan) = slice_get plan.casts (length puts)

abbrev pub offered : Cast → ℕ → Offer
offered cast at = record { channel = cast.channel; payload = cast.payload; at = at }

-- a commit for the job of c. One that failed counts as made
abbrev pub committed : World → ℕ → ℕ → Option Cast → World
committed w c at None = w
committed w c at (Some cast) = with_puts (stored w (TableStep.Commit (Some c) (offered cast at) (new_id w))) c (w.puts c ++ row_id (new_id w) ∷ [])

-- how many rows the next Trim takes, where it doesn't fail
abbrev pub trim_count : (now retention batch : ℕ) → World → Option ℕ
trim_count now retention batch w = cond w.failing None (Some (length (trimmed now retention batch w.table)))

-- the note of the node's turn, where it is read now
abbrev pub turn_note : Rules → World → ℕ → ReadNote
turn_note r w n =
    cond w.failing (missed_note (lower (w.nodes n))) (note_of r.hash r.page (lower (w.nodes n)) (hashes_of r.hash (w.nodes n)) w.table)

-- the note of the node's turn that is out, where it was read
abbrev pub caught : World → ℕ → Option ReadNote
caught w n = cond (is_out (w.nodes n)) (read_of n (last_turn (w.nodes n)) w.table) None

-- ---- events

-- the test over the journal of the node where c was opened
abbrev pub at_home : World → ℕ → (List Step → Bool) → Bool
at_home w c test = elim (w.home c) [ None ↦ false | Some n ↦ test (w.nodes n) ]

-- the node where c was opened
abbrev pub home_of : World → ℕ → ℕ
home_of w c = unwrap_or (w.home c) 0

abbrev pub can_boot : World → ℕ → Bool
can_boot w n = not (is_booted (w.nodes n))

-- the turn that is out isn't read
abbrev pub can_read : World → ℕ → Bool
can_read w n = is_out (w.nodes n) && is_none (caught w n)

-- the turn that is out is read
abbrev pub can_deliver : World → ℕ → Bool
can_deliver w n = is_some (caught w n)

-- the event is possible
abbrev pub is_possible : Rules → World → Event → Bool
is_possible r w (event.Boot node) = can_boot w node.0
is_possible r w (event.Open node conn token) = is_none (w.home conn.0) && can_open conn.0 (w.nodes node.0)
is_possible r w (event.In conn text) = at_home w conn.0 (can_arrive conn.0)
is_possible r w (event.Drop conn) = at_home w conn.0 (can_drop conn.0)
is_possible r w (event.Stop node) = can_stop (w.nodes node.0)
is_possible r w (event.Take conn) = at_home w conn.0 (can_take conn.0)
is_possible r w (event.Put conn at) = at_home w conn.0 (can_put r.callbacks conn.0 (w.puts conn.0))
is_possible r w (event.Finish conn) = at_home w conn.0 (can_finish r.callbacks conn.0 (w.puts conn.0))
is_possible r w (event.Cast at channel payload) = true
is_possible r w (event.Trim now retention batch) = true
is_possible r w (event.Ask node) = can_ask (w.nodes node.0)
is_possible r w (event.Read node) = can_read w node.0
is_possible r w (event.Deliver node) = can_deliver w node.0
is_possible r w (event.Beat node now) = can_beat (w.nodes node.0)
is_possible r w event.Fault = true

-- the Finish of c's job
abbrev pub finish : World → ℕ → ℕ → Option Plan → World
finish w n c None = w
finish w n c (Some plan) = with_puts (logged w n (Step.Finish c (w.puts c) plan)) c []

abbrev pub deliver : World → ℕ → Option ReadNote → World
deliver w n None = w
deliver w n (Some note) = logged w n (Step.Deliver (last_turn (w.nodes n)) note)

-- the Boot tells the table's last id
abbrev pub boot : World → ℕ → World
boot w n = logged (tabled w (TableStep.Boot n (last_id w.table))) n (Step.Boot (last_id w.table))

-- a text is put, or else noted, which leaves no entry
abbrev pub arrive : World → ℕ → ℕ → List ℕ → World
arrive w n c text = cond (can_put_command c text (w.nodes n)) (logged w n (Step.In c text)) w

-- what a possible event makes of the world
abbrev pub happened : Rules → World → Event → World
happened r w (event.Boot node) = boot w node.0
happened r w (event.Open node conn token) = with_home (logged w node.0 (Step.Open conn.0 token (r.callbacks.identify token))) conn.0 node.0
happened r w (event.In conn text) = arrive w (home_of w conn.0) conn.0 text
happened r w (event.Drop conn) = logged w (home_of w conn.0) (Step.Drop conn.0)
happened r w (event.Stop node) = logged w node.0 Step.Stop
happened r w (event.Take conn) = with_puts (logged w (home_of w conn.0) (Step.Take conn.0)) conn.0 []
happened r w (event.Put conn at) = committed w conn.0 at.0 (next_cast (w.puts conn.0) (job_plan r.callbacks conn.0 (w.nodes (home_of w conn.0))))
happened r w (event.Finish conn) = finish w (home_of w conn.0) conn.0 (job_plan r.callbacks conn.0 (w.nodes (home_of w conn.0)))
happened r w (event.Cast at channel payload) = stored w (TableStep.Commit None (record { channel = channel; payload = payload; at = at.0 }) (new_id w))
happened r w (event.Trim now retention batch) = stored w (TableStep.Trim now.0 retention.0 batch (trim_count now.0 retention.0 batch w))
happened r w (event.Ask node) = logged w node.0 (Step.Ask (suc (last_turn (w.nodes node.0))))
happened r w (event.Read node) = stored w (TableStep.Read node.0 (last_turn (w.nodes node.0)) (turn_note r w node.0) (hashes_of r.hash (w.nodes node.0)))
happened r w (event.Deliver node) = deliver w node.0 (caught w node.0)
happened r w (event.Beat node now) = logged w node.0 (Step.Beat now.0)
happened r w event.Fault = with_fault w

-- the world after an event
abbrev pub happen : Rules → World → Event → World
happen r w e = cond (is_possible r w e) (happened r w e) w

abbrev pub is_idle : Rules → World → Event → Bool
is_idle r w e = not (is_possible r w e)

-- the world after these events, oldest first
abbrev pub run : Rules → World → List Event → World
run r w [] = w
run r w (e ∷ es) = run r (happen r w e) es
