-- What a running world shows, and when it stands for a history. A node may have forgotten connections that are over: its journal is then
-- the history's without their entries. All that is known of a node or a connection is read off its journal.
use Rattle.std.specs.Prelude.{ℕ, ◌≡◌, Bool, true, false, List, [], Option, None, Some, option_map, ℤ, All}
use Rattle.cable_base.specs.declared.numbers.RowId.{RowId}
use Rattle.cable_base.specs.declared.rows.Row.{Row}
use Rattle.cable_model.specs.declared.events.Event.{Event}
use Rattle.cable_model.specs.declared.journals.ReadNote.{ReadNote}
use Rattle.cable_model.specs.declared.lines.Line.{Line}
use Rattle.cable_model.specs.declared.plans.Plan.{Plan}
use Rattle.cable_model.specs.Steps.{Step}
use Rattle.cable_model.specs.Wants.{lower}
use Rattle.cable_model.specs.Table.{present, last_id, contains}
use Rattle.cable_model.specs.Possible.{is_over, job_plan, last_turn}
use Rattle.cable_model.specs.History.{Rules, World, start, run, hashes_of, caught, can_read, home_of}
use Rattle.cable_model.specs.Journal.{cut_all}

-- the turn of a node that is out and unread: its number, where it begins, and the hashes that it asks for
pub record AskedTurn : Type 0 where
  pub turn : ℕ
  pub lower : ℕ
  pub hashes : List ℤ

-- the turn of a node that is read and undelivered: its number and its note, which tells where it began
pub record CaughtTurn : Type 0 where
  pub turn : ℕ
  pub note : ReadNote

-- what a world shows: each node's journal, where each connection was opened, the connections forgotten, what was queued on each and is left
-- untaken, the plan of the job of each and the commits made for it, the turn of each node that is out, unread or read, the rows, the last id,
-- and whether the next store event fails
pub record Shown : Type 0 where
  pub nodes : ℕ → List Step
  pub home : ℕ → Option ℕ
  pub forgotten : List ℕ
  pub left : ℕ → List Line
  pub plan : ℕ → Option Plan
  pub puts : ℕ → List (Option RowId)
  pub asked : ℕ → Option AskedTurn
  pub read : ℕ → Option CaughtTurn
  pub rows : List Row
  pub last : ℕ
  pub failing : Bool

-- two lists of hashes are the same set
abbrev pub SameHashes : List ℤ → List ℤ → Type 0
SameHashes xs ys = (hash : ℤ) → contains xs hash ≡ contains ys hash

-- the turn of this node's journal, with these hashes
pub record IsAsked (asked : AskedTurn) (past : List Step) (wanted : List ℤ) : Type 0 where
  pub turn : asked.turn ≡ last_turn past
  pub lower : asked.lower ≡ lower past
  pub hashes : SameHashes asked.hashes wanted

-- a turn is shown as asked exactly where one is out and unread
abbrev pub Asks : Option AskedTurn → Bool → List Step → List ℤ → Type 0
Asks None unread past hashes = unread ≡ false
Asks (Some asked) unread past hashes = (unread ≡ true) × IsAsked asked past hashes

-- a turn with its note
abbrev pub caught_turn : List Step → ReadNote → CaughtTurn
caught_turn past note = record { turn = last_turn past; note = note }

-- the connection was opened on a node, and is over there
abbrev pub IsGone : World → ℕ → Type 0
IsGone w c = (n : ℕ) × (w.home c ≡ Some n) × (is_over c (w.nodes n) ≡ true)

-- it shows what this world is
pub record Shows (r : Rules) (w : World) (v : Shown) : Type 0 where
  pub nodes : (n : ℕ) → v.nodes n ≡ cut_all v.forgotten (w.nodes n)
  pub home : (c : ℕ) → v.home c ≡ w.home c
  pub forgotten : All (IsGone w) v.forgotten
  pub left : (c : ℕ) → v.left c ≡ []
  pub plan : (c : ℕ) → v.plan c ≡ job_plan r.callbacks c (w.nodes (home_of w c))
  pub puts : (c : ℕ) → v.puts c ≡ w.puts c
  pub asked : (n : ℕ) → Asks (v.asked n) (can_read w n) (w.nodes n) (hashes_of r.hash (w.nodes n))
  pub read : (n : ℕ) → v.read n ≡ option_map (caught_turn (w.nodes n)) (caught w n)
  pub rows : v.rows ≡ present w.table
  pub last : v.last ≡ last_id w.table
  pub failing : v.failing ≡ w.failing

-- it stands for this history
abbrev pub Stands : Rules → List Event → Shown → Type 0
Stands r events v = Shows r (run r start events) v
