-- What a step says and does.
use Rattle.std.specs.Prelude.{◌≡◌, ◌<◌, ◌==◌, ℕ, Bool, true, false, cond, ◌&&◌, [], ◌∷◌, Option, None, Some, option_map}
use Rattle.cable_base.specs.Memory.{next_count}
use Rattle.cable_model.specs.declared.events.Event.{Event}
use Rattle.cable_model.specs.declared.events.Event.TheVariants as event
use Rattle.cable_model.specs.declared.lines.Line.TheVariants as line
use Rattle.cable_model.specs.declared.notes.Note.TheVariants as note
use Rattle.cable_model.specs.History.{Rules, World, is_idle, is_possible, happen}
use Rattle.cable_model.specs.Transcript.{said}
use Rattle.node_core.specs.Nodes.{NodeState}
use Rattle.table_core.specs.Keepers.{moment_limit}
use Rattle.table_core.specs.Tables.{IsWithinLimits}
use Rattle.node_world.specs.declared.parts.Opened.{Opened}
use Rattle.node_world.specs.declared.saying.Said.{Said}
use Rattle.node_world.specs.Parts.{Held, FollowsWorld, post_at, conn_at}

-- ---- what was said: whether the event was idle, and its lines

abbrev pub idle_said : Said
idle_said = record { idle = true; lines = [] }

abbrev pub silent_said : Said
silent_said = record { idle = false; lines = [] }

-- a store event that failed says a note of no connection
abbrev pub refused_said : Said
refused_said = record { idle = false; lines = line.Note None note.StoreRefused ∷ [] }

-- a read says nothing, unless its turn was missed
abbrev pub read_said : Bool → Said
read_said missed = cond missed refused_said silent_said

-- ---- what an event touches

abbrev pub node_at : ℕ → Held → Option NodeState
node_at n h = option_map (λ p. p.node) (post_at n h.posts)

-- the connection was opened on the node n
abbrev pub is_on : ℕ → Option Opened → Bool
is_on n None = false
is_on n (Some o) = o.node.0 == n

-- the event calls the node n. A Read and the store events call none
abbrev pub calls_node : Held → ℕ → Event → Bool
calls_node h n (event.Boot node) = node.0 == n
calls_node h n (event.Open node conn token) = node.0 == n
calls_node h n (event.In conn text) = is_on n (conn_at conn.0 h.conns)
calls_node h n (event.Drop conn) = is_on n (conn_at conn.0 h.conns)
calls_node h n (event.Stop node) = node.0 == n
calls_node h n (event.Take conn) = is_on n (conn_at conn.0 h.conns)
calls_node h n (event.Put conn at) = false
calls_node h n (event.Finish conn) = is_on n (conn_at conn.0 h.conns)
calls_node h n (event.Cast at channel payload) = false
calls_node h n (event.Trim now retention batch) = false
calls_node h n (event.Ask node) = node.0 == n
calls_node h n (event.Read node) = false
calls_node h n (event.Deliver node) = node.0 == n
calls_node h n (event.Beat node now) = node.0 == n
calls_node h n event.Fault = false

-- the event calls the table's keeper, where it is possible
abbrev pub calls_keeper : Event → Bool
calls_keeper (event.Put conn at) = true
calls_keeper (event.Cast at channel payload) = true
calls_keeper (event.Trim now retention batch) = true
calls_keeper (event.Read node) = true
calls_keeper _ = false

-- how many calls of the keeper were made
abbrev pub keeper_calls : Held → ℕ
keeper_calls h = h.table.keeper.failures.planned.calls

-- the node n is as it was
abbrev pub NodeStays : Held → Held → ℕ → Type 0
NodeStays old new n = node_at n new ≡ node_at n old

-- ---- a step

-- in each world that is followed, what was said is what the event says, and what came of it is followed. The keeper is called once where a store
-- event is possible and else never, and no node is touched but the one that the event calls
pub record StepsIn (r : Rules) (e : Event) (old : Held) (said_is : Said) (new : Held) : Type 0 where
  pub idle : (w : World) → FollowsWorld r old w → said_is.idle ≡ is_idle r w e
  pub lines : (w : World) → FollowsWorld r old w → said_is.lines ≡ said r w e
  pub follows : (w : World) → FollowsWorld r old w → FollowsWorld r new (happen r w e)
  pub calls : (w : World) → FollowsWorld r old w → keeper_calls new ≡ cond (calls_keeper e && is_possible r w e) (next_count (keeper_calls old)) (keeper_calls old)
  pub others : (n : ℕ) → calls_node old n e ≡ false → NodeStays old new n

-- the events that a world steps: a commit within the limits of the table
abbrev pub IsPlayed : Event → Type 0
IsPlayed (event.Put conn at) = at.0 < moment_limit
IsPlayed (event.Cast at channel payload) = IsWithinLimits channel payload at.0
IsPlayed _ = Unit {0}
