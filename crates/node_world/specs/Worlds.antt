-- What a world shows, and which histories it stands for.
use Rattle.std.specs.Prelude.{◌≡◌, ℕ, Bool, true, false, cond, ◌&&◌, List, [], ◌∷◌, ◌++◌, Option, None, Some, option_map}
use Rattle.cable_base.specs.Memory.{next_count}
use Rattle.cable_base.specs.declared.numbers.RowId.{RowId}
use Rattle.channel_book.specs.Shapes.{Declared}
use Rattle.cable_model.specs.declared.events.Event.{Event}
use Rattle.cable_model.specs.declared.lines.Line.{Line}
use Rattle.cable_model.specs.declared.plans.Plan.{Plan}
use Rattle.cable_model.specs.History.{World, start, run, is_idle, is_possible}
use Rattle.cable_model.specs.Script.{rules_of}
use Rattle.cable_model.specs.Stands.{AskedTurn, CaughtTurn, Shown, Stands}
use Rattle.cable_model.specs.Steps.{Step}
use Rattle.cable_model.specs.Transcript.{said}
use Rattle.node_core.specs.Nodes.{past}
use Rattle.poll_turn.specs.Notes.{note_in}
use Rattle.node_world.specs.declared.outstanding.OutWork.{OutWork}
use Rattle.node_world.specs.declared.outstanding.TurnOut.{TurnOut}
use Rattle.node_world.specs.declared.outstanding.TurnOut.TheVariants as turn_out
use Rattle.node_world.specs.declared.parts.Opened.{Opened}
use Rattle.node_world.specs.declared.parts.Post.{Post}
use Rattle.node_world.specs.declared.saying.Said.{Said}
use Rattle.node_world.specs.Draining.{left_on}
use Rattle.node_world.specs.Parts.{Held, post_at, conn_at}
use Rattle.node_world.specs.Steps.{calls_keeper, keeper_calls, calls_node, NodeStays}

-- a world: its book, what it holds, and whether a step wanted memory
pub record WorldState : Type 0 where
  pub book : Declared
  pub holds : Held
  pub is_spent : Bool

-- ---- what it shows

abbrev pub journal_in : Option Post → List Step
journal_in None = []
journal_in (Some p) = past p.node

abbrev pub left_at : ℕ → Option Post → List Line
left_at c None = []
left_at c (Some p) = left_on p.node c

abbrev pub left_in : Held → ℕ → Option Opened → List Line
left_in h c None = []
left_in h c (Some o) = left_at c (post_at o.node.0 h.posts)

abbrev pub plan_of_work : Option OutWork → Option Plan
plan_of_work None = None
plan_of_work (Some k) = Some k.work.plan

abbrev pub puts_of_work : Option OutWork → List (Option RowId)
puts_of_work None = []
puts_of_work (Some k) = k.work.puts

abbrev pub plan_in : Option Opened → Option Plan
plan_in None = None
plan_in (Some o) = plan_of_work o.work

abbrev pub puts_in : Option Opened → List (Option RowId)
puts_in None = []
puts_in (Some o) = puts_of_work o.work

abbrev pub asked_turn : TurnOut → Option AskedTurn
asked_turn turn_out.None = None
asked_turn (turn_out.Asked t) = Some (record { turn = t.turn.number; lower = t.turn.lower.0; hashes = t.turn.hashes })
asked_turn (turn_out.Read k) = None

abbrev pub caught_of_turn : TurnOut → Option CaughtTurn
caught_of_turn turn_out.None = None
caught_of_turn (turn_out.Asked t) = None
caught_of_turn (turn_out.Read k) = Some (record { turn = k.caught.number; note = note_in k.caught })

abbrev pub asked_in : Option Post → Option AskedTurn
asked_in None = None
asked_in (Some p) = asked_turn p.turn

abbrev pub caught_in : Option Post → Option CaughtTurn
caught_in None = None
caught_in (Some p) = caught_of_turn p.turn

-- what is held, as the model tells it: what each connection said and was told stays, whether or not its node has forgotten it
abbrev pub shown : Held → Shown
shown h = record {
  nodes = λ n. journal_in (post_at n h.posts);
  home = λ c. option_map (λ (o : Opened). o.node.0) (conn_at c h.conns);
  forgotten = [];
  left = λ c. left_in h c (conn_at c h.conns);
  plan = λ c. plan_in (conn_at c h.conns);
  puts = λ c. puts_in (conn_at c h.conns);
  asked = λ n. asked_in (post_at n h.posts);
  read = λ n. caught_in (post_at n h.posts);
  rows = h.table.keeper.rows;
  last = h.table.last.0;
  failing = h.table.keeper.failures.next;
}

-- the world stands for this history under its book
abbrev pub StandsFor : WorldState → List Event → Type 0
StandsFor w events = Stands (rules_of w.book) events (shown w.holds)

-- ---- what a step does

-- the model's world behind these events
abbrev pub after : WorldState → List Event → World
after w events = run (rules_of w.book) start events

-- for each history that the world stood for: what was said is what the event says behind it, the world stands for it with the event behind it, and
-- the keeper was called once where a store event is possible, and else never. No node was touched but the one that the event calls
pub record IsStep (e : Event) (old : WorldState) (said_is : Said) (new : WorldState) : Type 0 where
  pub idle : (events : List Event) → StandsFor old events → said_is.idle ≡ is_idle (rules_of old.book) (after old events) e
  pub lines : (events : List Event) → StandsFor old events → said_is.lines ≡ said (rules_of old.book) (after old events) e
  pub stands : (events : List Event) → StandsFor old events → StandsFor new (events ++ e ∷ [])
  pub calls : (events : List Event) → StandsFor old events
      → keeper_calls new.holds ≡ cond (calls_keeper e && is_possible (rules_of old.book) (after old events) e) (next_count (keeper_calls old.holds)) (keeper_calls old.holds)
  pub others : (n : ℕ) → calls_node old.holds n e ≡ false → NodeStays old.holds new.holds n
