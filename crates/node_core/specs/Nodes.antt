-- What a node is: its journal, how many of the texts and notes of each connection were taken out, and in which order connections are served.
-- All else that it keeps is what the journal says. Of the wants that turns are to take, those of forgotten connections are dropped.
use Rattle.std.specs.Prelude.{◌≡◌, ◌<◌, ◌≤◌, ◌/◌, ℕ, Bool, true, List, [], ◌∷◌, ◌++◌, Option, option_map, length, map, filter, drop}
use Rattle.cable_base.specs.declared.numbers.ConnNo.{ConnNo}
use Rattle.cable_base.specs.declared.numbers.NodeNo.{NodeNo}
use Rattle.cable_json.specs.Texts.{ping_text}
use Rattle.cable_model.specs.declared.lines.Line.{Line}
use Rattle.cable_model.specs.Journal.{Kept, past_of}
use Rattle.cable_model.specs.Legal.{Legal}
use Rattle.cable_model.specs.Possible.{can_take, is_booted, is_out, last_turn}
use Rattle.cable_model.specs.Steps.{Step}
use Rattle.cable_model.specs.Transcript.{conn_line, conn_note, queued}
use Rattle.cable_model.specs.Wants.{lower}
use Rattle.conn_seat.specs.declared.outs.Out.{Out}
use Rattle.conn_seat.specs.declared.outs.Out.TheVariants as out
use Rattle.node_seats.specs.declared.queues.Queued.{Queued}
use Rattle.node_seats.specs.Outboxes.{OutboxesState, forgotten_at, queue_at, taken_at}
use Rattle.node_turns.specs.Held.{AreHeld}
use Rattle.node_seats.specs.declared.turning.Wanted.{Wanted}
use Rattle.node_seats.specs.Numbers.{Numbers, may_take_at}
use Rattle.node_seats.specs.AreSeats.{AreSeats}
use Rattle.poll_turn.specs.Turns.{CursorState, AreMessages}
use Rattle.run_queue.specs.ReadyLists.{AreOnce, has_number}
use Rattle.subscriber_map.specs.HoldMaps.{HoldMap}
use Rattle.node_turns.specs.Wished.{AreWished}
use Rattle.node_core.specs.Journals.{JournalState}

pub record NodeState : Type 0 where
  pub no : NodeNo
  -- the history of all entries, which clauses alone read
  pub kept : Kept
  -- the log that is stored, if one is
  pub stored : Option Kept
  pub outs : OutboxesState
  -- the connections of which a piece can be taken, first in, first out
  pub ready : List ConnNo
  -- the wants that no turn took, each with its confirmation, if one comes with it. The turn that is out takes the first of them
  pub wants : List Wanted

-- the journal of a node
abbrev pub past : NodeState → List Step
past n = past_of n.kept

-- how many of what was queued on c were taken out
abbrev pub taken_out : ℕ → NodeState → ℕ
taken_out c n = taken_at c n.outs

-- c was forgotten: what was kept of its queue and its wants is gone
abbrev pub is_forgotten : ℕ → NodeState → Bool
is_forgotten c n = forgotten_at c n.outs

-- what is queued on c, as a line of it
abbrev pub line_on : ℕ → Out → Line
line_on c (out.Text text) = conn_line c text
line_on c (out.Note n) = conn_note c n

-- what is queued on c is what the journal says, without the first, which were taken out
pub record IsQueued (c : ℕ) (past : List Step) (outs : OutboxesState) : Type 0 where
  pub within : taken_at c outs ≤ length (queued c past)
  pub left : map (line_on c) (queue_at c outs) ≡ drop (taken_at c outs) (queued c past)

-- so on each connection
abbrev pub AreQueued : List Step → OutboxesState → Type 0
AreQueued past outs = (c : ℕ) → IsQueued c past outs

-- where the listener stands is what the journal says
pub record IsAt (past : List Step) (cursor : CursorState) : Type 0 where
  pub lower_is : cursor.lower.0 ≡ lower past
  pub turns : cursor.turns ≡ last_turn past
  pub out : cursor.is_out ≡ is_out past

-- the rows that turns brought have payloads of squeezed JSON
abbrev pub BringsMessages : List Step → Type 0
BringsMessages [] = Unit {0}
BringsMessages (Step.Deliver turn note ∷ past) = AreMessages note.rows × BringsMessages past
BringsMessages (_ ∷ past) = BringsMessages past

-- while a turn is out there is room for the entry of its Deliver
pub record HasTurnRoom (past : List Step) (journal : JournalState) : Type 0 where
  pub room : is_out past ≡ true → 0 < journal.spare

-- what a node keeps stands for this journal, but that of a forgotten connection it keeps no want
pub record Stands (past : List Step) (seats : Numbers) (outs : OutboxesState) (cursor : CursorState) (holds : HoldMap) (wants : List Wanted) (taken : ℕ)
    : Type 0 where
  pub booted : is_booted past ≡ true
  pub legal : Legal past
  pub messages : BringsMessages past
  pub numbers : AreSeats past seats
  pub queues : AreQueued past outs
  pub listens : IsAt past cursor
  pub held : AreHeld past holds
  pub wished : AreWished past (λ c. forgotten_at c outs) wants taken

-- the ready ones are exactly those of which a piece may be taken
abbrev pub AreReady : Numbers → List ConnNo → Type 0
AreReady v ready = (c : ConnNo) → has_number c ready ≡ may_take_at c.0 v

-- .. as the journal says: those of which a piece can be taken, and no other, each once
pub record HasReady (n : NodeState) : Type 0 where
  pub each : (c : ConnNo) → has_number c n.ready ≡ can_take c.0 (past n)
  pub once : AreOnce n.ready

-- nothing was taken out
abbrev pub TakesNone : NodeState → NodeState → Type 0
TakesNone old new = (c : ℕ) → taken_out c new ≡ taken_out c old

-- none was forgotten, and each that was still is
abbrev pub ForgetsNone : NodeState → NodeState → Type 0
ForgetsNone old new = (c : ℕ) → is_forgotten c new ≡ is_forgotten c old

-- those that stay ready stay in their order, in front of those that become ready
abbrev pub ServedInOrder : NodeState → NodeState → Type 0
ServedInOrder old new = (more : List ConnNo) × (new.ready ≡ filter (λ (c : ConnNo). can_take c.0 (past new)) old.ready ++ more)

-- more entries behind the others
abbrev pub joined : Kept → Kept → Kept
joined more k = record { log = k.log ++ more.log; beside = k.beside ++ more.beside }

-- what the history gained, the log gained that is stored, and nothing else
pub record Logs (old new : NodeState) : Type 0 where
  pub more : Kept
  pub history : new.kept ≡ joined more old.kept
  pub log : new.stored ≡ option_map (joined more) old.stored

-- what each call keeps, whatever it enters
pub record GoesOn (old new : NodeState) : Type 0 where
  pub logged : Logs old new
  pub taken : TakesNone old new
  pub forgotten : ForgetsNone old new
  pub served : ServedInOrder old new

-- nothing happened: the journal is as before, nothing was taken out, none was forgotten, and the same are ready
pub record ReadsSame (old new : NodeState) : Type 0 where
  pub kept : new.kept ≡ old.kept
  pub stored : new.stored ≡ old.stored
  pub taken : TakesNone old new
  pub forgotten : ForgetsNone old new
  pub ready : new.ready ≡ old.ready

-- a ping tells whole seconds
abbrev pub ping_of : (now : ℕ) → ConnNo → Queued
ping_of now conn = record { conn = conn; out = out.Text (ping_text (now / 1000)) }
