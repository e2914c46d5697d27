-- What every history says: its pieces are worked as planned, a finished row is said as a message behind its confirmation, and nothing else confirms.
use Rattle.std.specs.Prelude.{ℕ, ◌≡◌, true, ◌⊎◌, List, [], ◌∷◌, ◌++◌, Option, None, Some}
use Rattle.cable_base.specs.declared.numbers.ConnNo.{ConnNo}
use Rattle.cable_base.specs.declared.numbers.RowId.{RowId}
use Rattle.cable_base.specs.declared.numbers.SubNo.{SubNo}
use Rattle.cable_base.specs.declared.numbers.WantNo.{WantNo}
use Rattle.cable_base.specs.declared.rows.Row.{Row}
use Rattle.cable_json.specs.Texts.{confirm_text, message_text}
use Rattle.cable_model.specs.declared.events.Event.{Event}
use Rattle.cable_model.specs.declared.events.Event.TheVariants as event
use Rattle.cable_model.specs.declared.pieces.Piece.TheVariants as piece
use Rattle.cable_model.specs.declared.plans.Plan.{Plan}
use Rattle.cable_model.specs.declared.plans.Change.TheVariants as change
use Rattle.cable_model.specs.Steps.{Step}
use Rattle.cable_model.specs.Connection.{Sub, Conn}
use Rattle.cable_model.specs.Wants.{user_of}
use Rattle.cable_model.specs.Pieces.{seat}
use Rattle.cable_model.specs.Window.{job}
use Rattle.cable_model.specs.Promise.{AllWorked, due_in}
use Rattle.cable_model.specs.Sequence.{InSequence, InboxKept}
use Rattle.cable_model.specs.History.{Rules, start, run, is_possible, home_of}
use Rattle.cable_model.specs.HistoryLaws.{is_said, planner_of}
use Rattle.cable_model.specs.Journal.{node_journal}
use Rattle.cable_model.specs.Transcript.{conn_line, queued, said}

-- ---- pieces

-- the pieces of each connection of each node are worked one at a time, each as the callbacks plan it for the connection's user.
-- So they are worked in sequence, and the inbox is kept call by call
abbrev pub HistoryWorked : Rules → List Event → Type 0
HistoryWorked r events =
    (n c : ℕ) →
    let past = node_journal r events n in
    let pl = planner_of r.callbacks (user_of c past) in
    AllWorked pl c past × InSequence pl c past × InboxKept c past

-- ---- what a Finish finds

-- a Finish of c that stands in a journal, with what stands before it
pub record FinishIn (c : ℕ) (journal : List Step) : Type 0 where
  pub after : List Step
  pub puts : List (Option RowId)
  pub plan : Plan
  pub past : List Step
  pub splits : journal ≡ after ++ Step.Finish c puts plan ∷ past

-- the subscription with this number stands on the connection, under this identifier
pub record StandsUnder (number : ℕ) (identifier : List ℕ) (k : Conn) : Type 0 where
  pub before : List Sub
  pub sub : Sub
  pub after : List Sub
  pub among : k.subs ≡ before ++ sub ∷ after
  pub numbered : sub.number ≡ number
  pub identified : sub.identifier ≡ identifier

-- ---- messages

-- the plan says exactly this text: no note, no broadcast, and it changes nothing
pub record SaysOnly (text : List ℕ) (plan : Plan) : Type 0 where
  pub texts : plan.texts ≡ text ∷ []
  pub notes : plan.notes ≡ []
  pub casts : plan.casts ≡ []
  pub change_is : plan.change ≡ change.Nothing

-- the payload is said as a message of the subscription with this number, which stands: that text alone, and it is queued on c
pub record IsMessage (c number : ℕ) (payload : List ℕ) (puts : List (Option RowId)) (plan : Plan) (past : List Step) : Type 0 where
  pub identifier : List ℕ
  pub stands : StandsUnder number identifier (seat c past).conn
  pub says : SaysOnly (message_text identifier payload) plan
  pub queues : queued c (Step.Finish c puts plan ∷ past) ≡ queued c past ++ conn_line c (message_text identifier payload) ∷ []

-- each row that is finished is said
abbrev pub RowsAreSaid : Rules → List Event → Type 0
RowsAreSaid r events =
    (n c : ℕ) (f : FinishIn c (node_journal r events n)) (sub : SubNo) (want : WantNo) (row : Row)
    → job (seat c f.past) ≡ Some (piece.Row sub want row) → IsMessage c sub.0 row.payload f.puts f.plan f.past

-- and where an event finishes it, the event says that line, and nothing else
abbrev pub EventsSayRows : Rules → List Event → Type 0
EventsSayRows r events =
    (before after : List Event) (conn : ConnNo) → events ≡ before ++ event.Finish conn ∷ after →
    let world = run r start before in
    let k = seat conn.0 (world.nodes (home_of world conn.0)) in
    is_possible r world (event.Finish conn) ≡ true → (sub : SubNo) (want : WantNo) (row : Row) → job k ≡ Some (piece.Row sub want row)
    → (identifier : List ℕ) × StandsUnder sub.0 identifier k.conn × (said r world (event.Finish conn) ≡ conn_line conn.0 (message_text identifier row.payload) ∷ [])

-- ---- confirmations

-- the subscription was confirmed before: by its Subscribe, which made no want, or by a confirmation that was finished
abbrev pub IsConfirmed : (c : ℕ) → SubNo → List Step → Type 0
IsConfirmed c sub past = (due_in sub.0 (seat c past).conn.subs ≡ Some None) ⊎ ((f : FinishIn c past) × (job (seat c f.past) ≡ Some (piece.Confirm sub)))

-- each row that is finished stands behind the finished confirmation of its subscription
abbrev pub RowsFollowConfirmation : Rules → List Event → Type 0
RowsFollowConfirmation r events =
    (n c : ℕ) (f : FinishIn c (node_journal r events n)) (sub : SubNo) (want : WantNo) (row : Row) → job (seat c f.past) ≡ Some (piece.Row sub want row) → IsConfirmed c sub f.past

-- a Finish of c said the confirmation of the identifier: that of the subscription's own Subscribe, whose place is its number, or that of a confirmation of it
pub record ConfirmationSaid (c : ℕ) (sub : SubNo) (identifier : List ℕ) (past : List Step) : Type 0 where
  pub finish : FinishIn c past
  pub says : is_said (confirm_text identifier) finish.plan.texts ≡ true
  pub piece_is : ((seat c finish.past).taken ≡ sub.0) ⊎ (job (seat c finish.past) ≡ Some (piece.Confirm sub))

-- so a message comes behind the confirmation of the identifier that it is said under
abbrev pub RowsFollowConfirmationText : Rules → List Event → Type 0
RowsFollowConfirmationText r events =
    (n c : ℕ) (f : FinishIn c (node_journal r events n)) (sub : SubNo) (want : WantNo) (row : Row) → job (seat c f.past) ≡ Some (piece.Row sub want row)
    → (identifier : List ℕ) → StandsUnder sub.0 identifier (seat c f.past).conn → ConfirmationSaid c sub identifier f.past

-- what says the confirmation of an identifier: a Subscribe that subscribes it and wants no stream, or a confirmation of the subscription that stands under it
abbrev pub ComesOfConfirmation : (c : ℕ) → (identifier : List ℕ) → Plan → List Step → Type 0
ComesOfConfirmation c identifier plan past =
    (plan.change ≡ change.Add identifier []) ⊎ ((sub : SubNo) × (job (seat c past) ≡ Some (piece.Confirm sub)) × StandsUnder sub.0 identifier (seat c past).conn)

-- no other Finish says it
abbrev pub ConfirmationsComeOfConfirmations : Rules → List Event → Type 0
ConfirmationsComeOfConfirmations r events =
    (n c : ℕ) (f : FinishIn c (node_journal r events n)) (identifier : List ℕ) → is_said (confirm_text identifier) f.plan.texts ≡ true → ComesOfConfirmation c identifier f.plan f.past
