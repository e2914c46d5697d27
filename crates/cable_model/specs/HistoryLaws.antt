-- What every history keeps, in its own words: of the window of each hold, of the end of a want, of a confirmation.
use Rattle.std.specs.Prelude.{ℕ, ◌≡◌, ◌≤◌, ◌==◌, ⊤, Bool, true, false, cond, ◌&&◌, List, [], ◌∷◌, ◌++◌, filter, Option, None, Some, option_map, is_some, bytes_eq}
use Rattle.std.specs.List.{list_any}
use Rattle.cable_base.specs.declared.numbers.SubNo.{SubNo}
use Rattle.cable_base.specs.declared.rows.Row.{Row}
use Rattle.cable_json.specs.Texts.{confirm_text}
use Rattle.cable_model.specs.declared.events.Event.{Event}
use Rattle.cable_model.specs.declared.pieces.Piece.TheVariants as piece
use Rattle.cable_model.specs.Steps.{Step}
use Rattle.cable_model.specs.declared.plans.Plan.{Plan}
use Rattle.cable_model.specs.declared.plans.Change.TheVariants as change
use Rattle.cable_model.specs.Connection.{Planner, name_of}
use Rattle.cable_model.specs.Plans.{Callbacks, planner}
use Rattle.cable_model.specs.Wants.{made, marks, mark_of, turn_mark, user_of}
use Rattle.cable_model.specs.Pieces.{seat, below}
use Rattle.cable_model.specs.Window.{Reads, found_at, finished, first_reach, job}
use Rattle.cable_model.specs.Promise.{Windows, due_in}
use Rattle.cable_model.specs.Table.{TableStep, commits, last_id, present_at}
use Rattle.cable_model.specs.History.{Rules, World, start, run}

-- ---- the window of a hold

-- the table's last id at the Read of a node's turn
abbrev pub last_at : (node turn : ℕ) → List TableStep → ℕ
last_at n t [] = 0
last_at n t (TableStep.Read node turn note hashes ∷ past) = cond (node == n && turn == t) (last_id past) (last_at n t past)
last_at n t (_ ∷ past) = last_at n t past

abbrev pub first_turn : Option ℕ → Option ℕ → Option ℕ
first_turn None later = later
first_turn (Some t) later = Some t

-- the turn that placed the hold of the want w of c: the first that is delivered, isn't missed, and found the want made at its Ask
abbrev pub placing : (c w : ℕ) → List Step → Option ℕ
placing c w [] = None
placing c w (Step.Deliver turn note ∷ past) = first_turn (placing c w past) (cond (is_some (mark_of w (turn_mark c note past))) (Some turn) None)
placing c w (_ ∷ past) = placing c w past

-- the row was committed after the Read of the turn that placed the hold
abbrev pub is_after_read : (n : ℕ) → List TableStep → (c w : ℕ) → List Step → Row → Bool
is_after_read n table c w past row = below (option_map (λ t. last_at n t table) (placing c w past)) row.id.0

-- whether a row was present at a turn's Read. Which hashes it asked for doesn't matter: those of all names that are held are among them
abbrev pub untrimmed : ℕ → List TableStep → Reads
untrimmed n table = record { present = present_at n table; asked = λ t row. true }

-- what is planned for the commands of a connection: what the callbacks make of them with its user. Without a user it works none
abbrev pub planner_of : Callbacks → Option (List ℕ) → Planner
planner_of c None = λ place k read. change.Nothing
planner_of c (Some user) = planner c user

-- the window of the want w of the subscription s of c, which was opened on the node n: the rows committed after the Read that placed its hold,
-- which the first later turn that reaches them found present, and at whose place the want still stands, under the row's name
abbrev pub hold_window : Rules → World → (n c s w : ℕ) → List Row
hold_window r world n c s w =
    filter
    (λ row. is_after_read n world.table c w (world.nodes n) row
    && found_at (planner_of r.callbacks (user_of c (world.nodes n))) (untrimmed n world.table) c s w row (first_reach c w row.id.0 (world.nodes n)))
    (commits world.table)

-- of each want of each connection of each node
abbrev pub HistoryWindows : Rules → List Event → Type 0
HistoryWindows r events =
    let world = run r start events in
    (n c s w : ℕ) → Windows (planner_of r.callbacks (user_of c (world.nodes n))) (hold_window r world n c s w) c s w (world.nodes n)

-- ---- the end of a want

-- a want that was made and no longer stands has ended: whatever happens then, no further row is finished for it
abbrev pub NoneAfterEnd : Rules → (before after : List Event) → Type 0
NoneAfterEnd r before after =
    let world = run r start before in
    (n c s w : ℕ) → w ≤ made c (world.nodes n) → name_of s w (seat c (world.nodes n)).conn ≡ None
    → finished c s w ((run r start (before ++ after)).nodes n) ≡ finished c s w (world.nodes n)

-- ---- confirmations

-- the text is among these
abbrev pub is_said : List ℕ → List (List ℕ) → Bool
is_said text texts = list_any (λ t. bytes_eq t text) texts

-- a Subscribe that makes a want doesn't say its confirmation
abbrev pub WaitsForConfirm : Plan → Type 0
WaitsForConfirm plan = (identifier name : List ℕ) (names : List (List ℕ)) → plan.change ≡ change.Add identifier (name ∷ names) → is_said (confirm_text identifier) plan.texts ≡ false

-- where the job that ends is a confirmation, its subscription stands, its Subscribe made a want, and the turn that took the first of its wants was delivered before
abbrev pub IsConfirmedBehind : (c : ℕ) → List Step → Type 0
IsConfirmedBehind c past =
    (sub : SubNo) → job (seat c past) ≡ Some (piece.Confirm sub)
    → (first : ℕ) × (due_in sub.0 (seat c past).conn.subs ≡ Some (Some first)) × (is_some (mark_of first (marks c past)) ≡ true)

abbrev pub ConfirmsLater : ℕ → Step → List Step → Type 0
ConfirmsLater c (Step.Finish d puts plan) past = d ≡ c → WaitsForConfirm plan × IsConfirmedBehind c past
ConfirmsLater c _ past = ⊤

abbrev pub AllConfirmLater : ℕ → List Step → Type 0
AllConfirmLater c [] = ⊤
AllConfirmLater c (e ∷ past) = ConfirmsLater c e past × AllConfirmLater c past

-- a subscription whose Subscribe makes a want isn't confirmed at once, and its confirmation is finished behind the Deliver of the turn that took it
abbrev pub ConfirmsBehindDeliver : Rules → List Event → Type 0
ConfirmsBehindDeliver r events = (n c : ℕ) → AllConfirmLater c ((run r start events).nodes n)
