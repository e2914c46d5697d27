-- The numbers that were opened on a node, and what each call makes of them.
use Rattle.std.specs.Prelude.{◌≡◌, ◌≤◌, ◌<◌, ◌+◌, ◌-◌, ◌^◌, ⊤, ℕ, Bool, true, false, cond, List, [], ◌∷◌, Option, None, Some, sum_by}
use Rattle.std.specs.Ordering.{nat_cmp}
use Rattle.std.specs.List.{AllByRecursion}
use Rattle.std.specs.List.Sorted.{IsStrictlySortedBy}
use Rattle.std.specs.Map.{lookup, set_value, keys_of, values_of}
use Rattle.std.specs.BTreeMap.{is_at, insert_entry}
use Rattle.cable_base.specs.declared.numbers.ConnNo.{ConnNo}
use Rattle.cable_model.specs.declared.plans.Change.{Change}
use Rattle.cable_model.specs.declared.pieces.Piece.TheVariants as piece
use Rattle.cable_model.specs.Wants.{makes}
use Rattle.node_seats.specs.Outboxes.{OutboxesState}
use Rattle.conn_seat.specs.Seats.{Seated, Becomes, is_receiving_now, may_take_now, with_piece, with_change}

-- what is kept of a number that was opened: its connection while it is live
pub data Opened : Type 0 where
  Live : (seat : Seated) → Opened
  Over : Opened

-- the numbers that were opened, each with what is kept of it
abbrev pub Numbers : Type 0
Numbers = List (ℕ × Opened)

-- .. and what is queued on each
pub record NodeSeats : Type 0 where
  pub entries : Numbers
  pub outs : OutboxesState

-- what is kept of the number, where it was opened
abbrev pub opened_at : ℕ → Numbers → Option Opened
opened_at c v = lookup (is_at (nat_cmp c)) v

abbrev pub seat_in : Option Opened → Option Seated
seat_in None = None
seat_in (Some (Opened.Live seat)) = Some seat
seat_in (Some Opened.Over) = None

-- the connection of this number, where it is live
abbrev pub seat_at : ℕ → Numbers → Option Seated
seat_at c v = seat_in (opened_at c v)

abbrev pub is_over_in : Option Opened → Bool
is_over_in None = false
is_over_in (Some (Opened.Live seat)) = false
is_over_in (Some Opened.Over) = true

-- the number was opened and is no longer live
abbrev pub is_over_at : ℕ → Numbers → Bool
is_over_at c v = is_over_in (opened_at c v)

abbrev pub may_take_in : Option Seated → Bool
may_take_in None = false
may_take_in (Some seat) = may_take_now seat

-- the number is live, and a piece of it may be taken
abbrev pub may_take_at : ℕ → Numbers → Bool
may_take_at c v = may_take_in (seat_at c v)

-- how many live connections it is
abbrev pub weight : Opened → ℕ
weight (Opened.Live seat) = 1
weight Opened.Over = 0

abbrev pub live_among : Numbers → ℕ
live_among v = sum_by weight (values_of v)

-- the numbers rise
abbrev pub Rising : Numbers → Type 0
Rising v = IsStrictlySortedBy nat_cmp (keys_of v)

abbrev pub is_receiving_in : Opened → Bool
is_receiving_in (Opened.Live seat) = is_receiving_now seat
is_receiving_in Opened.Over = false

abbrev pub is_receiving_among : Option Opened → Bool
is_receiving_among None = false
is_receiving_among (Some o) = is_receiving_in o

-- the number is live and not closing
abbrev pub is_receiving_at : ℕ → Numbers → Bool
is_receiving_at c v = is_receiving_among (opened_at c v)

-- the numbers of those that are live and not closing
abbrev pub receiving_among : Numbers → List ConnNo
receiving_among [] = []
receiving_among (e ∷ es) = cond (is_receiving_in e.1) (record { 0 = e.0 } ∷ receiving_among es) (receiving_among es)

-- ---- what calls make of them

-- another thing is kept of a number that was opened
abbrev pub with_opened : ℕ → Opened → Numbers → Numbers
with_opened c o v = set_value (is_at (nat_cmp c)) v o

-- a number that wasn't opened is
abbrev pub with_new : ℕ → Opened → Numbers → Numbers
with_new c o v = insert_entry nat_cmp v c o

-- what is kept of this number goes over to another thing by this relation, and all else stays
pub record Moves (c : ℕ) (By : Opened → Opened → Type 0) (v new : Numbers) : Type 0 where
  pub kept : Opened
  pub became : Opened
  pub found : opened_at c v ≡ Some kept
  pub moved : By kept became
  pub now : new ≡ with_opened c became v

-- a live connection becomes another one by this relation
abbrev pub Lives : (Seated → Seated → Type 0) → Opened → Opened → Type 0
Lives By (Opened.Live seat) o = (became : Seated) × By seat became × (o ≡ Opened.Live became)
Lives By Opened.Over o = ⊥

-- the live connection of this number has room for so many more pieces, a closing one among them
abbrev pub HasRoomIn : ℕ → Option Seated → Type 0
HasRoomIn more None = ⊤
HasRoomIn more (Some seat) = more ≤ seat.spare

abbrev pub HasRoomAt : ℕ → ℕ → Numbers → Type 0
HasRoomAt c more v = HasRoomIn more (seat_at c v)

-- room was made for so many pieces
pub record Widens (more : ℕ) (v new : Seated) : Type 0 where
  pub same : Becomes v new
  pub room : more ≤ new.spare

-- room was made for the change of a plan
pub record Prepares (change : Change) (v new : Seated) : Type 0 where
  pub now : new ≡ record v { reserved = Some change }
  pub numbers : new.made + makes change < 2 ^ 64 - 1

abbrev pub opened_with : Seated → Opened
opened_with seat = cond seat.over Opened.Over (Opened.Live seat)

-- the change of the job's plan is made. A connection that it ends is over
abbrev pub Finished : Change → Opened → Opened → Type 0
Finished change (Opened.Live seat) o = (became : Seated) × Becomes (with_change change seat) became × (o ≡ opened_with became)
Finished change Opened.Over o = ⊥

-- there is room for a closing piece, where none was put
abbrev pub CanRestart : Opened → Type 0
CanRestart (Opened.Live seat) = seat.closing ≡ false → 0 < seat.spare
CanRestart Opened.Over = ⊤

abbrev pub CanRestartAll : Numbers → Type 0
CanRestartAll v = AllByRecursion (λ (e : ℕ × Opened). CanRestart e.1) v

-- a stop puts its piece on a live connection, which passes it over where it is closing
abbrev pub Restarts : Opened → Opened → Type 0
Restarts (Opened.Live seat) o = (became : Seated) × Becomes (with_piece piece.Restart seat) became × (o ≡ Opened.Live became)
Restarts Opened.Over o = o ≡ Opened.Over

abbrev pub RestartsIn : Option Opened → Option Opened → Type 0
RestartsIn None o = o ≡ None
RestartsIn (Some kept) o = (became : Opened) × Restarts kept became × (o ≡ Some became)

-- so on each
abbrev pub Stops : Numbers → Numbers → Type 0
Stops [] new = new ≡ []
Stops (e ∷ es) new = (o : Opened) × (rest : Numbers) × Restarts e.1 o × Stops es rest × (new ≡ (e.0, o) ∷ rest)

-- so on this number alone, where it was opened
pub record StopsOne (c : ℕ) (v new : Numbers) : Type 0 where
  pub numbers : keys_of new ≡ keys_of v
  pub stopped : RestartsIn (opened_at c v) (opened_at c new)
  pub others : (d : ℕ) → (c ≡ d → ⊥) → opened_at d new ≡ opened_at d v
  pub roomy : CanRestartAll new
