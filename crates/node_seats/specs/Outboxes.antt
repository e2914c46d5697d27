-- What is queued on the connections of a node, by their numbers, until their sessions take it out.
use Rattle.std.specs.Prelude.{◌≡◌, ◌==◌, ◌≤◌, ◌+◌, ℕ, Bool, true, false, List, [], ◌∷◌, ◌++◌, map, filter, length, Option, None, Some, unwrap_or}
use Rattle.std.specs.Ordering.{nat_cmp}
use Rattle.std.specs.Map.{lookup}
use Rattle.std.specs.BTreeMap.{is_at}
use Rattle.cable_base.specs.declared.numbers.ConnNo.{ConnNo}
use Rattle.conn_seat.specs.declared.outs.Out.{Out}
use Rattle.conn_seat.specs.Outboxes.{OutboxState, unused}
use Rattle.node_seats.specs.declared.queues.Queued.{Queued}

-- by number. On a number that isn't there nothing was ever queued
pub record OutboxesState : Type 0 where
  pub entries : List (ℕ × OutboxState)

abbrev pub outbox_at : ℕ → OutboxesState → OutboxState
outbox_at c v = unwrap_or (lookup (is_at (nat_cmp c)) v.entries) unused

-- what is queued on the connection c, in order
abbrev pub queue_at : ℕ → OutboxesState → List Out
queue_at c v = (outbox_at c v).queued

-- how many were taken out on it
abbrev pub taken_at : ℕ → OutboxesState → ℕ
taken_at c v = (outbox_at c v).taken

-- how many more can be queued on it without memory
abbrev pub room_at : ℕ → OutboxesState → ℕ
room_at c v = (outbox_at c v).room

-- it was forgotten
abbrev pub forgotten_at : ℕ → OutboxesState → Bool
forgotten_at c v = (outbox_at c v).forgotten

-- a new outbox has just this
pub record Greets (greeting : Out) (v : OutboxState) : Type 0 where
  pub queued : v.queued ≡ greeting ∷ []
  pub taken : v.taken ≡ 0
  pub forgotten : v.forgotten ≡ false

-- what is queued and was taken out stays, there is no less room, and none is forgotten by it
pub record WidensAll (v new : OutboxesState) : Type 0 where
  pub queue : (c : ℕ) → queue_at c new ≡ queue_at c v
  pub taken : (c : ℕ) → taken_at c new ≡ taken_at c v
  pub room : (c : ℕ) → room_at c v ≤ room_at c new
  pub forgotten : (c : ℕ) → forgotten_at c new ≡ forgotten_at c v

-- ---- several at once

abbrev pub is_on : ℕ → Queued → Bool
is_on c q = q.conn.0 == c

-- what of these is for the connection c, in order
abbrev pub outs_for : ℕ → List Queued → List Out
outs_for c qs = map (λ (q : Queued). q.out) (filter (is_on c) qs)

-- these, all on one connection
abbrev pub all_on : ConnNo → List Out → List Queued
all_on conn outs = map (λ (o : Out). record { conn = conn; out = o }) outs

-- there is room for these
abbrev pub CanQueue : List Queued → OutboxesState → Type 0
CanQueue qs v = (c : ℕ) → length (outs_for c qs) ≤ room_at c v

-- they take up so much of it
abbrev pub Spends : List Queued → OutboxesState → OutboxesState → Type 0
Spends qs v new = (c : ℕ) → room_at c new + length (outs_for c qs) ≡ room_at c v

-- these are queued behind what was
pub record Queues (qs : List Queued) (v new : OutboxesState) : Type 0 where
  pub queue : (c : ℕ) → queue_at c new ≡ queue_at c v ++ outs_for c qs
  pub taken : (c : ℕ) → taken_at c new ≡ taken_at c v
  pub forgotten : (c : ℕ) → forgotten_at c new ≡ forgotten_at c v

-- the first on c was taken out, or there was none
pub record TakesOut (c : ℕ) (out : Option Out) (v new : OutboxesState) : Type 0 where
  pub none : out ≡ None → (queue_at c v ≡ []) × (new ≡ v)
  pub first : (o : Out) → out ≡ Some o → (queue_at c v ≡ o ∷ queue_at c new) × (taken_at c new ≡ taken_at c v + 1)
  pub queue : (d : ℕ) → (d == c) ≡ false → queue_at d new ≡ queue_at d v
  pub taken : (d : ℕ) → (d == c) ≡ false → taken_at d new ≡ taken_at d v
  pub forgotten : (d : ℕ) → forgotten_at d new ≡ forgotten_at d v

-- c is forgotten and no other, and what is queued and how many were taken out stays on all
pub record Forgets (c : ℕ) (v new : OutboxesState) : Type 0 where
  pub forgotten : forgotten_at c new ≡ true
  pub queue : (d : ℕ) → queue_at d new ≡ queue_at d v
  pub taken : (d : ℕ) → taken_at d new ≡ taken_at d v
  pub others : (d : ℕ) → (d == c) ≡ false → forgotten_at d new ≡ forgotten_at d v
