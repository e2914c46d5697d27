-- What a slot of the map from numbers keeps: the connection as `Numbers` has it, and what is queued on it.
use Rattle.std.specs.Prelude.{ℕ, List, map}
use Rattle.conn_seat.specs.Outboxes.{OutboxState, forgotten_after}
use Rattle.node_seats.specs.declared.slots.Slot.{Slot}
use Rattle.node_seats.specs.declared.slots.Slot.TheVariants as slot
use Rattle.node_seats.specs.Numbers.{Numbers, Opened}

abbrev pub opened_of : Slot → Opened
opened_of (slot.Live live) = Opened.Live live.value.seat
opened_of (slot.Over outbox) = Opened.Over
opened_of (slot.Forgotten taken) = Opened.Over

abbrev pub outbox_of : Slot → OutboxState
outbox_of (slot.Live live) = live.value.outbox.value
outbox_of (slot.Over outbox) = outbox.value
outbox_of (slot.Forgotten taken) = forgotten_after taken

-- the connections of the map
abbrev pub numbers_of : List (ℕ × Slot) → Numbers
numbers_of slots = map (λ (e : ℕ × Slot). (e.0, opened_of e.1)) slots

-- what is queued on them
abbrev pub outboxes_of : List (ℕ × Slot) → List (ℕ × OutboxState)
outboxes_of slots = map (λ (e : ℕ × Slot). (e.0, outbox_of e.1)) slots
