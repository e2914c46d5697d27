-- The room that a change needs, so that making it takes no memory.
use Rattle.std.specs.Prelude.{◌≡◌, ⊤, ℕ, ◌<◌, ◌≤◌, true, List, [], ◌∷◌, length, Option, None, Some}
use Rattle.std.specs.Str.{bytes_eq}
use Rattle.stream_set.specs.Streams.{Streams}
use Rattle.cable_model.specs.declared.plans.Change.{Change}
use Rattle.cable_model.specs.declared.plans.Change.TheVariants as change
use Rattle.conn_core.specs.Subscriptions.{SubParts}
use Rattle.conn_core.specs.declared.keeping.Kept.{Kept}

-- the subscription of this identifier has room for so many more streams
abbrev pub HasRoom : List ℕ → ℕ → List SubParts → Type 0
HasRoom identifier more [] = ⊤
HasRoom identifier more (s ∷ subs) = (bytes_eq s.identifier identifier ≡ true → more ≤ s.streams.spare) × HasRoom identifier more subs

-- there is room for the change: a set for a new subscription's streams, a place for it, or a place for each new stream of a subscription
abbrev pub HasRoomFor : Change → Streams → List SubParts → (count capacity : ℕ) → Type 0
HasRoomFor change.Nothing room subs count capacity = ⊤
HasRoomFor (change.Add identifier streams) room subs count capacity = (room.entries ≡ []) × (length streams ≤ room.spare) × (count < capacity)
HasRoomFor (change.Streams identifier stops streams) room subs count capacity = HasRoom identifier (length streams) subs
HasRoomFor (change.Remove identifier) room subs count capacity = ⊤
HasRoomFor change.Close room subs count capacity = ⊤

abbrev pub IsRoomKept : Option Kept → List SubParts → (count capacity : ℕ) → Type 0
IsRoomKept None subs count capacity = ⊤
IsRoomKept (Some kept) subs count capacity = HasRoomFor kept.change kept.room subs count capacity
