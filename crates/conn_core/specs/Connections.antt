-- One connection as its calls show it, and what the change of a plan makes of it.
use Rattle.std.specs.Prelude.{◌≡◌, ⊤, ℕ, ◌+◌, ◌^◌, ◌<◌, ◌≤◌, Bool, true, false, List, [], ◌∷◌, ◌++◌, length, Option}
use Rattle.cable_base.specs.declared.numbers.SubNo.{SubNo}
use Rattle.cable_base.specs.declared.numbers.WantNo.{WantNo}
use Rattle.stream_set.specs.Streams.{Streams}
use Rattle.cable_model.specs.declared.plans.Change.{Change}
use Rattle.cable_model.specs.declared.plans.Change.TheVariants as change
use Rattle.conn_core.specs.Subscriptions.{Subscription, has_identifier, is_subscribed, stopped, AreDifferent, AreNew, WantsBelow, made_now, restreamed, removed}

-- the user, the subscriptions in the order in which they were made, whether it is over, and the change that room was made for
pub record Connection : Type 0 where
  pub user : List ℕ
  pub subs : List Subscription
  pub over : Bool
  pub reserved : Option Change

-- the subscriptions behind a change, where a new one gets this number and new wants are numbered from `first` on
abbrev pub applied : Change → SubNo → WantNo → List Subscription → List Subscription
applied change.Nothing sub first subs = subs
applied (change.Add identifier streams) sub first subs = subs ++ made_now sub identifier first.0 streams ∷ []
applied (change.Streams identifier stops streams) sub first subs = restreamed identifier stops streams first.0 subs
applied (change.Remove identifier) sub first subs = removed identifier subs
applied change.Close sub first subs = []

-- a change that ends the connection
abbrev pub over_behind : Change → Bool → Bool
over_behind change.Nothing over = over
over_behind (change.Add identifier streams) over = over
over_behind (change.Streams identifier stops streams) over = over
over_behind (change.Remove identifier) over = over
over_behind change.Close over = true

-- the connection behind a change. The room that was made is spent
abbrev pub connection_behind : Change → SubNo → WantNo → Connection → Connection
connection_behind c sub first k = record { user = k.user; subs = applied c sub first k.subs; over = over_behind c k.over; reserved = Option.None }

-- the number is above that of each subscription
abbrev pub SubsBelow : SubNo → List Subscription → Type 0
SubsBelow sub [] = ⊤
SubsBelow sub (s ∷ subs) = (s.number.0 < sub.0) × SubsBelow sub subs

-- the number is above that of each want
abbrev pub AllWantsBelow : WantNo → List Subscription → Type 0
AllWantsBelow first [] = ⊤
AllWantsBelow first (s ∷ subs) = WantsBelow first.0 s.streams × AllWantsBelow first subs

-- once the stops are gone, none of the streams is a stream of the subscription
abbrev pub AreNewIn : List ℕ → (stops streams : List (List ℕ)) → List Subscription → Type 0
AreNewIn identifier stops streams [] = ⊤
AreNewIn identifier stops streams (s ∷ subs) = (has_identifier identifier s ≡ true → AreNew streams (stopped stops s.streams)) × AreNewIn identifier stops streams subs

-- a subscription is made: its identifier isn't subscribed
pub record CanAdd (identifier : List ℕ) (streams : List (List ℕ)) (sub : SubNo) (first : WantNo) (subs : List Subscription) : Type 0 where
  pub unsubscribed : is_subscribed identifier subs ≡ false
  pub different : AreDifferent streams
  pub number : SubsBelow sub subs
  pub wants : AllWantsBelow first subs
  pub fits : first.0 + length streams ≤ 2 ^ 64

-- streams of a subscription change: its identifier is subscribed
pub record CanRestream (identifier : List ℕ) (stops streams : List (List ℕ)) (first : WantNo) (subs : List Subscription) : Type 0 where
  pub subscribed : is_subscribed identifier subs ≡ true
  pub different : AreDifferent streams
  pub new : AreNewIn identifier stops streams subs
  pub wants : AllWantsBelow first subs
  pub fits : first.0 + length streams ≤ 2 ^ 64

-- when a change can be made with these numbers
abbrev pub CanApply : Change → SubNo → WantNo → List Subscription → Type 0
CanApply change.Nothing sub first subs = ⊤
CanApply (change.Add identifier streams) sub first subs = CanAdd identifier streams sub first subs
CanApply (change.Streams identifier stops streams) sub first subs = CanRestream identifier stops streams first subs
CanApply (change.Remove identifier) sub first subs = ⊤
CanApply change.Close sub first subs = ⊤

-- an empty set with room for the streams of the subscription that a change makes
abbrev pub HasSetFor : Change → Streams → Type 0
HasSetFor change.Nothing room = ⊤
HasSetFor (change.Add identifier streams) room = (room.entries ≡ []) × (length streams ≤ room.spare)
HasSetFor (change.Streams identifier stops streams) room = ⊤
HasSetFor (change.Remove identifier) room = ⊤
HasSetFor change.Close room = ⊤
