-- The subscriptions of a connection, with their streams and marks.
use Rattle.std.specs.Prelude.{◌≡◌, ⊤, ℕ, ◌+◌, ◌==◌, ◌<◌, Bool, true, false, cond, not, ◌&&◌, List, [], ◌∷◌, ◌++◌, filter, map}
use Rattle.std.specs.List.{list_any}
use Rattle.std.specs.Str.{bytes_eq}
use Rattle.cable_base.specs.declared.numbers.RowId.{RowId}
use Rattle.cable_base.specs.declared.numbers.SubNo.{SubNo}
use Rattle.cable_base.specs.declared.numbers.WantNo.{WantNo}
use Rattle.stream_set.specs.declared.entries.StreamEntry.{StreamEntry}
use Rattle.stream_set.specs.Streams.{Streams, wanted_now, has_name, has_want, waits, placed}
use Rattle.cable_model.specs.Connection.{among}

-- a subscription, its streams with the room for more
pub record SubParts : Type 0 where
  pub number : SubNo
  pub identifier : List ℕ
  pub streams : Streams

-- a subscription as its connection shows it: without that room
pub record Subscription : Type 0 where
  pub number : SubNo
  pub identifier : List ℕ
  pub streams : List StreamEntry

abbrev pub shown : SubParts → Subscription
shown s = record { number = s.number; identifier = s.identifier; streams = s.streams.entries }

abbrev pub has_identifier : List ℕ → Subscription → Bool
has_identifier identifier s = bytes_eq s.identifier identifier

abbrev pub has_number : SubNo → Subscription → Bool
has_number sub s = s.number.0 == sub.0

abbrev pub is_subscribed : List ℕ → List Subscription → Bool
is_subscribed identifier subs = list_any (has_identifier identifier) subs

-- no two subscriptions have one number or one identifier
abbrev pub AreApart : List Subscription → Type 0
AreApart [] = ⊤
AreApart (s ∷ subs) = (list_any (has_number s.number) subs ≡ false) × (is_subscribed s.identifier subs ≡ false) × AreApart subs

-- no want number stands in two subscriptions
abbrev pub WantsApart : List Subscription → Type 0
WantsApart [] = ⊤
WantsApart (s ∷ subs) = ((want : WantNo) → has_want want s.streams ≡ true → list_any (λ t. has_want want t.streams) subs ≡ false) × WantsApart subs

-- ---- streams

-- the names as streams that were just wanted, numbered from this number on
abbrev pub wanted_from : ℕ → List (List ℕ) → List StreamEntry
wanted_from first [] = []
wanted_from first (name ∷ names) = wanted_now name (record { 0 = first }) ∷ wanted_from (first + 1) names

-- the streams without those that stop
abbrev pub stopped : List (List ℕ) → List StreamEntry → List StreamEntry
stopped stops entries = filter (λ e. not (among stops e.name)) entries

-- the names are all different
abbrev pub AreDifferent : List (List ℕ) → Type 0
AreDifferent [] = ⊤
AreDifferent (name ∷ names) = (among names name ≡ false) × AreDifferent names

-- none of the names is one of the streams
abbrev pub AreNew : List (List ℕ) → List StreamEntry → Type 0
AreNew [] entries = ⊤
AreNew (name ∷ names) entries = (has_name name entries ≡ false) × AreNew names entries

-- each of the streams was wanted under a number below this one
abbrev pub WantsBelow : ℕ → List StreamEntry → Type 0
WantsBelow first [] = ⊤
WantsBelow first (e ∷ entries) = (e.want.0 < first) × WantsBelow first entries

-- ---- what calls make of the subscriptions

abbrev pub placed_one : SubNo → WantNo → RowId → Subscription → Subscription
placed_one sub want mark s = cond (has_number sub s) (record s { streams = placed want mark s.streams }) s

-- the mark is given to that want of that subscription, where it has none
abbrev pub placed_in : SubNo → WantNo → RowId → List Subscription → List Subscription
placed_in sub want mark subs = map (placed_one sub want mark) subs

-- that subscription stands and has that want without a mark
abbrev pub waits_in : SubNo → WantNo → List Subscription → Bool
waits_in sub want subs = list_any (λ s. has_number sub s && waits want s.streams) subs

-- a subscription that was just made
abbrev pub made_now : SubNo → List ℕ → ℕ → List (List ℕ) → Subscription
made_now sub identifier first streams = record { number = sub; identifier = identifier; streams = wanted_from first streams }

-- the stops end first, then the streams are wanted
abbrev pub restreamed_one : List ℕ → (stops streams : List (List ℕ)) → ℕ → Subscription → Subscription
restreamed_one identifier stops streams first s =
    cond (has_identifier identifier s) (record s { streams = stopped stops s.streams ++ wanted_from first streams }) s

abbrev pub restreamed : List ℕ → (stops streams : List (List ℕ)) → ℕ → List Subscription → List Subscription
restreamed identifier stops streams first subs = map (restreamed_one identifier stops streams first) subs

-- without the subscription of this identifier
abbrev pub removed : List ℕ → List Subscription → List Subscription
removed identifier subs = filter (λ s. not (has_identifier identifier s)) subs
