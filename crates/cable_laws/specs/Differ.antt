-- What differs on a connection: its subscriptions, the streams of each, and the numbers of all.
use Rattle.std.specs.Prelude.{ℕ, ◌==◌, List, map, flat_map, bytes_eq}
use Rattle.std.specs.List.{AllByRecursion, IsDistinct}
use Rattle.cable_model.specs.declared.events.Event.{Event}
use Rattle.cable_model.specs.Connection.{Want, Sub, Conn}
use Rattle.cable_model.specs.Pieces.{seat}
use Rattle.cable_model.specs.Plans.{names_of}
use Rattle.cable_model.specs.History.{Rules, start, run}

-- no two of these numbers are equal
abbrev pub AreDistinct : List ℕ → Type 0
AreDistinct numbers = IsDistinct (λ m n. m == n) numbers

-- no two of these texts are equal
abbrev pub AreDistinctTexts : List (List ℕ) → Type 0
AreDistinctTexts texts = IsDistinct bytes_eq texts

abbrev pub identifiers : List Sub → List (List ℕ)
identifiers subs = map (λ s. s.identifier) subs

abbrev pub sub_numbers : List Sub → List ℕ
sub_numbers subs = map (λ s. s.number) subs

abbrev pub numbers_of : List Want → List ℕ
numbers_of wants = map (λ w. w.number) wants

-- the numbers of all wants of these subscriptions
abbrev pub want_numbers : List Sub → List ℕ
want_numbers subs = flat_map (λ s. numbers_of s.wants) subs

-- what differs on a connection
pub record Differ (k : Conn) : Type 0 where
  -- no two subscriptions have one identifier
  pub identifiers : AreDistinctTexts (identifiers k.subs)
  -- nor one number
  pub numbers : AreDistinct (sub_numbers k.subs)
  -- no subscription wants one stream twice
  pub streams : AllByRecursion (λ (s : Sub). AreDistinctTexts (names_of s.wants)) k.subs
  -- and no two of all wants have one number
  pub wants : AreDistinct (want_numbers k.subs)

-- of each connection of each node
abbrev pub AllDiffer : Rules → List Event → Type 0
AllDiffer r events = (n c : ℕ) → Differ (seat c ((run r start events).nodes n)).conn
