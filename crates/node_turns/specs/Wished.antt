-- The wants of a node's connections that turns are to take, as its journal has them.
use Rattle.std.specs.Prelude.{◌≡◌, ◌==◌, ◌+◌, ◌≤◌, length, ℕ, suc, Bool, true, false, cond, List, [], ◌∷◌, ◌++◌, take, drop, Option, None, Some, find}
use Rattle.std.specs.Prelude.{option_map, unwrap_or, bytes_eq}
use Rattle.cable_model.specs.Connection.{Sub}
use Rattle.cable_model.specs.declared.plans.Change.{Change}
use Rattle.cable_model.specs.declared.plans.Change.TheVariants as change
use Rattle.cable_model.specs.Pieces.{seat}
use Rattle.cable_model.specs.Possible.{is_out, is_over}
use Rattle.cable_model.specs.Steps.{Step}
use Rattle.cable_model.specs.Wants.{Mark, marks, made, at_ask}
use Rattle.node_seats.specs.declared.turning.Wanted.{Wanted}
use Rattle.node_seats.specs.Turned.{wanted_by}

-- a want of c
abbrev pub wanted_as : (c s w : ℕ) → (confirms : Bool) → Wanted
wanted_as c s w confirms = record { conn = record { 0 = c }; sub = record { 0 = s }; want = record { 0 = w }; confirms = confirms }

-- wants of the subscription s of c for these names, numbered above n. The confirmation is due with the first, if with any
abbrev pub wanted_above : (c s n : ℕ) → (confirms : Bool) → List (List ℕ) → List Wanted
wanted_above c s n confirms [] = []
wanted_above c s n confirms (name ∷ names) = wanted_as c s (n + 1) confirms ∷ wanted_above c s (n + 1) false names

-- the number of the subscription of this identifier
abbrev pub number_named : (identifier : List ℕ) → List Sub → ℕ
number_named identifier subs = unwrap_or (option_map (λ (s : Sub). s.number) (find (λ (s : Sub). bytes_eq s.identifier identifier) subs)) 0

-- the wants that a change makes on c, where its piece stands at this place, these subscriptions stand, and n wants were made before
abbrev pub wanted_with : (c place n : ℕ) → List Sub → Change → List Wanted
wanted_with c place n subs change.Nothing = []
wanted_with c place n subs (change.Add identifier streams) = wanted_above c place n true streams
wanted_with c place n subs (change.Streams identifier stops streams) = wanted_above c (number_named identifier subs) n false streams
wanted_with c place n subs (change.Remove identifier) = []
wanted_with c place n subs change.Close = []

-- a connection's own want, where it was opened with a user
abbrev pub own_wanted : ℕ → (user : Option (List ℕ)) → List Wanted
own_wanted c None = []
own_wanted c (Some user) = wanted_as c 0 0 false ∷ []

-- all wants that c ever made, in order: so the one numbered w is the w-th behind its own, which is number 0
abbrev pub wants_of : ℕ → List Step → List Wanted
wants_of c [] = []
wants_of c (Step.Open d token user ∷ past) = cond (d == c) (own_wanted c user) (wants_of c past)
wants_of c (Step.Finish d puts plan ∷ past) =
    cond (d == c) (wants_of c past ++ wanted_with c (seat c past).taken (made c past) (seat c past).conn.subs plan.change) (wants_of c past)
wants_of c (_ ∷ past) = wants_of c past

-- how many of the wants of a connection these turns took: the last of them found the most
abbrev pub taken_count : List Mark → ℕ
taken_count [] = 0
taken_count (t ∷ []) = suc t.seen
taken_count (t ∷ u ∷ ts) = taken_count (u ∷ ts)

-- the wants of c that no turn took that wasn't missed
abbrev pub untaken : ℕ → List Step → List Wanted
untaken c past = drop (taken_count (marks c past)) (wants_of c past)

-- those of them that the turn out found made at its Ask
abbrev pub found_made : ℕ → List Step → List Wanted
found_made c past = drop (taken_count (marks c past)) (wants_of c (at_ask past))

-- a list of wants, the first `taken` of which the turn out takes, is what the journal says of each connection. Of those that are gone, each of
-- which is over, it has none
pub record AreWished (past : List Step) (gone : ℕ → Bool) (wants : List Wanted) (taken : ℕ) : Type 0 where
  pub over : (c : ℕ) → gone c ≡ true → is_over c past ≡ true
  pub within : taken ≤ length wants
  pub all : (c : ℕ) → wanted_by c wants ≡ cond (gone c) [] (untaken c past)
  pub out : is_out past ≡ true → (c : ℕ) → wanted_by c (take taken wants) ≡ cond (gone c) [] (found_made c past)
  pub none : is_out past ≡ false → taken ≡ 0

-- an entry that makes no want and is none of a turn
abbrev pub is_plain : Step → Bool
is_plain (Step.Boot last) = false
is_plain (Step.Open c token user) = false
is_plain (Step.In c text) = true
is_plain (Step.Drop c) = true
is_plain Step.Stop = true
is_plain (Step.Take c) = true
is_plain (Step.Finish c puts plan) = false
is_plain (Step.Ask turn) = false
is_plain (Step.Deliver turn note) = false
is_plain (Step.Beat now) = true
