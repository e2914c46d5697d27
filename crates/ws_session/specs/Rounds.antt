-- Calls of a pump, one after the other: what became of the texts in all of them.
use Rattle.std.specs.Prelude.{◌≡◌, ℕ, cond, List, [], ◌∷◌, ◌++◌, flat_map, Option, None, Some, Result, Ok}
use Rattle.cable_base.specs.declared.numbers.ConnNo.{ConnNo}
use Rattle.cable_link.specs.Links.{taken_by}
use Rattle.cable_link.specs.declared.links.Came.{Came}
use Rattle.cable_link.specs.declared.links.Came.TheVariants as came
use Rattle.ws_session.specs.declared.outcomes.PumpFault.{PumpFault}
use Rattle.ws_session.specs.declared.outcomes.Pumped.{Pumped}
use Rattle.ws_session.specs.Calls.{Both, Calls}
use Rattle.ws_session.specs.Pumping.{Makes, Offer, Round, is_kept, texts_of}

-- ---- one round

-- the item that the link gave. Quiet is none
abbrev pub items_of : Option Came → List Came
items_of None = []
items_of (Some c) = taken_by (Ok c)

-- the texts among the items
abbrev pub texts_in : List Came → List (List ℕ)
texts_in [] = []
texts_in (came.Text text ∷ items) = text ∷ texts_in items
texts_in (came.Binary ∷ items) = texts_in items
texts_in (came.Closed ∷ items) = texts_in items
texts_in (came.Quiet ∷ items) = texts_in items

-- an offered text that isn't kept has its answer: it was taken, or refused for good
abbrev pub settled_by : Option Offer → List (List ℕ)
settled_by None = []
settled_by (Some o) = cond (is_kept o.answer) [] (o.text ∷ [])

-- what the link gave, the texts among it, the offered text where it has its answer, and the texts said
abbrev pub came_in : Round → List Came
came_in r = items_of r.given

abbrev pub given_in : Round → List (List ℕ)
given_in r = texts_in (items_of r.given)

abbrev pub settled_in : Round → List (List ℕ)
settled_in r = settled_by r.offer

abbrev pub said_in : Round → List (List ℕ)
said_in r = texts_of r.outs

-- ---- rounds

-- calls with these rounds, on one link and with one text kept from each to the next. Between two calls the desk is used by others, so
abbrev pub PumpsOn : {L D : Type 0} → (t : Calls L D) → (between : D → D → Type 0) → ConnNo → (kept : Option (List ℕ)) → (old : Both L D) → List Round
    → (kept' : Option (List ℕ)) → (new : Both L D) → Type 0
PumpsOn t between conn kept old [] kept' new = (kept' ≡ kept) × (new.link ≡ old.link) × between old.desk new.desk
PumpsOn {L} {D} t between conn kept old (r ∷ rs) kept' new =
    (start : D) × (answer : Result Pumped PumpFault) × (k : Option (List ℕ)) × (mid : Both L D) × between old.desk start
    × Makes t conn kept (record { link = old.link; desk = start }) r answer k mid × PumpsOn t between conn k mid rs kept' new

-- .. in any way
abbrev pub AnyUse : {D : Type 0} → D → D → Type 0
AnyUse old new = Unit {0}

-- a text that is kept, as a list
abbrev pub as_list : Option (List ℕ) → List (List ℕ)
as_list None = []
as_list (Some text) = text ∷ []

-- where a link tells what is to come, these items came first
abbrev pub CameFirst : (before : Option (List Came)) → List Came → (now : Option (List Came)) → Type 0
CameFirst None items now = Unit {0}
CameFirst (Some before) items None = ⊥
CameFirst (Some before) items (Some now) = before ≡ items ++ now

-- where it tells what was said, these texts were added
abbrev pub SaidMore : (before : Option (List (List ℕ))) → List (List ℕ) → (now : Option (List (List ℕ))) → Type 0
SaidMore None texts now = Unit {0}
SaidMore (Some before) texts None = ⊥
SaidMore (Some before) texts (Some now) = now ≡ before ++ texts

-- the texts that the link gave, behind the one that was kept at first, are those that have their answers, in the same order and each once, and
-- then the one that is kept. What was said is what was taken out of the desk, without what the link refused
pub record PassesOn {L D : Type 0} (t : Calls L D) (kept : Option (List ℕ)) (old : Both L D) (rounds : List Round) (kept' : Option (List ℕ))
    (new : Both L D) : Type 0 where
  pub came : CameFirst (t.link.coming old.link) (flat_map came_in rounds) (t.link.coming new.link)
  pub offered : as_list kept ++ flat_map given_in rounds ≡ flat_map settled_in rounds ++ as_list kept'
  pub said : SaidMore (t.link.said old.link) (flat_map said_in rounds) (t.link.said new.link)
