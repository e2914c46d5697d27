-- Lists: what stands in them, what stands in them twice, and the items of a JSON array.
use Rattle.std.specs.Prelude.{◌≡◌, ℕ, List, [], ◌∷◌, ◌++◌}
use Rattle.std.specs.List.{AllByRecursion}
use Rattle.serde_json.specs.Data.{Data, Items, no_items, item}

-- x is one of these
abbrev pub IsAmong : {X : Type 0} → List X → X → Type 0
IsAmong {X} xs x = (before : List X) × (after : List X) × (xs ≡ before ++ x ∷ after)

-- no name stands twice
abbrev pub AreDistinct : List (List ℕ) → Type 0
AreDistinct names = (before after : List (List ℕ)) (name : List ℕ) → names ≡ before ++ name ∷ after → ¬ IsAmong before name

-- the items of an array are these, in order
abbrev pub AreItems : {X : Type 0} → (Data → X → Type 0) → Items → List X → Type 0
AreItems Is no_items [] = Unit {0}
AreItems Is no_items (x ∷ xs) = ⊥
AreItems Is (item d ds) [] = ⊥
AreItems Is (item d ds) (x ∷ xs) = Is d x × AreItems Is ds xs

-- x is the first of these that is bad: those before it are good
pub record IsFirst {X : Type 0} (Good Bad : X → Type 0) (xs : List X) (x : X) : Type 0 where
  pub before : List X
  pub after : List X
  pub split : xs ≡ before ++ x ∷ after
  pub good : AllByRecursion Good before
  pub bad : Bad x
