-- Items that are found by their names.
use Rattle.std.specs.Prelude.{◌≡◌, ℕ, Bool, List, [], ◌∷◌, ◌++◌, Option, Some, None, String, bytes_eq, if◌then◌else◌}
use Rattle.std.specs.List.{list_any, position_from}
use Rattle.std.specs.Option.{option_or}
use Rattle.std.specs.HashMap.{HashMap, get_by_text}

-- the item has this name
abbrev pub is_named : {X : Type 0} → (X → List ℕ) → List ℕ → X → Bool
is_named name_of name x = bytes_eq (name_of x) name

-- the first name that stood before
abbrev pub first_repeat : {X : Type 0} → (X → List ℕ) → List X → List X → Option (List ℕ)
first_repeat name_of before [] = None
first_repeat name_of before (x ∷ xs) = if list_any (is_named name_of (name_of x)) before then Some (name_of x) else first_repeat name_of (before ++ x ∷ []) xs

-- the index gives the first place of each name
abbrev pub IsIndex : {X Y S : Type 0} → (X → List ℕ) → HashMap (String Y) ℕ S → List X → Type 0
IsIndex name_of places xs = (q : List ℕ) → get_by_text places q ≡ position_from (is_named name_of q) 0 xs

-- the index gives the first place of each name of the items so far, behind which i and these stand
abbrev pub IndexesSoFar : {X Y S : Type 0} → (X → List ℕ) → HashMap (String Y) ℕ S → ℕ → List X → List X → Type 0
IndexesSoFar name_of places i rest xs = (q : List ℕ) → option_or (get_by_text places q) (position_from (is_named name_of q) i rest) ≡ position_from (is_named name_of q) 0 xs
