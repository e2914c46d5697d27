-- What the calls of a link do to what is to come and to what was said, where a link tells them.
use Rattle.std.specs.Prelude.{◌≡◌, ℕ, List, [], ◌∷◌, ◌++◌, Option, Some, None, Result, Ok, Err}
use Rattle.cable_base.specs.declared.faults.Trouble.{Trouble}
use Rattle.cable_link.specs.declared.links.Came.{Came}
use Rattle.cable_link.specs.declared.links.Came.TheVariants as came

-- what an answer of `next` took: an item, but where it is quiet or refused
abbrev pub taken_by : Result Came Trouble → List Came
taken_by (Ok (came.Text t)) = came.Text t ∷ []
taken_by (Ok came.Binary) = came.Binary ∷ []
taken_by (Ok came.Closed) = came.Closed ∷ []
taken_by (Ok came.Quiet) = []
taken_by (Err _) = []

-- what an answer of `say` added: the text, but where it is refused
abbrev pub added_by : List ℕ → Result (Unit {0}) Trouble → List (List ℕ)
added_by text (Ok _) = text ∷ []
added_by text (Err _) = []

-- what was to come is what the answer took, and then what is to come now
abbrev pub Comes : Option (List Came) → Option (List Came) → Result Came Trouble → Type 0
Comes None now result = Unit {0}
Comes (Some before) None result = ⊥
Comes (Some before) (Some now) result = before ≡ taken_by result ++ now

-- what was said is what was said before, and then what the answer added
abbrev pub Adds : Option (List (List ℕ)) → Option (List (List ℕ)) → List ℕ → Result (Unit {0}) Trouble → Type 0
Adds None now text result = Unit {0}
Adds (Some before) None text result = ⊥
Adds (Some before) (Some now) text result = now ≡ before ++ added_by text result
