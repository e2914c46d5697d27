-- Reading a book's parts. A part is read, or it breaks the format at a place below it, whose path is told.
use Rattle.std.specs.Prelude.{◌≡◌, ⊤, ℕ, ◌+◌, List, [], ◌∷◌, ◌++◌, decimal, Option, Some, None, Result, Ok, Err}
use Rattle.serde_json.specs.Data.{Data, Items, no_items, item}
use Rattle.serde_json.specs.Find.{as_array}
use Rattle.channel_book.specs.declared.faults.ShapeFault.{ShapeFault}
use Rattle.channel_book.specs.declared.faults.ShapeFault.TheVariants as fault
use Rattle.channel_book.specs.Steps.{◌>>=◌, or_fault}

-- the part breaks the format where it is expected to, unless memory ran out
abbrev pub Breaks : {X : Type 0} → ShapeFault → Result X (List ℕ) → Type 0
Breaks (fault.Broken path) expected = expected ≡ Err path
Breaks fault.OutOfMemory expected = ⊤

-- reading a part gave what is expected, unless memory ran out
abbrev pub ReadsPart : {X : Type 0} → Result X ShapeFault → Result X (List ℕ) → Type 0
ReadsPart (Ok x) expected = expected ≡ Ok x
ReadsPart (Err f) expected = Breaks f expected

-- a part that is there, or else the format is broken here
abbrev pub here : {X : Type 0} → Option X → Result X (List ℕ)
here o = or_fault [] o

-- a part that stands behind this step of the path
unfoldable pub within : {X : Type 0} → List ℕ → Result X (List ℕ) → Result X (List ℕ)
within step (Ok x) = Ok x
within step (Err path) = Err (47 ∷ step ++ path)

-- the items of a list from the i-th on
abbrev pub each : {X : Type 0} → (Data → Result X (List ℕ)) → ℕ → Items → Result (List X) (List ℕ)
each part_of i no_items = Ok []
each part_of i (item d ds) = within (decimal i) (part_of d) >>= λ x. (each part_of (i + 1) ds >>= λ xs. Ok (x ∷ xs))

-- a list of parts. One that is missing is empty.
unfoldable pub list_of : {X : Type 0} → (Data → Result X (List ℕ)) → Option Data → Result (List X) (List ℕ)
list_of part_of None = Ok []
list_of part_of (Some d) = here (as_array d) >>= each part_of 0
