-- What writing met.
use Rattle.std.specs.Prelude.{◌≡◌, ℕ, List, ◌++◌, Option, Result, Ok, Err}
use Rattle.std.specs.Io.KnownBytes.{Appends}
use Rattle.cable_base.specs.declared.faults.Trouble.{Trouble}
use Rattle.cable_base.specs.declared.faults.Trouble.TheVariants as trouble
use Rattle.cable_base.specs.Causes.{Rose}

-- the sink before and behind a call: what it took, and its count of faults
pub record Writing : Type 0 where
  pub taken : Option (List ℕ)
  pub taken_behind : Option (List ℕ)
  pub faults : ℕ
  pub faults_behind : ℕ

-- the same of a sink that tells these two of itself
abbrev pub writing_of : {K : Type 0} → (taken : K → Option (List ℕ)) → (faults : K → ℕ) → (old new : K) → Writing
writing_of taken faults old new = record { taken = taken old; taken_behind = taken new; faults = faults old; faults_behind = faults new }

-- the sink took these bytes in the call
abbrev pub Took : Writing → List ℕ → Type 0
Took w bytes = Appends w.taken w.taken_behind bytes

-- it is the beginning of the whole
abbrev pub IsFront : List ℕ → List ℕ → Type 0
IsFront front whole = (rest : List ℕ) × (front ++ rest ≡ whole)

-- all of the bytes were written, or a front of them
abbrev pub Writes : Writing → (bytes : List ℕ) → Result (Unit {0}) Trouble → Type 0
Writes w bytes (Ok u) = Took w bytes
Writes w bytes (Err trouble.Failed) = (front : List ℕ) × Took w front × IsFront front bytes × Rose w.faults w.faults_behind
Writes w bytes (Err trouble.OutOfMemory) = (front : List ℕ) × Took w front × IsFront front bytes
