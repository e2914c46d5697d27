-- The log of a node: a list that grows.
use Rattle.std.specs.Prelude.{◌≡◌, ◌≤◌, ◌<◌, ◌+◌, ℕ, Bool, not, cond, List, [], ◌∷◌, ◌++◌, filter}
use Rattle.std.specs.List.{list_any}
use Rattle.cable_base.specs.declared.numbers.ConnNo.{ConnNo}
use Rattle.cable_model.specs.declared.journals.Beside.{Beside}
use Rattle.cable_model.specs.declared.journals.Beside.TheVariants as beside
use Rattle.cable_model.specs.declared.journals.Entry.{Entry}
use Rattle.cable_model.specs.Journal.{Kept, is_of, step_of}

-- the entries in order, and how many more can be pushed without memory
pub record Log : Type 0 where
  pub entries : List Entry
  pub spare : ℕ

-- there is room for so many more, and never less than before
pub record MakesRoom (more : ℕ) (old new : Log) : Type 0 where
  pub entries : new.entries ≡ old.entries
  pub room : more ≤ new.spare
  pub spare : old.spare ≤ new.spare

-- an entry is put at the end, and takes one of what room there was
pub record Appends (entry : Entry) (old new : Log) : Type 0 where
  pub entries : new.entries ≡ old.entries ++ entry ∷ []
  pub spare : 0 < old.spare → new.spare + 1 ≡ old.spare

-- ---- a log without the entries of connections

-- whether an entry is of this connection, whatever is kept beside it
abbrev pub is_entry_of : ℕ → Entry → Bool
is_entry_of c e = is_of c (step_of e beside.Nothing)

-- .. of one of these
abbrev pub is_among : List ConnNo → Entry → Bool
is_among conns e = list_any (λ (c : ConnNo). is_entry_of c.0 e) conns

-- the entries that are of none of these connections, in order
abbrev pub left_of : List ConnNo → List Entry → List Entry
left_of conns entries = filter (λ e. not (is_among conns e)) entries

-- what is kept beside them
abbrev pub beside_left : ℕ → List Entry → List Beside → List Beside
beside_left c [] bs = []
beside_left c (e ∷ es) [] = []
beside_left c (e ∷ es) (b ∷ bs) = cond (is_entry_of c e) (beside_left c es bs) (b ∷ beside_left c es bs)

-- ---- histories

abbrev pub nothing : Kept
nothing = record { log = []; beside = [] }

-- an entry behind the others
abbrev pub entered : Entry → Beside → Kept → Kept
entered e b k = record { log = k.log ++ e ∷ []; beside = k.beside ++ b ∷ [] }

-- the entries of a connection are taken out, with what is kept beside them
abbrev pub cut_from : ℕ → Kept → Kept
cut_from c k = record { log = left_of (record { 0 = c } ∷ []) k.log; beside = beside_left c k.log k.beside }

-- what a history says, and how many acts made it so
pub record Said : Type 0 where
  pub kept : Kept
  pub acts : ℕ
