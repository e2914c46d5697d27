-- What a keeper in memory keeps of its rows.
use Rattle.std.specs.Prelude.{◌≡◌, ◌≤◌, ℕ, ℤ, zero, suc, Bool, ◌&&◌, cond, leb, List, [], ◌∷◌, filter, map}
use Rattle.std.specs.List.{All, AllByRecursion}
use Rattle.cable_base.specs.Hash.{channel_hash_of}
use Rattle.cable_base.specs.Squeeze.{IsSqueezedJson}
use Rattle.cable_base.specs.declared.rows.Row.{Row}
use Rattle.cable_model.specs.Table.{contains}
use Rattle.table_core.specs.Keepers.{AreRising, is_before, most_id}
use Rattle.table_core.specs.declared.memory.Kept.{Kept}

abbrev pub rows_of : List Kept → List Row
rows_of ks = map (λ k. k.row) ks

-- the hash is that of the row's name
pub record IsKept (k : Kept) : Type 0 where
  pub most : k.row.id.0 ≤ most_id
  pub message : IsSqueezedJson k.row.payload
  pub hash_is : k.hash ≡ channel_hash_of k.row.channel

pub record AreKept (ks : List Kept) : Type 0 where
  pub rising : AreRising (rows_of ks)
  pub each : All IsKept ks

-- the rows of which the hash is asked for
abbrev pub asked : List ℤ → List Kept → List Row
asked hashes ks = rows_of (filter (λ k. contains hashes k.hash) ks)

-- what is left once the first n that pass the test were taken
abbrev pub left_of : {A : Type 0} → (A → Bool) → ℕ → List A → List A
left_of test n [] = []
left_of test zero (x ∷ xs) = x ∷ xs
left_of test (suc n) (x ∷ xs) = cond (test x) (left_of test n xs) (x ∷ left_of test (suc n) xs)

-- the row is from before this moment, and stands below this id
abbrev pub is_taken : (before below : ℕ) → Kept → Bool
is_taken before below k = is_before before below k.row

-- from this id on no row is from before the one in front of it
abbrev pub IsSortedFrom : ℕ → List Kept → Type 0
IsSortedFrom from [] = Unit {0}
IsSortedFrom from (k ∷ ks) = (from ≤ k.row.id.0 → AllByRecursion (λ j. k.row.created_at.0 ≤ j.row.created_at.0) ks) × IsSortedFrom from ks

-- neither this row nor one behind it is from before the moment
abbrev pub ends_old : (from before : ℕ) → Kept → Bool
ends_old from before k = leb from k.row.id.0 && leb before k.row.created_at.0
