-- The names of the code's map, each with its holds and its hash.
use Rattle.std.specs.Prelude.{◌≡◌, ◌≢◌, ℕ, Bool, List, [], map, String, string_bytes, IfSome}
use Rattle.std.specs.Str.{bytes_eq}
use Rattle.std.specs.FinMap.{from_entries}
use Rattle.std.specs.Map.{keys_of, lookup}
use Rattle.std.specs.declared.alloc.Global.{Global}
use Rattle.cable_base.specs.Hash.{channel_hash_of}
use Rattle.subscriber_map.specs.declared.holding.Hold.{Hold}
use Rattle.subscriber_map.specs.declared.mapping.Held.{Held}
use Rattle.subscriber_map.specs.HoldMaps.{HoldMap}

abbrev pub pairs_of : List (String Global × Held) → List (List ℕ × List Hold)
pairs_of es = map (λ e. (string_bytes e.0, e.1.holds)) es

abbrev pub names_of : List (String Global × Held) → List (List ℕ)
names_of es = map string_bytes (keys_of es)

abbrev pub map_of : List (String Global × Held) → HoldMap
map_of es = from_entries (pairs_of es)

-- the key is this name
abbrev pub is_named : List ℕ → String Global → Bool
is_named name key = bytes_eq name (string_bytes key)

-- what the map has at a name: some holds, and the name's own hash
pub record IsHeldAs (name : List ℕ) (h : Held) : Type 0 where
  pub hash : h.hash ≡ channel_hash_of name
  pub held : h.holds ≢ []

abbrev pub AreEntries : List (String Global × Held) → Type 0
AreEntries es = (name : List ℕ) → IfSome (lookup (is_named name) es) (IsHeldAs name)
