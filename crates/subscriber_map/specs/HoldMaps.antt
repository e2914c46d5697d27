-- The holds of each name, as a map without an order of names.
use Rattle.std.specs.Prelude.{ℕ, List, [], ◌∷◌, refl, unwrap_or}
use Rattle.std.specs.Ordering.{nat_cmp}
use Rattle.std.specs.Cmp.Lexicographic.{slice_cmp}
use Rattle.std.specs.FinMap.{FinMap, get, insert, remove}
use Rattle.std.specs.FinMap as maps
use Rattle.std.specs.Coded.{Coded, code_by, coded×, coded_ℕ, coded_list}
use Rattle.cable_base.specs.declared.numbers.ConnNo.{ConnNo}
use Rattle.cable_base.specs.declared.numbers.WantNo.{WantNo}
use Rattle.subscriber_map.specs.declared.holding.Hold.{Hold}
use Rattle.subscriber_map.specs.Holds.{with_hold, without}

abbrev pub HoldMap : Type 0
HoldMap = FinMap (slice_cmp nat_cmp) (List Hold)

-- a hold as its four numbers
abbrev pub hold_code : Coded Hold
hold_code =
    code_by (ℕ × (ℕ × (ℕ × ℕ))) (coded× coded_ℕ (coded× coded_ℕ (coded× coded_ℕ coded_ℕ))) (λ h. (h.conn.0, (h.sub.0, (h.want.0, h.mark.0))))
    (λ p. record { conn = record { 0 = p.0 }; sub = record { 0 = p.1.0 }; want = record { 0 = p.1.1.0 }; mark = record { 0 = p.1.1.1 } }) (λ _. refl)

abbrev pub hold_map_code : Coded HoldMap
hold_map_code = maps.code (coded_list coded_ℕ) (coded_list hold_code)

-- the holds of a name
abbrev pub holds_at : HoldMap → List ℕ → List Hold
holds_at m name = unwrap_or (get m name) []

-- the map with these holds of a name, which isn't in it where they are none
abbrev pub with_holds_at : HoldMap → List ℕ → List Hold → HoldMap
with_holds_at m name [] = remove m name
with_holds_at m name (h ∷ hs) = insert m name (h ∷ hs)

-- the map with one hold more of a name
abbrev pub with_hold_at : HoldMap → List ℕ → Hold → HoldMap
with_hold_at m name hold = insert m name (with_hold hold (holds_at m name))

-- the map without the hold of a connection's want
abbrev pub without_at : HoldMap → List ℕ → ConnNo → WantNo → HoldMap
without_at m name conn want = with_holds_at m name (without conn want (holds_at m name))
