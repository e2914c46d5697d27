-- The holds of one name.
use Rattle.std.specs.Prelude.{◌≡◌, ◌≢◌, ◌==◌, ◌&&◌, ◌||◌, not, nat_lt, Bool, true, false, List, [], ◌∷◌, ◌++◌}
use Rattle.std.specs.List.{All, filter}
use Rattle.cable_base.specs.declared.numbers.ConnNo.{ConnNo}
use Rattle.cable_base.specs.declared.numbers.WantNo.{WantNo}
use Rattle.subscriber_map.specs.declared.holding.Hold.{Hold}

-- the first stands before the second: by connection, and then by subscription
abbrev pub is_before : Hold → Hold → Bool
is_before a b = nat_lt a.conn.0 b.conn.0 || ((a.conn.0 == b.conn.0) && nat_lt a.sub.0 b.sub.0)

-- the hold is that of this connection's want
abbrev pub is_of : ConnNo → WantNo → Hold → Bool
is_of conn want h = (h.conn.0 == conn.0) && (h.want.0 == want.0)

-- each hold stands before all that follow
abbrev pub AreInOrder : List Hold → Type 0
AreInOrder [] = Unit {0}
AreInOrder (h ∷ hs) = All (λ x. is_before h x ≡ true) hs × AreInOrder hs

-- no want of a connection holds twice
abbrev pub AreApart : List Hold → Type 0
AreApart [] = Unit {0}
AreApart (h ∷ hs) = All (λ x. is_of h.conn h.want x ≡ false) hs × AreApart hs

-- what is so of the holds of any name
pub record AreHolds (hs : List Hold) : Type 0 where
  pub order : AreInOrder hs
  pub apart : AreApart hs

-- no hold of its connection has its subscription or its want
abbrev pub IsNewAmong : Hold → List Hold → Type 0
IsNewAmong hold hs = All (λ h. h.conn ≡ hold.conn → (h.sub ≢ hold.sub) × (h.want ≢ hold.want)) hs

-- the holds with one more, in its place
abbrev pub with_hold : Hold → List Hold → List Hold
with_hold hold hs = filter (λ h. is_before h hold) hs ++ hold ∷ filter (λ h. not (is_before h hold)) hs

-- the holds without that of a connection's want
abbrev pub without : ConnNo → WantNo → List Hold → List Hold
without conn want hs = filter (λ h. not (is_of conn want h)) hs
