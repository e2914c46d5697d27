-- Two connections that differ stand once each in their list.
use Rattle.std.proofs.Common.{◌≡◌, ◌≤◌, ◌==◌, Bool, true, false, cond, ℕ, List, [], ◌∷◌, length, refl, arith}
use Rattle.std.proofs.lemmas.Bool.Decides.{nat_tests}
use Rattle.cable_base.specs.declared.numbers.ConnNo.{ConnNo}
use Rattle.node_seats.proofs.QueueRooms.{times}

pub once-each : (a b : ConnNo) → (a.0 == b.0) ≡ false → (c : ℕ) → times c (a ∷ b ∷ []) ≤ 1
once-each a b apart c = by-tests (a.0 == c) refl (b.0 == c) refl
  where
    by-tests : (x : Bool) → (a.0 == c) ≡ x → (y : Bool) → (b.0 == c) ≡ y → length (cond x (a ∷ cond y (b ∷ []) []) (cond y (b ∷ []) [])) ≤ 1
    by-tests true e true f = let same : (a.0 == b.0) ≡ true = grind (arith, nat_tests) in absurd cc
    by-tests true e false f = omega arith
    by-tests false e true f = omega arith
    by-tests false e false f = omega arith
