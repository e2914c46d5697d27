-- A list of connections, put in order and without those that stand twice.
use Rattle.std.proofs.Common.{◌≡◌, ◌==◌, ◌||◌, ℕ, Bool, true, false, cond, List, [], ◌∷◌, refl, sym, ap, ◌∙◌, arith}
use Rattle.std.specs.Cmp.{IsTotalOrder}
use Rattle.std.specs.declared.cmp.Ordering.TheVariants.{Less}
use Rattle.std.specs.declared.cmp.Ordering.{Ordering}
use Rattle.std.specs.List.{AllByRecursion, dedup, dedup_from}
use Rattle.std.specs.List.Sorted.{IsPermutation, IsSorted, IsStrictlySortedBy}
use Rattle.std.specs.Ordering.{nat_cmp}
use Rattle.std.proofs.lemmas.Bool.Decides.{nat_tests}
use Rattle.std.proofs.lemmas.Cmp.{nat_cmp_total}
use Rattle.std.proofs.lemmas.List.Kept.{IsStrictlySortedBy-dedup}
use Rattle.std.proofs.lemmas.List.Sorted.{list_any-IsPermutation}
use Rattle.cable_base.specs.declared.numbers.ConnNo.{ConnNo}
use Rattle.run_queue.specs.ReadyLists.{AreOnce, has_number}
use Rattle.node_core.specs.Serving.{ListsOnce}

abbrev same : ConnNo → ConnNo → Bool
same a b = a.0 == b.0

abbrev by_number : ConnNo → ConnNo → Ordering
by_number a b = nat_cmp a.0 b.0

numbers-total : IsTotalOrder by_number
numbers-total = record { antisymm = λ x y. nat_cmp_total.antisymm x.0 y.0; trans = λ x y z. nat_cmp_total.trans x.0 y.0 z.0; congr = λ x y z. nat_cmp_total.congr x.0 y.0 z.0 }

-- what stands twice in a row is there once
twice-once : (a b r : Bool) → a ≡ b → (a || r) ≡ (a || (b || r))
twice-once true b r e = refl
twice-once false true r e = absurd cc
twice-once false false r e = refl

has-from : (c k : ConnNo) (ns : List ConnNo) → has_number c (dedup_from same k ns) ≡ has_number c (k ∷ ns)
has-from c k [] = refl
has-from c k (n ∷ ns) = by-test (n.0 == k.0) refl (has-from c k ns) (has-from c n ns)
  where
    by-test : (b : Bool) → (n.0 == k.0) ≡ b → has_number c (dedup_from same k ns) ≡ has_number c (k ∷ ns) → has_number c (dedup_from same n ns) ≡ has_number c (n ∷ ns)
        → has_number c (cond b (dedup_from same k ns) (k ∷ dedup_from same n ns)) ≡ has_number c (k ∷ n ∷ ns)
    by-test true e front behind = front ∙ twice-once (k.0 == c.0) (n.0 == c.0) (has_number c ns) (grind (arith, nat_tests))
    by-test false e front behind = ap (λ b. (k.0 == c.0) || b) behind

has-deduped : (c : ConnNo) (ns : List ConnNo) → has_number c (dedup same ns) ≡ has_number c ns
has-deduped c [] = refl
has-deduped c (n ∷ ns) = has-from c n ns

-- none of those above it is this number
none-above : (c : ConnNo) (ns : List ConnNo) → AllByRecursion (λ n. by_number c n ≡ Less) ns → has_number c ns ≡ false
none-above c [] all = refl
none-above c (n ∷ ns) all = ap (λ b. b || has_number c ns) (other c.0 n.0 all.0) ∙ none-above c ns all.1
  where
    other : (a b : ℕ) → nat_cmp a b ≡ Less → (b == a) ≡ false
    other a b l = grind (arith, nat_tests)

-- numbers that rise stand there once
rising-once : (ns : List ConnNo) → IsStrictlySortedBy by_number ns → AreOnce ns
unfolding IsStrictlySortedBy
rising-once [] rising = tt
rising-once (n ∷ ns) rising = (none-above n ns rising.0, rising-once ns rising.1)

pub each-once : (all sorted : List ConnNo) → IsPermutation all sorted → IsSorted by_number sorted → ListsOnce all (dedup same sorted)
each-once all sorted moved rises =
    record {
      each = λ c. has-deduped c sorted ∙ sym (list_any-IsPermutation (λ (n : ConnNo). n.0 == c.0) all sorted moved);
      once = rising-once (dedup same sorted) (IsStrictlySortedBy-dedup numbers-total (λ x y. grind (arith, nat_tests)) sorted rises);
    }
