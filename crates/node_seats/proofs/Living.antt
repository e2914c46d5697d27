-- The live ones by their numbers: how many there are, and which of them are not closing.
use Rattle.std.proofs.Common.{◌≡◌, ◌+◌, ◌&&◌, ℕ, Bool, true, false, cond, List, [], ◌∷◌, length, map, filter, Option, Some, None, refl, sym, ap, ◌∙◌, arith}
use Rattle.std.specs.Prelude.{is_some}
use Rattle.std.specs.List.{AllByRecursion, list_any}
use Rattle.std.specs.Ordering.{nat_cmp}
use Rattle.std.specs.declared.cmp.Ordering.TheVariants as order
use Rattle.std.specs.BTreeMap.{is_at}
use Rattle.std.specs.BTreeSet.{BTreeSet, IsOrdered}
use Rattle.std.specs.Map.{keys_of, values_of}
use Rattle.std.proofs.lemmas.Bool.Decides.{nat_tests}
use Rattle.std.proofs.lemmas.Cmp.{nat_cmp_total}
use Rattle.std.proofs.lemmas.List.Kept.{IsStrictlySortedBy-filter}
use Rattle.std.proofs.lemmas.List.Sums.{sum_by-cons}
use Rattle.std.proofs.lemmas.Map.Lookups.{btree_set_from_contains}
use Rattle.std.proofs.lemmas.Map.Made.{is_some-lookup}
use Rattle.std.proofs.lemmas.Map.Views.{any-filter_same}
use Rattle.cable_base.specs.declared.numbers.ConnNo.{ConnNo}
use Rattle.conn_seat.specs.Seats.{is_receiving_now}
use Rattle.node_seats.specs.Numbers.{Numbers, Opened, is_receiving_among, is_receiving_at, live_among, opened_at, receiving_among, seat_at, seat_in, weight}
use Rattle.node_seats.specs.Inside.{IsTidy}
use Rattle.node_seats.proofs.Lookups.{each-entry}

-- the numbers of the live ones of es, which are entries of v
abbrev live_in : Numbers → Numbers → List ℕ
live_in v es = filter (λ c. is_some (seat_at c v)) (keys_of es)

-- the set has just these
pub live-keys : (v : Numbers) (live : BTreeSet ℕ) → IsOrdered nat_cmp live → IsTidy v live → live.keys ≡ live_in v v
live-keys v live ordered is =
    btree_set_from_contains nat_cmp_total live (record { keys = live_in v v }) ordered
    (IsStrictlySortedBy-filter nat_cmp (λ c. is_some (seat_at c v)) (keys_of v) is.rising) (λ c. is.indexed c ∙ sym (has c)) (λ x y e. equal x y e)
  where
    equal : (x y : ℕ) → nat_cmp x y ≡ order.Equal → x ≡ y
    equal x y e = grind (arith, nat_tests, e)

    both : (o : Option Opened) → (is_some (seat_in o) && is_some o) ≡ is_some (seat_in o)
    both None = refl
    both (Some (Opened.Live s)) = refl
    both (Some Opened.Over) = refl

    has : (c : ℕ) → list_any (is_at (nat_cmp c)) (live_in v v) ≡ is_some (seat_at c v)
    has c =
        any-filter_same (is_at (nat_cmp c)) (λ d. is_some (seat_at d v)) (is_some (seat_at c v))
        (λ d at. let same : c ≡ d = grind (arith, nat_tests, at) in ap (λ (x : ℕ). is_some (seat_at x v)) (sym same)) (keys_of v)
        ∙ ap (λ b. is_some (seat_at c v) && b) (sym (is_some-lookup (is_at (nat_cmp c)) v)) ∙ both (opened_at c v)

found : (v : Numbers) (live : BTreeSet ℕ) → IsTidy v live → AllByRecursion (λ (e : ℕ × Opened). opened_at e.0 v ≡ Some e.1) v
found v live is = each-entry (λ c o. opened_at c v ≡ Some o) v is.rising (λ c o at. at)

-- ---- how many

-- of these entries, where p says of each number whether it is live
pub count-by : (p : ℕ → Bool) (es : Numbers) → AllByRecursion (λ (e : ℕ × Opened). is_some (seat_in (Some e.1)) ≡ p e.0) es → live_among es ≡ length (filter p (keys_of es))
count-by p [] all = refl
count-by p ((c, Opened.Live s) ∷ es) all =
    let at = sym all.0 in
    let more : live_among ((c, Opened.Live s) ∷ es) ≡ 1 + live_among es = sum_by-cons weight (Opened.Live s) (values_of es) in
    rw (at, more) (omega (arith, count-by p es all.1))
count-by p ((c, Opened.Over) ∷ es) all =
    let at = sym all.0 in
    let more : live_among ((c, Opened.Over) ∷ es) ≡ 0 + live_among es = sum_by-cons weight Opened.Over (values_of es) in
    rw (at, more) (omega (arith, count-by p es all.1))

pub live-count : (v : Numbers) (live : BTreeSet ℕ) → IsOrdered nat_cmp live → IsTidy v live → length live.keys ≡ live_among v
live-count v live ordered is =
    ap length (live-keys v live ordered is)
    ∙ sym (count-by (λ c. is_some (seat_at c v)) v (each-entry (λ c o. is_some (seat_in (Some o)) ≡ is_some (seat_at c v)) v is.rising (λ c o at. ap (λ x. is_some (seat_in x)) (sym at))))

-- ---- those that are not closing

-- those of these numbers
abbrev pub receiving_of : List ℕ → Numbers → List ConnNo
receiving_of ns v = map (λ c. let conn : ConnNo = record { 0 = c } in conn) (filter (λ c. is_receiving_at c v) ns)

receiving-in : (v es : Numbers) → AllByRecursion (λ (e : ℕ × Opened). opened_at e.0 v ≡ Some e.1) es → receiving_of (live_in v es) v ≡ receiving_among es
receiving-in v [] all = refl
receiving-in v ((c, Opened.Live s) ∷ es) all =
    let at = ap (λ o. is_some (seat_in o)) all.0 in
    let is = ap is_receiving_among all.0 in
    rw (at, is) (by-test (is_receiving_now s) (receiving-in v es all.1))
  where
    rest : List ℕ
    rest = filter (λ x. is_receiving_at x v) (live_in v es)

    by-test : (b : Bool) → receiving_of (live_in v es) v ≡ receiving_among es
        → map (λ x. let conn : ConnNo = record { 0 = x } in conn) (cond b (c ∷ rest) rest) ≡ cond b (record { 0 = c } ∷ receiving_among es) (receiving_among es)
    by-test true ih = ap (λ conns. (record { 0 = c }) ∷ conns) ih
    by-test false ih = ih
receiving-in v ((c, Opened.Over) ∷ es) all = let at = ap (λ o. is_some (seat_in o)) all.0 in rw at (receiving-in v es all.1)

pub live-receiving : (v : Numbers) (live : BTreeSet ℕ) → IsOrdered nat_cmp live → IsTidy v live → receiving_of live.keys v ≡ receiving_among v
live-receiving v live ordered is = ap (λ ns. receiving_of ns v) (live-keys v live ordered is) ∙ receiving-in v v (found v live is)
