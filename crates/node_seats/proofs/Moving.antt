-- What a call on one number leaves of the others.
use Rattle.std.proofs.Common.{◌≡◌, ℕ, Result, Ok, Err, Bool, true, false, cond, [], ◌∷◌, Option, Some, None, refl, sym, ap, subst, ◌∙◌, arith}
use Rattle.std.specs.Prelude.{OnOk, OnErr, is_some}
use Rattle.std.proofs.lemmas.Map.{keys-set_value}
use Rattle.std.specs.Ordering.{nat_cmp, match_ordering}
use Rattle.std.specs.List.Sorted.{IsStrictlySortedBy}
use Rattle.std.specs.declared.cmp.Ordering.{Ordering}
use Rattle.std.specs.declared.cmp.Ordering.TheVariants as order
use Rattle.std.specs.BTreeMap.{is_at, insert_entry}
use Rattle.std.specs.BTreeSet.{BTreeSet, contains}
use Rattle.std.specs.Map.{lookup, set_value, keys_of}
use Rattle.std.proofs.lemmas.Bool.Decides.{nat_tests}
use Rattle.cable_base.specs.declared.faults.OutOfMemory.{OutOfMemory}
use Rattle.conn_seat.specs.Seats.{Seated}
use Rattle.node_seats.specs.Numbers.{Numbers, Opened, Moves, opened_at, seat_at, seat_in, weight, with_new, Rising, CanRestart, CanRestartAll}
use Rattle.node_seats.specs.Inside.{IsTidy}
use Rattle.node_seats.proofs.Faces.{Written, at-written}
use Rattle.node_seats.proofs.Lookups.{at-new}

-- what is written over what was found
pub moves : (By : Opened → Opened → Type 0) (c : ℕ) (kept became : Opened) (v new : Numbers) → Written c kept became v new → By kept became → Moves c By v new
moves By c kept became v new w by = record { kept = kept; became = became; found = w.found; moved = by; now = w.now }

rises : (c : ℕ) (kept became : Opened) (v new : Numbers) → Written c kept became v new → Rising v → Rising new
rises c kept became v new w rising = subst (IsStrictlySortedBy nat_cmp) (sym (ap keys_of w.now ∙ keys-set_value (is_at (nat_cmp c)) v became)) rising

-- ---- room

room-at : (test : ℕ → Bool) (v : Numbers) (kept : Opened) → CanRestartAll v → lookup test v ≡ Some kept → CanRestart kept
room-at test [] kept can at = absurd cc
room-at test (e ∷ es) kept can at = by-test (test e.0) at (room-at test es kept can.1)
  where
    by-test : (b : Bool) → cond b (Some e.1) (lookup test es) ≡ Some kept → (lookup test es ≡ Some kept → CanRestart kept) → CanRestart kept
    by-test true found rest = let same : e.1 ≡ kept = cc found in subst CanRestart same can.0
    by-test false found rest = rest found

room-with : (test : ℕ → Bool) (v : Numbers) (became : Opened) → CanRestartAll v → CanRestart became → CanRestartAll (set_value test v became)
room-with test [] became can new = can
room-with test (e ∷ es) became can new = by-test (test e.0) (room-with test es became can.1 new)
  where
    by-test : (b : Bool) → CanRestartAll (set_value test es became) → CanRestartAll (cond b ((e.0, became) ∷ es) (e ∷ set_value test es became))
    by-test true rest = (new, can.1)
    by-test false rest = (can.0, rest)

room-new : (v : Numbers) (c : ℕ) (kept : Opened) → CanRestartAll v → CanRestart kept → CanRestartAll (insert_entry nat_cmp v c kept)
room-new [] c kept can new = (new, can)
room-new (e ∷ es) c kept can new = by-order (nat_cmp c e.0) (room-new es c kept can.1 new)
  where
    by-order : (o : Ordering) → CanRestartAll (insert_entry nat_cmp es c kept)
        → CanRestartAll (match_ordering o ((c, kept) ∷ e ∷ es) ((e.0, kept) ∷ es) (e ∷ insert_entry nat_cmp es c kept))
    by-order order.Less rest = (new, can)
    by-order order.Equal rest = (new, can.1)
    by-order order.Greater rest = (can.0, rest)

pub room-of : (c : ℕ) (kept : Opened) (v : Numbers) → opened_at c v ≡ Some kept → CanRestartAll v → CanRestart kept
room-of c kept v at can = room-at (is_at (nat_cmp c)) v kept can at

pub roomy-with : (c : ℕ) (kept became : Opened) (v new : Numbers) → Written c kept became v new → (CanRestart kept → CanRestart became) → CanRestartAll v
    → CanRestartAll new
roomy-with c kept became v new w keeps can =
    subst CanRestartAll (sym w.now) (room-with (is_at (nat_cmp c)) v became can (keeps (room-of c kept v w.found can)))

-- ---- which are live

live-of : (test : Bool) (o : Opened) (p : Option Opened) → is_some (seat_in (cond test (Some o) p))
    ≡ cond test (is_some (seat_in (Some o))) (is_some (seat_in p))
live-of true o p = refl
live-of false o p = refl

-- that of c is live exactly if b is true, and each other one exactly if it was
abbrev Lives-at : ℕ → Bool → Numbers → Numbers → Type 0
Lives-at c b v new = (d : ℕ) → cond (is_at (nat_cmp c) d) b (is_some (seat_at d v)) ≡ is_some (seat_at d new)

live-written : (c : ℕ) (kept became : Opened) (v new : Numbers) → Written c kept became v new → Lives-at c (is_some (seat_in (Some became))) v new
live-written c kept became v new w d =
    sym (live-of (is_at (nat_cmp c) d) became (opened_at d v)) ∙ ap (λ o. is_some (seat_in o)) (sym (at-written c kept became v new w d))

live-new : (c : ℕ) (o : Opened) (v new : Numbers) → new ≡ with_new c o v → Lives-at c (is_some (seat_in (Some o))) v new
live-new c o v new is d =
    sym (live-of (is_at (nat_cmp c) d) o (opened_at d v)) ∙ ap (λ p. is_some (seat_in p)) (sym (at-new c d o v))
    ∙ ap (λ (x : Numbers). is_some (seat_at d x)) (sym is)

-- .. as it was
live-as-before : (c : ℕ) (b : Bool) (v : Numbers) → is_some (seat_at c v) ≡ b → Lives-at c b v v
live-as-before c b v was d = by-test (is_at (nat_cmp c) d) refl
  where
    by-test : (t : Bool) → is_at (nat_cmp c) d ≡ t → cond t b (is_some (seat_at d v)) ≡ is_some (seat_at d v)
    by-test true at = let same : c ≡ d = grind (arith, nat_tests, at) in sym was ∙ ap (λ (x : ℕ). is_some (seat_at x v)) same
    by-test false at = refl

live-by-weight : (kept became : Opened) → weight became ≡ weight kept → is_some (seat_in (Some kept)) ≡ is_some (seat_in (Some became))
live-by-weight (Opened.Live s) (Opened.Live t) same = refl
live-by-weight (Opened.Live s) Opened.Over same = absurd cc
live-by-weight Opened.Over (Opened.Live t) same = absurd cc
live-by-weight Opened.Over Opened.Over same = refl

over-by-weight : (o : Opened) → weight o ≡ 0 → is_some (seat_in (Some o)) ≡ false
over-by-weight (Opened.Live s) none = absurd cc
over-by-weight Opened.Over none = refl

-- ---- all of what holds

pub tidy : (c : ℕ) (live : BTreeSet ℕ) (kept became : Opened) (v new : Numbers) → Written c kept became v new → weight became ≡ weight kept
    → (CanRestart kept → CanRestart became) → IsTidy v live → IsTidy new live
tidy c live kept became v new w same keeps is =
    let was = ap (λ o. is_some (seat_in o)) w.found ∙ live-by-weight kept became same in
    record {
      rising = rises c kept became v new w is.rising;
      indexed = λ d. is.indexed d ∙ sym (live-as-before c _ v was d) ∙ live-written c kept became v new w d;
      roomy = roomy-with c kept became v new w keeps is.roomy;
    }

-- a live connection more, whose number is entered
pub tidy-opened : (c : ℕ) (live now : BTreeSet ℕ) (seat : Seated) (v new : Numbers) → new ≡ with_new c (Opened.Live seat) v → Rising new
    → ((d : ℕ) → contains nat_cmp now d ≡ cond (is_at (nat_cmp c) d) true (contains nat_cmp live d)) → CanRestart (Opened.Live seat)
    → IsTidy v live → IsTidy new now
tidy-opened c live now seat v new is rising entered can before =
    record {
      rising = rising;
      indexed = λ d. entered d ∙ ap (cond (is_at (nat_cmp c) d) true) (before.indexed d) ∙ live-new c (Opened.Live seat) v new is d;
      roomy = subst CanRestartAll (sym is) (room-new v c (Opened.Live seat) before.roomy can);
    }

-- a number more, which is over
pub tidy-refused : (c : ℕ) (live : BTreeSet ℕ) (v new : Numbers) (result : Result (Unit {0}) OutOfMemory) → opened_at c v ≡ None
    → OnOk result (new ≡ with_new c Opened.Over v) → OnErr result (new ≡ v) → Rising new → IsTidy v live → IsTidy new live
tidy-refused c live v new (Ok u) none is same rising before =
    record {
      rising = rising;
      indexed = λ d. before.indexed d ∙ sym (live-as-before c false v (ap (λ o. is_some (seat_in o)) none) d) ∙ live-new c Opened.Over v new is d;
      roomy = subst CanRestartAll (sym is) (room-new v c Opened.Over before.roomy tt);
    }
tidy-refused c live v new (Err e) none is same rising before = rw same before

-- ---- the end of a connection

-- its number is taken out
pub tidy-over : (c : ℕ) (live now : BTreeSet ℕ) (kept became : Opened) (v new : Numbers) → Written c kept became v new → weight became ≡ 0
    → ((d : ℕ) → contains nat_cmp now d ≡ cond (is_at (nat_cmp c) d) false (contains nat_cmp live d)) → (CanRestart kept → CanRestart became)
    → IsTidy v live → IsTidy new now
tidy-over c live now kept became v new w over taken keeps is =
    record {
      rising = rises c kept became v new w is.rising;
      indexed =
          λ d. taken d ∙ ap (cond (is_at (nat_cmp c) d) false) (is.indexed d)
          ∙ ap (λ b. cond (is_at (nat_cmp c) d) b (is_some (seat_at d v))) (sym (over-by-weight became over)) ∙ live-written c kept became v new w d;
      roomy = roomy-with c kept became v new w keeps is.roomy;
    }
