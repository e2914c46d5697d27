-- The code's map, seen as a map from names to holds: what a look-up and a change at a name mean there.
use Rattle.std.proofs.Common.{◌≡◌, ◌≢◌, ℕ, ◌==◌, cond, not, Bool, true, false, List, [], ◌∷◌, ◌++◌, length, Option, Some, None, IfSome, IsSome, option_map, unwrap_or, Result, Ok, Err, OnOk, OnErr, String, string_bytes, refl, sym, ap, subst, ◌∙◌, arith}
use Rattle.std.specs.List.{filter}
use Rattle.std.specs.Str.{bytes_eq}
use Rattle.std.specs.Ordering.{nat_cmp, eq_by_cmp}
use Rattle.std.specs.Cmp.Lexicographic.{slice_cmp, nat_list_cmp_total}
use Rattle.std.specs.FinMap.{get, insert, remove, find, get-from_entries, get-insert, get-remove, same_map, slice_cmp-IsAntisymmetric, nat_cmp-IsAntisymmetric}
use Rattle.std.specs.HashMap.{HashMap, UpdatesBy, WritesThrough}
use Rattle.std.specs.Map.{lookup}
use Rattle.std.specs.String.{string_eq}
use Rattle.std.specs.declared.alloc.Global.{Global}
use Rattle.std.proofs.lemmas.Bool.{eqb-true, eqb-false}
use Rattle.std.proofs.lemmas.Bool.Decides.{same_from_decides, Decides-like}
use Rattle.std.proofs.lemmas.Slice.Eq.{bytes_eq-Decides}
use Rattle.std.proofs.lemmas.Map.Text.{is_eq-slice_cmp, hash_map_updates_text}
use Rattle.subscriber_map.specs.declared.holding.Hold.{Hold}
use Rattle.subscriber_map.specs.declared.mapping.Held.{Held}
use Rattle.cable_base.specs.declared.faults.OutOfMemory.{OutOfMemory}
use Rattle.cable_base.specs.declared.numbers.ConnNo.{ConnNo}
use Rattle.cable_base.specs.declared.numbers.WantNo.{WantNo}
use Rattle.subscriber_map.specs.Holds.{is_before, with_hold, without}
use Rattle.subscriber_map.specs.HoldMaps.{HoldMap, holds_at, with_holds_at, with_hold_at, without_at}
use Rattle.subscriber_map.specs.Entries.{pairs_of, map_of, is_named, IsHeldAs, AreEntries}

-- ---- names as keys

-- the key is the name
abbrev pub ties : List ℕ → List ℕ → Bool
ties q name = eq_by_cmp (slice_cmp nat_cmp) q name

pub ties_is : (q name : List ℕ) → ties q name ≡ bytes_eq name q
ties_is q name = is_eq-slice_cmp q name ∙ same_from_decides _ _ (bytes_eq-Decides q name) (Decides-like _ sym sym (bytes_eq-Decides name q))

pub tied : (q name : List ℕ) → ties q name ≡ true → q ≡ name
tied q name h = sym ((bytes_eq-Decides name q).0 (sym (ties_is q name) ∙ h))

pub tied-self : (q : List ℕ) → ties q q ≡ true
tied-self q = ties_is q q ∙ (bytes_eq-Decides q q).1 refl

pub same_maps : (m n : HoldMap) → ((r : List ℕ) → get m r ≡ get n r) → m ≡ n
same_maps m n h = same_map nat_list_cmp_total (slice_cmp-IsAntisymmetric nat_cmp-IsAntisymmetric) m n h

-- ---- looking up

abbrev pub holds_in : Option Held → Option (List Hold)
holds_in o = option_map (λ h. h.holds) o

branches : (b : Bool) (h : Held) (o : Option Held) → cond b (Some h.holds) (holds_in o) ≡ holds_in (cond b (Some h) o)
branches true h o = refl
branches false h o = refl

find_is : (q : List ℕ) (es : List (String Global × Held)) → find (slice_cmp nat_cmp) q (pairs_of es) ≡ holds_in (lookup (is_named q) es)
find_is q [] = refl
find_is q (e ∷ es) =
    ap (λ b. cond b (Some e.1.holds) (find (slice_cmp nat_cmp) q (pairs_of es))) (is_eq-slice_cmp q (string_bytes e.0))
    ∙ (ap (cond (is_named q e.0) (Some e.1.holds)) (find_is q es) ∙ branches (is_named q e.0) e.1 (lookup (is_named q) es))

pub get_is : (q : List ℕ) (es : List (String Global × Held)) → get (map_of es) q ≡ holds_in (lookup (is_named q) es)
get_is q es = get-from_entries nat_list_cmp_total (pairs_of es) q ∙ find_is q es

-- what the map has at a name, where that is what the look-up found
pub got : (q : List ℕ) (es : List (String Global × Held)) (m : HoldMap) (o : Option Held) → map_of es ≡ m → o ≡ lookup (is_named q) es → get m q ≡ holds_in o
got q es m o v e = ap (λ n. get n q) (sym v) ∙ (get_is q es ∙ ap holds_in (sym e))

pub holds_got : (q : List ℕ) (es : List (String Global × Held)) (m : HoldMap) (o : Option Held) → map_of es ≡ m → o ≡ lookup (is_named q) es → holds_at m q ≡ unwrap_or (holds_in o) []
holds_got q es m o v e = ap (λ p. unwrap_or p []) (got q es m o v e)

-- the name has its own hash and some holds
pub held_as : (q : List ℕ) (es : List (String Global × Held)) (h : Held) → AreEntries es → Some h ≡ lookup (is_named q) es → IsHeldAs q h
held_as q es h k e = subst (λ o. IfSome o (IsHeldAs q)) (sym e) (k q)

-- ---- a change at a name

-- the second entries have this at the name, and at each other what the first have
abbrev pub Puts : List ℕ → Option Held → (es fs : List (String Global × Held)) → Type 0
Puts q w es fs = (r : List ℕ) → lookup (is_named r) fs ≡ cond (bytes_eq q r) w (lookup (is_named r) es)

pub puts : {S : Type 0} (m n : HashMap (String Global) Held S) (q : List ℕ) (w : Option Held) → UpdatesBy string_eq (is_named q) m n w → Puts q w m.entries n.entries
puts m n q w u = hash_map_updates_text q m n w u

pub puts_through : {S : Type 0} (m n : HashMap (String Global) Held S) (q : List ℕ) (h w : Held) → Some h ≡ lookup (is_named q) m.entries → WritesThrough string_eq (is_named q) m w n → Puts q (Some w) m.entries n.entries
puts_through m n q h w e t = puts m n q (Some w) (t.3 (subst IsSome e refl))

pub puts_new : {S : Type 0} (m n : HashMap (String Global) Held S) (q : List ℕ) (key : String Global) (w : Held) → string_bytes key ≡ q → UpdatesBy string_eq (string_eq key) m n (Some w) → Puts q (Some w) m.entries n.entries
puts_new m n q key w b u = puts m n q (Some w) (subst (λ p. UpdatesBy string_eq (is_named p) m n (Some w)) b u)

pub twice : {A : Type 0} (b : Bool) (x y z : A) → cond b x (cond b y z) ≡ cond b x z
twice true x y z = refl
twice false x y z = refl

pub puts_over : (q : List ℕ) (v w : Option Held) (es fs gs : List (String Global × Held)) → Puts q v es fs → Puts q w fs gs → Puts q w es gs
puts_over q v w es fs gs p s = λ r. s r ∙ (ap (cond (bytes_eq q r) w) (p r) ∙ twice (bytes_eq q r) w v (lookup (is_named r) es))

changed : (q : List ℕ) (w : Option Held) (es fs : List (String Global × Held)) → Puts q w es fs → (r : List ℕ) → get (map_of fs) r ≡ cond (ties r q) (holds_in w) (get (map_of es) r)
changed q w es fs p r =
    get_is r fs ∙ (ap holds_in (p r)
    ∙ (either (bytes_eq q r) w (lookup (is_named r) es) ∙ (ap (λ b. cond b (holds_in w) (holds_in (lookup (is_named r) es))) (sym (ties_is r q)) ∙ ap (cond (ties r q) (holds_in w)) (sym (get_is r es)))))
  where
    either : (b : Bool) (x y : Option Held) → holds_in (cond b x y) ≡ cond b (holds_in x) (holds_in y)
    either true x y = refl
    either false x y = refl

written : (q : List ℕ) (h : Held) (es fs : List (String Global × Held)) (m : HoldMap) → map_of es ≡ m → Puts q (Some h) es fs → map_of fs ≡ insert m q h.holds
written q h es fs m v p = same_maps _ _ (λ r. changed q (Some h) es fs p r ∙ sym (get-insert nat_list_cmp_total (map_of es) q h.holds r)) ∙ ap (λ n. insert n q h.holds) v

taken : (q : List ℕ) (es fs : List (String Global × Held)) (m : HoldMap) → map_of es ≡ m → Puts q None es fs → map_of fs ≡ remove m q
taken q es fs m v p = same_maps _ _ (λ r. changed q None es fs p r ∙ sym (get-remove nat_list_cmp_total (map_of es) q r)) ∙ ap (λ n. remove n q) v

-- each other name keeps what it has
pub entries_kept : (q : List ℕ) (w : Option Held) (es fs : List (String Global × Held)) → AreEntries es → Puts q w es fs → IfSome w (IsHeldAs q) → AreEntries fs
entries_kept q w es fs k p here = λ r. subst (λ o. IfSome o (IsHeldAs r)) (sym (p r)) (go r (bytes_eq q r) refl)
  where
    go : (r : List ℕ) (b : Bool) → bytes_eq q r ≡ b → IfSome (cond b w (lookup (is_named r) es)) (IsHeldAs r)
    go r true e = subst (λ x. IfSome w (IsHeldAs x)) ((bytes_eq-Decides q r).0 e) here
    go r false e = k r

pub own : {A : Type 0} (b : Bool) (x y : A) → (b ≡ true → y ≡ x) → cond b x y ≡ y
own true x y h = sym (h refl)
own false x y h = refl

pub with_some : (m : HoldMap) (q : List ℕ) (hs : List Hold) → hs ≢ [] → insert m q hs ≡ with_holds_at m q hs
with_some m q [] h = absurd (h refl)
with_some m q (x ∷ hs) h = refl

-- ---- `add`

with_hold-some : (hold : Hold) (hs : List Hold) → with_hold hold hs ≢ []
with_hold-some hold hs h = go (filter (λ x. is_before x hold) hs) h
  where
    go : (xs : List Hold) → xs ++ hold ∷ filter (λ x. not (is_before x hold)) hs ≡ [] → ⊥
    go [] e = absurd (cc e)
    go (x ∷ xs) e = absurd (cc e)

pub holds_kept : (hold : Hold) (old hs : List Hold) (r : Result (Unit {0}) OutOfMemory) → old ≢ [] → OnOk r (hs ≡ with_hold hold old) → OnErr r (hs ≡ old) → hs ≢ []
holds_kept hold old hs (Ok u) some ok err = λ e. with_hold-some hold old (sym ok ∙ e)
holds_kept hold old hs (Err f) some ok err = λ e. some (sym err ∙ e)

pub added : (hold : Hold) (q : List ℕ) (o : Option Held) (w : Held) (es fs : List (String Global × Held)) (m : HoldMap) → map_of es ≡ m → o ≡ lookup (is_named q) es → Puts q (Some w) es fs → w.holds ≡ with_hold hold (unwrap_or (holds_in o) [])
    → map_of fs ≡ with_hold_at m q hold
added hold q o w es fs m v e p is = written q w es fs m v p ∙ ap (insert m q) (is ∙ ap (with_hold hold) (sym (holds_got q es m o v e)))

-- what was there, written again
pub unchanged : (q : List ℕ) (h w : Held) (es fs : List (String Global × Held)) (m : HoldMap) → map_of es ≡ m → Some h ≡ lookup (is_named q) es → Puts q (Some w) es fs → w.holds ≡ h.holds → map_of fs ≡ m
unchanged q h w es fs m v e p is =
    written q w es fs m v p
    ∙ same_maps _ _ (λ r. get-insert nat_list_cmp_total m q w.holds r ∙ own (ties r q) (Some w.holds) (get m r) (λ t. ap (get m) (tied r q t) ∙ (got q es m (Some h) v e ∙ ap Some (sym is))))

-- ---- `remove`

pub left_nowhere : (conn : ConnNo) (want : WantNo) (q : List ℕ) (m : HoldMap) → get m q ≡ None → m ≡ without_at m q conn want
left_nowhere conn want q m none =
    same_maps _ _ (λ r. sym (own (ties r q) None (get m r) (λ t. ap (get m) (tied r q t) ∙ none)) ∙ sym (get-remove nat_list_cmp_total m q r))
    ∙ ap (λ o. with_holds_at m q (without conn want (unwrap_or o []))) (sym none)

none_left : (hs : List Hold) → (length hs == 0) ≡ true → hs ≡ []
none_left [] h = refl
none_left (x ∷ hs) h = absurd (omega (arith, eqb-true (length (x ∷ hs)) 0 h))

pub some_left : (hs : List Hold) → (length hs == 0) ≡ false → hs ≢ []
some_left [] h e = eqb-false 0 0 h refl
some_left (x ∷ hs) h e = absurd (cc e)

-- the holds that are left are those that the map loses one of
left_are : (conn : ConnNo) (want : WantNo) (q : List ℕ) (h : Held) (hs : List Hold) (es : List (String Global × Held)) (m : HoldMap) → map_of es ≡ m → Some h ≡ lookup (is_named q) es → hs ≡ without conn want h.holds
    → with_holds_at m q hs ≡ without_at m q conn want
left_are conn want q h hs es m v e is = ap (with_holds_at m q) (is ∙ ap (without conn want) (sym (holds_got q es m (Some h) v e)))

pub left_none : (conn : ConnNo) (want : WantNo) (q : List ℕ) (h : Held) (hs : List Hold) (es fs : List (String Global × Held)) (m : HoldMap) → map_of es ≡ m → Some h ≡ lookup (is_named q) es → hs ≡ without conn want h.holds
    → (length hs == 0) ≡ true → Puts q None es fs → map_of fs ≡ without_at m q conn want
left_none conn want q h hs es fs m v e is empty p = taken q es fs m v p ∙ (ap (with_holds_at m q) (sym (none_left hs empty)) ∙ left_are conn want q h hs es m v e is)

pub left_some : (conn : ConnNo) (want : WantNo) (q : List ℕ) (h w : Held) (es fs : List (String Global × Held)) (m : HoldMap) → map_of es ≡ m → Some h ≡ lookup (is_named q) es → w.holds ≡ without conn want h.holds
    → (length w.holds == 0) ≡ false → Puts q (Some w) es fs → map_of fs ≡ without_at m q conn want
left_some conn want q h w es fs m v e is some p = written q w es fs m v p ∙ (with_some m q w.holds (some_left w.holds some) ∙ left_are conn want q h w.holds es m v e is)
