-- That no two streams have one name or one number is kept by each call, and makes each look-up find at most one.
use Rattle.std.proofs.Common.{ℕ, ◌≡◌, ◌==◌, Bool, true, false, cond, not, ◌&&◌, ◌||◌, List, [], ◌∷◌, ◌++◌, map, Some, None, Option, refl, ap, sym, subst, ◌∙◌, arith, is_none, option_map, option_and_then, get_or, set}
use Rattle.std.specs.List.{filter, list_any, position, remove}
use Rattle.std.specs.Str.{bytes_eq}
use Rattle.std.proofs.lemmas.Bool.Decides.{nat_tests, same_from_decides, Decides-like}
use Rattle.std.proofs.lemmas.Slice.Eq.{bytes_eq-Decides}
use Rattle.cable_base.specs.declared.numbers.RowId.{RowId}
use Rattle.cable_base.specs.declared.numbers.WantNo.{WantNo}
use Rattle.stream_set.specs.declared.entries.StreamEntry.{StreamEntry}
use Rattle.stream_set.specs.Streams.{is_named, has_name, is_wanted_as, has_want, waits_as, waits, placed_one, placed, without, want_of, mark_of, AreApart}
use Rattle.stream_set.proofs.Once.{IsOnce, none-any, some-any, find-any, found-place, filter-none, filter-place, map-none, map-place}

pub bytes_eq-swap : (xs ys : List ℕ) → bytes_eq xs ys ≡ bytes_eq ys xs
bytes_eq-swap xs ys = same_from_decides _ _ (bytes_eq-Decides xs ys) (Decides-like _ sym sym (bytes_eq-Decides ys xs))

eq-swap : (a b : ℕ) → (a == b) ≡ (b == a)
eq-swap a b = grind (arith, nat_tests)

pub or-first : (a b : Bool) → (a || b) ≡ false → a ≡ false
or-first true b e = absurd cc
or-first false b e = refl

pub or-second : (a b : Bool) → (a || b) ≡ false → b ≡ false
or-second true b e = absurd cc
or-second false b e = e

pub or-false : (a b : Bool) → a ≡ false → b ≡ false → (a || b) ≡ false
or-false a b p q = rw (p, q) refl

pub any-push : {X : Type 0} (p : X → Bool) (xs : List X) (y : X) → list_any p xs ≡ false → p y ≡ false → list_any p (xs ++ y ∷ []) ≡ false
any-push p [] y e f = or-false (p y) false f refl
any-push p (x ∷ xs) y e f = or-false (p x) (list_any p (xs ++ y ∷ [])) (or-first (p x) (list_any p xs) e) (any-push p xs y (or-second (p x) (list_any p xs) e) f)

pub any-filter : {X : Type 0} (p q : X → Bool) (xs : List X) → list_any p xs ≡ false → list_any p (filter q xs) ≡ false
any-filter p q [] e = refl
any-filter p q (x ∷ xs) e = go (q x) refl (any-filter p q xs (or-second (p x) (list_any p xs) e))
  where
    go : (b : Bool) → q x ≡ b → list_any p (filter q xs) ≡ false → list_any p (filter q (x ∷ xs)) ≡ false
    go true b ih = rw b (or-false (p x) (list_any p (filter q xs)) (or-first (p x) (list_any p xs) e) ih)
    go false b ih = rw b ih

-- ---- the calls keep it

pub AreApart-push : (es : List StreamEntry) (e : StreamEntry) → AreApart es → has_name e.name es ≡ false → has_want e.want es ≡ false → AreApart (es ++ e ∷ [])
AreApart-push [] e a n w = (refl, refl, tt)
AreApart-push (d ∷ es) e a n w =
    let name = bytes_eq-swap e.name d.name ∙ or-first (bytes_eq d.name e.name) (has_name e.name es) n in
    let want = eq-swap e.want.0 d.want.0 ∙ or-first (d.want.0 == e.want.0) (has_want e.want es) w in
    (any-push (is_named d.name) es e a.0 name, any-push (is_wanted_as d.want) es e a.1 want, AreApart-push es e a.2 (or-second (bytes_eq d.name e.name) (has_name e.name es) n) (or-second (d.want.0 == e.want.0) (has_want e.want es) w))

pub AreApart-filter : (q : StreamEntry → Bool) (es : List StreamEntry) → AreApart es → AreApart (filter q es)
AreApart-filter q [] a = tt
AreApart-filter q (e ∷ es) a = go (q e) refl (AreApart-filter q es a.2)
  where
    go : (b : Bool) → q e ≡ b → AreApart (filter q es) → AreApart (filter q (e ∷ es))
    go true b ih = rw b (any-filter (is_named e.name) q es a.0, any-filter (is_wanted_as e.want) q es a.1, ih)
    go false b ih = rw b ih

pub placed_one-name : (want : WantNo) (mark : RowId) (e : StreamEntry) → (placed_one want mark e).name ≡ e.name
placed_one-name want mark e = go (waits_as want e) refl
  where
    go : (b : Bool) → waits_as want e ≡ b → (placed_one want mark e).name ≡ e.name
    go true b = rw b refl
    go false b = rw b refl

pub placed_one-want : (want : WantNo) (mark : RowId) (e : StreamEntry) → (placed_one want mark e).want ≡ e.want
placed_one-want want mark e = go (waits_as want e) refl
  where
    go : (b : Bool) → waits_as want e ≡ b → (placed_one want mark e).want ≡ e.want
    go true b = rw b refl
    go false b = rw b refl

pub has_name-placed : (name : List ℕ) (want : WantNo) (mark : RowId) (es : List StreamEntry) → has_name name (placed want mark es) ≡ has_name name es
has_name-placed name want mark [] = refl
has_name-placed name want mark (e ∷ es) = ap (λ n. bytes_eq n name || has_name name (placed want mark es)) (placed_one-name want mark e) ∙ ap (λ b. bytes_eq e.name name || b) (has_name-placed name want mark es)

pub has_want-placed : (w want : WantNo) (mark : RowId) (es : List StreamEntry) → has_want w (placed want mark es) ≡ has_want w es
has_want-placed w want mark [] = refl
has_want-placed w want mark (e ∷ es) = ap (λ (n : WantNo). (n.0 == w.0) || has_want w (placed want mark es)) (placed_one-want want mark e) ∙ ap (λ b. (e.want.0 == w.0) || b) (has_want-placed w want mark es)

pub AreApart-placed : (want : WantNo) (mark : RowId) (es : List StreamEntry) → AreApart es → AreApart (placed want mark es)
AreApart-placed want mark [] a = tt
AreApart-placed want mark (e ∷ es) a =
    (rw placed_one-name (has_name-placed e.name want mark es ∙ a.0), rw placed_one-want (has_want-placed e.want want mark es ∙ a.1), AreApart-placed want mark es a.2)

-- ---- each look-up finds at most one

pub named-once : (name : List ℕ) (es : List StreamEntry) → AreApart es → IsOnce (is_named name) es
named-once name [] a = tt
named-once name (e ∷ es) a = (λ h. let same : e.name ≡ name = (bytes_eq-Decides e.name name).0 h in ap (λ n. has_name n es) (sym same) ∙ a.0, named-once name es a.2)

and-first : (a b : Bool) → (a && b) ≡ true → a ≡ true
and-first true b e = refl
and-first false b e = absurd cc

any-waits : (want : WantNo) (es : List StreamEntry) → has_want want es ≡ false → list_any (waits_as want) es ≡ false
any-waits want [] e = refl
any-waits want (d ∷ es) e = or-false (waits_as want d) (list_any (waits_as want) es) (rw (or-first (d.want.0 == want.0) (has_want want es) e) refl) (any-waits want es (or-second (d.want.0 == want.0) (has_want want es) e))

pub waits-once : (want : WantNo) (es : List StreamEntry) → AreApart es → IsOnce (waits_as want) es
waits-once want [] a = tt
waits-once want (e ∷ es) a = (
  λ h.
      let t = and-first (e.want.0 == want.0) (is_none e.mark) h in
      let same : e.want.0 ≡ want.0 = grind (arith, nat_tests) in
      any-waits want es (ap (λ n. list_any (λ (d : StreamEntry). d.want.0 == n) es) (sym same) ∙ a.1),
  waits-once want es a.2,
)

-- ---- what is found, and what each call leaves, at the place of the look-up

pub mark_of-none : (name : List ℕ) (es : List StreamEntry) → position (is_named name) es ≡ None → mark_of name es ≡ None
mark_of-none name es e = ap (option_and_then (λ (d : StreamEntry). d.mark)) (find-any (is_named name) es (none-any (is_named name) es e))

pub mark_of-place : (name : List ℕ) (es : List StreamEntry) (i : ℕ) (y : StreamEntry) → position (is_named name) es ≡ Some i → y ≡ get_or es i y → mark_of name es ≡ y.mark
mark_of-place name es i y e h = ap (option_and_then (λ (d : StreamEntry). d.mark)) (found-place (is_named name) es i y e h)

pub want_of-none : (name : List ℕ) (es : List StreamEntry) → position (is_named name) es ≡ None → want_of name es ≡ None
want_of-none name es e = ap (option_map (λ (d : StreamEntry). d.want)) (find-any (is_named name) es (none-any (is_named name) es e))

pub want_of-place : (name : List ℕ) (es : List StreamEntry) (i : ℕ) (y : StreamEntry) → position (is_named name) es ≡ Some i → y ≡ get_or es i y → want_of name es ≡ Some y.want
want_of-place name es i y e h = ap (option_map (λ (d : StreamEntry). d.want)) (found-place (is_named name) es i y e h)

pub without-none : (name : List ℕ) (es : List StreamEntry) → position (is_named name) es ≡ None → without name es ≡ es
without-none name es e = filter-none (is_named name) es (none-any (is_named name) es e)

pub without-place : (name : List ℕ) (es : List StreamEntry) (i : ℕ) → AreApart es → position (is_named name) es ≡ Some i → without name es ≡ remove es i
without-place name es i a e = filter-place (is_named name) es i (named-once name es a) e

pub placed-none : (want : WantNo) (mark : RowId) (es : List StreamEntry) → position (waits_as want) es ≡ None → placed want mark es ≡ es
placed-none want mark es e = map-none (waits_as want) (λ (d : StreamEntry). record d { mark = Some mark }) es (none-any (waits_as want) es e)

pub placed-place : (want : WantNo) (mark : RowId) (es : List StreamEntry) (i : ℕ) (y : StreamEntry) → AreApart es → position (waits_as want) es ≡ Some i → y ≡ get_or es i y → placed want mark es ≡ set es i (record y { mark = Some mark })
placed-place want mark es i y a e h = map-place (waits_as want) (λ (d : StreamEntry). record d { mark = Some mark }) es i y (waits-once want es a) e h

pub AreApart-without : (name : List ℕ) (es : List StreamEntry) → AreApart es → AreApart (without name es)
AreApart-without name es a = AreApart-filter (λ entry. not (is_named name entry)) es a
