-- Walks over wants, streams and placings, one step further.
use Rattle.std.proofs.Common.{◌≡◌, ℕ, suc, ◌+◌, ◌<◌, Bool, true, false, cond, List, [], ◌∷◌, ◌++◌, length, map, get_or, take, drop, Option, Some, refl, ap, sym}
use Rattle.std.proofs.Common.{subst, ◌∙◌, arith, append_assoc, take-append-drop, drop-cons}
use Rattle.std.proofs.lemmas.List.{take_more}
use Rattle.std.specs.Prelude.{find, option_and_then}
use Rattle.cable_base.specs.declared.numbers.RowId.{RowId}
use Rattle.conn_core.specs.Subscriptions.{SubParts, shown, has_number}
use Rattle.node_seats.specs.declared.turning.Wanted.{Wanted}
use Rattle.node_seats.specs.Numbers.{Numbers, seat_at}
use Rattle.subscriber_map.specs.Holds.{IsNewAmong}
use Rattle.subscriber_map.specs.HoldMaps.{HoldMap, holds_at, with_hold_at, without_at}
use Rattle.node_turns.specs.declared.placing.Placing.{Placing}
use Rattle.node_turns.specs.Holding.{name_among, name_wanted, name_in, placing_as, placings_of, with_placings, AreNew, AreUndone}

drop-is : {A : Type 0} (xs : List A) (i : ℕ) (d x : A) → i < length xs → x ≡ get_or xs i d → drop i xs ≡ x ∷ drop (i + 1) xs
drop-is xs i d x l e =
    let n : i + 1 ≡ suc i = omega arith in
    drop-cons xs i d l ∙ (ap (λ y. y ∷ drop (suc i) xs) (sym e) ∙ ap (λ k. x ∷ drop k xs) (sym n))

rest-is : {A : Type 0} (xs : List A) (i : ℕ) (x : A) → i < length xs → x ≡ get_or xs i x → drop i xs ≡ x ∷ drop (i + 1) xs
rest-is xs i x l e = drop-is xs i x x l e

front-is : {A : Type 0} (xs : List A) (i : ℕ) (x : A) → i < length xs → x ≡ get_or xs i x → take (i + 1) xs ≡ take i xs ++ x ∷ []
front-is xs i x l e = take_more xs i x l ∙ ap (λ y. take i xs ++ y ∷ []) (sym e)

-- ---- names

-- the name of the want, in the words of the call that finds a subscription
pub wanted_in : (w : Wanted) (ss : List SubParts)
    → name_wanted w (map shown ss) ≡ option_and_then (λ s. name_among w.want s.streams.entries) (find (λ s. has_number w.sub (shown s)) ss)
wanted_in w [] = refl
wanted_in w (s ∷ ss) = go (has_number w.sub (shown s)) (wanted_in w ss)
  where
    rest : Option (List ℕ)
    rest = option_and_then (λ s. name_among w.want s.streams.entries) (find (λ s. has_number w.sub (shown s)) ss)

    go : (b : Bool) → name_wanted w (map shown ss) ≡ rest
        → cond b (name_among w.want s.streams.entries) (name_wanted w (map shown ss))
        ≡ option_and_then (λ s. name_among w.want s.streams.entries) (cond b (Some s) (find (λ s. has_number w.sub (shown s)) ss))
    go true ih = refl
    go false ih = ih

-- ---- the placings of wants

pub placings-more : (v : Numbers) (mark : RowId) (ws : List Wanted) (i : ℕ) (d w : Wanted) (before now all : List Placing) → i < length ws → w ≡ get_or ws i d
    → now ≡ before ++ placing_as mark w (name_in w (seat_at w.conn.0 v)) → before ++ placings_of v mark (drop i ws) ≡ all
    → now ++ placings_of v mark (drop (i + 1) ws) ≡ all
placings-more v mark ws i d w before now all l at is all-is =
    ap (λ ps. ps ++ placings_of v mark (drop (i + 1) ws)) is
    ∙ (append_assoc before (placing_as mark w (name_in w (seat_at w.conn.0 v))) (placings_of v mark (drop (i + 1) ws))
    ∙ (ap (λ xs. before ++ placings_of v mark xs) (sym (drop-is ws i d w l at)) ∙ all-is))

-- ---- placings are added and taken back

pub with-both : (xs ys : List Placing) (m : HoldMap) → with_placings (xs ++ ys) m ≡ with_placings ys (with_placings xs m)
with-both [] ys m = refl
with-both (x ∷ xs) ys m = with-both xs ys (with_hold_at m x.name x.hold)

pub with-more : (ps : List Placing) (i : ℕ) (p : Placing) (m : HoldMap) → i < length ps → p ≡ get_or ps i p
    → with_placings (take (i + 1) ps) m ≡ with_hold_at (with_placings (take i ps) m) p.name p.hold
with-more ps i p m l at = ap (λ xs. with_placings xs m) (front-is ps i p l at) ∙ with-both (take i ps) (p ∷ []) m

new-both : (xs ys : List Placing) (m : HoldMap) → AreNew (xs ++ ys) m → AreNew ys (with_placings xs m)
new-both [] ys m n = n
new-both (x ∷ xs) ys m n = new-both xs ys (with_hold_at m x.name x.hold) n.1

split-at : (ps : List Placing) (i : ℕ) (p : Placing) → i < length ps → p ≡ get_or ps i p → ps ≡ take i ps ++ p ∷ drop (i + 1) ps
split-at ps i p l at = sym (take-append-drop i ps) ∙ ap (λ xs. take i ps ++ xs) (rest-is ps i p l at)

pub new-at : (ps : List Placing) (i : ℕ) (p : Placing) (m : HoldMap) → i < length ps → p ≡ get_or ps i p → AreNew ps m
    → IsNewAmong p.hold (holds_at (with_placings (take i ps) m) p.name)
new-at ps i p m l at n = (new-both (take i ps) (p ∷ drop (i + 1) ps) m (subst (λ xs. AreNew xs m) (split-at ps i p l at) n)).0

undone-both : (xs ys : List Placing) (m : HoldMap) → AreUndone (xs ++ ys) m → AreUndone ys (with_placings xs m)
undone-both [] ys m n = n
undone-both (x ∷ xs) ys m n = undone-both xs ys (with_hold_at m x.name x.hold) n.1

undone-joined : (xs ys : List Placing) (m : HoldMap) → AreUndone xs m → AreUndone ys (with_placings xs m) → AreUndone (xs ++ ys) m
undone-joined [] ys m a b = b
undone-joined (x ∷ xs) ys m a b = (a.0, undone-joined xs ys (with_hold_at m x.name x.hold) a.1 b)

-- one more was added
pub undone-more : (ps : List Placing) (i : ℕ) (p : Placing) (m : HoldMap) → i < length ps → p ≡ get_or ps i p
    → without_at (with_hold_at (with_placings (take i ps) m) p.name p.hold) p.name p.hold.conn p.hold.want ≡ with_placings (take i ps) m
    → AreUndone (take i ps) m → AreUndone (take (i + 1) ps) m
undone-more ps i p m l at back u = subst (λ xs. AreUndone xs m) (sym (front-is ps i p l at)) (undone-joined (take i ps) (p ∷ []) m u (back, tt))

-- the last one is taken back
pub undone-last : (ps : List Placing) (i : ℕ) (p : Placing) (m : HoldMap) → i < length ps → p ≡ get_or ps i p → AreUndone ps m
    → without_at (with_placings (take (i + 1) ps) m) p.name p.hold.conn p.hold.want ≡ with_placings (take i ps) m
undone-last ps i p m l at u =
    ap (λ n. without_at n p.name p.hold.conn p.hold.want) (with-more ps i p m l at)
    ∙ (undone-both (take i ps) (p ∷ drop (i + 1) ps) m (subst (λ xs. AreUndone xs m) (split-at ps i p l at) u)).0
