-- How the streams of one subscription are ended and wanted, one after another.
use Rattle.std.proofs.Common.{ℕ, zero, suc, ◌+◌, ◌≡◌, ◌==◌, ◌<◌, ◌≤◌, Bool, true, false, cond, not, ◌&&◌, ◌||◌, List, [], ◌∷◌, ◌++◌, length, get_or, take, refl, ap, sym, subst, ◌∙◌, arith, append_assoc}
use Rattle.std.specs.Bool.{OnTrue}
use Rattle.std.specs.List.{filter, list_any}
use Rattle.std.specs.Str.{bytes_eq}
use Rattle.std.proofs.lemmas.Bool.Decides.{nat_tests}
use Rattle.std.proofs.lemmas.List.{take_more, append-nil}
use Rattle.std.proofs.lemmas.List.Folds.{list_any-append}
use Rattle.cable_base.specs.declared.numbers.WantNo.{WantNo}
use Rattle.stream_set.specs.declared.entries.StreamEntry.{StreamEntry}
use Rattle.stream_set.specs.Streams.{is_named, has_name, has_want, wanted_now, without}
use Rattle.stream_set.proofs.Apart.{bytes_eq-swap, or-first, or-second, or-false}
use Rattle.cable_model.specs.Connection.{among}
use Rattle.conn_core.specs.Subscriptions.{wanted_from, stopped, AreDifferent, AreNew, WantsBelow}

pub on-true : {P : Type 0} (b : Bool) → b ≡ true → OnTrue b P → P
on-true true e h = h
on-true false e h = absurd (cc (e))

-- ---- stops

pub stopped-none : (es : List StreamEntry) → stopped [] es ≡ es
stopped-none [] = refl
stopped-none (e ∷ es) = ap (λ xs. e ∷ xs) (stopped-none es)

or-nil : (b : Bool) → (b || false) ≡ b
or-nil true = refl
or-nil false = refl

among-push : (xs : List (List ℕ)) (y n : List ℕ) → among (xs ++ y ∷ []) n ≡ (among xs n || bytes_eq y n)
among-push xs y n = list_any-append (λ x. bytes_eq x n) xs (y ∷ []) ∙ ap (λ b. among xs n || b) (or-nil (bytes_eq y n))

stopped-push : (xs : List (List ℕ)) (y : List ℕ) (es : List StreamEntry) → without y (stopped xs es) ≡ stopped (xs ++ y ∷ []) es
stopped-push xs y [] = refl
stopped-push xs y (e ∷ es) = go (among xs e.name) refl (bytes_eq y e.name) refl (stopped-push xs y es)
  where
    go : (b : Bool) → among xs e.name ≡ b → (t : Bool) → bytes_eq y e.name ≡ t → without y (stopped xs es) ≡ stopped (xs ++ y ∷ []) es → without y (stopped xs (e ∷ es)) ≡ stopped (xs ++ y ∷ []) (e ∷ es)
    go true b t u ih = let all : among (xs ++ y ∷ []) e.name ≡ true = among-push xs y e.name ∙ rw b refl in rw (b, all) ih
    go false b true u ih =
        let all : among (xs ++ y ∷ []) e.name ≡ true = among-push xs y e.name ∙ rw (b, u) refl in
        let named : bytes_eq e.name y ≡ true = bytes_eq-swap e.name y ∙ u in
        rw (b, all, named) ih
    go false b false u ih =
        let all : among (xs ++ y ∷ []) e.name ≡ false = among-push xs y e.name ∙ rw (b, u) refl in
        let named : bytes_eq e.name y ≡ false = bytes_eq-swap e.name y ∙ u in
        rw (b, all, named) (ap (λ xs. e ∷ xs) ih)

-- one more stop has ended
pub stopped-more : (stops : List (List ℕ)) (i : ℕ) (stop : List ℕ) (es : List StreamEntry) → i < length stops → stop ≡ get_or stops i stop → without stop (stopped (take i stops) es) ≡ stopped (take (i + 1) stops) es
stopped-more stops i stop es l e =
    let more : take (i + 1) stops ≡ take i stops ++ stop ∷ [] = take_more stops i stop l ∙ ap (λ y. take i stops ++ y ∷ []) (sym e) in
    rw more (stopped-push (take i stops) stop es)

-- ---- wants

pub below-filter : (n : ℕ) (p : StreamEntry → Bool) (es : List StreamEntry) → WantsBelow n es → WantsBelow n (filter p es)
below-filter n p [] h = tt
below-filter n p (e ∷ es) h = go (p e) refl (below-filter n p es h.1)
  where
    go : (b : Bool) → p e ≡ b → WantsBelow n (filter p es) → WantsBelow n (filter p (e ∷ es))
    go true b ih = rw b (h.0, ih)
    go false b ih = rw b ih

pub below-fresh : (n : ℕ) (es : List StreamEntry) → WantsBelow n es → has_want (record { 0 = n }) es ≡ false
below-fresh n [] h = refl
below-fresh n (e ∷ es) h = or-false (e.want.0 == n) (has_want (record { 0 = n }) es) (let l : e.want.0 < n = h.0 in grind (arith, nat_tests)) (below-fresh n es h.1)

pub below-push : (n m : ℕ) (es : List StreamEntry) (e : StreamEntry) → n ≤ m → e.want.0 < m → WantsBelow n es → WantsBelow m (es ++ e ∷ [])
below-push n m [] e l f h = (f, tt)
below-push n m (d ∷ es) e l f h = (let k : d.want.0 < n = h.0 in omega arith, below-push n m es e l f h.1)

-- the rest of the names are still new once one of them, which is none of the rest, was wanted
pub new-push : (names : List (List ℕ)) (name : List ℕ) (want : WantNo) (es : List StreamEntry) → among names name ≡ false → AreNew names es → AreNew names (es ++ wanted_now name want ∷ [])
new-push [] name want es d n = tt
new-push (m ∷ names) name want es d n =
    let apart : bytes_eq name m ≡ false = bytes_eq-swap name m ∙ or-first (bytes_eq m name) (among names name) d in
    (list_any-append (is_named m) es (wanted_now name want ∷ []) ∙ or-false (has_name m es) (has_name m (wanted_now name want ∷ [])) n.0 (or-false (bytes_eq name m) false apart refl), new-push names name want es (or-second (bytes_eq m name) (among names name) d) n.1)

-- so many of the names were wanted behind the old streams, and the rest still can be
pub record Wanting (first count : ℕ) (names rest : List (List ℕ)) (old entries : List StreamEntry) (spare : ℕ) : Type 0 where
  pub all : entries ++ wanted_from (first + count) rest ≡ old ++ wanted_from first names
  pub room : length rest ≤ spare
  pub different : AreDifferent rest
  pub new : AreNew rest entries
  pub below : WantsBelow (first + count) entries
  pub counted : count + length rest ≡ length names

pub want-begins : (first : ℕ) (names : List (List ℕ)) (old : List StreamEntry) (spare : ℕ) → length names ≤ spare → AreDifferent names → AreNew names old → WantsBelow first old → Wanting first 0 names names old old spare
want-begins first names old spare r d n b =
    let none : first + 0 ≡ first = omega arith in
    record { all = rw none refl; room = r; different = d; new = n; below = rw none b; counted = omega arith }

pub want-step : (first count : ℕ) (names rest items : List (List ℕ)) (name : List ℕ) (old entries next : List StreamEntry) (spare left : ℕ) (added : Bool)
    → items ≡ name ∷ rest → Wanting first count names items old entries spare → added ≡ not (has_name name entries)
    → OnTrue added (next ≡ entries ++ wanted_now name (record { 0 = first + count }) ∷ []) → OnTrue added (left + 1 ≡ spare) → Wanting first (count + 1) names rest old next left
want-step first count names rest items name old entries next spare left added i w answer a s =
    let v : Wanting first count names (name ∷ rest) old entries spare = subst (λ xs. Wanting first count names xs old entries spare) i w in
    let yes : added ≡ true = answer ∙ ap not v.new.0 in
    let put = on-true added yes a in
    let spent = on-true added yes s in
    let one : first + (count + 1) ≡ (first + count) + 1 = omega arith in
    record {
      all = rw (put, one) (append_assoc entries (wanted_now name (record { 0 = first + count }) ∷ []) (wanted_from ((first + count) + 1) rest) ∙ v.all);
      room = omega (arith, v.room);
      different = v.different.1;
      new = rw put (new-push rest name (record { 0 = first + count }) entries v.different.0 v.new.1);
      below = rw (put, one) (below-push (first + count) ((first + count) + 1) entries (wanted_now name (record { 0 = first + count })) (omega arith) (omega arith) v.below);
      counted = omega (arith, v.counted);
    }

pub want-ends : (first count : ℕ) (names rest : List (List ℕ)) (old entries : List StreamEntry) (spare : ℕ) → rest ≡ [] → Wanting first count names rest old entries spare → entries ≡ old ++ wanted_from first names
want-ends first count names rest old entries spare e w =
    let v : Wanting first count names [] old entries spare = subst (λ xs. Wanting first count names xs old entries spare) e w in
    sym (append-nil entries) ∙ v.all

pub below-stopped : (n : ℕ) (stops : List (List ℕ)) (es : List StreamEntry) → WantsBelow n es → WantsBelow n (stopped stops es)
below-stopped n stops es h = below-filter n (λ e. not (among stops e.name)) es h

-- where there are no streams, all names are new
pub new-none : (names : List (List ℕ)) → AreNew names []
new-none [] = tt
new-none (name ∷ names) = (refl, new-none names)
