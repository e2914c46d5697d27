-- The want that is due with a subscription: no change brings a subscription back, or moves its due.
use Rattle.std.proofs.Common.{ℕ, suc, ◌+◌, ◌≡◌, ◌≤◌, ◌==◌, Bool, true, false, cond, not, List, [], ◌∷◌, ◌++◌, length, map, Some, None, Option, refl, ap, sym, ◌∙◌, arith, inl, inr, ◌⊎◌, leb, bytes_eq}
use Rattle.std.specs.List.{filter, list_any, AllByRecursion}
use Rattle.std.proofs.lemmas.Bool.Decides.{nat_tests}
use Rattle.std.proofs.lemmas.Bool.{leb-true}
use Rattle.cable_base.proofs.Each.{All-append, All-filter}
use Rattle.cable_base.proofs.Rises.{Rises, Rises-filter}
use Rattle.cable_model.specs.declared.pieces.Piece.{Piece}
use Rattle.cable_model.specs.declared.plans.Change.{Change}
use Rattle.cable_model.specs.declared.plans.Change.TheVariants as change
use Rattle.cable_model.specs.Connection.{Want, Sub, Conn, Planner, wanted, first_above, without, streamed, changed, change_of, worked, fold_from, want_in, name_in}
use Rattle.cable_model.specs.Promise.{due_in}
use Rattle.cable_model.proofs.Valid.{Valid, worked-valid, changed-made, streamed-number, streamed-wants, want_in-above, wanted-rises}

-- the `due` of a subscription: no change brings it back or moves it
due_in-above : (s b : ℕ) (xs : List Sub) (e : ℕ) → Rises (λ (x : Sub). x.number) b xs e → s ≤ b → due_in s xs ≡ None
due_in-above s b [] e h l = refl
due_in-above s b (x ∷ xs) e h l = let t : (x.number == s) ≡ false = grind (arith, nat_tests) in rw t (due_in-above s x.number xs e h.1 (omega arith))

pub due_in-filter : (s : ℕ) (p : Sub → Bool) (b : ℕ) (xs : List Sub) (e : ℕ) (d : Option ℕ) → Rises (λ (x : Sub). x.number) b xs e → due_in s (filter p xs) ≡ Some d → due_in s xs ≡ Some d
due_in-filter s p b [] e d h q = q
due_in-filter s p b (x ∷ xs) e d h q = go (p x) refl (x.number == s) refl (due_in-filter s p x.number xs e d h.1)
  where
    go : (t : Bool) → p x ≡ t → (u : Bool) → (x.number == s) ≡ u → (due_in s (filter p xs) ≡ Some d → due_in s xs ≡ Some d) → due_in s (x ∷ xs) ≡ Some d
    go true t true u ih = let q' = rw (t, u) at q in rw u q'
    go true t false u ih = let q' = rw (t, u) at q in rw u (ih q')
    go false t true u ih =
        let same : x.number ≡ s = grind (arith, nat_tests) in
        let none = due_in-above s x.number (filter p xs) e (Rises-filter (λ (y : Sub). y.number) p x.number xs e h.1) (omega arith) in
        let q' = rw t at q in absurd (cc (none, q'))
    go false t false u ih = let q' = rw t at q in rw u (ih q')

due_in-push : (s : ℕ) (xs : List Sub) (y : Sub) (d : Option ℕ) → due_in s (xs ++ y ∷ []) ≡ Some d → (due_in s xs ≡ Some d) ⊎ (y.due ≡ d)
due_in-push s [] y d q = go (y.number == s) refl
  where
    go : (u : Bool) → (y.number == s) ≡ u → (due_in s [] ≡ Some d) ⊎ (y.due ≡ d)
    go true u = let q' = rw u at q in inr (cc (q'))
    go false u = let q' = rw u at q in absurd (cc (q'))
due_in-push s (x ∷ xs) y d q = go (x.number == s) refl (due_in-push s xs y d)
  where
    go : (u : Bool) → (x.number == s) ≡ u → (due_in s (xs ++ y ∷ []) ≡ Some d → (due_in s xs ≡ Some d) ⊎ (y.due ≡ d)) → (due_in s (x ∷ xs) ≡ Some d) ⊎ (y.due ≡ d)
    go true u ih = let q' = rw u at q in inl (rw u q')
    go false u ih = let q' = rw u at q in elim (ih q') [ inl e ↦ inl (rw u e) | inr e ↦ inr e ]

streamed-due : (n : ℕ) (identifier : List ℕ) (stops streams : List (List ℕ)) (x : Sub) → (streamed n identifier stops streams x).due ≡ x.due
streamed-due n identifier stops streams x = elim (bytes_eq x.identifier identifier) as (λ b. (cond b (record { number = x.number; identifier = x.identifier; wants = without stops x.wants ++ wanted n streams; due = x.due }) x).due ≡ x.due) [ true ↦ refl | false ↦ refl ]

pub due_in-map : (s n : ℕ) (identifier : List ℕ) (stops streams : List (List ℕ)) (xs : List Sub) → due_in s (map (streamed n identifier stops streams) xs) ≡ due_in s xs
due_in-map s n identifier stops streams [] = refl
due_in-map s n identifier stops streams (x ∷ xs) =
    rw (streamed-number n identifier stops streams x, streamed-due n identifier stops streams x) (ap (λ o. cond (x.number == s) (Some x.due) o) (due_in-map s n identifier stops streams xs))

pub due-keeps : (n s m : ℕ) (k : Conn) (c : Change) → Valid n k → m ≤ k.made → due_in s (changed c (suc n) k).subs ≡ Some (Some m) → due_in s k.subs ≡ Some (Some m)
due-keeps n s m k change.Nothing v l q = q
due-keeps n s m k (change.Add identifier streams) v l q =
    elim (due_in-push s k.subs (record { number = suc n; identifier = identifier; wants = wanted k.made streams; due = first_above k.made streams }) (Some m) q) [ inl e ↦ e | inr e ↦ absurd (new streams e) ]
  where
    new : (names : List (List ℕ)) → first_above k.made names ≡ Some m → ⊥
    new [] e = cc (e)
    new (x ∷ xs) e = let t : k.made + 1 ≡ m = cc (e) in omega arith
due-keeps n s m k (change.Streams identifier stops streams) v l q = sym (due_in-map s k.made identifier stops streams k.subs) ∙ q
due-keeps n s m k (change.Remove identifier) v l q = due_in-filter s (λ x. not (bytes_eq x.identifier identifier)) 0 k.subs n (Some m) v.subs q
due-keeps n s m k change.Close v l q = absurd (cc (q))

pub fold-due : (pl : Planner) (n s m : ℕ) (k : Conn) (ps : List Piece) → Valid n k → m ≤ k.made → due_in s (fold_from pl n k ps).subs ≡ Some (Some m) → due_in s k.subs ≡ Some (Some m)
fold-due pl n s m k [] v l q = q
fold-due pl n s m k (p ∷ ps) v l q =
    let g = changed-made (suc n) k (change_of pl (suc n) k p) in
    due-keeps n s m k (change_of pl (suc n) k p) v l (fold-due pl (suc n) s m (worked pl (suc n) k p) ps (worked-valid pl n k p v) (omega arith) q)

-- a subscription's wants are not below its due
abbrev pub DueOk : ℕ → Sub → Type 0
DueOk made x = (n : ℕ) → x.due ≡ Some n → (n ≤ made) × ((w : ℕ) (name : List ℕ) → want_in w x.wants ≡ Some name → n ≤ w)

abbrev pub Dues : Conn → Type 0
Dues k = AllByRecursion (DueOk k.made) k.subs

dues-more : (m m' : ℕ) (xs : List Sub) → m ≤ m' → AllByRecursion (DueOk m) xs → AllByRecursion (DueOk m') xs
dues-more m m' [] l h = tt
dues-more m m' (x ∷ xs) l h = (λ n e. let a = h.0 n e in let b = a.0 in (omega arith, a.1), dues-more m m' xs l h.1)

dues-map : (m : ℕ) (identifier : List ℕ) (stops streams : List (List ℕ)) (xs : List Sub) → AllByRecursion (λ (x : Sub). Rises (λ (y : Want). y.number) 0 x.wants m) xs
    → AllByRecursion (DueOk m) xs → AllByRecursion (DueOk (m + length streams)) (map (streamed m identifier stops streams) xs)
dues-map m identifier stops streams [] r h = tt
dues-map m identifier stops streams (x ∷ xs) r h = (one, dues-map m identifier stops streams xs r.1 h.1)
  where
    one : DueOk (m + length streams) (streamed m identifier stops streams x)
    one n e =
        let a = h.0 n (sym (streamed-due m identifier stops streams x) ∙ e) in
        let b = a.0 in
        (omega arith, λ w name q. go w name q (leb w m) refl)
      where
        go : (w : ℕ) (name : List ℕ) → want_in w (streamed m identifier stops streams x).wants ≡ Some name → (b : Bool) → leb w m ≡ b → n ≤ w
        go w name q true b = (h.0 n (sym (streamed-due m identifier stops streams x) ∙ e)).1 w name (streamed-wants w m identifier stops streams x name (leb-true w m b) r.0 q)
        go w name q false b = let a = (h.0 n (sym (streamed-due m identifier stops streams x) ∙ e)).0 in grind (arith, nat_tests)

pub changed-dues : (n : ℕ) (k : Conn) (c : Change) → Valid n k → Dues k → Dues (changed c (suc n) k)
changed-dues n k change.Nothing v d = d
changed-dues n k (change.Add identifier streams) v d =
    All-append (DueOk (k.made + length streams)) k.subs (record { number = suc n; identifier = identifier; wants = wanted k.made streams; due = first_above k.made streams } ∷ []) (dues-more k.made (k.made + length streams) k.subs (omega arith) d) (new streams, tt)
  where
    above : (names : List (List ℕ)) (w : ℕ) (name : List ℕ) → want_in w (wanted k.made names) ≡ Some name → (b : Bool) → leb w k.made ≡ b → k.made + 1 ≤ w
    above names w name q true b = let none = want_in-above w k.made (wanted k.made names) (k.made + length names) (wanted-rises k.made names) (leb-true w k.made b) in absurd (cc (none, q))
    above names w name q false b = grind (arith, nat_tests)

    new : (names : List (List ℕ)) → DueOk (k.made + length names) (record { number = suc n; identifier = identifier; wants = wanted k.made names; due = first_above k.made names })
    new [] m e = absurd (cc (e))
    new (x ∷ xs) m e = let t : k.made + 1 ≡ m = cc (e) in (omega arith, λ w name q. let a = above (x ∷ xs) w name q (leb w k.made) refl in omega arith)
changed-dues n k (change.Streams identifier stops streams) v d = dues-map k.made identifier stops streams k.subs v.wants d
changed-dues n k (change.Remove identifier) v d = All-filter (DueOk k.made) (λ x. not (bytes_eq x.identifier identifier)) k.subs d
changed-dues n k change.Close v d = tt

pub fold-dues : (pl : Planner) (n : ℕ) (k : Conn) (ps : List Piece) → Valid n k → Dues k → Dues (fold_from pl n k ps)
fold-dues pl n k [] v d = d
fold-dues pl n k (p ∷ ps) v d = fold-dues pl (suc n) (worked pl (suc n) k p) ps (worked-valid pl n k p v) (changed-dues n k (change_of pl (suc n) k p) v d)

-- a want that stands is not below its subscription's due
pub due-below : (m s w n : ℕ) (name : List ℕ) (xs : List Sub) → AllByRecursion (DueOk m) xs → name_in s w xs ≡ Some name → due_in s xs ≡ Some (Some n) → n ≤ w
due-below m s w n name [] h a b = absurd (cc (a))
due-below m s w n name (x ∷ xs) h a b = go (x.number == s) refl (due-below m s w n name xs h.1)
  where
    go : (u : Bool) → (x.number == s) ≡ u → (name_in s w xs ≡ Some name → due_in s xs ≡ Some (Some n) → n ≤ w) → n ≤ w
    go true u ih = let a' = rw u at a in let b' = rw u at b in (h.0 n (cc (b'))).1 w name a'
    go false u ih = let a' = rw u at a in let b' = rw u at b in ih a' b'

pub name-due : (s w : ℕ) (name : List ℕ) (xs : List Sub) → name_in s w xs ≡ Some name → (d : Option ℕ) × (due_in s xs ≡ Some d)
name-due s w name [] a = absurd (cc (a))
name-due s w name (x ∷ xs) a = go (x.number == s) refl (name-due s w name xs)
  where
    go : (u : Bool) → (x.number == s) ≡ u → (name_in s w xs ≡ Some name → (d : Option ℕ) × (due_in s xs ≡ Some d)) → (d : Option ℕ) × (due_in s (x ∷ xs) ≡ Some d)
    go true u ih = (x.due, rw u refl)
    go false u ih = let a' = rw u at a in let r = ih a' in (r.0, rw u r.1)

pub due-stands : (s : ℕ) (d : Option ℕ) (xs : List Sub) → due_in s xs ≡ Some d → list_any (λ (x : Sub). x.number == s) xs ≡ true
due-stands s d [] a = absurd (cc (a))
due-stands s d (x ∷ xs) a = go (x.number == s) refl (due-stands s d xs)
  where
    go : (u : Bool) → (x.number == s) ≡ u → (due_in s xs ≡ Some d → list_any (λ (y : Sub). y.number == s) xs ≡ true) → list_any (λ (y : Sub). y.number == s) (x ∷ xs) ≡ true
    go true u ih = rw u refl
    go false u ih = let a' = rw u at a in rw u (ih a')
