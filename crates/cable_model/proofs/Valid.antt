-- What every connection keeps: the numbers of its subscriptions and of their wants rise. So a want that has ended never stands again.
use Rattle.std.proofs.Common.{ℕ, suc, ◌+◌, ◌≡◌, ◌≤◌, ◌==◌, Bool, true, false, cond, not, List, [], ◌∷◌, ◌++◌, length, map, Some, None, refl, ap, sym, ◌∙◌, arith, bytes_eq}
use Rattle.std.specs.List.{filter, AllByRecursion}
use Rattle.std.proofs.lemmas.Bool.Decides.{nat_tests}
use Rattle.cable_base.proofs.Each.{All-append, All-filter, All-implied}
use Rattle.cable_model.specs.declared.pieces.Piece.{Piece}
use Rattle.cable_model.specs.declared.plans.Change.{Change}
use Rattle.cable_model.specs.declared.plans.Change.TheVariants as change
use Rattle.cable_model.specs.Connection.{Want, Sub, Conn, Planner, fresh, wanted, first_above, among, without, streamed, changed, change_of, worked, fold_from, want_in, name_in, name_of}
use Rattle.cable_base.proofs.Rises.{Rises, Rises-from, Rises-upto, Rises-append, Rises-filter}

pub record Valid (n : ℕ) (k : Conn) : Type 0 where
  pub subs : Rises (λ (x : Sub). x.number) 0 k.subs n
  pub wants : AllByRecursion (λ (x : Sub). Rises (λ (y : Want). y.number) 0 x.wants k.made) k.subs

-- what is valid up to a place is so up to a later one
pub Valid-upto : (m n : ℕ) (k : Conn) → m ≤ n → Valid m k → Valid n k
Valid-upto m n k l v = record { subs = Rises-upto (λ (x : Sub). x.number) 0 k.subs m n l v.subs; wants = v.wants }

pub wanted-rises : (n : ℕ) (names : List (List ℕ)) → Rises (λ (y : Want). y.number) n (wanted n names) (n + length names)
wanted-rises n [] = omega arith
wanted-rises n (x ∷ xs) = (omega arith, Rises-upto (λ (y : Want). y.number) (n + 1) (wanted (n + 1) xs) (n + 1 + length xs) (n + length (x ∷ xs)) (omega arith) (wanted-rises (n + 1) xs))

pub want_in-above : (w b : ℕ) (ws : List Want) (e : ℕ) → Rises (λ (y : Want). y.number) b ws e → w ≤ b → want_in w ws ≡ None
want_in-above w b [] e h l = refl
want_in-above w b (x ∷ xs) e h l =
    let t : (x.number == w) ≡ false = grind (arith, nat_tests) in rw t (want_in-above w x.number xs e h.1 (omega arith))

pub want_in-append : (w : ℕ) (xs ys : List Want) → want_in w ys ≡ None → want_in w (xs ++ ys) ≡ want_in w xs
want_in-append w [] ys h = h
want_in-append w (x ∷ xs) ys h = ap (λ o. cond (x.number == w) (Some x.name) o) (want_in-append w xs ys h)

pub want_in-filter : (w : ℕ) (p : Want → Bool) (b : ℕ) (ws : List Want) (e : ℕ) (name : List ℕ) → Rises (λ (y : Want). y.number) b ws e
    → want_in w (filter p ws) ≡ Some name → want_in w ws ≡ Some name
want_in-filter w p b [] e name h q = q
want_in-filter w p b (x ∷ xs) e name h q = go (p x) refl (x.number == w) refl (want_in-filter w p x.number xs e name h.1)
  where
    go : (t : Bool) → p x ≡ t → (u : Bool) → (x.number == w) ≡ u → (want_in w (filter p xs) ≡ Some name → want_in w xs ≡ Some name) → want_in w (x ∷ xs) ≡ Some name
    go true t true u ih = let q' = rw (t, u) at q in rw u q'
    go true t false u ih = let q' = rw (t, u) at q in rw u (ih q')
    go false t true u ih =
        let same : x.number ≡ w = grind (arith, nat_tests) in
        let none = want_in-above w x.number (filter p xs) e (Rises-filter (λ (y : Want). y.number) p x.number xs e h.1) (omega arith) in
        let q' = rw t at q in
        absurd (cc (none, q'))
    go false t false u ih = let q' = rw t at q in rw u (ih q')

pub name_in-above : (s w b : ℕ) (xs : List Sub) (e : ℕ) → Rises (λ (x : Sub). x.number) b xs e → s ≤ b → name_in s w xs ≡ None
name_in-above s w b [] e h l = refl
name_in-above s w b (x ∷ xs) e h l =
    let t : (x.number == s) ≡ false = grind (arith, nat_tests) in rw t (name_in-above s w x.number xs e h.1 (omega arith))

pub name_in-filter : (s w : ℕ) (p : Sub → Bool) (b : ℕ) (xs : List Sub) (e : ℕ) (name : List ℕ) → Rises (λ (x : Sub). x.number) b xs e
    → name_in s w (filter p xs) ≡ Some name → name_in s w xs ≡ Some name
name_in-filter s w p b [] e name h q = q
name_in-filter s w p b (x ∷ xs) e name h q = go (p x) refl (x.number == s) refl (name_in-filter s w p x.number xs e name h.1)
  where
    go : (t : Bool) → p x ≡ t → (u : Bool) → (x.number == s) ≡ u → (name_in s w (filter p xs) ≡ Some name → name_in s w xs ≡ Some name) → name_in s w (x ∷ xs) ≡ Some name
    go true t true u ih = let q' = rw (t, u) at q in rw u q'
    go true t false u ih = let q' = rw (t, u) at q in rw u (ih q')
    go false t true u ih =
        let same : x.number ≡ s = grind (arith, nat_tests) in
        let none = name_in-above s w x.number (filter p xs) e (Rises-filter (λ (y : Sub). y.number) p x.number xs e h.1) (omega arith) in
        let q' = rw t at q in
        absurd (cc (none, q'))
    go false t false u ih = let q' = rw t at q in rw u (ih q')

-- a last subscription that lacks the want changes nothing
pub name_in-push : (s w : ℕ) (xs : List Sub) (y : Sub) (name : List ℕ) → want_in w y.wants ≡ None → name_in s w (xs ++ y ∷ []) ≡ Some name → name_in s w xs ≡ Some name
name_in-push s w [] y name none q = go (y.number == s) refl
  where
    go : (u : Bool) → (y.number == s) ≡ u → name_in s w [] ≡ Some name
    go true u = let q' = rw u at q in absurd (cc (none, q'))
    go false u = let q' = rw u at q in q'
name_in-push s w (x ∷ xs) y name none q = go (x.number == s) refl (name_in-push s w xs y name none)
  where
    go : (u : Bool) → (x.number == s) ≡ u → (name_in s w (xs ++ y ∷ []) ≡ Some name → name_in s w xs ≡ Some name) → name_in s w (x ∷ xs) ≡ Some name
    go true u ih = let q' = rw u at q in rw u q'
    go false u ih = let q' = rw u at q in rw u (ih q')

-- a change of the subscriptions one by one, which gives none of them the want
pub name_in-map : (s w : ℕ) (f : Sub → Sub) (xs : List Sub) (name : List ℕ)
    → ((x : Sub) → (f x).number ≡ x.number)
    → AllByRecursion (λ x. want_in w (f x).wants ≡ Some name → want_in w x.wants ≡ Some name) xs
    → name_in s w (map f xs) ≡ Some name → name_in s w xs ≡ Some name
name_in-map s w f [] name num all q = q
name_in-map s w f (x ∷ xs) name num all q = go (x.number == s) refl (name_in-map s w f xs name num all.1)
  where
    go : (u : Bool) → (x.number == s) ≡ u → (name_in s w (map f xs) ≡ Some name → name_in s w xs ≡ Some name) → name_in s w (x ∷ xs) ≡ Some name
    go true u ih = let q' = rw (num x, u) at q in rw u (all.0 q')
    go false u ih = let q' = rw (num x, u) at q in rw u (ih q')

pub streamed-number : (n : ℕ) (identifier : List ℕ) (stops streams : List (List ℕ)) (x : Sub) → (streamed n identifier stops streams x).number ≡ x.number
streamed-number n identifier stops streams x = go (bytes_eq x.identifier identifier) refl
  where
    go : (t : Bool) → bytes_eq x.identifier identifier ≡ t → (streamed n identifier stops streams x).number ≡ x.number
    go true t = rw t refl
    go false t = rw t refl

pub streamed-wants : (w n : ℕ) (identifier : List ℕ) (stops streams : List (List ℕ)) (x : Sub) (name : List ℕ)
    → w ≤ n → Rises (λ (y : Want). y.number) 0 x.wants n
    → want_in w (streamed n identifier stops streams x).wants ≡ Some name → want_in w x.wants ≡ Some name
streamed-wants w n identifier stops streams x name l r = go (bytes_eq x.identifier identifier) refl
  where
    go : (t : Bool) → bytes_eq x.identifier identifier ≡ t → want_in w (streamed n identifier stops streams x).wants ≡ Some name → want_in w x.wants ≡ Some name
    go true t q =
        let q' = rw t at q in
        let none = want_in-above w n (wanted n streams) (n + length streams) (wanted-rises n streams) l in
        let kept = sym (want_in-append w (without stops x.wants) (wanted n streams) none) ∙ q' in
        want_in-filter w (λ y. not (among stops y.name)) 0 x.wants n name r kept
    go false t q = rw t at q

pub streamed-all : (w n : ℕ) (identifier : List ℕ) (stops streams : List (List ℕ)) (name : List ℕ) (xs : List Sub)
    → w ≤ n → AllByRecursion (λ (x : Sub). Rises (λ (y : Want). y.number) 0 x.wants n) xs
    → AllByRecursion (λ x. want_in w (streamed n identifier stops streams x).wants ≡ Some name → want_in w x.wants ≡ Some name) xs
streamed-all w n identifier stops streams name [] l h = tt
streamed-all w n identifier stops streams name (x ∷ xs) l h = (streamed-wants w n identifier stops streams x name l h.0, streamed-all w n identifier stops streams name xs l h.1)

-- no change brings a want back, nor one under a number that was given
pub changed-keeps : (n s w : ℕ) (k : Conn) (c : Change) (name : List ℕ) → Valid n k → w ≤ k.made
    → name_of s w (changed c (suc n) k) ≡ Some name → name_of s w k ≡ Some name
changed-keeps n s w k change.Nothing name v l q = q
changed-keeps n s w k (change.Add identifier streams) name v l q =
    name_in-push s w k.subs (record { number = suc n; identifier = identifier; wants = wanted k.made streams; due = first_above k.made streams }) name
    (want_in-above w k.made (wanted k.made streams) (k.made + length streams) (wanted-rises k.made streams) l) q
changed-keeps n s w k (change.Streams identifier stops streams) name v l q =
    name_in-map s w (streamed k.made identifier stops streams) k.subs name (streamed-number k.made identifier stops streams) (streamed-all w k.made identifier stops streams name k.subs l v.wants) q
changed-keeps n s w k (change.Remove identifier) name v l q = name_in-filter s w (λ x. not (bytes_eq x.identifier identifier)) 0 k.subs n name v.subs q
changed-keeps n s w k change.Close name v l q = absurd (cc (q))

pub changed-made : (p : ℕ) (k : Conn) (c : Change) → k.made ≤ (changed c p k).made
changed-made p k change.Nothing = omega arith
changed-made p k _ = omega arith

All-upto : (m n : ℕ) (xs : List Sub) → m ≤ n → AllByRecursion (λ (x : Sub). Rises (λ (y : Want). y.number) 0 x.wants m) xs → AllByRecursion (λ (x : Sub). Rises (λ (y : Want). y.number) 0 x.wants n) xs
All-upto m n xs l h = All-implied (λ (x : Sub). Rises (λ (y : Want). y.number) 0 x.wants m) (λ (x : Sub). Rises (λ (y : Want). y.number) 0 x.wants n) xs (λ x r. Rises-upto (λ (y : Want). y.number) 0 x.wants m n l r) h

streamed-rises : (n : ℕ) (identifier : List ℕ) (stops streams : List (List ℕ)) (x : Sub) → Rises (λ (y : Want). y.number) 0 x.wants n
    → Rises (λ (y : Want). y.number) 0 (streamed n identifier stops streams x).wants (n + length streams)
streamed-rises n identifier stops streams x r = go (bytes_eq x.identifier identifier) refl
  where
    go : (t : Bool) → bytes_eq x.identifier identifier ≡ t → Rises (λ (y : Want). y.number) 0 (streamed n identifier stops streams x).wants (n + length streams)
    go true t = rw t (Rises-append (λ (y : Want). y.number) 0 (without stops x.wants) (wanted n streams) n (n + length streams) (Rises-filter (λ (y : Want). y.number) (λ y. not (among stops y.name)) 0 x.wants n r) (wanted-rises n streams))
    go false t = rw t (Rises-upto (λ (y : Want). y.number) 0 x.wants n (n + length streams) (omega arith) r)

streamed-valid : (n m : ℕ) (identifier : List ℕ) (stops streams : List (List ℕ)) (b : ℕ) (xs : List Sub)
    → AllByRecursion (λ (x : Sub). Rises (λ (y : Want). y.number) 0 x.wants n) xs → Rises (λ (x : Sub). x.number) b xs m
    → Rises (λ (x : Sub). x.number) b (map (streamed n identifier stops streams) xs) m × AllByRecursion (λ (x : Sub). Rises (λ (y : Want). y.number) 0 x.wants (n + length streams)) (map (streamed n identifier stops streams) xs)
streamed-valid n m identifier stops streams b [] h r = (r, tt)
streamed-valid n m identifier stops streams b (x ∷ xs) h r =
    let ih = streamed-valid n m identifier stops streams x.number xs h.1 r.1 in
    let e = streamed-number n identifier stops streams x in
    (rw e (r.0, ih.0), (streamed-rises n identifier stops streams x h.0, ih.1))

pub changed-valid : (n : ℕ) (k : Conn) (c : Change) → Valid n k → Valid (suc n) (changed c (suc n) k)
changed-valid n k change.Nothing v = record { subs = Rises-upto (λ (x : Sub). x.number) 0 k.subs n (suc n) (omega arith) v.subs; wants = v.wants }
changed-valid n k (change.Add identifier streams) v =
    let y : Sub = record { number = suc n; identifier = identifier; wants = wanted k.made streams; due = first_above k.made streams } in
    record {
      subs = Rises-append (λ (x : Sub). x.number) 0 k.subs (y ∷ []) n (suc n) v.subs (omega arith, omega arith);
      wants = All-append (λ (x : Sub). Rises (λ (z : Want). z.number) 0 x.wants (k.made + length streams)) k.subs (y ∷ []) (All-upto k.made (k.made + length streams) k.subs (omega arith) v.wants) ((Rises-from (λ (y : Want). y.number) 0 k.made (wanted k.made streams) (k.made + length streams) (omega arith) (wanted-rises k.made streams)), tt);
    }
changed-valid n k (change.Streams identifier stops streams) v =
    let both = streamed-valid k.made n identifier stops streams 0 k.subs v.wants v.subs in
    record { subs = Rises-upto (λ (x : Sub). x.number) 0 (map (streamed k.made identifier stops streams) k.subs) n (suc n) (omega arith) both.0; wants = both.1 }
changed-valid n k (change.Remove identifier) v =
    record {
      subs = Rises-upto (λ (x : Sub). x.number) 0 (filter (λ x. not (bytes_eq x.identifier identifier)) k.subs) n (suc n) (omega arith) (Rises-filter (λ (x : Sub). x.number) (λ x. not (bytes_eq x.identifier identifier)) 0 k.subs n v.subs);
      wants = All-filter (λ (x : Sub). Rises (λ (z : Want). z.number) 0 x.wants k.made) (λ x. not (bytes_eq x.identifier identifier)) k.subs v.wants;
    }
changed-valid n k change.Close v = record { subs = omega arith; wants = tt }

pub worked-valid : (pl : Planner) (n : ℕ) (k : Conn) (p : Piece) → Valid n k → Valid (suc n) (worked pl (suc n) k p)
worked-valid pl n k p v = changed-valid n k (change_of pl (suc n) k p) v

pub fold_from-valid : (pl : Planner) (n : ℕ) (k : Conn) (ps : List Piece) → Valid n k → Valid (n + length ps) (fold_from pl n k ps)
fold_from-valid pl n k [] v = let e : n + 0 ≡ n = omega arith in rw e v
fold_from-valid pl n k (p ∷ ps) v =
    let ih = fold_from-valid pl (suc n) (worked pl (suc n) k p) ps (worked-valid pl n k p v) in
    let e : n + length (p ∷ ps) ≡ suc n + length ps = omega arith in rw e ih

-- whatever is worked, a want that does not stand never does
pub fold_from-keeps : (pl : Planner) (n s w : ℕ) (k : Conn) (ps : List Piece) (name : List ℕ) → Valid n k → w ≤ k.made
    → name_of s w (fold_from pl n k ps) ≡ Some name → name_of s w k ≡ Some name
fold_from-keeps pl n s w k [] name v l q = q
fold_from-keeps pl n s w k (p ∷ ps) name v l q =
    let c = change_of pl (suc n) k p in
    let m = changed-made (suc n) k c in
    changed-keeps n s w k c name v l (fold_from-keeps pl (suc n) s w (worked pl (suc n) k p) ps name (worked-valid pl n k p v) (omega arith) q)

pub fresh-valid : Valid 0 fresh
fresh-valid = record { subs = omega arith; wants = tt }
