-- A subscription is looked for by its number: what a change makes of what is found there.
use Rattle.std.proofs.Common.{ℕ, ◌+◌, ◌≡◌, ◌≤◌, ◌==◌, Bool, true, false, cond, not, ◌&&◌, List, [], ◌∷◌, ◌++◌, length, map, refl, ap, ◌∙◌, arith, is_some}
use Rattle.std.specs.List.{filter, list_any}
use Rattle.std.proofs.lemmas.Bool.Decides.{nat_tests}
use Rattle.cable_base.proofs.Rises.{Rises}
use Rattle.cable_model.specs.Connection.{Want, Sub, among, without, wanted, want_in, name_in}
use Rattle.cable_model.proofs.Valid.{want_in-above, want_in-append, wanted-rises}
use Rattle.stream_set.proofs.Apart.{or-false}

-- the test of the first subscription with this number
abbrev pub look : ℕ → (Sub → Bool) → List Sub → Bool
look s here [] = false
look s here (x ∷ xs) = cond (x.number == s) (here x) (look s here xs)

abbrev pub has_want_named : ℕ → Sub → Bool
has_want_named w x = is_some (want_in w x.wants)

pub look-name : (s w : ℕ) (xs : List Sub) → is_some (name_in s w xs) ≡ look s (has_want_named w) xs
look-name s w [] = refl
look-name s w (x ∷ xs) = go (x.number == s) refl (look-name s w xs)
  where
    go : (b : Bool) → (x.number == s) ≡ b → is_some (name_in s w xs) ≡ look s (has_want_named w) xs → is_some (name_in s w (x ∷ xs)) ≡ look s (has_want_named w) (x ∷ xs)
    go true b ih = rw b refl
    go false b ih = rw b ih

pub look-number : (s : ℕ) (xs : List Sub) → list_any (λ (x : Sub). x.number == s) xs ≡ look s (λ x. true) xs
look-number s [] = refl
look-number s (x ∷ xs) = go (x.number == s) refl (look-number s xs)
  where
    go : (b : Bool) → (x.number == s) ≡ b → list_any (λ (x : Sub). x.number == s) xs ≡ look s (λ x. true) xs → list_any (λ (x : Sub). x.number == s) (x ∷ xs) ≡ look s (λ x. true) (x ∷ xs)
    go true b ih = rw b refl
    go false b ih = rw b ih

-- what is found is found with one subscription more
pub look-push : (s : ℕ) (here : Sub → Bool) (xs ys : List Sub) → look s here xs ≡ true → look s here (xs ++ ys) ≡ true
look-push s here [] ys h = absurd (cc (h))
look-push s here (x ∷ xs) ys h = go (x.number == s) refl (look-push s here xs ys)
  where
    go : (b : Bool) → (x.number == s) ≡ b → (look s here xs ≡ true → look s here (xs ++ ys) ≡ true) → look s here ((x ∷ xs) ++ ys) ≡ true
    go true b ih = let h' = rw b at h in rw b h'
    go false b ih = let h' = rw b at h in rw b (ih h')

-- a change of each subscription that keeps its number
pub look-map : (s : ℕ) (here : Sub → Bool) (f : Sub → Sub) (xs : List Sub) → ((x : Sub) → (f x).number ≡ x.number) → look s here (map f xs) ≡ look s (λ x. here (f x)) xs
look-map s here f [] n = refl
look-map s here f (x ∷ xs) n = rw (n x, look-map s here f xs n) refl

-- numbers above this one are none
pub look-above : (s b e : ℕ) (here : Sub → Bool) (xs : List Sub) → Rises (λ (x : Sub). x.number) b xs e → s ≤ b → look s here xs ≡ false
look-above s b e here [] r l = refl
look-above s b e here (x ∷ xs) r l =
    let t : (x.number == s) ≡ false = let above = r.0 in grind (arith, nat_tests) in
    rw t (look-above s x.number e here xs r.1 (let above = r.0 in omega arith))

-- ---- a subscription that ends

-- the subscription of this number is one that ends
abbrev pub ended_at : (ending : Sub → Bool) → ℕ → Sub → Bool
ended_at ending s x = ending x && (s == x.number)

none-ended : (ending : Sub → Bool) (s b e : ℕ) (xs : List Sub) → Rises (λ (x : Sub). x.number) b xs e → s ≤ b → list_any (ended_at ending s) xs ≡ false
none-ended ending s b e [] r l = refl
none-ended ending s b e (x ∷ xs) r l = or-false (ended_at ending s x) (list_any (ended_at ending s) xs) (no (ending x)) (none-ended ending s x.number e xs r.1 (let above = r.0 in omega arith))
  where
    no : (b : Bool) → (b && (s == x.number)) ≡ false
    no true = let above = r.0 in grind (arith, nat_tests)
    no false = refl

filter-above : (keep : Sub → Bool) (here : Sub → Bool) (s b e : ℕ) (xs : List Sub) → Rises (λ (x : Sub). x.number) b xs e → s ≤ b → look s here (filter keep xs) ≡ false
filter-above keep here s b e [] r l = refl
filter-above keep here s b e (x ∷ xs) r l = go (keep x) refl (filter-above keep here s x.number e xs r.1 (let above = r.0 in omega arith))
  where
    go : (t : Bool) → keep x ≡ t → look s here (filter keep xs) ≡ false → look s here (filter keep (x ∷ xs)) ≡ false
    go true t ih = let n : (x.number == s) ≡ false = let above = r.0 in grind (arith, nat_tests) in rw (t, n) ih
    go false t ih = rw t ih

-- what is found is found again, where its subscription isn't one that ends
pub look-ended : (ending : Sub → Bool) (here : Sub → Bool) (s b e : ℕ) (xs : List Sub) → Rises (λ (x : Sub). x.number) b xs e → look s here xs ≡ true
    → look s here (filter (λ x. not (ending x)) xs) ≡ not (list_any (ended_at ending s) xs)
look-ended ending here s b e [] r h = absurd (cc (h))
look-ended ending here s b e (x ∷ xs) r h = go (x.number == s) refl (ending x) refl (look-ended ending here s x.number e xs r.1)
  where
    keep : Sub → Bool
    keep x = not (ending x)

    go : (n : Bool) → (x.number == s) ≡ n → (t : Bool) → ending x ≡ t → (look s here xs ≡ true → look s here (filter (λ x. not (ending x)) xs) ≡ not (list_any (ended_at ending s) xs))
        → look s here (filter (λ x. not (ending x)) (x ∷ xs)) ≡ not (list_any (ended_at ending s) (x ∷ xs))
    go true n true t ih =
        let m : (s == x.number) ≡ true = grind (arith, nat_tests) in
        let same : s ≤ x.number = grind (arith, nat_tests) in
        rw (t, m) (filter-above (λ x. not (ending x)) here s x.number e xs r.1 same)
    go true n false t ih =
        let h' = rw n at h in
        let same : s ≤ x.number = grind (arith, nat_tests) in
        rw (t, n, none-ended ending s x.number e xs r.1 same) h'
    go false n true t ih =
        let h' = rw n at h in
        let m : (s == x.number) ≡ false = grind (arith, nat_tests) in
        rw (t, m) (ih h')
    go false n false t ih =
        let h' = rw n at h in
        rw (t, n) (ih h')

-- ---- a want whose stream stops

abbrev pub stopped_as : (stops : List (List ℕ)) → ℕ → Want → Bool
stopped_as stops w x = among stops x.name && (w == x.number)

none-stopped : (stops : List (List ℕ)) (w b e : ℕ) (ws : List Want) → Rises (λ (y : Want). y.number) b ws e → w ≤ b → list_any (stopped_as stops w) ws ≡ false
none-stopped stops w b e [] r l = refl
none-stopped stops w b e (x ∷ xs) r l = or-false (stopped_as stops w x) (list_any (stopped_as stops w) xs) (no (among stops x.name)) (none-stopped stops w x.number e xs r.1 (let above = r.0 in omega arith))
  where
    no : (b : Bool) → (b && (w == x.number)) ≡ false
    no true = let above = r.0 in grind (arith, nat_tests)
    no false = refl

without-above : (keep : Want → Bool) (w b e : ℕ) (ws : List Want) → Rises (λ (y : Want). y.number) b ws e → w ≤ b → is_some (want_in w (filter keep ws)) ≡ false
without-above keep w b e [] r l = refl
without-above keep w b e (x ∷ xs) r l = go (keep x) refl (without-above keep w x.number e xs r.1 (let above = r.0 in omega arith))
  where
    go : (t : Bool) → keep x ≡ t → is_some (want_in w (filter keep xs)) ≡ false → is_some (want_in w (filter keep (x ∷ xs))) ≡ false
    go true t ih = let n : (x.number == w) ≡ false = let above = r.0 in grind (arith, nat_tests) in rw (t, n) ih
    go false t ih = rw t ih

-- a want that stands stands on, where its stream doesn't stop
pub want-stopped : (stops : List (List ℕ)) (w b e : ℕ) (ws : List Want) → Rises (λ (y : Want). y.number) b ws e → is_some (want_in w ws) ≡ true
    → is_some (want_in w (without stops ws)) ≡ not (list_any (stopped_as stops w) ws)
want-stopped stops w b e [] r h = absurd (cc (h))
want-stopped stops w b e (x ∷ xs) r h = go (x.number == w) refl (among stops x.name) refl (want-stopped stops w x.number e xs r.1)
  where
    go : (n : Bool) → (x.number == w) ≡ n → (t : Bool) → among stops x.name ≡ t
        → (is_some (want_in w xs) ≡ true → is_some (want_in w (without stops xs)) ≡ not (list_any (stopped_as stops w) xs))
        → is_some (want_in w (without stops (x ∷ xs))) ≡ not (list_any (stopped_as stops w) (x ∷ xs))
    go true n true t ih =
        let m : (w == x.number) ≡ true = grind (arith, nat_tests) in
        let same : w ≤ x.number = grind (arith, nat_tests) in
        rw (t, m) (without-above (λ y. not (among stops y.name)) w x.number e xs r.1 same)
    go true n false t ih =
        let same : w ≤ x.number = grind (arith, nat_tests) in
        rw (t, n, none-stopped stops w x.number e xs r.1 same) refl
    go false n true t ih =
        let h' = rw n at h in
        let m : (w == x.number) ≡ false = grind (arith, nat_tests) in
        rw (t, m) (ih h')
    go false n false t ih =
        let h' = rw n at h in
        rw (t, n) (ih h')

-- the same behind the wants that are made
pub want-restreamed : (stops streams : List (List ℕ)) (w made : ℕ) (ws : List Want) → Rises (λ (y : Want). y.number) 0 ws made → w ≤ made → is_some (want_in w ws) ≡ true
    → is_some (want_in w (without stops ws ++ wanted made streams)) ≡ not (list_any (stopped_as stops w) ws)
want-restreamed stops streams w made ws r l h =
    let none = want_in-above w made (wanted made streams) (made + length streams) (wanted-rises made streams) l in
    ap is_some (want_in-append w (without stops ws) (wanted made streams) none) ∙ want-stopped stops w 0 made ws r h
