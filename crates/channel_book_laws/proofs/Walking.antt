-- A reader that fails tells the first of its places that breaks the table: what that says of a chain of steps, of a member and of a list.
use Rattle.std.proofs.Common.{◌≡◌, ℕ, ◌+◌, Bool, true, false, cond, List, [], ◌∷◌, ◌++◌, Option, Some, None, refl, sym, ap, subst, ◌∙◌, append_assoc, append-nil, inl, inr, ◌⊎◌}
use Rattle.std.specs.Prelude.{Result, Ok, Err, decimal}
use Rattle.std.specs.List.{AllByRecursion}
use Rattle.cable_base.proofs.Each.{All-append}
use Rattle.serde_json.specs.Data.{Data, array, Items, no_items, item}
use Rattle.serde_json.specs.Find.{get, as_array}
use Rattle.channel_book.specs.Steps.{◌>>=◌}
use Rattle.channel_book.specs.Paths.{here, within, each, list_of}
use Rattle.channel_book_laws.specs.Walk.{Row, Place, Meets, IsMet, at, under, items_of, item_places, list_at, IsFirstBreak, a_list}
use Rattle.channel_book_laws.proofs.Reading.{Reads, array_reads}

-- what is read has all places right, and what isn't has the first wrong one at the path that is told
pub record Walks {X : Type 0} (r : Result X (List ℕ)) (places : List Place) : Type 0 where
  pub met : (x : X) → r ≡ Ok x → AllByRecursion IsMet places
  pub broken : (path : List ℕ) → r ≡ Err path → IsFirstBreak places path

-- a break stays the first where more places follow
break_front : (places more : List Place) (path : List ℕ) → IsFirstBreak places path → IsFirstBreak (places ++ more) path
break_front places more path w =
    (w.0, record { before = w.1.before; after = w.1.after ++ more; split = ap (λ ps. ps ++ more) w.1.split ∙ append_assoc w.1.before (w.0 ∷ w.1.after) more; good = w.1.good; bad = w.1.bad }, w.2)

-- and where places that are right stand before
break_behind : (places more : List Place) (path : List ℕ) → AllByRecursion IsMet places → IsFirstBreak more path → IsFirstBreak (places ++ more) path
break_behind places more path met w =
    (w.0, record { before = places ++ w.1.before; after = w.1.after; split = ap (λ ps. places ++ ps) w.1.split ∙ sym (append_assoc places w.1.before (w.0 ∷ w.1.after)); good = All-append IsMet places w.1.before met w.1.good; bad = w.1.bad }, w.2)

pub then_walks : {A B : Type 0} {r : Result A (List ℕ)} {f : A → Result B (List ℕ)} {places more : List Place} → Walks r places → ((x : A) → r ≡ Ok x → Walks (f x) more) → Walks (r >>= f) (places ++ more)
then_walks {A} {B} {r} {f} {places} {more} h g = record { met = λ y e. met r refl y e; broken = λ path e. broken r refl path e }
  where
    met : (o : Result A (List ℕ)) → r ≡ o → (y : B) → (o >>= f) ≡ Ok y → AllByRecursion IsMet (places ++ more)
    met (Err path) e y is = absurd cc
    met (Ok x) e y is = All-append IsMet places more (h.met x e) ((g x e).met y is)

    broken : (o : Result A (List ℕ)) → r ≡ o → (path : List ℕ) → (o >>= f) ≡ Err path → IsFirstBreak (places ++ more) path
    broken (Err p) e path is = let same : p ≡ path = cc in break_front places more path (h.broken path (e ∙ ap (λ (q : List ℕ). Err q) same))
    broken (Ok x) e path is = break_behind places more path (h.met x e) ((g x e).broken path is)

-- nothing is left to look at
pub ok_walks : {X : Type 0} (v : X) → Walks (Ok v) []
ok_walks v = record { met = λ x e. tt; broken = λ path e. absurd cc }

-- the last step
pub last_walks : {A B : Type 0} {r : Result A (List ℕ)} {places : List Place} (f : A → B) → Walks r places → Walks (r >>= λ x. Ok (f x)) places
last_walks {A} {B} {r} {places} f h = subst (Walks (r >>= λ x. Ok (f x))) (append-nil places) (then_walks h (λ x _. ok_walks (f x)))

-- ---- a step of the path

abbrev behind : List ℕ → Place → Place
behind step place = record { path = 47 ∷ step ++ place.path; row = place.row; value = place.value }

under_met : (step : List ℕ) (places : List Place) → AllByRecursion IsMet places → AllByRecursion IsMet (under step places)
under_met step [] a = tt
under_met step (p ∷ places) a = (a.0, under_met step places a.1)

under_split : (step : List ℕ) (before after : List Place) (p : Place) → under step (before ++ p ∷ after) ≡ under step before ++ behind step p ∷ under step after
under_split step [] after p = refl
under_split step (b ∷ before) after p = ap (λ (ps : List Place). behind step b ∷ ps) (under_split step before after p)

under_break : (step : List ℕ) (places : List Place) (path : List ℕ) → IsFirstBreak places path → IsFirstBreak (under step places) (47 ∷ step ++ path)
under_break step places path w = (
  behind step w.0,
  record {
    before = under step w.1.before;
    after = under step w.1.after;
    split = ap (under step) w.1.split ∙ under_split step w.1.before w.1.after w.0;
    good = under_met step w.1.before w.1.good;
    bad = w.1.bad;
  },
  ap (λ (p : List ℕ). 47 ∷ step ++ p) w.2,
)

pub within_walks : {X : Type 0} {r : Result X (List ℕ)} {places : List Place} (step : List ℕ) → Walks r places → Walks (within step r) (under step places)
unfolding within
within_walks {X} {r} {places} step h = record { met = λ x e. met r refl x e; broken = λ path e. broken r refl path e }
  where
    met : (o : Result X (List ℕ)) → r ≡ o → (x : X) → within step o ≡ Ok x → AllByRecursion IsMet (under step places)
    met (Err path) e x is = absurd cc
    met (Ok y) e x is = under_met step places (h.met y e)

    broken : (o : Result X (List ℕ)) → r ≡ o → (path : List ℕ) → within step o ≡ Err path → IsFirstBreak (under step places) path
    broken (Err p) e path is = let same : 47 ∷ step ++ p ≡ path = cc in subst (IsFirstBreak (under step places)) same (under_break step places p (h.broken p e))
    broken (Ok y) e path is = absurd cc

-- ---- one place

-- a fault is told right here
abbrev pub TellsHere : {X : Type 0} → Result X (List ℕ) → Type 0
TellsHere r = (path : List ℕ) → r ≡ Err path → path ≡ []

pub here_tells : {X : Type 0} (o : Option X) → TellsHere (here o)
here_tells None path e = cc
here_tells (Some x) path e = absurd cc

pub test_tells : {X : Type 0} (b : Bool) (x : X) → TellsHere (cond b (Ok x) (Err []))
test_tells true x path e = absurd cc
test_tells false x path e = cc

pub then_tells : {A B : Type 0} (r : Result A (List ℕ)) (f : A → Result B (List ℕ)) → TellsHere r → ((x : A) → TellsHere (f x)) → TellsHere (r >>= f)
then_tells (Err p) f h g path e = let same : p ≡ path = cc in h path (ap (λ (q : List ℕ). Err q) same)
then_tells (Ok x) f h g path e = g x path e

-- a reader of one place, which is right exactly where something is read
pub place_walks : {X : Type 0} {r : Result X (List ℕ)} {Is : X → Type 0} (row : Row) (value : Option Data) → Reads r Is → TellsHere r → ((x : X) → Is x → Meets row value) → (Meets row value → (x : X) × Is x) → Walks r (at row value)
place_walks {X} {r} {Is} row value h tells to from = record { met = λ x e. (to x (h.is x e), tt); broken = broken }
  where
    no_break : (path : List ℕ) → r ≡ Err path → ¬ Meets row value
    no_break path e m = let w = from m in let is : r ≡ Ok w.0 = h.of w.0 w.1 in absurd (let no : Ok w.0 ≡ Err path = sym is ∙ e in cc)

    broken : (path : List ℕ) → r ≡ Err path → IsFirstBreak (at row value) path
    broken path e = (record { path = []; row = row; value = value }, record { before = []; after = []; split = refl; good = tt; bad = no_break path e }, sym (tells path e))

-- a value that stands there has a row of its own
pub item_walks : {X : Type 0} {r : Result X (List ℕ)} {Is : Data → X → Type 0} (row : Row) (d : Data) → Reads r (Is d) → TellsHere r → (((e : Data) × (Some d ≡ Some e) × ((x : X) × Is e x)) → Meets row (Some d)) → (Meets row (Some d) → (e : Data) × (Some d ≡ Some e) × ((x : X) × Is e x)) → Walks r (at row (Some d))
item_walks {X} {r} {Is} row d h tells to from = place_walks row (Some d) h tells (λ x i. to (d, refl, (x, i))) (λ m. by_value (from m))
  where
    by_value : (e : Data) × (Some d ≡ Some e) × ((x : X) × Is e x) → (x : X) × Is d x
    by_value w = let same : w.0 ≡ d = cc in (w.2.0, subst (λ (e : Data). Is e w.2.0) same w.2.1)

-- ---- lists

pub each_walks : {X : Type 0} {part_of : Data → Result X (List ℕ)} {places_of : Data → List Place} → ((d : Data) → Walks (part_of d) (places_of d)) → (i : ℕ) (items : Items) → Walks (each part_of i items) (item_places places_of i items)
each_walks h i no_items = record { met = λ x e. tt; broken = λ path e. absurd cc }
each_walks h i (item d ds) = then_walks (within_walks (decimal i) (h d)) (λ x e. last_walks (λ xs. x ∷ xs) (each_walks h (i + 1) ds))

-- an array, or nothing
list_walks : {X : Type 0} {part_of : Data → Result X (List ℕ)} {places_of : Data → List Place} → ((d : Data) → Walks (part_of d) (places_of d)) → (o : Option Data) → Walks (list_of part_of o) (at a_list o ++ item_places places_of 0 (items_of o))
unfolding list_of
list_walks h None = record { met = λ x e. (inl refl, tt); broken = λ path e. absurd cc }
list_walks {X} {part_of} {places_of} h (Some d) = then_walks (place_walks a_list (Some d) (array_reads d) (here_tells (as_array d)) (λ items e. inr (items, ap (λ (x : Data). Some x) e)) is_array) items
  where
    is_array : (Some d ≡ None) ⊎ ((items : Items) × (Some d ≡ Some (array items))) → (items : Items) × (d ≡ array items)
    is_array m = elim m [ inl none ↦ absurd cc | inr w ↦ (w.0, cc) ]

    items : (ds : Items) → here (as_array d) ≡ Ok ds → Walks (each part_of 0 ds) (item_places places_of 0 (items_of (Some d)))
    items ds e =
        let is : array ds ≡ d = sym ((array_reads d).is ds e) in
        subst (λ (x : Data). Walks (each part_of 0 ds) (item_places places_of 0 (items_of (Some x)))) is (each_walks h 0 ds)

pub list_at_walks : {X : Type 0} {part_of : Data → Result X (List ℕ)} {places_of : Data → List Place} (key : List ℕ) → ((d : Data) → Walks (part_of d) (places_of d)) → (d : Data) → Walks (within key (list_of part_of (get key d))) (list_at key places_of d)
list_at_walks key h d = within_walks key (list_walks h (get key d))
