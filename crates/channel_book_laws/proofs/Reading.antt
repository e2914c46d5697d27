-- A reader reads exactly what a relation has: what that says of a chain of steps, of a member and of a list.
use Rattle.std.proofs.Common.{◌≡◌, ℕ, ◌+◌, Bool, true, false, cond, List, [], ◌∷◌, Option, Some, None, refl, sym, ap, subst, ◌∙◌}
use Rattle.std.specs.Prelude.{Result, Ok, Err, Decides, decimal}
use Rattle.serde_json.specs.Data.{Data, null, boolean, number, string, array, object, Items, no_items, item}
use Rattle.serde_json.specs.Find.{as_array}
use Rattle.channel_book.specs.Steps.{◌>>=◌}
use Rattle.channel_book.specs.Paths.{here, within, each, list_of}
use Rattle.channel_book_laws.specs.Lists.{AreItems}
use Rattle.channel_book_laws.specs.Books.{IsList}

-- what is read is exactly what the relation has
pub record Reads {X : Type 0} (r : Result X (List ℕ)) (Is : X → Type 0) : Type 0 where
  pub is : (x : X) → r ≡ Ok x → Is x
  pub of : (x : X) → Is x → r ≡ Ok x

pub converts : {X : Type 0} {r : Result X (List ℕ)} {Is At : X → Type 0} → Reads r Is → ((x : X) → Is x → At x) → ((x : X) → At x → Is x) → Reads r At
converts h f g = record { is = λ x e. f x (h.is x e); of = λ x a. h.of x (g x a) }

pub ok_reads : {X : Type 0} (v : X) → Reads (Ok v) (λ x. v ≡ x)
ok_reads v = record { is = λ x e. cc; of = λ x e. ap (λ y. Ok y) e }

pub then_reads : {A B : Type 0} {r : Result A (List ℕ)} {f : A → Result B (List ℕ)} {Is : A → Type 0} {At : A → B → Type 0}
    → Reads r Is → ((x : A) → Is x → Reads (f x) (At x)) → Reads (r >>= f) (λ y. (x : A) × Is x × At x y)
then_reads {A} {B} {r} {f} {Is} {At} h g = record {
  is = λ y e. by_first r refl y e;
  of = λ y w. subst (λ (o : Result A (List ℕ)). (o >>= f) ≡ Ok y) (sym (h.of w.0 w.1)) ((g w.0 w.1).of y w.2);
}
  where
    by_first : (o : Result A (List ℕ)) → r ≡ o → (y : B) → (o >>= f) ≡ Ok y → (x : A) × Is x × At x y
    by_first (Err path) e y is = absurd cc
    by_first (Ok x) e y is = (x, h.is x e, (g x (h.is x e)).is y is)

pub within_reads : {X : Type 0} {r : Result X (List ℕ)} {Is : X → Type 0} (step : List ℕ) → Reads r Is → Reads (within step r) Is
unfolding within
within_reads {X} {r} {Is} step h = record {
  is = λ x e. by_part r refl x e;
  of = λ x i. ap (within step) (h.of x i);
}
  where
    by_part : (o : Result X (List ℕ)) → r ≡ o → (x : X) → within step o ≡ Ok x → Is x
    by_part (Err path) e x is = absurd cc
    by_part (Ok y) e x is = h.is x (e ∙ is)

pub here_reads : {X : Type 0} (o : Option X) (Is : X → Type 0) → ((x : X) → o ≡ Some x → Is x) → ((x : X) → Is x → o ≡ Some x) → Reads (here o) Is
here_reads {X} o Is f g = record { is = λ x e. by_part o refl x e; of = λ x i. ap (λ (q : Option X). here q) (g x i) }
  where
    by_part : (q : Option X) → o ≡ q → (x : X) → here q ≡ Ok x → Is x
    by_part None e x is = absurd cc
    by_part (Some y) e x is = let same : y ≡ x = cc in f x (e ∙ ap (λ (z : X). Some z) same)

-- a test that stands for a fact
pub tested_reads : {X : Type 0} {P : Type 0} (b : Bool) (v : X) → Decides b P → Reads (cond b (Ok v) (Err [])) (λ x. P × (v ≡ x))
tested_reads true v d = record { is = λ x e. (d.0 refl, cc); of = λ x w. ap (λ y. Ok y) w.1 }
tested_reads false v d = record { is = λ x e. absurd cc; of = λ x w. absurd (let no = d.1 w.0 in cc) }

-- ---- lists

pub each_reads : {X : Type 0} {part_of : Data → Result X (List ℕ)} {Is : Data → X → Type 0} → ((d : Data) → Reads (part_of d) (Is d)) → (i : ℕ) (items : Items) → Reads (each part_of i items) (AreItems Is items)
each_reads {X} {part_of} {Is} h i no_items = converts (ok_reads []) none_are are_none
  where
    none_are : (xs : List X) → [] ≡ xs → AreItems Is no_items xs
    none_are [] e = tt
    none_are (x ∷ xs) e = absurd cc

    are_none : (xs : List X) → AreItems Is no_items xs → [] ≡ xs
    are_none [] a = refl
    are_none (x ∷ xs) a = absurd a
each_reads {X} {part_of} {Is} h i (item d ds) =
    converts (then_reads (within_reads (decimal i) (h d)) (λ x e. then_reads (each_reads h (i + 1) ds) (λ xs a. ok_reads (x ∷ xs))))
    (λ xs w. subst (AreItems Is (item d ds)) w.2.2 (w.1, w.2.1)) are
  where
    are : (xs : List X) → AreItems Is (item d ds) xs → (y : X) × Is d y × ((ys : List X) × AreItems Is ds ys × (y ∷ ys ≡ xs))
    are [] a = absurd a
    are (x ∷ xs) a = (x, a.0, (xs, a.1, refl))

array_is : (d : Data) (items : Items) → as_array d ≡ Some items → d ≡ array items
array_is null items e = absurd cc
array_is (boolean b) items e = absurd cc
array_is (number n) items e = absurd cc
array_is (string s) items e = absurd cc
array_is (array ds) items e = cc
array_is (object ms) items e = absurd cc

pub array_reads : (d : Data) → Reads (here (as_array d)) (λ items. d ≡ array items)
array_reads d = here_reads (as_array d) (λ items. d ≡ array items) (array_is d) (λ items e. ap as_array e)

pub list_reads : {X : Type 0} {part_of : Data → Result X (List ℕ)} {Is : Data → X → Type 0} → ((d : Data) → Reads (part_of d) (Is d)) → (o : Option Data) → Reads (list_of part_of o) (IsList Is o)
unfolding list_of
list_reads {X} {part_of} {Is} h None = converts (ok_reads []) (λ xs e. sym e) (λ xs e. sym e)
list_reads {X} {part_of} {Is} h (Some d) = then_reads (array_reads d) (λ items e. each_reads h 0 items)
