-- Which texts are books, and which fault the others have.
use Rattle.std.proofs.Common.{◌≡◌, ℕ, Bool, true, false, cond, List, [], ◌∷◌, drop, length, Option, Some, None, refl, sym, ap, subst, ◌∙◌, ◌⊎◌, inl, inr}
use Rattle.std.specs.Prelude.{Result, Ok, Err, Decides}
use Rattle.std.specs.List.{AllByRecursion, flat_map}
use Rattle.std.proofs.lemmas.Bool.Decides.{Decides-eqb}
use Rattle.std.proofs.lemmas.Slice.Eq.{starts_is}
use Rattle.serde_json.specs.Data.{Data}
use Rattle.serde_json.specs.Read.{read}
use Rattle.cable_base.specs.Names.{reserved_prefix}
use Rattle.channel_book.specs.declared.templates.Template.{Template}
use Rattle.channel_book.specs.declared.faults.BookFault.{BookFault}
use Rattle.channel_book.specs.declared.faults.BookFault.TheVariants as fault
use Rattle.channel_book.specs.Steps.{◌>>=◌, or_fault}
use Rattle.channel_book.specs.Templates.{is_reserved}
use Rattle.channel_book.specs.Shapes.{Declared, shape_in}
use Rattle.channel_book.specs.Books.{channel_templates, first_reserved, reserved_in, repeated_in, shape_or_fault, book_unless, unless_reserved, unless_repeated, book_of}
use Rattle.channel_book_laws.specs.Lists.{IsFirst}
use Rattle.channel_book_laws.specs.Books.{IsBook}
use Rattle.channel_book_laws.specs.Walk.{IsFirstBreak, book_places}
use Rattle.channel_book_laws.specs.Texts.{IsReserved, IsUnreserved, templates_of, AreNamedApart, IsFirstRepeatIn, IsBookText, IsFaultOf}
use Rattle.channel_book_laws.proofs.Shapes.{shape_reads}
use Rattle.channel_book_laws.proofs.Walk.{shape_broken, broken_shape}
use Rattle.channel_book_laws.proofs.Repeats.{RepeatedTold, repeated_told, repeated_one}
use Rattle.channel_book_laws.proofs.Templates.{texts, book_shown}
use Rattle.channel_book_laws.proofs.Splits.{all_or_first, one_first}

-- ---- a chain of steps with faults

-- what is read is exactly what the relation has, and each fault stands for what goes wrong
pub record Answers {A E : Type 0} (r : Result A E) (Is : A → Type 0) (Fails : E → Type 0) : Type 0 where
  pub is : (x : A) → r ≡ Ok x → Is x
  pub of : (x : A) → Is x → r ≡ Ok x
  pub fails : (e : E) → r ≡ Err e → Fails e
  pub fault : (e : E) → Fails e → r ≡ Err e

then_answers : {A B E : Type 0} {r : Result A E} {f : A → Result B E} {Is : A → Type 0} {Fails : E → Type 0} {At : A → B → Type 0} {Breaks : A → E → Type 0}
    → Answers r Is Fails → ((x : A) → Is x → Answers (f x) (At x) (Breaks x)) → Answers (r >>= f) (λ y. (x : A) × Is x × At x y) (λ e. Fails e ⊎ ((x : A) × Is x × Breaks x e))
then_answers {A} {B} {E} {r} {f} {Is} {Fails} {At} {Breaks} h g = record {
  is = λ y e. forth r refl y e;
  of = λ y w. ap (λ (o : Result A E). o >>= f) (h.of w.0 w.1) ∙ (g w.0 w.1).of y w.2;
  fails = λ e is. fails r refl e is;
  fault = λ e w. back e w;
}
  where
    forth : (o : Result A E) → r ≡ o → (y : B) → (o >>= f) ≡ Ok y → (x : A) × Is x × At x y
    forth (Err e) eq y is = absurd cc
    forth (Ok x) eq y is = (x, h.is x eq, (g x (h.is x eq)).is y is)

    fails : (o : Result A E) → r ≡ o → (e : E) → (o >>= f) ≡ Err e → Fails e ⊎ ((x : A) × Is x × Breaks x e)
    fails (Err e) eq d is = let same : e ≡ d = cc in inl (h.fails d (eq ∙ ap (λ (z : E). Err z) same))
    fails (Ok x) eq d is = inr (x, h.is x eq, (g x (h.is x eq)).fails d is)

    back : (e : E) → Fails e ⊎ ((x : A) × Is x × Breaks x e) → (r >>= f) ≡ Err e
    back e w = elim w [
      | inl first ↦ ap (λ (o : Result A E). o >>= f) (h.fault e first)
      | inr rest ↦ ap (λ (o : Result A E). o >>= f) (h.of rest.0 rest.1) ∙ (g rest.0 rest.1).fault e rest.2
    ]

-- ---- the steps

json_answers : (text : List ℕ) → Answers (or_fault fault.BadJson (read text)) (λ d. read text ≡ Some d) (λ e. (fault.BadJson ≡ e) × (read text ≡ None))
json_answers text = by_value (read text)
  where
    by_value : (o : Option Data) → Answers (or_fault fault.BadJson o) (λ d. o ≡ Some d) (λ e. (fault.BadJson ≡ e) × (o ≡ None))
    by_value None = record { is = λ d e. absurd cc; of = λ d e. absurd cc; fails = λ e is. (cc, refl); fault = λ e w. ap (λ (f : BookFault). Err f) w.0 }
    by_value (Some d) = record { is = λ x e. cc; of = λ x e. cc; fails = λ e is. absurd cc; fault = λ e w. absurd (let no = w.1 in cc) }

shape_answers : (d : Data) → Answers (shape_or_fault (shape_in d)) (IsBook d) (λ e. (path : List ℕ) × (fault.BadShape path ≡ e) × IsFirstBreak (book_places d) path)
shape_answers d = record {
  is = λ book e. (shape_reads d).is book (ok (shape_in d) book e);
  of = λ book i. ap shape_or_fault ((shape_reads d).of book i);
  fails = λ e is. fails (shape_in d) refl e is;
  fault = λ e w. ap shape_or_fault (broken_shape d w.0 w.2) ∙ ap (λ (f : BookFault). Err f) w.1;
}
  where
    ok : (r : Result Declared (List ℕ)) (book : Declared) → shape_or_fault r ≡ Ok book → r ≡ Ok book
    ok (Ok b) book e = cc
    ok (Err path) book e = absurd cc

    fails : (r : Result Declared (List ℕ)) → shape_in d ≡ r → (e : BookFault) → shape_or_fault r ≡ Err e → (path : List ℕ) × (fault.BadShape path ≡ e) × IsFirstBreak (book_places d) path
    fails (Ok b) eq e is = absurd cc
    fails (Err path) eq e is = (path, cc, shape_broken d path eq)

-- a search for a text that makes a fault, of which it is known what it tells
unless_answers : (Told : Option (List ℕ) → Type 0) (fault_of : List ℕ → BookFault) (book : Declared) (o : Option (List ℕ)) → Told o → ((p q : Option (List ℕ)) → Told p → Told q → p ≡ q)
    → Answers (book_unless fault_of o book) (λ b. (book ≡ b) × Told None) (λ e. (t : List ℕ) × (fault_of t ≡ e) × Told (Some t))
unless_answers Told fault_of book None told one = record {
  is = λ b e. (cc, told);
  of = λ b w. ap (λ (x : Declared). Ok x) w.0;
  fails = λ e is. absurd cc;
  fault = λ e w. absurd (let no = one None (Some w.0) told w.2 in cc);
}
unless_answers Told fault_of book (Some t) told one = record {
  is = λ b e. absurd cc;
  of = λ b w. absurd (let no = one None (Some t) w.1 told in cc);
  fails = λ e is. (t, cc, told);
  fault = λ e w. let same : t ≡ w.0 = (let eq = one (Some t) (Some w.0) told w.2 in cc) in ap (λ (x : List ℕ). Err (fault_of x)) same ∙ ap (λ (f : BookFault). Err f) w.1;
}

-- ---- reserved templates

Decides-reserved : (text : List ℕ) → Decides (is_reserved text) (IsReserved text)
Decides-reserved text =
    let s = starts_is Decides-eqb text reserved_prefix (is_reserved text) refl in
    (λ t. (drop (length reserved_prefix) text, s.0 t), λ w. s.1 w.0 w.1)

apart_reserved : (text : List ℕ) → IsUnreserved text → IsReserved text → ⊥
apart_reserved text u r = u r

-- what the search for a reserved template tells
abbrev ReservedTold : List (List ℕ) → Option (List ℕ) → Type 0
ReservedTold ts None = AllByRecursion IsUnreserved ts
ReservedTold ts (Some text) = IsFirst IsUnreserved IsReserved ts text

reserved_told : (ts : List Template) → ReservedTold (texts ts) (first_reserved ts)
reserved_told [] = tt
reserved_told (t ∷ ts) = by_test (is_reserved t.text) (Decides-reserved t.text) (first_reserved ts) (reserved_told ts)
  where
    by_test : (b : Bool) → Decides b (IsReserved t.text) → (o : Option (List ℕ)) → ReservedTold (texts ts) o → ReservedTold (texts (t ∷ ts)) (cond b (Some t.text) o)
    by_test true d o again = record { before = []; after = texts ts; split = refl; good = tt; bad = d.0 refl }
    by_test false d None again = (λ r. (let no = d.1 r in absurd cc), again)
    by_test false d (Some text) again =
        record { before = t.text ∷ again.before; after = again.after; split = ap (λ (xs : List (List ℕ)). t.text ∷ xs) again.split; good = (λ r. (let no = d.1 r in absurd cc), again.good); bad = again.bad }

reserved_one : (ts : List (List ℕ)) (p q : Option (List ℕ)) → ReservedTold ts p → ReservedTold ts q → p ≡ q
reserved_one ts None None v w = refl
reserved_one ts None (Some q) v w = absurd (all_or_first IsUnreserved IsReserved apart_reserved ts q v w)
reserved_one ts (Some p) None v w = absurd (all_or_first IsUnreserved IsReserved apart_reserved ts p w v)
reserved_one ts (Some p) (Some q) v w = ap (λ (t : List ℕ). Some t) (one_first IsUnreserved IsReserved apart_reserved ts p q v w)

reserved_answers : (d : Data) (book : Declared) → IsBook d book → Answers (unless_reserved book) (λ b. (book ≡ b) × AllByRecursion IsUnreserved (templates_of d)) (λ e. (t : List ℕ) × (fault.ReservedStream t ≡ e) × IsFirst IsUnreserved IsReserved (templates_of d) t)
reserved_answers d book i =
    let told = subst (λ (ts : List (List ℕ)). ReservedTold ts (reserved_in book.channels)) (sym (book_shown d book i)) (reserved_told (flat_map channel_templates book.channels)) in
    unless_answers (ReservedTold (templates_of d)) (λ t. fault.ReservedStream t) book (reserved_in book.channels) told (reserved_one (templates_of d))

-- ---- the text

repeated_answers : (book : Declared) → Answers (unless_repeated book) (λ b. (book ≡ b) × AreNamedApart book.channels) (λ e. (n : List ℕ) × (fault.RepeatedName n ≡ e) × IsFirstRepeatIn book.channels n)
repeated_answers book = unless_answers (RepeatedTold book.channels) (λ n. fault.RepeatedName n) book (repeated_in book.channels) (repeated_told book.channels) (repeated_one book.channels)

-- all steps, one behind the other
abbrev IsRead : List ℕ → Declared → Type 0
IsRead text b =
    (d : Data) × (read text ≡ Some d) × ((book : Declared) × IsBook d book × ((c : Declared) × ((book ≡ c) × AllByRecursion IsUnreserved (templates_of d)) × ((c ≡ b) × AreNamedApart c.channels)))

abbrev Failed : List ℕ → BookFault → Type 0
Failed text e =
    ((fault.BadJson ≡ e) × (read text ≡ None))
    ⊎ ((d : Data) × (read text ≡ Some d) × (((path : List ℕ) × (fault.BadShape path ≡ e) × IsFirstBreak (book_places d) path)
    ⊎ ((book : Declared) × IsBook d book × (((t : List ℕ) × (fault.ReservedStream t ≡ e) × IsFirst IsUnreserved IsReserved (templates_of d) t)
    ⊎ ((c : Declared) × ((book ≡ c) × AllByRecursion IsUnreserved (templates_of d)) × ((n : List ℕ) × (fault.RepeatedName n ≡ e) × IsFirstRepeatIn c.channels n))))))

text_answers : (text : List ℕ) → Answers (book_of text) (IsRead text) (Failed text)
text_answers text = then_answers (json_answers text) (λ d _. then_answers (shape_answers d) (λ book i. then_answers (reserved_answers d book i) (λ b _. repeated_answers b)))

pub book_is : (text : List ℕ) (book : Declared) → book_of text ≡ Ok book → IsBookText text book
book_is text book e = whole ((text_answers text).is book e)
  where
    whole : IsRead text book → IsBookText text book
    whole (d, json, (b, shape, (c, (to_c, free), (to_book, apart)))) =
        let is : IsBookText text b = record { shape = record { value = d; json = json; shape = shape }; unreserved = free; apart = subst (λ (x : Declared). AreNamedApart x.channels) (sym to_c) apart } in
        subst (IsBookText text) (to_c ∙ to_book) is

pub is_book : (text : List ℕ) (book : Declared) → IsBookText text book → book_of text ≡ Ok book
is_book text book i = (text_answers text).of book (i.shape.value, i.shape.json, (book, i.shape.shape, (book, (refl, i.unreserved), (refl, i.apart))))

pub fault_is : (text : List ℕ) (e : BookFault) → book_of text ≡ Err e → IsFaultOf text e
fault_is text e is = whole ((text_answers text).fails e is)
  where
    whole : Failed text e → IsFaultOf text e
    whole (inl w) = subst (IsFaultOf text) w.0 w.1
    whole (inr (d, json, inl w)) = subst (IsFaultOf text) w.1 (d, json, w.2)
    whole (inr (d, json, inr (b, shape, inl w))) = subst (IsFaultOf text) w.1 (b, record { value = d; json = json; shape = shape }, w.2)
    whole (inr (d, json, inr (b, shape, inr (c, (to_c, free), w)))) =
        subst (IsFaultOf text) w.1 (b, record { value = d; json = json; shape = shape }, free, subst (λ (x : Declared). IsFirstRepeatIn x.channels w.0) (sym to_c) w.2)

pub is_fault : (text : List ℕ) (e : BookFault) → IsFaultOf text e → book_of text ≡ Err e
is_fault text e f = (text_answers text).fault e (by_fault e f)
  where
    by_fault : (x : BookFault) → IsFaultOf text x → Failed text x
    by_fault fault.BadJson w = inl (refl, w)
    by_fault (fault.BadShape path) w = inr (w.0, w.1, inl (path, refl, w.2))
    by_fault (fault.ReservedStream t) w = inr (w.1.value, w.1.json, inr (w.0, w.1.shape, inl (t, refl, w.2)))
    by_fault (fault.RepeatedName n) w = inr (w.1.value, w.1.json, inr (w.0, w.1.shape, inr (w.0, (refl, w.2), (n, refl, w.3))))
    by_fault fault.OutOfMemory w = absurd w
