-- The walk over a book's templates, and what a payload asks for.
use Rattle.std.proofs.Common.{◌≡◌, ℕ, suc, arith, ◌+◌, ◌<◌, Bool, true, false, cond, List, [], ◌∷◌, ◌++◌, length, drop, get_or, Option, Some, None, refl, ap, sym, subst, ◌∙◌}
use Rattle.std.specs.Prelude.{◌==◌, ◌↔◌, IsTrue, flat_map, String, Ok, IsSome, is_some, option_and_then, if◌then◌else◌}
use Rattle.std.specs.Option.{option_or}
use Rattle.std.proofs.lemmas.Bool.Decides.{nat_tests}
use Rattle.serde_json.specs.Data.{Data, array, object}
use Rattle.serde_json.specs.View.{items_view, members_view}
use Rattle.serde_json.specs.Read.{read}
use Rattle.serde_json.specs.Find.{as_object}
use Rattle.channel_book.specs.declared.answers.CallFault.TheVariants as fault
use Rattle.channel_book.specs.Steps.{or_fault}
use Rattle.std.specs.List.{list_any}
use Rattle.std.specs.declared.alloc.Global.{Global}
use Rattle.serde_json.specs.declared.value.Value.{Value}
use Rattle.channel_book.specs.declared.templates.Template.{Template}
use Rattle.channel_book.specs.declared.declarations.Action.{Action}
use Rattle.channel_book.specs.declared.declarations.Channel.{Channel}
use Rattle.channel_book.specs.Names.{is_named, first_repeat}
use Rattle.channel_book.proofs.Places.{next_item}
use Rattle.channel_book.specs.Templates.{is_reserved}
use Rattle.channel_book.specs.Books.{first_reserved, repeated_from}
use Rattle.channel_book.specs.Answers.{is_nothing, object_of}

abbrev pub some_text : List ℕ → Option (List ℕ)
some_text t = Some t

-- the first reserved template stands in the front, or else behind it
pub first_reserved_append : (xs ys : List Template) → first_reserved (xs ++ ys) ≡ option_or (first_reserved xs) (first_reserved ys)
first_reserved_append [] ys = refl
first_reserved_append (x ∷ xs) ys = tested (is_reserved x.text) (first_reserved_append xs ys)
  where
    tested : (b : Bool) → first_reserved (xs ++ ys) ≡ option_or (first_reserved xs) (first_reserved ys) → cond b (Some x.text) (first_reserved (xs ++ ys)) ≡ option_or (cond b (Some x.text) (first_reserved xs)) (first_reserved ys)
    tested true again = refl
    tested false again = again

one_more : {X : Type 0} (F : X → List Template) (i : ℕ) (x : X) (xs : List X) (all : Option (List ℕ)) → i < length xs → x ≡ get_or xs i x → first_reserved (flat_map F (drop i xs)) ≡ all
    → option_or (first_reserved (F x)) (first_reserved (flat_map F (drop (i + 1) xs))) ≡ all
one_more {X} F i x xs all lt is before =
    let now : first_reserved (F x ++ flat_map F (drop (i + 1) xs)) ≡ all = subst (λ (ys : List X). first_reserved (flat_map F ys) ≡ all) (next_item xs i x lt is) before in
    sym (first_reserved_append (F x) (flat_map F (drop (i + 1) xs))) ∙ now

-- a reserved template of the next item is the first of all
pub walk_found : {X : Type 0} (F : X → List Template) (i : ℕ) (x : X) (xs : List X) (all : Option (List ℕ)) (t : List ℕ) → i < length xs → x ≡ get_or xs i x → first_reserved (flat_map F (drop i xs)) ≡ all → some_text t ≡ first_reserved (F x) → some_text t ≡ all
walk_found F i x xs all t lt is before found = ap (λ (o : Option (List ℕ)). option_or o (first_reserved (flat_map F (drop (i + 1) xs)))) found ∙ one_more F i x xs all lt is before

-- where the next item has none, the first one is behind it
pub walk_passed : {X : Type 0} (F : X → List Template) (i : ℕ) (x : X) (xs : List X) (all : Option (List ℕ)) → i < length xs → x ≡ get_or xs i x → first_reserved (flat_map F (drop i xs)) ≡ all → None ≡ first_reserved (F x) → first_reserved (flat_map F (drop (i + 1) xs)) ≡ all
walk_passed F i x xs all lt is before none = ap (λ (o : Option (List ℕ)). option_or o (first_reserved (flat_map F (drop (i + 1) xs)))) none ∙ one_more F i x xs all lt is before

-- ---- repeated names

-- the channel's name stood before
pub repeat_stood : (before : List Channel) (x : Channel) (now rest : List Channel) (all : Option (List ℕ)) → now ≡ x ∷ rest → repeated_from before now ≡ all → list_any (is_named (λ (c : Channel). c.name) x.name) before ≡ true → some_text x.name ≡ all
repeat_stood before x now rest all is_now e stood =
    let at_x : repeated_from before (x ∷ rest) ≡ all = subst (λ (ys : List Channel). repeated_from before ys ≡ all) is_now e in
    rw stood at at_x

-- an action's name stood before in the channel
pub repeat_inside : (before : List Channel) (x : Channel) (now rest : List Channel) (all : Option (List ℕ)) (n : List ℕ) → now ≡ x ∷ rest → repeated_from before now ≡ all → list_any (is_named (λ (c : Channel). c.name) x.name) before ≡ false
    → some_text n ≡ first_repeat (λ (a : Action). a.name) [] x.rules.actions → some_text n ≡ all
repeat_inside before x now rest all n is_now e new inside =
    let at_x : repeated_from before (x ∷ rest) ≡ all = subst (λ (ys : List Channel). repeated_from before ys ≡ all) is_now e in
    let next : option_or (first_repeat (λ (a : Action). a.name) [] x.rules.actions) (repeated_from (before ++ x ∷ []) rest) ≡ all = rw new at at_x in
    ap (λ (o : Option (List ℕ)). option_or o (repeated_from (before ++ x ∷ []) rest)) inside ∙ next

-- no name of the channel stood before
pub repeat_passed : (before : List Channel) (x : Channel) (now rest : List Channel) (all : Option (List ℕ)) → now ≡ x ∷ rest → repeated_from before now ≡ all → list_any (is_named (λ (c : Channel). c.name) x.name) before ≡ false
    → None ≡ first_repeat (λ (a : Action). a.name) [] x.rules.actions → repeated_from (before ++ x ∷ []) rest ≡ all
repeat_passed before x now rest all is_now e new inside =
    let at_x : repeated_from before (x ∷ rest) ≡ all = subst (λ (ys : List Channel). repeated_from before ys ≡ all) is_now e in
    let next : option_or (first_repeat (λ (a : Action). a.name) [] x.rules.actions) (repeated_from (before ++ x ∷ []) rest) ≡ all = rw new at at_x in
    ap (λ (o : Option (List ℕ)). option_or o (repeated_from (before ++ x ∷ []) rest)) inside ∙ next

-- ---- what a payload asks for

some_left : (n : ℕ) → (suc n == 0) ≡ false
some_left n = grind (arith, nat_tests)

-- a list is nothing exactly where it is empty
pub no_items_is : (vs : List Value) → (length vs == 0) ≡ is_nothing (array (items_view vs))
no_items_is [] = refl
no_items_is (v ∷ vs) = some_left (length vs)

-- an object is nothing exactly where it is empty
pub no_members_is : (ms : List (String Global × Value)) (empty : Bool) → (IsTrue empty ↔ (length ms ≡ 0)) → empty ≡ is_nothing (object (members_view ms))
no_members_is [] true h = refl
no_members_is [] false h = absurd (let no = h.1 refl in cc)
no_members_is (m ∷ ms) true h = absurd (let none : length (m ∷ ms) ≡ 0 = h.0 refl in omega arith)
no_members_is (m ∷ ms) false h = refl

-- what is read as an object is read
pub object_reads : (text : List ℕ) (d : Data) → or_fault fault.BadData (object_of text) ≡ Ok d → IsSome (read text)
object_reads text d e = read_case (read text) e
  where
    read_case : (o : Option Data) → or_fault fault.BadData (option_and_then (λ d. if is_some (as_object d) then Some d else None) o) ≡ Ok d → IsSome o
    read_case None e = absurd cc
    read_case (Some x) e = refl
