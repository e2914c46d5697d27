-- The names that a channel requires have no braces.
use Rattle.std.proofs.Common.{◌≡◌, ℕ, Bool, true, false, not, cond, List, [], ◌∷◌, Option, Some, None, refl, subst}
use Rattle.std.specs.Prelude.{is_some, Result, Ok, Err}
use Rattle.std.specs.List.{list_any}
use Rattle.std.proofs.lemmas.Bool.{and_parts}
use Rattle.serde_json.specs.Data.{Data, Items, no_items, item}
use Rattle.serde_json.specs.Find.{as_str, as_array}
use Rattle.channel_book.specs.Steps.{◌>>=◌}
use Rattle.channel_book.specs.Names.{first_repeat}
use Rattle.channel_book.specs.Paths.{here}
use Rattle.channel_book.specs.Templates.{opens, closes, IsPlain, ArePlain}
use Rattle.channel_book.specs.Shapes.{is_requirable, required_in, names_in, distinct_names, requires_in}

false_unless : (b : Bool) → not b ≡ true → b ≡ false
false_unless true e = absurd cc
false_unless false e = refl

abbrev ok_name : List ℕ → Result (List ℕ) (List ℕ)
ok_name name = Ok name

abbrev no_name : Result (List ℕ) (List ℕ)
no_name = Err []

abbrev ok_names : List (List ℕ) → Result (List (List ℕ)) (List ℕ)
ok_names names = Ok names

abbrev no_names : Result (List (List ℕ)) (List ℕ)
no_names = Err []

requirable_plain : (name : List ℕ) → is_requirable name ≡ true → IsPlain name
requirable_plain name e =
    let outer = and_parts _ (not (list_any closes name)) e in
    let inner = and_parts _ (not (list_any opens name)) outer.0 in
    (false_unless (list_any opens name) inner.1, false_unless (list_any closes name) outer.1)

required_plain : (d : Data) (name : List ℕ) → required_in d ≡ Ok name → IsPlain name
required_plain d name e = by_text (as_str d) e
  where
    by_test : (s : List ℕ) (b : Bool) → is_requirable s ≡ b → cond b (ok_name s) no_name ≡ ok_name name → IsPlain name
    by_test s true t e = let same : s ≡ name = cc in subst IsPlain same (requirable_plain s t)
    by_test s false t e = absurd cc

    by_text : (o : Option (List ℕ)) → (here o >>= λ s. cond (is_requirable s) (ok_name s) no_name) ≡ ok_name name → IsPlain name
    by_text None e = absurd cc
    by_text (Some s) e = by_test s (is_requirable s) refl e

names_plain : (items : Items) (names : List (List ℕ)) → names_in items ≡ Ok names → ArePlain names
names_plain no_items names e = let none : [] ≡ names = cc in subst ArePlain none tt
names_plain (item d ds) names e = by_first (required_in d) refl (names_in ds) refl (names_plain ds) e
  where
    by_first : (o : Result (List ℕ) (List ℕ)) → required_in d ≡ o → (more : Result (List (List ℕ)) (List ℕ)) → names_in ds ≡ more → ((ns : List (List ℕ)) → names_in ds ≡ Ok ns → ArePlain ns)
        → (o >>= λ name. (more >>= λ ns. Ok (name ∷ ns))) ≡ Ok names → ArePlain names
    by_first (Err path) is more mis again e = absurd cc
    by_first (Ok name) is (Err path) mis again e = absurd cc
    by_first (Ok name) is (Ok ns) mis again e = let all : name ∷ ns ≡ names = cc in subst ArePlain all (required_plain d name is, again ns mis)

pub requires_plain : (o : Option Data) (names : List (List ℕ)) → requires_in o ≡ Ok names → ArePlain names
unfolding requires_in
requires_plain None names e = let none : [] ≡ names = cc in subst ArePlain none tt
requires_plain (Some d) names e = by_list (as_array d) e
  where
    by_repeat : (ns : List (List ℕ)) (b : Bool) → ArePlain ns → cond b no_names (ok_names ns) ≡ ok_names names → ArePlain names
    by_repeat ns true plain e = absurd cc
    by_repeat ns false plain e = let same : ns ≡ names = cc in subst ArePlain same plain

    by_names : (items : Items) (o : Result (List (List ℕ)) (List ℕ)) → names_in items ≡ o → (o >>= distinct_names) ≡ Ok names → ArePlain names
    by_names items (Err path) is e = absurd cc
    by_names items (Ok ns) is e = by_repeat ns (is_some (first_repeat (λ name. name) [] ns)) (names_plain items ns is) e

    by_list : (o : Option Items) → (here o >>= λ items. (names_in items >>= distinct_names)) ≡ Ok names → ArePlain names
    by_list None e = absurd cc
    by_list (Some items) e = by_names items (names_in items) refl e
