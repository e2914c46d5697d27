-- The walk over a book tells the first place that breaks the table.
use Rattle.std.proofs.Common.{◌≡◌, ℕ, Bool, true, false, not, cond, List, [], ◌∷◌, ◌++◌, length, Option, Some, None, refl, sym, ap, subst, ◌∙◌}
use Rattle.std.specs.Prelude.{◌==◌, nat_le, Result, Ok, Err, is_some, codes, option_and_then}
use Rattle.std.specs.List.{AllByRecursion}
use Rattle.serde_json.specs.Data.{Data, array, object, Items, no_items, item, Members, no_members, member}
use Rattle.serde_json.specs.Find.{get, as_str, as_bool, as_object, as_array}
use Rattle.cable_base.specs.declared.limits.TheConstants.{MOST_USER}
use Rattle.channel_book.specs.Steps.{◌>>=◌}
use Rattle.channel_book.specs.Json.{text_at, json_text}
use Rattle.channel_book.specs.Names.{first_repeat}
use Rattle.channel_book.specs.Paths.{here, within, each}
use Rattle.channel_book.specs.Templates.{ArePlain, template_of}
use Rattle.channel_book.specs.Shapes.{Declared, user_in, users_in, tokens_in, template_in, json_in, cast_in, name_in, flag_in, is_requirable}
use Rattle.channel_book.specs.Shapes.{required_in, names_in, distinct_names, requires_in, action_in, rules_in, channel_in, channels_in, shape_in}
use Rattle.channel_book_laws.specs.Lists.{AreItems}
use Rattle.channel_book_laws.specs.Books.{IsObject, IsRequirable, IsRequired, IsBook}
use Rattle.channel_book_laws.specs.Walk.{Place, IsMet, an_object, the_tokens, the_channels, a_name, required_names, a_template, json_string, a_cast}
use Rattle.channel_book_laws.specs.Walk.{a_flag, at, member_at, items_of, item_places, template_places, json_places, cast_places, action_places, onto}
use Rattle.channel_book_laws.specs.Walk.{strings, names_at, rules_places, channel_places, book_places, IsFirstBreak}
use Rattle.channel_book_laws.proofs.Reading.{Reads, converts, then_reads, within_reads, here_reads, array_reads}
use Rattle.channel_book_laws.proofs.Shapes.{object_reads, tokens_read, template_reads, json_reads, cast_reads, name_reads, flag_reads, requires_read}
use Rattle.channel_book_laws.proofs.Shapes.{required_plain, shape_reads}
use Rattle.channel_book_laws.proofs.Splits.{all_or_first, one_first}
use Rattle.channel_book_laws.proofs.Walking.{Walks, then_walks, ok_walks, within_walks, TellsHere, here_tells, test_tells, then_tells, place_walks}
use Rattle.channel_book_laws.proofs.Walking.{item_walks, each_walks, list_at_walks}

-- ---- what tells its faults right here

ok_tells : {X : Type 0} (x : X) → TellsHere (Ok x)
ok_tells x path e = absurd cc

users_tell : (ms : Members) → TellsHere (users_in ms)
users_tell no_members = ok_tells []
users_tell (member token d ms) =
    then_tells (user_in token d) _ (then_tells (here (as_str d)) _ (here_tells (as_str d)) (λ s. test_tells (nat_le (length s) MOST_USER) (token, s)))
    (λ u. then_tells (users_in ms) _ (users_tell ms) (λ us. ok_tells (u ∷ us)))

tokens_tell : (o : Option Data) → TellsHere (tokens_in o)
unfolding tokens_in
tokens_tell None = ok_tells []
tokens_tell (Some d) = then_tells (here (as_object d)) _ (here_tells (as_object d)) users_tell

template_tells : (names : List (List ℕ)) (d : Data) → TellsHere (template_in names d)
unfolding template_in
template_tells names d = here_tells (option_and_then (template_of names) (as_str d))

json_tells : (d : Data) → TellsHere (json_in d)
unfolding json_in
json_tells d = here_tells (option_and_then json_text (as_str d))

cast_tells : (names : List (List ℕ)) (d : Data) → TellsHere (cast_in names d)
unfolding cast_in
cast_tells names d =
    then_tells (here (option_and_then (template_of names) (text_at (codes "to") d))) _ (here_tells _)
    (λ to. then_tells (here (option_and_then json_text (text_at (codes "payload") d))) _ (here_tells _) (λ payload. ok_tells (record { to = to; payload = payload })))

name_tells : (o : Option Data) → TellsHere (name_in o)
unfolding name_in
name_tells o = then_tells (here (option_and_then as_str o)) _ (here_tells (option_and_then as_str o)) (λ s. test_tells (not (length s == 0)) s)

flag_tells : (o : Option Data) → TellsHere (flag_in o)
unfolding flag_in
flag_tells None = ok_tells false
flag_tells (Some d) = here_tells (as_bool d)

names_tell : (items : Items) → TellsHere (names_in items)
names_tell no_items = ok_tells []
names_tell (item d ds) =
    then_tells (required_in d) _ (then_tells (here (as_str d)) _ (here_tells (as_str d)) (λ s. test_tells (is_requirable s) s))
    (λ name. then_tells (names_in ds) _ (names_tell ds) (λ names. ok_tells (name ∷ names)))

distinct_tells : (names : List (List ℕ)) → TellsHere (distinct_names names)
distinct_tells names = by_repeat (is_some (first_repeat (λ name. name) [] names))
  where
    by_repeat : (b : Bool) → TellsHere (cond b (Err []) (Ok names))
    by_repeat true path e = cc
    by_repeat false path e = absurd cc

requires_tell : (o : Option Data) → TellsHere (requires_in o)
unfolding requires_in
requires_tell None = ok_tells []
requires_tell (Some d) = then_tells (here (as_array d)) _ (here_tells (as_array d)) (λ items. then_tells (names_in items) _ (names_tell items) distinct_tells)

-- ---- single places

object_walks : (d : Data) → Walks (here (as_object d)) (at an_object (Some d))
object_walks d = place_walks an_object (Some d) (object_reads d) (here_tells (as_object d)) (λ ms e. (d, refl, (ms, e))) from
  where
    from : (e : Data) × (Some d ≡ Some e) × IsObject e → (ms : Members) × (d ≡ object ms)
    from w = let same : w.0 ≡ d = cc in subst IsObject same w.2

template_walks : (names : List (List ℕ)) → ArePlain names → (d : Data) → Walks (template_in names d) (template_places names d)
template_walks names plain d = item_walks (a_template names) d (template_reads names plain d) (template_tells names d) (λ w. w) (λ w. w)

json_walks : (d : Data) → Walks (json_in d) (json_places d)
json_walks d = item_walks json_string d (json_reads d) (json_tells d) (λ w. w) (λ w. w)

cast_walks : (names : List (List ℕ)) → ArePlain names → (d : Data) → Walks (cast_in names d) (cast_places names d)
cast_walks names plain d = item_walks (a_cast names) d (cast_reads names plain d) (cast_tells names d) (λ w. w) (λ w. w)

name_walks : (d : Data) → Walks (within (codes "name") (name_in (get (codes "name") d))) (member_at (codes "name") a_name d)
name_walks d = let o = get (codes "name") d in within_walks (codes "name") (place_walks a_name o (name_reads o) (name_tells o) (λ name i. (name, i)) (λ m. m))

-- ---- actions and channels

action_walks : (names : List (List ℕ)) → ArePlain names → (d : Data) → Walks (action_in names d) (action_places names d)
unfolding action_in
action_walks names plain d =
    let templates = λ (key : List ℕ). list_at_walks key (template_walks names plain) d in
    let o = get (codes "echo") d in
    let echoes = within_walks (codes "echo") (place_walks a_flag o (flag_reads o) (flag_tells o) (λ flag i. (flag, i)) (λ m. m)) in
    then_walks (object_walks d) (λ ms _. then_walks (name_walks d) (λ name _. then_walks (templates (codes "casts")) (λ casts _. then_walks echoes
    (λ echo _. then_walks (templates (codes "streams")) (λ streams _. then_walks (templates (codes "stops"))
    (λ stops _. ok_walks (record { name = name; casts = casts; echo = echo; streams = streams; stops = stops })))))))

rules_walk : (names : List (List ℕ)) → ArePlain names → (d : Data) → Walks (rules_in names d) (rules_places names d)
unfolding rules_in
rules_walk names plain d =
    let casts = λ (key : List ℕ). list_at_walks key (cast_walks names plain) d in
    then_walks (list_at_walks (codes "streams") (template_walks names plain) d) (λ streams _. then_walks (list_at_walks (codes "says") json_walks d)
    (λ says _. then_walks (casts (codes "enter")) (λ enter _. then_walks (casts (codes "leave")) (λ leave _.
    then_walks (list_at_walks (codes "actions") (action_walks names plain) d) (λ actions _. ok_walks (record { streams = streams; says = says; enter = enter; leave = leave; actions = actions }))))))

-- the names that a channel requires are the strings of its `requires`
items_strings : (items : Items) (names : List (List ℕ)) → AreItems IsRequirable items names → strings items ≡ names
items_strings no_items [] a = refl
items_strings no_items (x ∷ xs) a = absurd a
items_strings (item d ds) [] a = absurd a
items_strings (item d ds) (x ∷ xs) a = ap (λ (e : Data). onto (as_str e) (strings ds)) a.0.text ∙ ap (λ (ns : List (List ℕ)). x ∷ ns) (items_strings ds xs a.1)

pub names_are : (o : Option Data) (names : List (List ℕ)) → IsRequired o names → names_at o ≡ names
names_are None names r = sym r.list
names_are (Some d) names r = ap (λ (e : Data). names_at (Some e)) r.list.1 ∙ items_strings r.list.0 names r.list.2

channel_walks : (d : Data) → Walks (channel_in d) (channel_places d)
unfolding channel_in
channel_walks d =
    let o = get (codes "requires") d in
    let reads = requires_read o in
    let walks = place_walks required_names o reads (requires_tell o) (λ names i. (names, i)) (λ m. m) in
    then_walks (object_walks d) (λ ms _. then_walks (name_walks d) (λ name _. then_walks (within_walks (codes "requires") walks)
    (λ required e. then_walks (rules required ((within_reads (codes "requires") reads).is required e)) (λ rules _. ok_walks (record { name = name; required = required; rules = rules })))))
  where
    rules : (required : List (List ℕ)) → IsRequired (get (codes "requires") d) required → Walks (rules_in required d) (rules_places (names_at (get (codes "requires") d)) d)
    rules required r =
        subst (λ (names : List (List ℕ)). Walks (rules_in required d) (rules_places names d)) (sym (names_are (get (codes "requires") d) required r))
        (rules_walk required (required_plain (get (codes "requires") d) required r) d)

-- the array that has to stand there
abbrev array_at : Option Data → Result Items (List ℕ)
array_at o = here o >>= λ d. here (as_array d)

array_at_reads : (o : Option Data) → Reads (array_at o) (λ items. o ≡ Some (array items))
array_at_reads o =
    converts (then_reads (here_reads o (λ d. o ≡ Some d) (λ d e. e) (λ d e. e)) (λ d e. array_reads d))
    (λ items w. w.1 ∙ ap (λ (d : Data). Some d) w.2) (λ items e. (array items, e, refl))

array_at_walks : (o : Option Data) → Walks (array_at o >>= each channel_in 0) (at the_channels o ++ item_places channel_places 0 (items_of o))
array_at_walks o = then_walks (place_walks the_channels o (array_at_reads o) (then_tells (here o) _ (here_tells o) (λ d. here_tells (as_array d))) (λ items e. (items, e)) (λ m. m)) items
  where
    items : (ds : Items) → array_at o ≡ Ok ds → Walks (each channel_in 0 ds) (item_places channel_places 0 (items_of o))
    items ds e = subst (λ (q : Option Data). Walks (each channel_in 0 ds) (item_places channel_places 0 (items_of q))) (sym ((array_at_reads o).is ds e)) (each_walks channel_walks 0 ds)

-- the list of channels
channels_walk : (o : Option Data) → Walks (channels_in o) (at the_channels o ++ item_places channel_places 0 (items_of o))
unfolding channels_in
channels_walk None = array_at_walks None
channels_walk (Some d) = array_at_walks (Some d)

pub shape_walks : (d : Data) → Walks (shape_in d) (book_places d)
shape_walks d =
    let o = get (codes "tokens") d in
    let tokens = place_walks the_tokens o (tokens_read o) (tokens_tell o) (λ users i. (users, i)) (λ m. m) in
    then_walks (object_walks d) (λ ms _. then_walks (within_walks (codes "tokens") tokens)
    (λ users _. then_walks (within_walks (codes "channels") (channels_walk (get (codes "channels") d))) (λ channels _. ok_walks (record { users = users; channels = channels }))))

-- ---- the fault

pub shape_broken : (d : Data) (path : List ℕ) → shape_in d ≡ Err path → IsFirstBreak (book_places d) path
shape_broken d path e = (shape_walks d).broken path e

pub broken_shape : (d : Data) (path : List ℕ) → IsFirstBreak (book_places d) path → shape_in d ≡ Err path
broken_shape d path w = by_result (shape_in d) refl
  where
    by_result : (r : Result Declared (List ℕ)) → shape_in d ≡ r → shape_in d ≡ Err path
    by_result (Ok book) e = absurd (all_or_first IsMet (λ p. ¬ IsMet p) (λ p m n. n m) (book_places d) w.0 ((shape_walks d).met book e) w.1)
    by_result (Err p) e =
        let v = shape_broken d p e in
        let one : v.0 ≡ w.0 = one_first IsMet (λ p. ¬ IsMet p) (λ p m n. n m) (book_places d) v.0 w.0 v.1 w.1 in
        e ∙ ap (λ (q : List ℕ). Err q) (sym v.2 ∙ ap (λ (place : Place). place.path) one ∙ w.2)

pub book_met : (d : Data) → (book : Declared) × IsBook d book → AllByRecursion IsMet (book_places d)
book_met d w = (shape_walks d).met w.0 ((shape_reads d).of w.0 w.1)

pub met_book : (d : Data) → AllByRecursion IsMet (book_places d) → (book : Declared) × IsBook d book
met_book d met = by_result (shape_in d) refl
  where
    by_result : (r : Result Declared (List ℕ)) → shape_in d ≡ r → (book : Declared) × IsBook d book
    by_result (Ok book) e = (book, (shape_reads d).is book e)
    by_result (Err path) e = let w = shape_broken d path e in absurd (all_or_first IsMet (λ p. ¬ IsMet p) (λ p m n. n m) (book_places d) w.0 met w.1)
