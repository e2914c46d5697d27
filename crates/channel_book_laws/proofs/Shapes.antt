-- Each value of a book is read exactly where the table has it so.
use Rattle.std.proofs.Common.{◌≡◌, ℕ, ◌≤◌, Bool, true, false, not, ◌&&◌, cond, List, [], ◌∷◌, length, Option, Some, None, refl, sym, ap, subst, ◌∙◌, arith}
use Rattle.std.specs.Prelude.{◌==◌, nat_le, Ok, Err, Decides, IsSome, is_some, bytes_eq, codes, option_and_then}
use Rattle.std.specs.List.{list_any}
use Rattle.std.proofs.lemmas.Bool.{leb-true, le-leb, and_parts}
use Rattle.std.proofs.lemmas.Bool.Decides.{Decides-not, Decides-eqb}
use Rattle.std.proofs.lemmas.Slice.Eq.{bytes_eq-Decides}
use Rattle.serde_json.specs.Data.{Data, null, boolean, number, string, array, object, Items, no_items, item, Members, no_members, member}
use Rattle.serde_json.specs.Read.{read}
use Rattle.serde_json.specs.Find.{get, as_str, as_bool, as_object}
use Rattle.cable_base.specs.Squeeze.{squeezed}
use Rattle.cable_base.specs.declared.limits.TheConstants.{MOST_USER}
use Rattle.channel_book.specs.declared.templates.Template.{Template}
use Rattle.channel_book.specs.Json.{text_at, json_text}
use Rattle.channel_book.specs.Names.{first_repeat}
use Rattle.channel_book.specs.Paths.{here}
use Rattle.channel_book.specs.Templates.{opens, closes, IsPlain, ArePlain, template_of}
use Rattle.channel_book.specs.Shapes.{Users, user_in, users_in, tokens_in, template_in, json_in, cast_in, name_in, flag_in, is_requirable}
use Rattle.channel_book.specs.Shapes.{required_in, names_in, distinct_names, requires_in, action_in, rules_in, channel_in, channels_in, shape_in}
use Rattle.channel_book.proofs.Cutting.{template_is, template_read}
use Rattle.channel_book_laws.specs.Lists.{AreDistinct, AreItems}
use Rattle.channel_book_laws.specs.Books.{IsObject, IsUser, AreUsers, IsTokens, IsName, IsFlag, IsTemplateString, IsJsonString, IsCastRule}
use Rattle.channel_book_laws.specs.Books.{IsRequirable, IsRequired, IsAction, IsRules, IsChannel, IsChannels, IsBook}
use Rattle.channel_book_laws.proofs.Names.{itself, new_none, Told, told}
use Rattle.channel_book_laws.proofs.Reading.{Reads, converts, ok_reads, then_reads, within_reads, here_reads, tested_reads, each_reads, array_reads, list_reads}

-- ---- JSON values

string_is : (d : Data) (s : List ℕ) → as_str d ≡ Some s → d ≡ string s
string_is null s e = absurd cc
string_is (boolean b) s e = absurd cc
string_is (number n) s e = absurd cc
string_is (string t) s e = cc
string_is (array ds) s e = absurd cc
string_is (object ms) s e = absurd cc

bool_is : (d : Data) (b : Bool) → as_bool d ≡ Some b → d ≡ boolean b
bool_is null b e = absurd cc
bool_is (boolean c) b e = cc
bool_is (number n) b e = absurd cc
bool_is (string s) b e = absurd cc
bool_is (array ds) b e = absurd cc
bool_is (object ms) b e = absurd cc

object_is : (d : Data) (ms : Members) → as_object d ≡ Some ms → d ≡ object ms
object_is null ms e = absurd cc
object_is (boolean b) ms e = absurd cc
object_is (number n) ms e = absurd cc
object_is (string s) ms e = absurd cc
object_is (array ds) ms e = absurd cc
object_is (object ns) ms e = cc

string_reads : (d : Data) → Reads (here (as_str d)) (λ s. d ≡ string s)
string_reads d = here_reads (as_str d) (λ s. d ≡ string s) (string_is d) (λ s e. ap as_str e)

pub object_reads : (d : Data) → Reads (here (as_object d)) (λ ms. d ≡ object ms)
object_reads d = here_reads (as_object d) (λ ms. d ≡ object ms) (object_is d) (λ ms e. ap as_object e)

-- ---- tokens

Decides-short : (user : List ℕ) → Decides (nat_le (length user) MOST_USER) (length user ≤ MOST_USER)
Decides-short user = (leb-true (length user) MOST_USER, le-leb (length user) MOST_USER)

-- a token with its user
abbrev IsUserOf : List ℕ → Data → List ℕ × List ℕ → Type 0
IsUserOf token d u = (u.0 ≡ token) × IsUser d u.1

user_reads : (token : List ℕ) (d : Data) → Reads (user_in token d) (IsUserOf token d)
user_reads token d =
    converts (then_reads (string_reads d) (λ s e. tested_reads (nat_le (length s) MOST_USER) (token, s) (Decides-short s)))
    (λ u w. subst (IsUserOf token d) w.2.1 (refl, record { text = w.1; short = w.2.0 }))
    (λ u i. (u.1, i.1.text, (i.1.short, ap (λ (t : List ℕ). (t, u.1)) (sym i.0))))

users_reads : (ms : Members) → Reads (users_in ms) (AreUsers ms)
users_reads no_members = converts (ok_reads []) none_are are_none
  where
    none_are : (us : Users) → [] ≡ us → AreUsers no_members us
    none_are [] e = tt
    none_are (u ∷ us) e = absurd cc

    are_none : (us : Users) → AreUsers no_members us → [] ≡ us
    are_none [] a = refl
    are_none (u ∷ us) a = absurd a
users_reads (member token d ms) =
    converts (then_reads (user_reads token d) (λ u i. then_reads (users_reads ms) (λ us a. ok_reads (u ∷ us))))
    (λ us w. subst (AreUsers (member token d ms)) w.2.2 (w.1.0, w.1.1, w.2.1)) are
  where
    are : (us : Users) → AreUsers (member token d ms) us → (u : List ℕ × List ℕ) × IsUserOf token d u × ((vs : Users) × AreUsers ms vs × (u ∷ vs ≡ us))
    are [] a = absurd a
    are (u ∷ us) a = (u, (a.0, a.1), (us, a.2, refl))

pub tokens_read : (o : Option Data) → Reads (tokens_in o) (IsTokens o)
unfolding tokens_in
tokens_read None = converts (ok_reads []) (λ us e. sym e) (λ us e. sym e)
tokens_read (Some d) = then_reads (object_reads d) (λ ms e. users_reads ms)

-- ---- what channels and actions are made of

template_to : (names : List (List ℕ)) (d : Data) (t : Template) → option_and_then (template_of names) (as_str d) ≡ Some t → IsTemplateString names d t
template_to names d = by_text (as_str d) refl
  where
    by_text : (o : Option (List ℕ)) → as_str d ≡ o → (t : Template) → option_and_then (template_of names) o ≡ Some t → IsTemplateString names d t
    by_text None e t is = absurd cc
    by_text (Some s) e t is = (s, string_is d s e, template_is names s t is)

template_from : (names : List (List ℕ)) → ArePlain names → (d : Data) (t : Template) → IsTemplateString names d t → option_and_then (template_of names) (as_str d) ≡ Some t
template_from names plain d t w = ap (λ (x : Data). option_and_then (template_of names) (as_str x)) w.1 ∙ template_read names w.0 t plain w.2

pub template_reads : (names : List (List ℕ)) → ArePlain names → (d : Data) → Reads (template_in names d) (IsTemplateString names d)
unfolding template_in
template_reads names plain d = here_reads (option_and_then (template_of names) (as_str d)) (IsTemplateString names d) (template_to names d) (template_from names plain d)

json_is : (s json : List ℕ) → json_text s ≡ Some json → IsSome (read s) × (json ≡ squeezed s)
json_is s json e = by_value (read s) e
  where
    by_value : (o : Option Data) → cond (is_some o) (Some (squeezed s)) None ≡ Some json → IsSome o × (json ≡ squeezed s)
    by_value None e = absurd cc
    by_value (Some d) e = (refl, cc)

json_of : (s json : List ℕ) → IsSome (read s) → json ≡ squeezed s → json_text s ≡ Some json
json_of s json r e = rw (r, e) refl

json_to : (d : Data) (json : List ℕ) → option_and_then json_text (as_str d) ≡ Some json → IsJsonString d json
json_to d = by_text (as_str d) refl
  where
    by_text : (o : Option (List ℕ)) → as_str d ≡ o → (json : List ℕ) → option_and_then json_text o ≡ Some json → IsJsonString d json
    by_text None e json is = absurd cc
    by_text (Some s) e json is = let j = json_is s json is in record { text = s; string = string_is d s e; read = j.0; kept = j.1 }

json_from : (d : Data) (json : List ℕ) → IsJsonString d json → option_and_then json_text (as_str d) ≡ Some json
json_from d json i = ap (λ (x : Data). option_and_then json_text (as_str x)) i.string ∙ json_of i.text json i.read i.kept

pub json_reads : (d : Data) → Reads (json_in d) (IsJsonString d)
unfolding json_in
json_reads d = here_reads (option_and_then json_text (as_str d)) (IsJsonString d) (json_to d) (json_from d)

-- a member is a string that passes, exactly where it stands there
member_reads : {X : Type 0} (key : List ℕ) (d : Data) (f : List ℕ → Option X) (Is : Data → X → Type 0) → ((e : Data) (x : X) → option_and_then f (as_str e) ≡ Some x → Is e x) → ((e : Data) (x : X) → Is e x → option_and_then f (as_str e) ≡ Some x)
    → Reads (here (option_and_then f (text_at key d))) (λ x. (value : Data) × (get key d ≡ Some value) × Is value x)
member_reads {X} key d f Is to from = here_reads (option_and_then f (text_at key d)) (λ x. (value : Data) × (get key d ≡ Some value) × Is value x) (by_value (get key d) refl) (λ x w. ap (λ (o : Option Data). option_and_then f (option_and_then as_str o)) w.1 ∙ from w.0 x w.2)
  where
    by_value : (o : Option Data) → get key d ≡ o → (x : X) → option_and_then f (option_and_then as_str o) ≡ Some x → (value : Data) × (get key d ≡ Some value) × Is value x
    by_value None e x is = absurd cc
    by_value (Some v) e x is = (v, e, to v x is)

-- what has a member is an object
has_members : (key : List ℕ) (d value : Data) → get key d ≡ Some value → IsObject d
has_members key null value e = absurd cc
has_members key (boolean b) value e = absurd cc
has_members key (number n) value e = absurd cc
has_members key (string s) value e = absurd cc
has_members key (array ds) value e = absurd cc
has_members key (object ms) value e = (ms, refl)

pub cast_reads : (names : List (List ℕ)) → ArePlain names → (d : Data) → Reads (cast_in names d) (IsCastRule names d)
unfolding cast_in
cast_reads names plain d =
    converts (then_reads (member_reads (codes "to") d (template_of names) (IsTemplateString names) (template_to names) (template_from names plain))
    (λ to i. then_reads (member_reads (codes "payload") d json_text IsJsonString json_to json_from) (λ payload j. ok_reads (record { to = to; payload = payload }))))
    (λ rule w. subst (IsCastRule names d) w.2.2 (record { object = has_members (codes "to") d w.1.0 w.1.1; to = w.1; payload = w.2.1 }))
    (λ rule i. (rule.to, i.to, (rule.payload, i.payload, refl)))

length_none : (name : List ℕ) → length name ≡ 0 → name ≡ []
length_none [] e = refl
length_none (b ∷ name) e = absurd (omega arith)

Decides-empty : (name : List ℕ) → Decides (length name == 0) (name ≡ [])
Decides-empty name = (λ t. length_none name ((Decides-eqb (length name) 0).0 t), λ e. (Decides-eqb (length name) 0).1 (ap (λ (s : List ℕ). length s) e))

pub name_reads : (o : Option Data) → Reads (name_in o) (IsName o)
unfolding name_in
name_reads o =
    converts (then_reads (here_reads (option_and_then as_str o) (λ s. o ≡ Some (string s)) (by_value o) (λ s e. ap (λ (q : Option Data). option_and_then as_str q) e))
    (λ s e. tested_reads (not (length s == 0)) s (Decides-not (length s == 0) (Decides-empty s))))
    (λ name w. subst (IsName o) w.2.1 (record { text = w.1; some = w.2.0 }))
    (λ name i. (name, i.text, (i.some, refl)))
  where
    by_value : (q : Option Data) (s : List ℕ) → option_and_then as_str q ≡ Some s → q ≡ Some (string s)
    by_value None s e = absurd cc
    by_value (Some d) s e = ap (λ (x : Data). Some x) (string_is d s e)

pub flag_reads : (o : Option Data) → Reads (flag_in o) (IsFlag o)
unfolding flag_in
flag_reads None = converts (ok_reads false) (λ b e. sym e) (λ b e. sym e)
flag_reads (Some d) = here_reads (as_bool d) (λ b. d ≡ boolean b) (bool_is d) (λ b e. ap as_bool e)

-- ---- the names that a channel requires

Decides-plain : (b : Bool) → Decides (not b) (b ≡ false)
Decides-plain true = (λ e. absurd cc, λ e. absurd cc)
Decides-plain false = (λ e. refl, λ e. refl)

-- a name that a channel may require
pub record IsFree (name : List ℕ) : Type 0 where
  pub some : ¬ (name ≡ [])
  pub other : ¬ (name ≡ codes "user")
  pub plain : IsPlain name

both : (b c : Bool) → b ≡ true → c ≡ true → (b && c) ≡ true
both true c s t = t
both false c s t = absurd cc

Decides-free : (name : List ℕ) → Decides (is_requirable name) (IsFree name)
Decides-free name =
    let some = Decides-not (length name == 0) (Decides-empty name) in
    let other = Decides-not (bytes_eq name (codes "user")) (bytes_eq-Decides name (codes "user")) in
    let open_free = Decides-plain (list_any opens name) in
    let close_free = Decides-plain (list_any closes name) in (
      λ t.
          let outer = and_parts (not (length name == 0) && not (bytes_eq name (codes "user")) && not (list_any opens name)) (not (list_any closes name)) t in
          let inner = and_parts (not (length name == 0) && not (bytes_eq name (codes "user"))) (not (list_any opens name)) outer.0 in
          let least = and_parts (not (length name == 0)) (not (bytes_eq name (codes "user"))) inner.0 in
          record { some = some.0 least.0; other = other.0 least.1; plain = (open_free.0 inner.1, close_free.0 outer.1) },
      λ f. both _ _ (both _ _ (both _ _ (some.1 f.some) (other.1 f.other)) (open_free.1 f.plain.0)) (close_free.1 f.plain.1),
    )

required_reads : (d : Data) → Reads (required_in d) (IsRequirable d)
required_reads d =
    converts (then_reads (string_reads d) (λ s e. tested_reads (is_requirable s) s (Decides-free s)))
    (λ name w. subst (IsRequirable d) w.2.1 (record { text = w.1; some = w.2.0.some; other = w.2.0.other; plain = w.2.0.plain }))
    (λ name i. (name, i.text, (record { some = i.some; other = i.other; plain = i.plain }, refl)))

names_read : (items : Items) → Reads (names_in items) (AreItems IsRequirable items)
names_read no_items = converts (ok_reads []) none_are are_none
  where
    none_are : (xs : List (List ℕ)) → [] ≡ xs → AreItems IsRequirable no_items xs
    none_are [] e = tt
    none_are (x ∷ xs) e = absurd cc

    are_none : (xs : List (List ℕ)) → AreItems IsRequirable no_items xs → [] ≡ xs
    are_none [] a = refl
    are_none (x ∷ xs) a = absurd a
names_read (item d ds) =
    converts (then_reads (required_reads d) (λ x e. then_reads (names_read ds) (λ xs a. ok_reads (x ∷ xs))))
    (λ xs w. subst (AreItems IsRequirable (item d ds)) w.2.2 (w.1, w.2.1)) are
  where
    are : (xs : List (List ℕ)) → AreItems IsRequirable (item d ds) xs → (y : List ℕ) × IsRequirable d y × ((ys : List (List ℕ)) × AreItems IsRequirable ds ys × (y ∷ ys ≡ xs))
    are [] a = absurd a
    are (x ∷ xs) a = (x, a.0, (xs, a.1, refl))

distinct_reads : (names : List (List ℕ)) → Reads (distinct_names names) (λ ns. AreDistinct names × (names ≡ ns))
distinct_reads names = by_repeat (first_repeat itself [] names) (told [] names)
  where
    by_repeat : (o : Option (List ℕ)) → Told [] names o → Reads (cond (is_some o) (Err []) (Ok names)) (λ ns. AreDistinct names × (names ≡ ns))
    by_repeat None new = record { is = λ ns e. (new, cc); of = λ ns w. ap (λ (xs : List (List ℕ)). Ok xs) w.1 }
    by_repeat (Some name) r = record { is = λ ns e. absurd cc; of = λ ns w. absurd (w.0 r.before r.after name r.split r.stood) }

pub requires_read : (o : Option Data) → Reads (requires_in o) (IsRequired o)
unfolding requires_in
requires_read None = converts (ok_reads []) (λ names e. record { list = sym e; distinct = subst AreDistinct e (new_none []) }) (λ names r. sym r.list)
requires_read (Some d) =
    converts (then_reads (array_reads d) (λ items e. then_reads (names_read items) (λ names a. distinct_reads names)))
    (λ names w. subst (IsRequired (Some d)) w.2.2.1 (record { list = (w.0, w.1, w.2.1); distinct = w.2.2.0 }))
    (λ names r. (r.list.0, r.list.1, (names, r.list.2, (r.distinct, refl))))

-- ---- the table

pub action_reads : (names : List (List ℕ)) → ArePlain names → (d : Data) → Reads (action_in names d) (IsAction names d)
unfolding action_in
action_reads names plain d =
    let templates = λ (key : List ℕ). within_reads key (list_reads (template_reads names plain) (get key d)) in
    converts (then_reads (object_reads d) (λ ms o. then_reads (within_reads (codes "name") (name_reads (get (codes "name") d)))
    (λ name n. then_reads (templates (codes "casts")) (λ casts c. then_reads (within_reads (codes "echo") (flag_reads (get (codes "echo") d)))
    (λ echo e. then_reads (templates (codes "streams")) (λ streams s. then_reads (templates (codes "stops"))
    (λ stops t. ok_reads (record { name = name; casts = casts; echo = echo; streams = streams; stops = stops }))))))))
    (λ action w. subst (IsAction names d) w.2.2.2.2.2.2 (record { object = (w.0, w.1); name = w.2.1; casts = w.2.2.1; echo = w.2.2.2.1; streams = w.2.2.2.2.1; stops = w.2.2.2.2.2.1 }))
    (λ action i. (i.object.0, i.object.1, (action.name, i.name, (action.casts, i.casts, (action.echo, i.echo, (action.streams, i.streams, (action.stops, i.stops, refl)))))))

pub rules_read : (names : List (List ℕ)) → ArePlain names → (d : Data) → Reads (rules_in names d) (IsRules names d)
unfolding rules_in
rules_read names plain d =
    let casts = λ (key : List ℕ). within_reads key (list_reads (cast_reads names plain) (get key d)) in
    converts (then_reads (within_reads (codes "streams") (list_reads (template_reads names plain) (get (codes "streams") d)))
    (λ streams s. then_reads (within_reads (codes "says") (list_reads json_reads (get (codes "says") d)))
    (λ says t. then_reads (casts (codes "enter")) (λ enter e. then_reads (casts (codes "leave"))
    (λ leave l. then_reads (within_reads (codes "actions") (list_reads (action_reads names plain) (get (codes "actions") d)))
    (λ actions a. ok_reads (record { streams = streams; says = says; enter = enter; leave = leave; actions = actions })))))))
    (λ rules w. subst (IsRules names d) w.2.2.2.2.2 (record { streams = w.1; says = w.2.1; enter = w.2.2.1; leave = w.2.2.2.1; actions = w.2.2.2.2.1 }))
    (λ rules i. (rules.streams, i.streams, (rules.says, i.says, (rules.enter, i.enter, (rules.leave, i.leave, (rules.actions, i.actions, refl))))))

items_plain : (items : Items) (names : List (List ℕ)) → AreItems IsRequirable items names → ArePlain names
items_plain no_items [] a = tt
items_plain no_items (x ∷ xs) a = absurd a
items_plain (item d ds) [] a = absurd a
items_plain (item d ds) (x ∷ xs) a = (a.0.plain, items_plain ds xs a.1)

-- the names that a channel requires have no braces
pub required_plain : (o : Option Data) (names : List (List ℕ)) → IsRequired o names → ArePlain names
required_plain None names r = subst ArePlain (sym r.list) tt
required_plain (Some d) names r = items_plain r.list.0 names r.list.2

pub channel_reads : (d : Data) → Reads (channel_in d) (IsChannel d)
unfolding channel_in
channel_reads d =
    converts (then_reads (object_reads d) (λ ms o. then_reads (within_reads (codes "name") (name_reads (get (codes "name") d)))
    (λ name n. then_reads (within_reads (codes "requires") (requires_read (get (codes "requires") d)))
    (λ required r. then_reads (rules_read required (required_plain (get (codes "requires") d) required r) d)
    (λ rules u. ok_reads (record { name = name; required = required; rules = rules }))))))
    (λ channel w. subst (IsChannel d) w.2.2.2.2 (record { object = (w.0, w.1); name = w.2.1; required = w.2.2.1; rules = w.2.2.2.1 }))
    (λ channel i. (i.object.0, i.object.1, (channel.name, i.name, (channel.required, i.required, (channel.rules, i.rules, refl)))))

pub channels_read : (o : Option Data) → Reads (channels_in o) (IsChannels o)
unfolding channels_in
channels_read o =
    converts (then_reads (here_reads o (λ d. o ≡ Some d) (λ d e. e) (λ d e. e)) (λ d e. then_reads (array_reads d) (λ items a. each_reads channel_reads 0 items)))
    (λ channels w. (w.2.0, w.1 ∙ ap (λ (d : Data). Some d) w.2.1, w.2.2))
    (λ channels i. (array i.0, i.1, (i.0, refl, i.2)))

pub shape_reads : (d : Data) → Reads (shape_in d) (IsBook d)
shape_reads d =
    converts (then_reads (object_reads d) (λ ms o. then_reads (within_reads (codes "tokens") (tokens_read (get (codes "tokens") d)))
    (λ users t. then_reads (within_reads (codes "channels") (channels_read (get (codes "channels") d)))
    (λ channels c. ok_reads (record { users = users; channels = channels })))))
    (λ book w. subst (IsBook d) w.2.2.2 (record { object = (w.0, w.1); tokens = w.2.1; channels = w.2.2.1 }))
    (λ book i. (i.object.0, i.object.1, (book.users, i.tokens, (book.channels, i.channels, refl))))
