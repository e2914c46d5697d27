-- The templates that a book declares are those that the walk meets, in its order.
use Rattle.std.proofs.Common.{◌≡◌, ℕ, ◌+◌, List, [], ◌∷◌, ◌++◌, Option, Some, None, refl, sym, ap, subst, ◌∙◌, append_assoc, append-nil}
use Rattle.std.specs.Prelude.{map, flat_map, codes, decimal, option_and_then}
use Rattle.std.proofs.lemmas.List.{map-append}
use Rattle.std.proofs.lemmas.List.Concat.{flat_map_single}
use Rattle.serde_json.specs.Data.{Data, Items, no_items, item}
use Rattle.serde_json.specs.Find.{get, as_str}
use Rattle.channel_book.specs.declared.templates.Template.{Template}
use Rattle.channel_book.specs.declared.declarations.CastRule.{CastRule}
use Rattle.channel_book.specs.declared.declarations.Action.{Action}
use Rattle.channel_book.specs.declared.declarations.Rules.{Rules}
use Rattle.channel_book.specs.declared.declarations.Channel.{Channel}
use Rattle.channel_book.specs.Shapes.{Declared}
use Rattle.channel_book.specs.Books.{targets, action_templates, channel_templates}
use Rattle.channel_book_laws.specs.Lists.{AreItems}
use Rattle.channel_book_laws.specs.Books.{IsList, IsTemplateString, IsJsonString, IsCastRule, IsAction, IsRules, IsChannel, IsChannels, IsBook}
use Rattle.channel_book_laws.specs.Walk.{Place, an_object, the_tokens, the_channels, a_name, required_names, a_flag, a_list, at, member_at, under, items_of, item_places, list_at, template_places, json_places, cast_places, action_places, onto, rules_places, channel_places, book_places, template_at, templates_at}
use Rattle.channel_book_laws.proofs.Walk.{names_are}

abbrev pub texts : List Template → List (List ℕ)
texts templates = map (λ (template : Template). template.text) templates

-- the walk over these places meets these templates
record Shows (places : List Place) (templates : List Template) : Type 0 where
  shown : templates_at places ≡ texts templates

-- ---- lists of places

onto_append : (o : Option (List ℕ)) (xs ys : List (List ℕ)) → onto o (xs ++ ys) ≡ onto o xs ++ ys
onto_append None xs ys = refl
onto_append (Some x) xs ys = refl

templates-append : (front back : List Place) → templates_at (front ++ back) ≡ templates_at front ++ templates_at back
templates-append [] back = refl
templates-append (p ∷ front) back = ap (onto (template_at p.row p.value)) (templates-append front back) ∙ onto_append (template_at p.row p.value) (templates_at front) (templates_at back)

shows_both : {front back : List Place} {xs ys : List Template} → Shows front xs → Shows back ys → Shows (front ++ back) (xs ++ ys)
shows_both {front} {back} {xs} {ys} a b = record {
  shown = templates-append front back ∙ ap (λ (ts : List (List ℕ)). ts ++ templates_at back) a.shown ∙ ap (λ (ts : List (List ℕ)). texts xs ++ ts) b.shown ∙ sym (map-append (λ (t : Template). t.text) xs ys);
}

templates_under : (step : List ℕ) (places : List Place) → templates_at (under step places) ≡ templates_at places
templates_under step [] = refl
templates_under step (p ∷ places) = ap (onto (template_at p.row p.value)) (templates_under step places)

shows_under : {places : List Place} {xs : List Template} (step : List ℕ) → Shows places xs → Shows (under step places) xs
shows_under {places} {xs} step a = record { shown = templates_under step places ∙ a.shown }

shows_at : {places : List Place} {xs ys : List Template} → Shows places xs → xs ≡ ys → Shows places ys
shows_at {places} a e = subst (Shows places) e a

shows_items : {X : Type 0} {Is : Data → X → Type 0} {places_of : Data → List Place} {templates_of : X → List Template} → ((d : Data) (x : X) → Is d x → Shows (places_of d) (templates_of x)) → (i : ℕ) (items : Items) (xs : List X) → AreItems Is items xs
    → Shows (item_places places_of i items) (flat_map templates_of xs)
shows_items h i no_items [] a = record { shown = refl }
shows_items h i no_items (x ∷ xs) a = absurd a
shows_items h i (item d ds) [] a = absurd a
shows_items h i (item d ds) (x ∷ xs) a = shows_both (shows_under (decimal i) (h d x a.0)) (shows_items h (i + 1) ds xs a.1)

shows_list : {X : Type 0} {Is : Data → X → Type 0} {places_of : Data → List Place} {templates_of : X → List Template} → ((d : Data) (x : X) → Is d x → Shows (places_of d) (templates_of x)) → (o : Option Data) (xs : List X) → IsList Is o xs
    → Shows (at a_list o ++ item_places places_of 0 (items_of o)) (flat_map templates_of xs)
shows_list {X} {Is} {places_of} {templates_of} h None xs l = subst (λ (ys : List X). Shows (at a_list None) (flat_map templates_of ys)) (sym l) (record { shown = refl })
shows_list {X} {Is} {places_of} {templates_of} h (Some d) xs l =
    let items = shows_items h 0 l.0 xs l.2 in
    subst (λ (e : Data). Shows (at a_list (Some e) ++ item_places places_of 0 (items_of (Some e))) (flat_map templates_of xs)) (sym l.1) (record { shown = items.shown })

-- ---- single places

template_shown : (names : List (List ℕ)) (d : Data) (t : Template) → IsTemplateString names d t → Shows (template_places names d) (t ∷ [])
template_shown names d t w = record { shown = ap (λ (e : Data). onto (as_str e) []) w.1 ∙ ap (λ (text : List ℕ). text ∷ []) (sym w.2.kept) }

json_shown : (d : Data) (json : List ℕ) → IsJsonString d json → Shows (json_places d) []
json_shown d json i = record { shown = refl }

cast_shown : (names : List (List ℕ)) (d : Data) (rule : CastRule) → IsCastRule names d rule → Shows (cast_places names d) (rule.to ∷ [])
cast_shown names d rule i = let w = i.to.2 in record {
  shown = ap (λ (o : Option Data). onto (option_and_then as_str o) []) (i.to.1 ∙ ap (λ (e : Data). Some e) w.1) ∙ ap (λ (text : List ℕ). text ∷ []) (sym w.2.kept);
}

-- ---- lists of templates

map_same : {X : Type 0} (xs : List X) → map (λ x. x) xs ≡ xs
map_same [] = refl
map_same (x ∷ xs) = ap (λ ys. x ∷ ys) (map_same xs)

abbrev no_templates : List Template
no_templates = []

nothing_from : {X : Type 0} (xs : List X) → flat_map (λ (x : X). no_templates) xs ≡ no_templates
nothing_from [] = refl
nothing_from (x ∷ xs) = nothing_from xs

templates_shown : (names : List (List ℕ)) (key : List ℕ) (d : Data) (ts : List Template) → IsList (IsTemplateString names) (get key d) ts → Shows (list_at key (template_places names) d) ts
templates_shown names key d ts l = shows_at (shows_under key (shows_list (template_shown names) (get key d) ts l)) (flat_map_single (λ (t : Template). t) ts ∙ map_same ts)

casts_shown : (names : List (List ℕ)) (key : List ℕ) (d : Data) (rules : List CastRule) → IsList (IsCastRule names) (get key d) rules → Shows (list_at key (cast_places names) d) (targets rules)
casts_shown names key d rules l = shows_at (shows_under key (shows_list (cast_shown names) (get key d) rules l)) (flat_map_single (λ (rule : CastRule). rule.to) rules)

says_shown : (d : Data) (says : List (List ℕ)) → IsList IsJsonString (get (codes "says") d) says → Shows (list_at (codes "says") json_places d) []
says_shown d says l = shows_at (shows_under (codes "says") (shows_list json_shown (get (codes "says") d) says l)) (nothing_from says)

-- ---- the table

shows_none : Shows [] []
shows_none = record { shown = refl }

three : (a b c : List Template) → a ++ (b ++ (c ++ [])) ≡ a ++ b ++ c
three a b c = ap (λ (x : List Template). a ++ (b ++ x)) (append-nil c) ∙ sym (append_assoc a b c)

object_shown : (d : Data) → Shows (at an_object (Some d)) []
object_shown d = record { shown = refl }

name_shown : (d : Data) → Shows (member_at (codes "name") a_name d) []
name_shown d = record { shown = refl }

action_shown : (names : List (List ℕ)) (d : Data) (action : Action) → IsAction names d action → Shows (action_places names d) (action_templates action)
action_shown names d action i =
    let echo : Shows (member_at (codes "echo") a_flag d) [] = record { shown = refl } in
    let streams = templates_shown names (codes "streams") d action.streams i.streams in
    let stops = templates_shown names (codes "stops") d action.stops i.stops in
    let casts = templates_shown names (codes "casts") d action.casts i.casts in
    shows_at (shows_both (object_shown d) (shows_both (name_shown d) (shows_both casts (shows_both echo (shows_both streams (shows_both stops shows_none)))))) (three action.casts action.streams action.stops)

rules_templates : Rules → List Template
rules_templates rules = rules.streams ++ targets rules.enter ++ targets rules.leave ++ flat_map action_templates rules.actions

four : (a b c e : List Template) → a ++ (b ++ (c ++ (e ++ []))) ≡ a ++ b ++ c ++ e
four a b c e = ap (λ (x : List Template). a ++ x) (three b c e) ∙ simp append_assoc

rules_shown : (names : List (List ℕ)) (d : Data) (rules : Rules) → IsRules names d rules → Shows (rules_places names d) (rules_templates rules)
unfolding rules_templates
rules_shown names d rules i =
    let streams = templates_shown names (codes "streams") d rules.streams i.streams in
    let says = says_shown d rules.says i.says in
    let enter = casts_shown names (codes "enter") d rules.enter i.enter in
    let leave = casts_shown names (codes "leave") d rules.leave i.leave in
    let actions = shows_under (codes "actions") (shows_list (action_shown names) (get (codes "actions") d) rules.actions i.actions) in
    shows_at (shows_both streams (shows_both says (shows_both enter (shows_both leave (shows_both actions shows_none))))) (four rules.streams (targets rules.enter) (targets rules.leave) (flat_map action_templates rules.actions))

channel_shown : (d : Data) (channel : Channel) → IsChannel d channel → Shows (channel_places d) (channel_templates channel)
unfolding rules_templates
channel_shown d channel i =
    let requires : Shows (member_at (codes "requires") required_names d) [] = record { shown = refl } in
    let rules = subst (λ (names : List (List ℕ)). Shows (rules_places names d) (rules_templates channel.rules)) (sym (names_are (get (codes "requires") d) channel.required i.required)) (rules_shown channel.required d channel.rules i.rules) in
    shows_at (shows_both (object_shown d) (shows_both (name_shown d) (shows_both requires (shows_both rules shows_none)))) (append-nil (channel_templates channel))

channels_shown : (o : Option Data) (channels : List Channel) → IsChannels o channels → Shows (at the_channels o ++ item_places channel_places 0 (items_of o)) (flat_map channel_templates channels)
channels_shown o channels w =
    let items = shows_items channel_shown 0 w.0 channels w.2 in
    subst (λ (q : Option Data). Shows (at the_channels q ++ item_places channel_places 0 (items_of q)) (flat_map channel_templates channels)) (sym w.1) (record { shown = items.shown })

-- the walk over a book meets the templates that it declares
pub book_shown : (d : Data) (book : Declared) → IsBook d book → templates_at (book_places d) ≡ texts (flat_map channel_templates book.channels)
book_shown d book i =
    let tokens : Shows (member_at (codes "tokens") the_tokens d) [] = record { shown = refl } in
    let channels = shows_under (codes "channels") (channels_shown (get (codes "channels") d) book.channels i.channels) in
    let all = shows_both (object_shown d) (shows_both tokens (shows_both channels shows_none)) in
    all.shown ∙ ap texts (append-nil (flat_map channel_templates book.channels))
