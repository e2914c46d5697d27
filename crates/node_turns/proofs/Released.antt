-- How holds end, for one stream or subscription after another.
use Rattle.std.proofs.Common.{◌≡◌, ℕ, ◌+◌, ◌<◌, List, [], ◌∷◌, ◌++◌, length, map, get_or, take, refl, sym, ap, ◌∙◌}
use Rattle.std.specs.List.{filter, flat_map}
use Rattle.std.proofs.lemmas.Grind.{flat_map-append}
use Rattle.std.proofs.lemmas.List.{take_more, map-append, append-nil}
use Rattle.std.proofs.lemmas.List.Elements.{filter-append}
use Rattle.cable_model.specs.Connection.{among}
use Rattle.conn_core.specs.Subscriptions.{SubParts, Subscription, shown}
use Rattle.stream_set.specs.declared.entries.StreamEntry.{StreamEntry}
use Rattle.subscriber_map.specs.HoldMaps.{HoldMap}
use Rattle.node_turns.specs.Holding.{NamedWant, named, without_all}

pub without_all-append : (c : ℕ) (ns ms : List NamedWant) (m : HoldMap) → without_all c (ns ++ ms) m ≡ without_all c ms (without_all c ns m)
without_all-append c [] ms m = refl
without_all-append c (n ∷ ns) ms m = without_all-append c ns ms _

-- one more is done
pub one-more : {A : Type 0} (f : List A → List NamedWant) → ((xs ys : List A) → f (xs ++ ys) ≡ f xs ++ f ys)
    → (c : ℕ) (xs : List A) (i : ℕ) (x : A) (start old new : HoldMap) → i < length xs → x ≡ get_or xs i x
    → old ≡ without_all c (f (take i xs)) start → new ≡ without_all c (f (x ∷ [])) old
    → new ≡ without_all c (f (take (i + 1) xs)) start
one-more f each c xs i x start old new l e before now =
    let more : take (i + 1) xs ≡ take i xs ++ x ∷ [] = take_more xs i x l ∙ ap (λ y. take i xs ++ y ∷ []) (sym e) in
    now
    ∙ (ap (without_all c (f (x ∷ []))) before
    ∙ (sym (without_all-append c (f (take i xs)) (f (x ∷ [])) start) ∙ ap (λ ns. without_all c ns start) (sym (ap f more ∙ each (take i xs) (x ∷ [])))))

pub names-append : (xs ys : List StreamEntry) → map named (xs ++ ys) ≡ map named xs ++ map named ys
names-append xs ys = map-append named xs ys

pub stops-append : (stops : List (List ℕ)) (xs ys : List StreamEntry)
    → map named (filter (λ e. among stops e.name) (xs ++ ys))
    ≡ map named (filter (λ e. among stops e.name) xs) ++ map named (filter (λ e. among stops e.name) ys)
stops-append stops xs ys = ap (map named) (filter-append (λ (e : StreamEntry). among stops e.name) xs ys) ∙ map-append named _ _

pub subs-append : (of : Subscription → List NamedWant) (xs ys : List SubParts)
    → flat_map of (map shown (xs ++ ys)) ≡ flat_map of (map shown xs) ++ flat_map of (map shown ys)
subs-append of xs ys = ap (flat_map of) (map-append shown xs ys) ∙ flat_map-append of (map shown xs) (map shown ys)

-- one subscription more
pub sub-more : (of : Subscription → List NamedWant) (c : ℕ) (xs : List SubParts) (i : ℕ) (x : SubParts) (start old new : HoldMap) → i < length xs
    → x ≡ get_or xs i x
    → old ≡ without_all c (flat_map of (map shown (take i xs))) start → new ≡ without_all c (of (shown x)) old
    → new ≡ without_all c (flat_map of (map shown (take (i + 1) xs))) start
sub-more of c xs i x start old new l e before now =
    one-more (λ ys. flat_map of (map shown ys)) (subs-append of) c xs i x start old new l e before
    (now ∙ ap (λ ns. without_all c ns old) (sym (append-nil (of (shown x)))))
