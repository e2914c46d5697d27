-- The holds of a connection's subscriptions behind a change of them: those that it ends are gone.
use Rattle.std.proofs.Common.{◌≡◌, ℕ, ◌+◌, ◌==◌, ◌&&◌, ◌||◌, not, Bool, true, false, cond, List, [], ◌∷◌, ◌++◌, Option, Some, None, refl, sym, ap, subst, ◌∙◌}
use Rattle.std.proofs.Common.{arith}
use Rattle.std.specs.List.{filter, list_any, flat_map, AllByRecursion}
use Rattle.std.specs.Str.{bytes_eq}
use Rattle.std.proofs.lemmas.List.Elements.{filter-append}
use Rattle.std.proofs.lemmas.List.Folds.{list_any-append}
use Rattle.std.proofs.lemmas.List.{append-nil, append_assoc}
use Rattle.std.proofs.lemmas.Bool.Decides.{nat_tests}
use Rattle.std.proofs.lemmas.Slice.Eq.{bytes_eq-Decides}
use Rattle.std.proofs.Math.Bool.{and-false}
use Rattle.cable_base.specs.declared.numbers.RowId.{RowId}
use Rattle.cable_base.specs.declared.numbers.SubNo.{SubNo}
use Rattle.cable_base.specs.declared.numbers.WantNo.{WantNo}
use Rattle.cable_base.proofs.Each.{All-append, All-implied}
use Rattle.stream_set.specs.declared.entries.StreamEntry.{StreamEntry}
use Rattle.stream_set.specs.Streams.{has_want}
use Rattle.cable_model.specs.Connection.{among}
use Rattle.conn_core.specs.Subscriptions.{Subscription, WantsApart, has_identifier, made_now, removed, restreamed, stopped, wanted_from}
use Rattle.conn_core.proofs.Mapped.{any-map}
use Rattle.subscriber_map.specs.declared.holding.Hold.{Hold}
use Rattle.node_turns.specs.Held.{marked_hold, stream_holds, sub_holds}
use Rattle.node_turns.specs.Holding.{named, named_in, named_stops, when_named}
use Rattle.node_turns.proofs.HoldsOn.{named_as, ended}

-- ---- lists

pub filter-alike : {A : Type 0} (p q : A → Bool) (xs : List A) → AllByRecursion (λ x. p x ≡ q x) xs → filter p xs ≡ filter q xs
filter-alike p q [] h = refl
filter-alike p q (x ∷ xs) h = rw (h.0, filter-alike p q xs h.1) refl

any-alike : {A : Type 0} (p q : A → Bool) (xs : List A) → ((x : A) → p x ≡ q x) → list_any p xs ≡ list_any q xs
any-alike p q [] h = refl
any-alike p q (x ∷ xs) h = rw (h x, any-alike p q xs h) refl

-- where one test passes only with another
any-through : {A : Type 0} (p q : A → Bool) (xs : List A) → ((x : A) → p x ≡ true → q x ≡ true) → list_any p xs ≡ true → list_any q xs ≡ true
any-through p q [] h t = absurd cc
any-through p q (x ∷ xs) h t = grind (arith, any-through p q xs h, h x)

any-none : {A : Type 0} (p q : A → Bool) (xs : List A) → ((x : A) → p x ≡ true → q x ≡ true) → list_any q xs ≡ false → list_any p xs ≡ false
any-none p q xs h f = grind (arith, any-through p q xs h)

any-flat : {A B : Type 0} (p : B → Bool) (f : A → List B) (xs : List A) → list_any p (flat_map f xs) ≡ list_any (λ x. list_any p (f x)) xs
any-flat p f [] = refl
any-flat p f (x ∷ xs) = list_any-append p (f x) (flat_map f xs) ∙ ap (λ b. list_any p (f x) || b) (any-flat p f xs)

any-filter : {A : Type 0} (k p : A → Bool) (xs : List A) → list_any p (filter k xs) ≡ list_any (λ x. k x && p x) xs
any-filter k p [] = refl
any-filter k p (x ∷ xs) = grind (arith, any-filter k p xs)

any-and : {A : Type 0} (b : Bool) (p : A → Bool) (xs : List A) → list_any (λ x. b && p x) xs ≡ (b && list_any p xs)
any-and b p [] = grind arith
any-and b p (x ∷ xs) = grind (arith, any-and b p xs)

and-right : (a b : Bool) → (a && b) ≡ true → b ≡ true
and-right a b e = grind arith

-- ---- whose holds they are

-- the want has the name in this subscription
abbrev pub held_in : List ℕ → WantNo → Subscription → Bool
held_in name want s = list_any (λ e. bytes_eq e.name name && (e.want.0 == want.0)) s.streams

-- the want has the name in one of these subscriptions in which it ends
abbrev pub ends_in : List ℕ → (Subscription → Bool) → List Subscription → WantNo → Bool
ends_in name ends subs want = list_any (λ s. ends s && held_in name want s) subs

held-wants : (name : List ℕ) (want : WantNo) (s : Subscription) → held_in name want s ≡ true → has_want want s.streams ≡ true
held-wants name want s h =
    any-through (λ (e : StreamEntry). bytes_eq e.name name && (e.want.0 == want.0)) (λ (e : StreamEntry). e.want.0 == want.0) s.streams
    (λ e t. and-right (bytes_eq e.name name) (e.want.0 == want.0) t) h

pub unwanted : (name : List ℕ) (want : WantNo) (ends : Subscription → Bool) (subs : List Subscription) → list_any (λ s. has_want want s.streams) subs ≡ false
    → ends_in name ends subs want ≡ false
unwanted name want ends subs h =
    any-none (λ (s : Subscription). ends s && held_in name want s) (λ (s : Subscription). has_want want s.streams) subs
    (λ s t. held-wants name want s (and-right (ends s) (held_in name want s) t)) h

pub self : (n : ℕ) → (n == n) ≡ true
self n = grind (arith, nat_tests)

pub or-later : (a b : Bool) → b ≡ true → (a || b) ≡ true
or-later a b e = grind arith

-- each hold of a subscription's streams is one of a want that has the name there
each-held : (c : ℕ) (name : List ℕ) (sub : SubNo) (es : List StreamEntry)
    → AllByRecursion (λ h. list_any (λ e. bytes_eq e.name name && (e.want.0 == h.want.0)) es ≡ true) (stream_holds c name sub es)
each-held c name sub [] = tt
each-held c name sub (e ∷ es) = by-name (bytes_eq e.name name) refl (each-held c name sub es)
  where
    by-mark : (o : Option RowId) → bytes_eq e.name name ≡ true
        → AllByRecursion (λ (h : Hold). list_any (λ d. bytes_eq d.name name && (d.want.0 == h.want.0)) (e ∷ es) ≡ true) (marked_hold c sub e.want o)
    by-mark None is = tt
    by-mark (Some mark) is = (rw (is, self e.want.0) refl, tt)

    by-name : (b : Bool) → bytes_eq e.name name ≡ b
        → AllByRecursion (λ (h : Hold). list_any (λ d. bytes_eq d.name name && (d.want.0 == h.want.0)) es ≡ true) (stream_holds c name sub es)
        → AllByRecursion (λ (h : Hold). list_any (λ d. bytes_eq d.name name && (d.want.0 == h.want.0)) (e ∷ es) ≡ true) (stream_holds c name sub (e ∷ es))
    by-name b is ih = by-test b is
      where
        rest : AllByRecursion (λ (h : Hold). list_any (λ d. bytes_eq d.name name && (d.want.0 == h.want.0)) (e ∷ es) ≡ true) (stream_holds c name sub es)
        rest =
            All-implied (λ (h : Hold). list_any (λ d. bytes_eq d.name name && (d.want.0 == h.want.0)) es ≡ true)
            (λ (h : Hold). list_any (λ d. bytes_eq d.name name && (d.want.0 == h.want.0)) (e ∷ es) ≡ true) (stream_holds c name sub es)
            (λ h t. or-later (bytes_eq e.name name && (e.want.0 == h.want.0)) (list_any (λ d. bytes_eq d.name name && (d.want.0 == h.want.0)) es) t) ih

        by-test : (t : Bool) → bytes_eq e.name name ≡ t
            → AllByRecursion (λ (h : Hold). list_any (λ d. bytes_eq d.name name && (d.want.0 == h.want.0)) (e ∷ es) ≡ true)
            (cond (bytes_eq e.name name) (marked_hold c sub e.want e.mark ++ stream_holds c name sub es) (stream_holds c name sub es))
        by-test true at =
            subst (λ t. AllByRecursion (λ (h : Hold). list_any (λ d. bytes_eq d.name name && (d.want.0 == h.want.0)) (e ∷ es) ≡ true)
            (cond t (marked_hold c sub e.want e.mark ++ stream_holds c name sub es) (stream_holds c name sub es))) (sym at)
            (All-append (λ (h : Hold). list_any (λ d. bytes_eq d.name name && (d.want.0 == h.want.0)) (e ∷ es) ≡ true) (marked_hold c sub e.want e.mark)
            (stream_holds c name sub es) (by-mark e.mark at) rest)
        by-test false at =
            subst (λ t. AllByRecursion (λ (h : Hold). list_any (λ d. bytes_eq d.name name && (d.want.0 == h.want.0)) (e ∷ es) ≡ true)
            (cond t (marked_hold c sub e.want e.mark ++ stream_holds c name sub es) (stream_holds c name sub es))) (sym at) rest

-- .. and each hold of the subscriptions
pub all-held : (c : ℕ) (name : List ℕ) (subs : List Subscription) → AllByRecursion (λ h. list_any (held_in name h.want) subs ≡ true) (sub_holds c name subs)
all-held c name [] = tt
all-held c name (s ∷ ss) =
    All-append (λ (h : Hold). list_any (held_in name h.want) (s ∷ ss) ≡ true) (stream_holds c name s.number s.streams) (sub_holds c name ss)
    (All-implied (λ (h : Hold). held_in name h.want s ≡ true) (λ (h : Hold). list_any (held_in name h.want) (s ∷ ss) ≡ true)
    (stream_holds c name s.number s.streams) (λ h t. ap (λ b. b || list_any (held_in name h.want) ss) t) (each-held c name s.number s.streams))
    (All-implied (λ (h : Hold). list_any (held_in name h.want) ss ≡ true) (λ (h : Hold). list_any (held_in name h.want) (s ∷ ss) ≡ true) (sub_holds c name ss)
    (λ h t. or-later (held_in name h.want s) (list_any (held_in name h.want) ss) t) (all-held c name ss))

-- ---- those that are left

-- the holds of the subscriptions in which the name's don't end
abbrev pub kept_holds : ℕ → List ℕ → (Subscription → Bool) → List Subscription → List Hold
kept_holds c name ends [] = []
kept_holds c name ends (s ∷ ss) = cond (ends s) [] (stream_holds c name s.number s.streams) ++ kept_holds c name ends ss

pub all-or-none : {A : Type 0} (b : Bool) (xs : List A) → filter (λ x. not b) xs ≡ cond b [] xs
all-or-none true [] = refl
all-or-none true (x ∷ xs) = all-or-none true xs
all-or-none false [] = refl
all-or-none false (x ∷ xs) = ap (λ ys. x ∷ ys) (all-or-none false xs)

or-nothing : (a : Bool) → ((a && true) || false) ≡ a
or-nothing a = grind arith

-- no want stands in two subscriptions, so each hold ends with its own
pub kept-are : (c : ℕ) (name : List ℕ) (ends : Subscription → Bool) (subs : List Subscription) → WantsApart subs
    → filter (λ h. not (ends_in name ends subs h.want)) (sub_holds c name subs) ≡ kept_holds c name ends subs
kept-are c name ends [] a = refl
kept-are c name ends (s ∷ ss) a =
    filter-append (λ (h : Hold). not (ends_in name ends (s ∷ ss) h.want)) (stream_holds c name s.number s.streams) (sub_holds c name ss)
    ∙ (ap (λ (hs : List Hold). hs ++ filter (λ (h : Hold). not (ends_in name ends (s ∷ ss) h.want)) (sub_holds c name ss)) here
    ∙ ap (λ (hs : List Hold). cond (ends s) [] (stream_holds c name s.number s.streams) ++ hs) (there ∙ kept-are c name ends ss a.1))
  where
    own : (h : Hold) → held_in name h.want s ≡ true → not (ends_in name ends (s ∷ ss) h.want) ≡ not (ends s)
    own h t =
        let others : ends_in name ends ss h.want ≡ false = unwanted name h.want ends ss (a.0 h.want (held-wants name h.want s t)) in
        ap not (ap (λ b. (ends s && b) || ends_in name ends ss h.want) t ∙ (ap (λ b. (ends s && true) || b) others ∙ or-nothing (ends s)))

    here : filter (λ (h : Hold). not (ends_in name ends (s ∷ ss) h.want)) (stream_holds c name s.number s.streams)
        ≡ cond (ends s) [] (stream_holds c name s.number s.streams)
    here =
        filter-alike (λ (h : Hold). not (ends_in name ends (s ∷ ss) h.want)) (λ (h : Hold). not (ends s)) (stream_holds c name s.number s.streams)
        (All-implied (λ (h : Hold). held_in name h.want s ≡ true) (λ (h : Hold). not (ends_in name ends (s ∷ ss) h.want) ≡ not (ends s))
        (stream_holds c name s.number s.streams) own (each-held c name s.number s.streams))
        ∙ all-or-none (ends s) (stream_holds c name s.number s.streams)

    not-own : (h : Hold) → list_any (held_in name h.want) ss ≡ true → held_in name h.want s ≡ false
    not-own h t =
        grind (
          arith,
          held-wants name h.want s,
          a.0 h.want,
          any-through (held_in name h.want) (λ (x : Subscription). has_want h.want x.streams) ss (λ x u. held-wants name h.want x u) t,
        )

    other : (h : Hold) → list_any (held_in name h.want) ss ≡ true → not (ends_in name ends (s ∷ ss) h.want) ≡ not (ends_in name ends ss h.want)
    other h t =
        ap (λ b. not ((ends s && b) || ends_in name ends ss h.want)) (not-own h t) ∙ ap (λ b. not (b || ends_in name ends ss h.want)) (and-false (ends s))

    there : filter (λ (h : Hold). not (ends_in name ends (s ∷ ss) h.want)) (sub_holds c name ss)
        ≡ filter (λ (h : Hold). not (ends_in name ends ss h.want)) (sub_holds c name ss)
    there =
        filter-alike (λ (h : Hold). not (ends_in name ends (s ∷ ss) h.want)) (λ (h : Hold). not (ends_in name ends ss h.want)) (sub_holds c name ss)
        (All-implied (λ (h : Hold). list_any (held_in name h.want) ss ≡ true)
        (λ (h : Hold). not (ends_in name ends (s ∷ ss) h.want) ≡ not (ends_in name ends ss h.want)) (sub_holds c name ss) other (all-held c name ss))

-- ---- the wants that a change ends

abbrev pub stops_in : (identifier : List ℕ) → (stops : List (List ℕ)) → (name : List ℕ) → Subscription → Bool
stops_in identifier stops name s = has_identifier identifier s && among stops name

pub removed-ended : (identifier : List ℕ) (subs : List Subscription) (name : List ℕ) (want : WantNo)
    → ended (flat_map (when_named identifier named_in) subs) name want ≡ ends_in name (has_identifier identifier) subs want
removed-ended identifier subs name want =
    any-flat (named_as name want) (when_named identifier named_in) subs
    ∙ any-alike (λ (s : Subscription). list_any (named_as name want) (when_named identifier named_in s))
    (λ (s : Subscription). has_identifier identifier s && held_in name want s) subs (λ s. by-test (has_identifier identifier s) s)
  where
    by-test : (b : Bool) (s : Subscription) → list_any (named_as name want) (cond b (named_in s) []) ≡ (b && held_in name want s)
    by-test true s = any-map named (named_as name want) s.streams
    by-test false s = refl

pub stopped-ended : (identifier : List ℕ) (stops : List (List ℕ)) (subs : List Subscription) (name : List ℕ) (want : WantNo)
    → ended (flat_map (when_named identifier (named_stops stops)) subs) name want ≡ ends_in name (stops_in identifier stops name) subs want
stopped-ended identifier stops subs name want =
    any-flat (named_as name want) (when_named identifier (named_stops stops)) subs
    ∙ any-alike (λ (s : Subscription). list_any (named_as name want) (when_named identifier (named_stops stops) s))
    (λ (s : Subscription). stops_in identifier stops name s && held_in name want s) subs (λ s. by-test (has_identifier identifier s) s)
  where
    named-so : (e : StreamEntry)
        → (among stops e.name && (bytes_eq e.name name && (e.want.0 == want.0))) ≡ (among stops name && (bytes_eq e.name name && (e.want.0 == want.0)))
    named-so e = grind (arith, bytes_eq-Decides e.name name)

    by-test : (b : Bool) (s : Subscription) → list_any (named_as name want) (cond b (named_stops stops s) []) ≡ ((b && among stops name) && held_in name want s)
    by-test true s =
        any-map named (named_as name want) (filter (λ e. among stops e.name) s.streams)
        ∙ (any-filter (λ (e : StreamEntry). among stops e.name) (λ (e : StreamEntry). bytes_eq e.name name && (e.want.0 == want.0)) s.streams
        ∙ (any-alike (λ (e : StreamEntry). among stops e.name && (bytes_eq e.name name && (e.want.0 == want.0)))
        (λ (e : StreamEntry). among stops name && (bytes_eq e.name name && (e.want.0 == want.0))) s.streams named-so
        ∙ any-and (among stops name) (λ (e : StreamEntry). bytes_eq e.name name && (e.want.0 == want.0)) s.streams))
    by-test false s = refl

pub all-ended : (subs : List Subscription) (name : List ℕ) (want : WantNo) → ended (flat_map named_in subs) name want ≡ list_any (held_in name want) subs
all-ended subs name want =
    any-flat (named_as name want) named_in subs
    ∙ any-alike (λ (s : Subscription). list_any (named_as name want) (named_in s)) (held_in name want) subs (λ s. any-map named (named_as name want) s.streams)

-- ---- what a change leaves

-- a stream that was just wanted has no hold
none-wanted : (c : ℕ) (name : List ℕ) (sub : SubNo) (first : ℕ) (names : List (List ℕ)) → stream_holds c name sub (wanted_from first names) ≡ []
none-wanted c name sub first [] = refl
none-wanted c name sub first (x ∷ xs) = grind (arith, none-wanted c name sub (first + 1) xs)

streams-append : (c : ℕ) (name : List ℕ) (sub : SubNo) (xs ys : List StreamEntry)
    → stream_holds c name sub (xs ++ ys) ≡ stream_holds c name sub xs ++ stream_holds c name sub ys
streams-append c name sub [] ys = refl
streams-append c name sub (x ∷ xs) ys = grind (arith, streams-append c name sub xs ys, append_assoc)

subs-append : (c : ℕ) (name : List ℕ) (xs ys : List Subscription) → sub_holds c name (xs ++ ys) ≡ sub_holds c name xs ++ sub_holds c name ys
subs-append c name [] ys = refl
subs-append c name (x ∷ xs) ys =
    ap (λ (hs : List Hold). stream_holds c name x.number x.streams ++ hs) (subs-append c name xs ys)
    ∙ sym (append_assoc (stream_holds c name x.number x.streams) (sub_holds c name xs) (sub_holds c name ys))

pub added-holds : (c : ℕ) (name : List ℕ) (sub : SubNo) (identifier : List ℕ) (first : ℕ) (streams : List (List ℕ)) (subs : List Subscription)
    → sub_holds c name (subs ++ made_now sub identifier first streams ∷ []) ≡ sub_holds c name subs
added-holds c name sub identifier first streams subs =
    subs-append c name subs (made_now sub identifier first streams ∷ [])
    ∙ (ap (λ (hs : List Hold). sub_holds c name subs ++ (hs ++ [])) (none-wanted c name sub first streams) ∙ append-nil (sub_holds c name subs))

pub removed-holds : (c : ℕ) (name : List ℕ) (identifier : List ℕ) (subs : List Subscription)
    → sub_holds c name (removed identifier subs) ≡ kept_holds c name (has_identifier identifier) subs
removed-holds c name identifier [] = refl
removed-holds c name identifier (s ∷ ss) = grind (arith, removed-holds c name identifier ss)

-- the streams of the name stop, or none of them
stopped-holds : (c : ℕ) (name : List ℕ) (sub : SubNo) (stops : List (List ℕ)) (es : List StreamEntry)
    → stream_holds c name sub (stopped stops es) ≡ cond (among stops name) [] (stream_holds c name sub es)
stopped-holds c name sub stops [] = grind arith
stopped-holds c name sub stops (e ∷ es) = grind (arith, stopped-holds c name sub stops es, bytes_eq-Decides e.name name)

pub restreamed-holds : (c : ℕ) (name : List ℕ) (identifier : List ℕ) (stops streams : List (List ℕ)) (first : ℕ) (subs : List Subscription)
    → sub_holds c name (restreamed identifier stops streams first subs) ≡ kept_holds c name (stops_in identifier stops name) subs
restreamed-holds c name identifier stops streams first [] = refl
restreamed-holds c name identifier stops streams first (s ∷ ss) = grind (arith, restreamed-holds c name identifier stops streams first ss, now)
  where
    now : stream_holds c name s.number (stopped stops s.streams ++ wanted_from first streams)
        ≡ cond (among stops name) [] (stream_holds c name s.number s.streams)
    now =
        streams-append c name s.number (stopped stops s.streams) (wanted_from first streams)
        ∙ (ap (λ (hs : List Hold). stream_holds c name s.number (stopped stops s.streams) ++ hs) (none-wanted c name s.number first streams)
        ∙ (append-nil (stream_holds c name s.number (stopped stops s.streams)) ∙ stopped-holds c name s.number stops s.streams))
