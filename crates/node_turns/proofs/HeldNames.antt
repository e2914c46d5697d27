-- The names that have a hold are those that the node's journal says.
use Rattle.std.proofs.Common.{ℕ, ◌≡◌, ◌≢◌, Bool, true, false, cond, not, ◌||◌, List, [], ◌∷◌, ◌++◌, map, Option, Some, None, refl, ap, sym, subst, ◌∙◌}
use Rattle.std.proofs.Common.{arith, bytes_eq, is_some, unwrap_or, ℤ}
use Rattle.std.specs.List.{All, list_any}
use Rattle.std.specs.List.Sorted.{IsPermutation}
use Rattle.std.specs.Ordering.{int_eq, nat_cmp, eq_by_cmp}
use Rattle.std.specs.Cmp.Lexicographic.{slice_cmp}
use Rattle.std.specs.FinMap.{get, keys, contains_key-keys}
use Rattle.std.proofs.lemmas.Bool.Decides.{nat_tests}
use Rattle.std.proofs.lemmas.List.Elements.{All-head, All-tail}
use Rattle.std.proofs.lemmas.List.Folds.{list_any-append}
use Rattle.std.proofs.lemmas.List.Sorted.{list_any-IsPermutation}
use Rattle.std.proofs.lemmas.Map.Text.{is_eq-slice_cmp}
use Rattle.std.proofs.lemmas.Slice.Eq.{bytes_eq-Decides}
use Rattle.cable_model.specs.Connection.{Want, Sub, among}
use Rattle.cable_model.specs.History.{held_wants, held_subs, own_held, held_of, held_by, held_names}
use Rattle.cable_model.specs.Legal.{Legal}
use Rattle.cable_model.specs.Pieces.{seat}
use Rattle.cable_model.specs.Possible.{is_empty}
use Rattle.cable_model.specs.Steps.{Step}
use Rattle.cable_model.specs.Table.{contains}
use Rattle.cable_model.specs.Wants.{Mark, marks, mark_of, user_of}
use Rattle.cable_model.proofs.Holding.{was_opened, marked-opened}
use Rattle.conn_core.specs.Marked.{marked_want, marked_sub}
use Rattle.subscriber_map.specs.declared.holding.Hold.{Hold}
use Rattle.subscriber_map.specs.HoldMaps.{HoldMap, holds_at}
use Rattle.node_turns.specs.Held.{AreHeld, holds_of, holds_on, is_on, own_hold, stream_holds, sub_holds, subs_at}

-- ---- lists of names

or-true : (b : Bool) → (b || true) ≡ true
or-true b = grind arith

same-tests : (a b : Bool) → (a ≡ true → b ≡ true) → (b ≡ true → a ≡ true) → a ≡ b
same-tests a b f g = grind arith

hash-found : (hash : List ℕ → ℤ) (h : ℤ) (name : List ℕ) (ys : List (List ℕ)) → int_eq (hash name) h ≡ true → among ys name ≡ true
    → contains (map hash ys) h ≡ true
hash-found hash h name [] e a = absurd (cc (a))
hash-found hash h name (y ∷ ys) e a = grind (arith, hash-found hash h name ys e, bytes_eq-Decides y name, e, a)

among-first : (x : List ℕ) (xs : List (List ℕ)) → among (x ∷ xs) x ≡ true
among-first x xs = rw ((bytes_eq-Decides x x).1 refl) refl

hashes-within : (hash : List ℕ → ℤ) (h : ℤ) (xs ys : List (List ℕ)) → ((name : List ℕ) → among xs name ≡ true → among ys name ≡ true)
    → contains (map hash xs) h ≡ true → contains (map hash ys) h ≡ true
hashes-within hash h [] ys f a = absurd (cc (a))
hashes-within hash h (x ∷ xs) ys f a =
    let here = f x (among-first x xs) in
    let rest = hashes-within hash h xs ys (λ name b. f name (rw b (or-true (bytes_eq x name)))) in
    grind (arith, hash-found hash h x ys, here, rest, a)

-- names that are the same as a set have the same hashes
same-hashes : (hash : List ℕ → ℤ) (h : ℤ) (xs ys : List (List ℕ)) → ((name : List ℕ) → among xs name ≡ among ys name)
    → contains (map hash xs) h ≡ contains (map hash ys) h
same-hashes hash h xs ys f =
    same-tests (contains (map hash xs) h) (contains (map hash ys) h) (hashes-within hash h xs ys (λ name a. sym (f name) ∙ a))
    (hashes-within hash h ys xs (λ name a. f name ∙ a))

-- ---- the names of a connection's holds

abbrev some : List Hold → Bool
some hs = not (is_empty hs)

some-append : (xs ys : List Hold) → some (xs ++ ys) ≡ (some xs || some ys)
some-append [] ys = refl
some-append (x ∷ xs) ys = refl

own-name : (c : ℕ) (name : List ℕ) (user : Option (List ℕ)) (mark : Option ℕ) → some (own_hold c name user mark) ≡ among (own_held user mark) name
own-name c name None mark = refl
own-name c name (Some user) None = refl
own-name c name (Some user) (Some mark) = grind arith

stream-names : (c : ℕ) (name : List ℕ) (ms : List Mark) (s : ℕ) (ws : List Want)
    → some (stream_holds c name (record { 0 = s }) (map (marked_want (λ w. mark_of w ms)) ws)) ≡ among (held_wants ms ws) name
stream-names c name ms s [] = refl
stream-names c name ms s (w ∷ ws) = grind (arith, stream-names c name ms s ws)

sub-names : (c : ℕ) (name : List ℕ) (ms : List Mark) (subs : List Sub)
    → some (sub_holds c name (map (marked_sub (λ w. mark_of w ms)) subs)) ≡ among (held_subs ms subs) name
sub-names c name ms [] = refl
sub-names c name ms (s ∷ subs) =
    some-append (stream_holds c name (record { 0 = s.number }) (map (marked_want (λ w. mark_of w ms)) s.wants))
    (sub_holds c name (map (marked_sub (λ w. mark_of w ms)) subs))
    ∙ rw (stream-names c name ms s.number s.wants, sub-names c name ms subs)
    (sym (list_any-append (λ n. bytes_eq n name) (held_wants ms s.wants) (held_subs ms subs)))

-- the name has a hold of c where c holds it
names-of : (c : ℕ) (past : List Step) (name : List ℕ) → some (holds_of c past name) ≡ among (held_of c past) name
names-of c past name =
    some-append (cond (seat c past).conn.over [] own) (sub_holds c name (subs_at c past))
    ∙ rw (own-part, sub-names c name (marks c past) (seat c past).conn.subs)
    (sym (list_any-append (λ n. bytes_eq n name) (cond (seat c past).conn.over [] (own_held (user_of c past) (mark_of 0 (marks c past))))
    (held_subs (marks c past) (seat c past).conn.subs)))
  where
    own : List Hold
    own = own_hold c name (user_of c past) (mark_of 0 (marks c past))

    own-part : some (cond (seat c past).conn.over [] own) ≡ among (cond (seat c past).conn.over [] (own_held (user_of c past) (mark_of 0 (marks c past)))) name
    own-part = grind (arith, own-name c name (user_of c past) (mark_of 0 (marks c past)))

-- ---- connections that were never opened hold nothing

no-marks : (c w : ℕ) (past : List Step) → was_opened c past ≡ false → mark_of w (marks c past) ≡ None
no-marks c w past n = grind (arith, λ (m : ℕ). marked-opened c w m past)

no-wants : (ms : List Mark) (ws : List Want) → ((w : ℕ) → mark_of w ms ≡ None) → held_wants ms ws ≡ []
no-wants ms [] n = refl
no-wants ms (w ∷ ws) n = rw (n w.number) (no-wants ms ws n)

no-subs : (ms : List Mark) (subs : List Sub) → ((w : ℕ) → mark_of w ms ≡ None) → held_subs ms subs ≡ []
no-subs ms [] n = refl
no-subs ms (s ∷ subs) n = rw (no-wants ms s.wants n, no-subs ms subs n) refl

no-own : (over : Bool) (user : Option (List ℕ)) → cond over [] (own_held user None) ≡ []
no-own over user = grind arith

opened-where : (c : ℕ) (past : List Step) (name : List ℕ) → among (held_of c past) name ≡ true → was_opened c past ≡ true
opened-where c past name a = go (was_opened c past) refl
  where
    go : (b : Bool) → was_opened c past ≡ b → b ≡ true
    go true b = refl
    go false b =
        let none : (w : ℕ) → mark_of w (marks c past) ≡ None = λ w. no-marks c w past b in
        let own : cond (seat c past).conn.over [] (own_held (user_of c past) (mark_of 0 (marks c past))) ≡ [] =
        ap (λ o. cond (seat c past).conn.over [] (own_held (user_of c past) o)) (none 0) ∙ no-own (seat c past).conn.over (user_of c past) in
        let nothing : held_of c past ≡ [] =
        ap (λ ns. ns ++ held_subs (marks c past) (seat c past).conn.subs) own ∙ no-subs (marks c past) (seat c past).conn.subs none in
        let a' : among [] name ≡ true = subst (λ ns. among ns name ≡ true) nothing a in
        absurd (cc (a'))

-- ---- the names of the journal

-- what a connection that these entries open holds is among the names held
name-held : (c : ℕ) (past more : List Step) (name : List ℕ) → was_opened c more ≡ true → among (held_of c past) name ≡ true
    → among (held_by past more) name ≡ true
name-held c past [] name o a = absurd (cc (o))
name-held c past (Step.Open d token user ∷ more) name o a =
    list_any-append (λ n. bytes_eq n name) (held_of d past) (held_by past more) ∙ grind (arith, nat_tests, name-held c past more name, a, o)
name-held c past (_ ∷ more) name o a = name-held c past more name o a

-- a name that is held is held by a connection
holder-of : (past more : List Step) (name : List ℕ) → among (held_by past more) name ≡ true → (c : ℕ) × (among (held_of c past) name ≡ true)
holder-of past [] name a = absurd (cc (a))
holder-of past (Step.Open d token user ∷ more) name a = go (among (held_of d past) name) refl (holder-of past more name)
  where
    go : (b : Bool) → among (held_of d past) name ≡ b → (among (held_by past more) name ≡ true → (c : ℕ) × (among (held_of c past) name ≡ true))
        → (c : ℕ) × (among (held_of c past) name ≡ true)
    go true b ih = (d, b)
    go false b ih =
        let either : (among (held_of d past) name || among (held_by past more) name) ≡ true =
        sym (list_any-append (λ n. bytes_eq n name) (held_of d past) (held_by past more)) ∙ a in
        ih (sym (ap (λ t. t || among (held_by past more) name) b) ∙ either)
holder-of past (_ ∷ more) name a = holder-of past more name a

-- ---- the names of the map

holder-among : (hs : List Hold) → some hs ≡ true → (c : ℕ) × (some (holds_on c hs) ≡ true)
holder-among [] s = absurd (cc (s))
holder-among (h ∷ hs) s =
    let own : is_on h.conn.0 h ≡ true = grind (arith, nat_tests) in
    (h.conn.0, rw own refl)

none-on : (c : ℕ) (hs : List Hold) → some (holds_on c hs) ≡ true → some hs ≡ true
none-on c [] s = s
none-on c (h ∷ hs) s = refl

held-as : (past : List Step) (m : HoldMap) (name : List ℕ) → AreHeld past m → some (holds_at m name) ≡ among (held_names past) name
held-as past m name h = same-tests (some (holds_at m name)) (among (held_names past) name) to from
  where
    to : some (holds_at m name) ≡ true → among (held_names past) name ≡ true
    to s =
        let found = holder-among (holds_at m name) s in
        let held : among (held_of found.0 past) name ≡ true = sym (names-of found.0 past name) ∙ (sym (ap some (h found.0 name)) ∙ found.1) in
        name-held found.0 past past name (opened-where found.0 past name held) held

    from : among (held_names past) name ≡ true → some (holds_at m name) ≡ true
    from a =
        let found = holder-of past past name a in
        none-on found.0 (holds_at m name) (ap some (h found.0 name) ∙ (names-of found.0 past name ∙ found.1))

among-as : (name : List ℕ) (names : List (List ℕ)) → list_any (eq_by_cmp (slice_cmp nat_cmp) name) names ≡ among names name
among-as name [] = refl
among-as name (x ∷ xs) = rw (is_eq-slice_cmp name x) (grind (arith, among-as name xs, bytes_eq-Decides x name, bytes_eq-Decides name x))

held-among : (P : List ℕ → Type 0) (names : List (List ℕ)) (name : List ℕ) → All P names → among names name ≡ true → P name
held-among P [] name h a = absurd (cc (a))
held-among P (x ∷ xs) name h a = go (bytes_eq x name) refl (held-among P xs name (All-tail P x xs h))
  where
    go : (b : Bool) → bytes_eq x name ≡ b → (among xs name ≡ true → P name) → P name
    go true b ih = subst P ((bytes_eq-Decides x name).0 b) (All-head P x xs h)
    go false b ih = let a' = rw b at a in ih a'

some-where : (hs : List Hold) → hs ≢ [] → some hs ≡ true
some-where [] n = absurd (n refl)
some-where (h ∷ hs) n = refl

get-where : (o : Option (List Hold)) → some (unwrap_or o []) ≡ true → is_some o ≡ true
get-where None s = s
get-where (Some hs) s = refl

key-as : (m : HoldMap) (name : List ℕ) → All (λ n. holds_at m n ≢ []) (keys m) → among (keys m) name ≡ some (holds_at m name)
key-as m name h = same-tests (among (keys m) name) (some (holds_at m name)) to from
  where
    to : among (keys m) name ≡ true → some (holds_at m name) ≡ true
    to a = some-where (holds_at m name) (held-among (λ n. holds_at m n ≢ []) (keys m) name h a)

    from : some (holds_at m name) ≡ true → among (keys m) name ≡ true
    from s = sym (among-as name (keys m)) ∙ (sym (contains_key-keys m name) ∙ get-where (get m name) s)

pub names-held : (hash : List ℕ → ℤ) (past : List Step) (m : HoldMap) (h : ℤ) → Legal past → AreHeld past m → All (λ n. holds_at m n ≢ []) (keys m)
    → contains (map hash (keys m)) h ≡ contains (map hash (held_names past)) h
names-held hash past m h legal held keyed = same-hashes hash h (keys m) (held_names past) (λ name. key-as m name keyed ∙ held-as past m name held)

-- .. and their hashes in any order
pub hashes-held : (hash : List ℕ → ℤ) (past : List Step) (m : HoldMap) (hs : List ℤ) (h : ℤ) → Legal past → AreHeld past m
    → All (λ n. holds_at m n ≢ []) (keys m)
    → IsPermutation hs (map hash (keys m)) → contains hs h ≡ contains (map hash (held_names past)) h
hashes-held hash past m hs h legal held keyed same =
    list_any-IsPermutation (λ g. int_eq g h) hs (map hash (keys m)) same ∙ names-held hash past m h legal held keyed
