-- The holds of a connection in a map from which holds were taken away.
use Rattle.std.proofs.Common.{◌≡◌, ℕ, ◌==◌, ◌&&◌, ◌||◌, not, Bool, true, false, cond, List, [], ◌∷◌, Option, Some, None, unwrap_or, refl, sym, ap, ◌∙◌, arith}
use Rattle.std.specs.List.{filter, list_any}
use Rattle.std.specs.Str.{bytes_eq}
use Rattle.std.specs.Ordering.{nat_cmp, eq_by_cmp}
use Rattle.std.specs.Cmp.Lexicographic.{slice_cmp, nat_list_cmp_total}
use Rattle.std.specs.FinMap.{get, get-insert, get-remove}
use Rattle.std.proofs.lemmas.Bool.Decides.{nat_tests}
use Rattle.std.proofs.lemmas.Slice.Eq.{bytes_eq-Decides}
use Rattle.cable_base.specs.declared.numbers.ConnNo.{ConnNo}
use Rattle.cable_base.specs.declared.numbers.WantNo.{WantNo}
use Rattle.cable_base.proofs.Filters.{filter-twice, filter-same}
use Rattle.subscriber_map.specs.declared.holding.Hold.{Hold}
use Rattle.subscriber_map.specs.Holds.{is_of, without}
use Rattle.subscriber_map.specs.HoldMaps.{HoldMap, holds_at, with_holds_at, without_at}
use Rattle.subscriber_map.proofs.ByName.{ties_is}
use Rattle.node_turns.specs.Held.{conn_of, is_on, holds_on}
use Rattle.node_turns.specs.Holding.{NamedWant, without_all}

pub filter-every : {A : Type 0} (xs : List A) → filter (λ x. true) xs ≡ xs
filter-every [] = refl
filter-every (x ∷ xs) = ap (λ ys. x ∷ ys) (filter-every xs)

-- ---- the holds of a name

held-or-none : (b : Bool) (o : Option (List Hold)) → unwrap_or (cond b None o) [] ≡ cond b [] (unwrap_or o [])
held-or-none true o = refl
held-or-none false o = refl

held-or-some : (b : Bool) (hs : List Hold) (o : Option (List Hold)) → unwrap_or (cond b (Some hs) o) [] ≡ cond b hs (unwrap_or o [])
held-or-some true hs o = refl
held-or-some false hs o = refl

pub holds-with : (m : HoldMap) (q : List ℕ) (hs : List Hold) (name : List ℕ)
    → holds_at (with_holds_at m q hs) name ≡ cond (bytes_eq q name) hs (holds_at m name)
holds-with m q [] name =
    ap (λ (o : Option (List Hold)). unwrap_or o []) (get-remove nat_list_cmp_total m q name)
    ∙ (held-or-none (eq_by_cmp (slice_cmp nat_cmp) name q) (get m name) ∙ ap (λ b. cond b [] (holds_at m name)) (ties_is name q))
holds-with m q (h ∷ hs) name =
    ap (λ (o : Option (List Hold)). unwrap_or o []) (get-insert nat_list_cmp_total m q (h ∷ hs) name)
    ∙ (held-or-some (eq_by_cmp (slice_cmp nat_cmp) name q) (h ∷ hs) (get m name) ∙ ap (λ b. cond b (h ∷ hs) (holds_at m name)) (ties_is name q))

pub holds-without : (m : HoldMap) (q : List ℕ) (conn : ConnNo) (want : WantNo) (name : List ℕ)
    → holds_at (without_at m q conn want) name ≡ filter (λ h. not (bytes_eq q name && is_of conn want h)) (holds_at m name)
holds-without m q conn want name =
    holds-with m q (without conn want (holds_at m q)) name ∙ grind (arith, bytes_eq-Decides q name, filter-every (holds_at m name))

-- ---- of a connection

-- the want has the name
abbrev pub named_as : List ℕ → WantNo → NamedWant → Bool
named_as name want n = bytes_eq n.0 name && (n.1.0 == want.0)

-- the want has the name among these
abbrev pub ended : List NamedWant → List ℕ → WantNo → Bool
ended ns name want = list_any (named_as name want) ns

swapped : (a b : ℕ) → (a == b) ≡ (b == a)
swapped a b = grind (arith, nat_tests)

own-part : (name-is on want-is : Bool) → (not (name-is && (on && want-is)) && on) ≡ (on && not (name-is && want-is))
own-part name-is on want-is = grind arith

one-ended : (c : ℕ) (n : NamedWant) (m : HoldMap) (name : List ℕ)
    → holds_on c (holds_at (without_at m n.0 (conn_of c) n.1) name) ≡ filter (λ h. not (named_as name h.want n)) (holds_on c (holds_at m name))
one-ended c n m name =
    ap (holds_on c) (holds-without m n.0 (conn_of c) n.1 name)
    ∙ (filter-twice (λ (h : Hold). not (bytes_eq n.0 name && is_of (conn_of c) n.1 h)) (is_on c) (holds_at m name)
    ∙ (filter-same (λ (h : Hold). not (bytes_eq n.0 name && is_of (conn_of c) n.1 h) && is_on c h) (λ (h : Hold). is_on c h && not (named_as name h.want n))
    (holds_at m name)
    (λ h. own-part (bytes_eq n.0 name) (h.conn.0 == c) (h.want.0 == n.1.0) ∙ ap (λ b. (h.conn.0 == c) && not (bytes_eq n.0 name && b)) (swapped h.want.0 n.1.0))
    ∙ sym (filter-twice (is_on c) (λ (h : Hold). not (named_as name h.want n)) (holds_at m name))))

both-not : (a b : Bool) → (not a && not b) ≡ not (a || b)
both-not a b = grind arith

-- those of the connection's holds are left whose want isn't among those that end
pub holds-ended : (c : ℕ) (ns : List NamedWant) (m : HoldMap) (name : List ℕ)
    → holds_on c (holds_at (without_all c ns m) name) ≡ filter (λ h. not (ended ns name h.want)) (holds_on c (holds_at m name))
holds-ended c [] m name = sym (filter-every (holds_on c (holds_at m name)))
holds-ended c (n ∷ ns) m name =
    holds-ended c ns (without_at m n.0 (conn_of c) n.1) name
    ∙ (ap (filter (λ (h : Hold). not (ended ns name h.want))) (one-ended c n m name)
    ∙ (filter-twice (λ (h : Hold). not (named_as name h.want n)) (λ (h : Hold). not (ended ns name h.want)) (holds_on c (holds_at m name))
    ∙ filter-same (λ (h : Hold). not (named_as name h.want n) && not (ended ns name h.want)) (λ (h : Hold). not (ended (n ∷ ns) name h.want))
    (holds_on c (holds_at m name))
    (λ h. both-not (named_as name h.want n) (ended ns name h.want))))

-- the holds of another connection stay
one-other : (c d : ℕ) (n : NamedWant) (m : HoldMap) (name : List ℕ) → (d == c) ≡ false
    → holds_on c (holds_at (without_at m n.0 (conn_of d) n.1) name) ≡ holds_on c (holds_at m name)
one-other c d n m name other =
    ap (holds_on c) (holds-without m n.0 (conn_of d) n.1 name)
    ∙ (filter-twice (λ (h : Hold). not (bytes_eq n.0 name && is_of (conn_of d) n.1 h)) (is_on c) (holds_at m name)
    ∙ filter-same (λ (h : Hold). not (bytes_eq n.0 name && is_of (conn_of d) n.1 h) && is_on c h) (is_on c) (holds_at m name)
    (λ h. by-conn h (h.conn.0 == c) refl (h.conn.0 == d) refl))
  where
    by-conn : (h : Hold) (x : Bool) → (h.conn.0 == c) ≡ x → (y : Bool) → (h.conn.0 == d) ≡ y
        → (not (bytes_eq n.0 name && is_of (conn_of d) n.1 h) && is_on c h) ≡ is_on c h
    by-conn h x e y f = grind (arith, nat_tests)

pub holds-others : (c d : ℕ) (ns : List NamedWant) (m : HoldMap) (name : List ℕ) → (d == c) ≡ false
    → holds_on c (holds_at (without_all d ns m) name) ≡ holds_on c (holds_at m name)
holds-others c d [] m name other = refl
holds-others c d (n ∷ ns) m name other = holds-others c d ns (without_at m n.0 (conn_of d) n.1) name other ∙ one-other c d n m name other
