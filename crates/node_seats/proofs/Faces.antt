-- What a map shows of its values: the same numbers, each with f of what the map has there.
use Rattle.std.proofs.Common.{◌≡◌, ℕ, Bool, true, false, cond, List, [], ◌∷◌, map, Some, None, refl, sym, ap, ◌∙◌}
use Rattle.std.specs.Prelude.{option_map}
use Rattle.std.specs.Ordering.{nat_cmp, match_ordering}
use Rattle.std.specs.declared.cmp.Ordering.{Ordering}
use Rattle.std.specs.declared.cmp.Ordering.TheVariants as order
use Rattle.std.specs.BTreeMap.{is_at, insert_entry}
use Rattle.std.specs.Map.{lookup, set_value}
use Rattle.std.proofs.lemmas.Map.Made.{lookup-map_values}
use Rattle.std.proofs.lemmas.Map.Steps.{set_value_same}
use Rattle.node_seats.proofs.Lookups.{at-set, found-there, found-elsewhere}

module _ {S B : Type 0} (f : S → B) where
  abbrev pub mapped : List (ℕ × S) → List (ℕ × B)
  mapped es = map (λ (e : ℕ × S). (e.0, f e.1)) es

  pub set-mapped : (test : ℕ → Bool) (es : List (ℕ × S)) (x : S) → mapped (set_value test es x) ≡ set_value test (mapped es) (f x)
  set-mapped test [] x = refl
  set-mapped test (e ∷ es) x = by-test (test e.0) (set-mapped test es x)
    where
      by-test : (b : Bool) → mapped (set_value test es x) ≡ set_value test (mapped es) (f x)
          → mapped (cond b ((e.0, x) ∷ es) (e ∷ set_value test es x)) ≡ cond b ((e.0, f x) ∷ mapped es) ((e.0, f e.1) ∷ set_value test (mapped es) (f x))
      by-test true ih = refl
      by-test false ih = ap (λ ns. (e.0, f e.1) ∷ ns) ih

  pub insert-mapped : (cmp : ℕ → ℕ → Ordering) (es : List (ℕ × S)) (k : ℕ) (x : S) → mapped (insert_entry cmp es k x) ≡ insert_entry cmp (mapped es) k (f x)
  insert-mapped cmp [] k x = refl
  insert-mapped cmp (e ∷ es) k x = by-order (cmp k e.0) (insert-mapped cmp es k x)
    where
      by-order : (o : Ordering) → mapped (insert_entry cmp es k x) ≡ insert_entry cmp (mapped es) k (f x)
          → mapped (match_ordering o ((k, x) ∷ e ∷ es) ((e.0, x) ∷ es) (e ∷ insert_entry cmp es k x))
          ≡ match_ordering o ((k, f x) ∷ (e.0, f e.1) ∷ mapped es) ((e.0, f x) ∷ mapped es) ((e.0, f e.1) ∷ insert_entry cmp (mapped es) k (f x))
      by-order order.Less ih = refl
      by-order order.Equal ih = refl
      by-order order.Greater ih = ap (λ ns. (e.0, f e.1) ∷ ns) ih

  -- what is found in the map is found there
  pub found-mapped : (c : ℕ) (es : List (ℕ × S)) (x : S) → lookup (is_at (nat_cmp c)) es ≡ Some x → lookup (is_at (nat_cmp c)) (mapped es) ≡ Some (f x)
  found-mapped c es x at = lookup-map_values f (is_at (nat_cmp c)) es ∙ ap (option_map f) at

  pub missing-mapped : (c : ℕ) (es : List (ℕ × S)) → lookup (is_at (nat_cmp c)) es ≡ None → lookup (is_at (nat_cmp c)) (mapped es) ≡ None
  missing-mapped c es at = lookup-map_values f (is_at (nat_cmp c)) es ∙ ap (option_map f) at

-- another thing is kept of the number c
pub record Written {B : Type 0} (c : ℕ) (kept became : B) (v new : List (ℕ × B)) : Type 0 where
  pub found : lookup (is_at (nat_cmp c)) v ≡ Some kept
  pub now : new ≡ set_value (is_at (nat_cmp c)) v became

module _ {B : Type 0} (c : ℕ) (kept became : B) (v new : List (ℕ × B)) (w : Written c kept became v new) where
  pub found-now : lookup (is_at (nat_cmp c)) new ≡ Some became
  found-now = ap (lookup (is_at (nat_cmp c))) w.now ∙ found-there c became kept v w.found

  pub others-now : (d : ℕ) → (c ≡ d → ⊥) → lookup (is_at (nat_cmp d)) new ≡ lookup (is_at (nat_cmp d)) v
  others-now d apart = ap (lookup (is_at (nat_cmp d))) w.now ∙ found-elsewhere c d became v apart

  pub at-written : (d : ℕ) → lookup (is_at (nat_cmp d)) new ≡ cond (is_at (nat_cmp c) d) (Some became) (lookup (is_at (nat_cmp d)) v)
  at-written d = ap (lookup (is_at (nat_cmp d))) w.now ∙ at-set c d became kept v w.found

  -- the same thing, so that nothing changes
  pub same-now : became ≡ kept → new ≡ v
  same-now same = w.now ∙ set_value_same (is_at (nat_cmp c)) v became (w.found ∙ ap (λ (o : B). Some o) (sym same))

-- what was written over a value of a map
pub wrote : {S : Type 0} (c : ℕ) (kept became : S) (v new : List (ℕ × S)) → Some kept ≡ lookup (is_at (nat_cmp c)) v
    → new ≡ set_value (is_at (nat_cmp c)) v became → Written c kept became v new
wrote c kept became v new at now = record { found = sym at; now = now }

-- .. shows
pub face : {S B : Type 0} (f : S → B) (c : ℕ) (kept became : S) (v new : List (ℕ × S)) → Written c kept became v new
    → Written c (f kept) (f became) (mapped f v) (mapped f new)
face f c kept became v new w =
    record {
      found = found-mapped f c v kept w.found;
      now = ap (mapped f) w.now ∙ set-mapped f (is_at (nat_cmp c)) v became;
    }
