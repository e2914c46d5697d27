-- The names of the code's map are the keys of the map, each once, in some order. So their hashes are the keys' hashes.
use Rattle.std.proofs.Common.{◌≡◌, ℕ, ℤ, cond, Bool, true, false, List, [], ◌∷◌, ◌++◌, length, map, Some, None, IfSome, is_some, String, string_bytes, refl, sym, ap, subst, ◌∙◌, append-nil, arith}
use Rattle.std.specs.List.{AllByRecursion, IsDistinct}
use Rattle.std.specs.List.Sorted.{IsPermutation}
use Rattle.std.specs.declared.alloc.Global.{Global}
use Rattle.std.specs.declared.cmp.Ordering.{Ordering}
use Rattle.std.specs.declared.cmp.Ordering.TheVariants.{Less, Equal, Greater}
use Rattle.std.specs.Ordering.{nat_cmp}
use Rattle.std.specs.Cmp.Lexicographic.{slice_cmp, nat_list_cmp_total}
use Rattle.std.specs.FinMap.{keys, entries, entries-insert, get-entries, len-entries, len-empty}
use Rattle.std.specs.FinMap.Entries.{find, put}
use Rattle.std.specs.Map.{keys_of, values_of, lookup}
use Rattle.std.specs.Str.{bytes_eq}
use Rattle.std.specs.String.{string_eq}
use Rattle.std.proofs.lemmas.Bool.{false≢true}
use Rattle.std.proofs.lemmas.List.Sorted.{IsPermutation-refl, IsPermutation-trans, IsPermutation-cons, IsPermutation-swap, IsPermutation-map}
use Rattle.std.proofs.lemmas.Slice.Eq.{bytes_eq-Decides}
use Rattle.cable_base.specs.Hash.{channel_hash_of}
use Rattle.subscriber_map.specs.declared.holding.Hold.{Hold}
use Rattle.subscriber_map.specs.declared.mapping.Held.{Held}
use Rattle.subscriber_map.specs.HoldMaps.{HoldMap}
use Rattle.subscriber_map.specs.Entries.{names_of, map_of, is_named, IsHeldAs, AreEntries}
use Rattle.subscriber_map.proofs.ByName.{holds_in, get_is}

abbrev Kept : Type 0
Kept = List (String Global × Held)

-- what was taken from an iterator that has nothing left is all that it had
pub all_pushed : {A B : Type 0} (f : A → B) (xs : List B) (left all : List A) → xs ++ map f left ≡ map f all → left ≡ [] → xs ≡ map f all
all_pushed f xs left all e none = sym (append-nil xs) ∙ (ap (λ l. xs ++ map f l) (sym none) ∙ e)

-- ---- no name is that of two keys

absent : (x : String Global) (es : Kept) → AllByRecursion (λ y. string_eq x y ≡ false) (keys_of es) → lookup (is_named (string_bytes x)) es ≡ None
absent x [] a = refl
absent x (e ∷ es) a = ap (λ b. cond b (Some e.1) (lookup (is_named (string_bytes x)) es)) a.0 ∙ absent x es a.1

apart : (x : String Global) (es : Kept) → AllByRecursion (λ y. string_eq x y ≡ false) (keys_of es) → AllByRecursion (λ n. bytes_eq (string_bytes x) n ≡ false) (names_of es)
apart x [] a = tt
apart x (e ∷ es) a = (a.0, apart x es a.1)

pub names_distinct : (es : Kept) → IsDistinct string_eq (keys_of es) → IsDistinct bytes_eq (names_of es)
unfolding IsDistinct
names_distinct [] d = tt
names_distinct (e ∷ es) d = (apart e.0 es d.0, names_distinct es d.1)

-- ---- the keys of the map

put_shuffles : (k : List ℕ) (v : List Hold) (es : List (List ℕ × List Hold)) → find (slice_cmp nat_cmp) k es ≡ None → IsPermutation (k ∷ keys_of es) (keys_of (put (slice_cmp nat_cmp) k v es))
put_shuffles k v [] n = IsPermutation-refl (k ∷ [])
put_shuffles k v (e ∷ es) n = go (slice_cmp nat_cmp k e.0) refl (put_shuffles k v es)
  where
    go : (o : Ordering) → slice_cmp nat_cmp k e.0 ≡ o → (find (slice_cmp nat_cmp) k es ≡ None → IsPermutation (k ∷ keys_of es) (keys_of (put (slice_cmp nat_cmp) k v es)))
        → IsPermutation (k ∷ e.0 ∷ keys_of es) (keys_of (put (slice_cmp nat_cmp) k v (e ∷ es)))
    go Less h ih = rw h (IsPermutation-refl (k ∷ e.0 ∷ keys_of es))
    go Equal h ih = let n' = rw h at n in absurd (false≢true (sym (ap is_some n')))
    go Greater h ih =
        let n' = rw h at n in
        rw h (IsPermutation-trans _ _ _ (IsPermutation-swap (k ∷ e.0 ∷ keys_of es) (e.0 ∷ k ∷ keys_of es) 0 1 (omega arith) (omega arith) refl) (IsPermutation-cons e.0 _ _ (ih n')))

pub keys_shuffled : (es : Kept) → IsDistinct string_eq (keys_of es) → IsPermutation (names_of es) (keys (map_of es))
unfolding IsDistinct
keys_shuffled [] d = subst (λ xs. IsPermutation [] (keys_of xs)) (sym (none_in (entries (map_of [])) (sym (len-entries (map_of [])) ∙ len-empty (slice_cmp nat_cmp) (List Hold)))) (IsPermutation-refl [])
  where
    none_in : (xs : List (List ℕ × List Hold)) → length xs ≡ 0 → xs ≡ []
    none_in [] e = refl
    none_in (x ∷ xs) e = absurd (omega arith)
keys_shuffled (e ∷ es) d =
    let none : find (slice_cmp nat_cmp) (string_bytes e.0) (entries (map_of es)) ≡ None = sym (get-entries (map_of es) (string_bytes e.0)) ∙ (get_is (string_bytes e.0) es ∙ ap holds_in (absent e.0 es d.0)) in
    subst (λ ks. IsPermutation (string_bytes e.0 ∷ names_of es) (keys_of ks)) (sym (entries-insert nat_list_cmp_total (map_of es) (string_bytes e.0) e.1.holds))
    (IsPermutation-trans _ _ _ (IsPermutation-cons (string_bytes e.0) _ _ (keys_shuffled es d.1)) (put_shuffles (string_bytes e.0) e.1.holds (entries (map_of es)) none))

-- ---- their hashes

entries_tail : (e : String Global × Held) (es : Kept) → AllByRecursion (λ y. string_eq e.0 y ≡ false) (keys_of es) → AreEntries (e ∷ es) → AreEntries es
entries_tail e es a k = λ r. go r (is_named r e.0) refl (k r)
  where
    go : (r : List ℕ) (b : Bool) → is_named r e.0 ≡ b → IfSome (cond b (Some e.1) (lookup (is_named r) es)) (IsHeldAs r) → IfSome (lookup (is_named r) es) (IsHeldAs r)
    go r true h i =
        let none : lookup (is_named r) es ≡ None = subst (λ n. lookup (is_named n) es ≡ None) (sym ((bytes_eq-Decides r (string_bytes e.0)).0 h)) (absent e.0 es a) in
        subst (λ o. IfSome o (IsHeldAs r)) (sym none) tt
    go r false h i = i

hashes_are : (es : Kept) → IsDistinct string_eq (keys_of es) → AreEntries es → map (λ h. h.hash) (values_of es) ≡ map channel_hash_of (names_of es)
unfolding IsDistinct
hashes_are [] d k = refl
hashes_are (e ∷ es) d k =
    let own : IsHeldAs (string_bytes e.0) e.1 = subst (λ b. IfSome (cond b (Some e.1) (lookup (is_named (string_bytes e.0)) es)) (IsHeldAs (string_bytes e.0))) ((bytes_eq-Decides (string_bytes e.0) (string_bytes e.0)).1 refl) (k (string_bytes e.0)) in
    rw (own.hash, hashes_are es d.1 (entries_tail e es d.0 k)) refl

pub hashes_shuffled : (es : Kept) (hs : List ℤ) (m : HoldMap) → map_of es ≡ m → IsDistinct string_eq (keys_of es) → AreEntries es → hs ≡ map (λ h. h.hash) (values_of es) → IsPermutation hs (map channel_hash_of (keys m))
hashes_shuffled es hs m v d k e =
    subst (λ n. IsPermutation hs (map channel_hash_of (keys n))) v
    (subst (λ xs. IsPermutation xs (map channel_hash_of (keys (map_of es)))) (sym (e ∙ hashes_are es d k)) (IsPermutation-map channel_hash_of _ _ (keys_shuffled es d)))
