-- The names in byte order are the keys of the map, and each has holds there.
use Rattle.std.proofs.Common.{◌≡◌, ◌≢◌, ℕ, suc, ◌<◌, ◌&&◌, Bool, true, false, T, List, [], ◌∷◌, length, map, get_or, Option, Some, None, IfSome, is_some, unwrap_or, String, refl, sym, ap, subst, ◌∙◌, arith, add-one}
use Rattle.std.specs.List.{All, IsDistinct, list_any}
use Rattle.std.specs.List.Sorted.{IsPermutation, IsSorted}
use Rattle.std.specs.declared.alloc.Global.{Global}
use Rattle.std.specs.declared.cmp.Ordering.{Ordering}
use Rattle.std.specs.declared.cmp.Ordering.TheVariants.{Less, Equal, Greater}
use Rattle.std.specs.Ordering.{nat_cmp, eq_by_cmp, is_lt, ordering_reverse}
use Rattle.std.specs.Cmp.{eq_by_cmp_equiv}
use Rattle.std.specs.Cmp.Lexicographic.{slice_cmp, nat_list_cmp_total, nat_list_eq_equiv}
use Rattle.std.specs.FinMap.{keys, entries, entries_sorted, get, contains_key-keys, slice_cmp-IsAntisymmetric, nat_cmp-IsAntisymmetric}
use Rattle.std.specs.FinMap.Entries.{is_sorted, below_all, same_entries, is_some-find}
use Rattle.std.specs.Map.{keys_of, lookup}
use Rattle.std.specs.Str.{bytes_eq}
use Rattle.std.specs.String.{string_eq}
use Rattle.std.proofs.lemmas.Bool.{false≢true}
use Rattle.std.proofs.lemmas.List.Sorted.{list_any-IsPermutation, sorted_far, ranks_by}
use Rattle.std.proofs.lemmas.Map.Keys.{IsDistinct-tail, IsDistinct-IsPermutation, apart_from_distinct}
use Rattle.std.proofs.lemmas.Map.Views.{All-from_any}
use Rattle.std.proofs.lemmas.Slice.Eq.{bytes_eq-Decides}
use Rattle.subscriber_map.specs.declared.holding.Hold.{Hold}
use Rattle.subscriber_map.specs.declared.mapping.Held.{Held}
use Rattle.subscriber_map.specs.HoldMaps.{HoldMap, holds_at}
use Rattle.subscriber_map.specs.Entries.{names_of, map_of, is_named, IsHeldAs, AreEntries}
use Rattle.subscriber_map.proofs.ByName.{holds_in, get_is}
use Rattle.subscriber_map.proofs.Shuffled.{names_distinct, keys_shuffled}

abbrev by_bytes : List ℕ → List ℕ → Ordering
by_bytes = slice_cmp nat_cmp

-- ---- names in order, as the entries of a map to nothing

abbrev marked : List (List ℕ) → List (List ℕ × Unit {0})
marked ns = map (λ n. (n, tt)) ns

-- of two different names one is below the other
below : (x y : List ℕ) → x ≢ y → is_lt (by_bytes y x) ≡ false → is_lt (by_bytes x y) ≡ true
below x y ne h = go (by_bytes x y) refl
  where
    go : (o : Ordering) → by_bytes x y ≡ o → is_lt o ≡ true
    go Less e = refl
    go Equal e = absurd (ne (slice_cmp-IsAntisymmetric nat_cmp-IsAntisymmetric x y e))
    go Greater e = absurd (false≢true (sym h ∙ ap is_lt (nat_list_cmp_total.antisymm y x ∙ ap ordering_reverse e)))

T-true : (b : Bool) → b ≡ true → T b
T-true b e = subst T (sym e) tt

below_all_from : (x : List ℕ) (ns : List (List ℕ)) → ((j : ℕ) (d : List ℕ) → j < length ns → is_lt (by_bytes x (get_or ns j d)) ≡ true) → below_all by_bytes x (marked ns) ≡ true
below_all_from x [] h = refl
below_all_from x (n ∷ ns) h = rw (h 0 n (omega arith), below_all_from x ns (λ j d l. h (suc j) d (omega arith))) refl

sorted_tail : (x : List ℕ) (ns : List (List ℕ)) → IsSorted by_bytes (x ∷ ns) → IsSorted by_bytes ns
sorted_tail x ns h = λ k d l m. rw add-one (simp add-one at (h (suc k) d (omega arith) (omega arith)))

strictly : (ns : List (List ℕ)) → IsSorted by_bytes ns → IsDistinct bytes_eq ns → is_sorted by_bytes (marked ns) ≡ true
strictly [] s a = refl
strictly (n ∷ ns) s a =
    rw (
      below_all_from n ns (λ j d l. below n (get_or ns j d) (λ e. false≢true (sym (apart_from_distinct bytes_eq (n ∷ ns) 0 (suc j) d a (omega arith) (omega arith)) ∙ (bytes_eq-Decides n (get_or ns j d)).1 e)) (sorted_far (λ x y. is_lt (by_bytes x y)) (ranks_by nat_list_cmp_total (λ x. x)) (n ∷ ns) s 0 (suc j) d (omega arith) (omega arith))),
      strictly ns (sorted_tail n ns s) (IsDistinct-tail bytes_eq n ns a),
    ) refl

firsts : (ns : List (List ℕ)) → map (λ e. e.0) (marked ns) ≡ ns
firsts [] = refl
firsts (n ∷ ns) = ap (λ xs. n ∷ xs) (firsts ns)

below_marked : (x : List ℕ) (es : List (List ℕ × List Hold)) → below_all by_bytes x (marked (map (λ e. e.0) es)) ≡ below_all by_bytes x es
below_marked x [] = refl
below_marked x (e ∷ es) = ap (λ b. is_lt (by_bytes x e.0) && b) (below_marked x es)

sorted_marked : (es : List (List ℕ × List Hold)) → is_sorted by_bytes (marked (map (λ e. e.0) es)) ≡ is_sorted by_bytes es
sorted_marked [] = refl
sorted_marked (e ∷ es) = rw (below_marked e.0 es, sorted_marked es) refl

same_mark : (o p : Option (Unit {0})) → is_some o ≡ is_some p → o ≡ p
same_mark None None e = refl
same_mark None (Some u) e = absurd (false≢true e)
same_mark (Some u) None e = absurd (false≢true (sym e))
same_mark (Some u) (Some v) e = refl

-- two lists in byte order without repetition are the same where they have the same names
pub names_are : (es : List (String Global × Held)) (copies ms : List (List ℕ)) (m : HoldMap) → map_of es ≡ m → IsDistinct string_eq (keys_of es) → copies ≡ names_of es → IsPermutation copies ms → IsSorted by_bytes ms → ms ≡ keys m
names_are es copies ms m v d c p s =
    sym (firsts ms) ∙ (ap (map (λ e. e.0)) same ∙ (firsts (keys (map_of es)) ∙ ap keys v))
  where
    shuffled : IsPermutation (names_of es) ms
    shuffled = subst (λ ns. IsPermutation ns ms) c p

    distinct : IsDistinct bytes_eq ms
    distinct = IsDistinct-IsPermutation bytes_eq nat_list_eq_equiv.symm (names_of es) ms shuffled (names_distinct es d)

    known : (r : List ℕ) → list_any (eq_by_cmp by_bytes r) ms ≡ list_any (eq_by_cmp by_bytes r) (keys (map_of es))
    known r = sym (list_any-IsPermutation (eq_by_cmp by_bytes r) (names_of es) ms shuffled) ∙ list_any-IsPermutation (eq_by_cmp by_bytes r) (names_of es) (keys (map_of es)) (keys_shuffled es d)

    marked_alike : (r : List ℕ) → list_any (eq_by_cmp by_bytes r) (map (λ e. e.0) (marked ms)) ≡ list_any (eq_by_cmp by_bytes r) (map (λ e. e.0) (marked (keys (map_of es))))
    marked_alike r = ap (list_any (eq_by_cmp by_bytes r)) (firsts ms) ∙ (known r ∙ ap (list_any (eq_by_cmp by_bytes r)) (sym (firsts (keys (map_of es)))))

    same : marked ms ≡ marked (keys (map_of es))
    same = same_entries by_bytes nat_list_cmp_total (slice_cmp-IsAntisymmetric nat_cmp-IsAntisymmetric) (marked ms) (marked (keys (map_of es)))
        (T-true _ (strictly ms s distinct))
        (subst T (sym (sorted_marked (entries (map_of es)))) (entries_sorted (map_of es)))
        (λ r. same_mark _ _ (is_some-find by_bytes r (marked ms) ∙ (marked_alike r ∙ sym (is_some-find by_bytes r (marked (keys (map_of es)))))))

held_where : (q : List ℕ) (es : List (String Global × Held)) → AreEntries es → is_some (get (map_of es) q) ≡ true → holds_at (map_of es) q ≢ []
held_where q es k known = subst (λ o. unwrap_or o [] ≢ []) (sym (get_is q es)) (go (lookup (is_named q) es) (k q) (sym (ap is_some (get_is q es)) ∙ known))
  where
    go : (o : Option Held) → IfSome o (IsHeldAs q) → is_some (holds_in o) ≡ true → unwrap_or (holds_in o) [] ≢ []
    go None h s = absurd (false≢true s)
    go (Some x) h s = h.held

pub names_held : (es : List (String Global × Held)) (m : HoldMap) → map_of es ≡ m → AreEntries es → All (λ n. holds_at m n ≢ []) (keys m)
names_held es m v k =
    subst (λ w. All (λ n. holds_at w n ≢ []) (keys w)) v
    (All-from_any (eq_by_cmp_equiv nat_list_cmp_total) (λ n. holds_at (map_of es) n ≢ []) (keys (map_of es)) (λ q a. held_where q es k (contains_key-keys (map_of es) q ∙ a)))
