-- The token of a query is the one that it carries.
use Rattle.std.proofs.Common.{◌≡◌, ◌≢◌, ◌⊎◌, inl, inr, ℕ, Bool, true, false, true≢false, cond, List, [], ◌∷◌, ◌++◌, length, drop, find, Option, Some, None, unwrap_or, option_and_then, refl, sym, ap, subst, ◌∙◌}
use Rattle.std.specs.List.{slice_split, AllByRecursion}
use Rattle.std.proofs.lemmas.Bool.Decides.{Decides-eqb}
use Rattle.std.proofs.lemmas.List.{drop_at}
use Rattle.std.proofs.lemmas.Slice.Eq.{starts_is}
use Rattle.ws_gate.specs.Parts.{IsCutAt}
use Rattle.ws_gate.specs.Tokens.{is_ampersand, token_name, names_token, token_behind, token_in, token_of, Carries, IsTokenOf}
use Rattle.ws_gate.proofs.Cuts.{is_cut, split_is}
use Rattle.ws_gate.proofs.Finding.{found_first, first_found}

-- ---- a part that begins with `token=`

begins : (part : List ℕ) → names_token part ≡ true → part ≡ token_name ++ drop (length token_name) part
begins part e = (starts_is Decides-eqb part token_name (names_token part) refl).0 e

begun : (rest : List ℕ) → names_token (token_name ++ rest) ≡ true
begun rest = (starts_is Decides-eqb (token_name ++ rest) token_name (names_token (token_name ++ rest)) refl).1 rest refl

abbrev BeginsNot : List ℕ → Type 0
BeginsNot part = (rest : List ℕ) → part ≢ token_name ++ rest

unnamed : (part : List ℕ) → BeginsNot part → names_token part ≡ false
unnamed part none = by_test (names_token part) refl
  where
    by_test : (b : Bool) → names_token part ≡ b → names_token part ≡ false
    by_test true e = absurd (none (drop (length token_name) part) (begins part e))
    by_test false e = e

begins_not : (part : List ℕ) → names_token part ≡ false → BeginsNot part
begins_not part e rest same = true≢false (sym (begun rest) ∙ (sym (ap names_token same) ∙ e))

all_unnamed : (parts : List (List ℕ)) → AllByRecursion (λ part. (rest : List ℕ) → part ≢ token_name ++ rest) parts → AllByRecursion (λ part. names_token part ≡ false) parts
all_unnamed [] none = tt
all_unnamed (part ∷ parts) none = (unnamed part none.0, all_unnamed parts none.1)

all_begin_not : (parts : List (List ℕ)) → AllByRecursion (λ part. names_token part ≡ false) parts → AllByRecursion (λ part. (rest : List ℕ) → part ≢ token_name ++ rest) parts
all_begin_not [] none = tt
all_begin_not (part ∷ parts) none = (begins_not part none.0, all_begin_not parts none.1)

-- ---- the first such part of a query

abbrev part_of : List ℕ → Option (List ℕ)
part_of query = find names_token (slice_split is_ampersand query)

abbrev behind_part : Option (List ℕ) → List ℕ
behind_part part = unwrap_or (option_and_then token_behind part) []

token_is_behind : (query : List ℕ) → token_of (Some query) ≡ behind_part (part_of query)
unfolding token_in
token_is_behind query = refl

part_carries : (query part : List ℕ) → part_of query ≡ Some part → Carries (drop (length token_name) part) query
part_carries query part e =
    let is = found_first names_token (slice_split is_ampersand query) part e in
    record {
      earlier = is.earlier;
      later = is.later;
      cut = subst (λ (p : List ℕ). IsCutAt 38 query (is.earlier ++ p ∷ is.later)) (begins part is.passes) (subst (λ (ps : List (List ℕ)). IsCutAt 38 query ps) is.parts (is_cut 38 query));
      first = all_begin_not is.earlier is.none;
    }

carried_part : (query token : List ℕ) → Carries token query → part_of query ≡ Some (token_name ++ token)
carried_part query token is =
    ap (find names_token) (split_is 38 query is.earlier (token_name ++ token) is.later is.cut)
    ∙ first_found names_token is.earlier (token_name ++ token) is.later (all_unnamed is.earlier is.first) (begun token)

behind_named : (part : List ℕ) → names_token part ≡ true → behind_part (Some part) ≡ drop (length token_name) part
behind_named part e = ap (λ (b : Bool). unwrap_or (cond {A = Option (List ℕ)} b (Some (drop (length token_name) part)) None) []) e

part_passes : (query part : List ℕ) → part_of query ≡ Some part → names_token part ≡ true
part_passes query part e = (found_first names_token (slice_split is_ampersand query) part e).passes

-- ---- both ways

-- the token of a query that has it behind its first such part, and of one without such a part
told : (query : List ℕ) → IsTokenOf (behind_part (part_of query)) (Some query)
told query = by_part (part_of query) refl
  where
    by_part : (o : Option (List ℕ)) → part_of query ≡ o → IsTokenOf (behind_part o) (Some query)
    by_part None e = inr ((λ other is. let same : None ≡ Some (token_name ++ other) = sym e ∙ carried_part query other is in cc), refl)
    by_part (Some part) e = inl (subst (λ (t : List ℕ). Carries t query) (sym (behind_named part (part_passes query part e))) (part_carries query part e))

only : (query token : List ℕ) → Carries token query ⊎ (((other : List ℕ) → ¬ Carries other query) × (token ≡ [])) → behind_part (part_of query) ≡ token
only query token (inl is) = ap behind_part (carried_part query token is) ∙ behind_named (token_name ++ token) (begun token) ∙ drop_at token_name token (length token_name) refl
only query token (inr none) = by_part (part_of query) refl
  where
    by_part : (o : Option (List ℕ)) → part_of query ≡ o → behind_part (part_of query) ≡ token
    by_part None e = ap behind_part e ∙ sym none.1
    by_part (Some part) e = absurd (none.0 (drop (length token_name) part) (part_carries query part e))

pub token_is : (query : Option (List ℕ)) → IsTokenOf (token_of query) query
token_is None = refl
token_is (Some query) = subst (λ (t : List ℕ). IsTokenOf t (Some query)) (sym (token_is_behind query)) (told query)

pub token_only : (query : Option (List ℕ)) (token : List ℕ) → IsTokenOf token query → token_of query ≡ token
token_only None token is = sym is
token_only (Some query) token is = token_is_behind query ∙ only query token is
