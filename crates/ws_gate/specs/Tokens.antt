-- The token that a handshake carries in its query.
use Rattle.std.specs.Prelude.{◌≡◌, ◌≢◌, ◌⊎◌, ℕ, ◌==◌, eqb, Bool, List, [], ◌∷◌, ◌++◌, length, drop, codes, find, Option, Some, None, option_and_then, unwrap_or, if◌then◌else◌}
use Rattle.std.specs.List.{starts_with, slice_split, AllByRecursion}
use Rattle.ws_gate.specs.Parts.{IsCutAt}

-- a `&`
abbrev pub is_ampersand : ℕ → Bool
is_ampersand b = b == 38

abbrev pub token_name : List ℕ
token_name = codes "token="

-- the part begins with `token=`
abbrev pub names_token : List ℕ → Bool
names_token part = starts_with eqb part token_name

-- what stands behind `token=`, where the part begins so
abbrev pub token_behind : List ℕ → Option (List ℕ)
token_behind part = if names_token part then Some (drop (length token_name) part) else None

-- what stands behind `token=` in the first part of the query that begins so
unfoldable pub token_in : List ℕ → Option (List ℕ)
token_in query = option_and_then token_behind (find names_token (slice_split is_ampersand query))

-- the token as it stands in the query, and else the empty one
abbrev pub token_of : Option (List ℕ) → List ℕ
token_of query = unwrap_or (option_and_then token_in query) []

-- ---- what the token is

-- cut at `&`, the query has a part that is `token=` and the token, and no part before it begins so
pub record Carries (token query : List ℕ) : Type 0 where
  pub earlier : List (List ℕ)
  pub later : List (List ℕ)
  pub cut : IsCutAt 38 query (earlier ++ (token_name ++ token) ∷ later)
  pub first : AllByRecursion (λ part. (rest : List ℕ) → part ≢ token_name ++ rest) earlier

-- the query carries the token, or it carries none, and the token is empty
abbrev pub IsTokenOf : List ℕ → Option (List ℕ) → Type 0
IsTokenOf token None = token ≡ []
IsTokenOf token (Some query) = Carries token query ⊎ (((other : List ℕ) → ¬ Carries other query) × (token ≡ []))
