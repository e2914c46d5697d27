-- JSON that reads has no bad token, and behind each lexeme stands what may stand there.
use Rattle.std.proofs.Common.{◌≡◌, ℕ, Bool, true, false, List, [], ◌∷◌, ◌++◌, refl, subst, inl, inr, ◌⊎◌}
use Rattle.std.proofs.lemmas.Bool.{false≢true}
use Rattle.json.specs.Token.{Token}
use Rattle.json.specs.Json as json
use Rattle.json.specs.Lex.{Lexeme, token, comma, colon, Place, fresh, after_value, after_comma, after_key, begins_colon, may_begin, may_close, if_allowed, place_token, punctuate}
use Rattle.json.specs.Align.{is_good}
use Rattle.json.specs.Tree.{json_tokens, items_tokens, members_tokens}

-- ---- no token is bad

-- none of these tokens stands for a fault
abbrev pub NoBad : List Token → Type 0
NoBad [] = Unit {0}
NoBad (t ∷ ts) = (is_good t ≡ true) × NoBad ts

pub NoBad-append : (a b : List Token) → NoBad a → NoBad b → NoBad (a ++ b)
NoBad-append [] b p q = q
NoBad-append (t ∷ ts) b p q = (p.0, NoBad-append ts b p.1 q)

mutual
  pub NoBad-json : (j : json.Json) → NoBad (json_tokens j)
  NoBad-json json.null = (refl, tt)
  NoBad-json (json.boolean b) = (refl, tt)
  NoBad-json (json.number s) = (refl, tt)
  NoBad-json (json.string s) = (refl, tt)
  NoBad-json (json.array js) = (refl, NoBad-items js)
  NoBad-json (json.object ms) = (refl, NoBad-members ms)

  NoBad-items : (js : json.Items) → NoBad (items_tokens js)
  NoBad-items json.no_items = (refl, tt)
  NoBad-items (json.item j js) = NoBad-append (json_tokens j) (items_tokens js) (NoBad-json j) (NoBad-items js)

  NoBad-members : (ms : json.Members) → NoBad (members_tokens ms)
  NoBad-members json.no_members = (refl, tt)
  NoBad-members (json.member k j ms) = (refl, NoBad-append (json_tokens j) (members_tokens ms) (NoBad-json j) (NoBad-members ms))

-- ---- what may stand behind a lexeme

-- a token that may stand where it does is followed by good ones
behind_allowed : (b : Bool) (t : Token) (k : Place → List Token) (next : Place) → NoBad (if_allowed b t k next) → NoBad (k next)
behind_allowed true t k next h = h.1
behind_allowed false t k next h = absurd (false≢true h.0)

-- in some place these lexemes make good tokens
abbrev pub Follows : List Lexeme → Type 0
Follows ls = (p : Place) × NoBad (punctuate p ls)

-- the token is good, and so is what follows it
abbrev pub After : List Lexeme → Token → Type 0
After ls t = (is_good t ≡ true) × Follows ls

behind_placed_token : (p : Place) (t : Token) (ls : List Lexeme) (c : Bool) → NoBad (place_token p t c (λ next. punctuate next ls)) → After ls t
behind_placed_token p Token.begin_object ls c h = (refl, (fresh, behind_allowed (may_begin p) Token.begin_object (λ next. punctuate next ls) fresh h))
behind_placed_token p Token.end_object ls c h = (refl, (after_value, behind_allowed (may_close p) Token.end_object (λ next. punctuate next ls) after_value h))
behind_placed_token p Token.begin_array ls c h = (refl, (fresh, behind_allowed (may_begin p) Token.begin_array (λ next. punctuate next ls) fresh h))
behind_placed_token p Token.end_array ls c h = (refl, (after_value, behind_allowed (may_close p) Token.end_array (λ next. punctuate next ls) after_value h))
behind_placed_token p (Token.key s) ls c h = absurd (false≢true h.0)
behind_placed_token p (Token.string s) ls true h = (refl, (after_key, behind_allowed (may_begin p) (Token.key s) (λ next. punctuate next ls) after_key h))
behind_placed_token p (Token.string s) ls false h = (refl, (after_value, behind_allowed (may_begin p) (Token.string s) (λ next. punctuate next ls) after_value h))
behind_placed_token p (Token.number s) ls c h = (refl, (after_value, behind_allowed (may_begin p) (Token.number s) (λ next. punctuate next ls) after_value h))
behind_placed_token p (Token.boolean b) ls c h = (refl, (after_value, behind_allowed (may_begin p) (Token.boolean b) (λ next. punctuate next ls) after_value h))
behind_placed_token p Token.null ls c h = (refl, (after_value, behind_allowed (may_begin p) Token.null (λ next. punctuate next ls) after_value h))
behind_placed_token p Token.bad ls c h = absurd (false≢true h.0)

punctuate-token : (p : Place) (t : Token) (ls : List Lexeme) → punctuate p (token t ∷ ls) ≡ place_token p t (begins_colon ls) (λ next. punctuate next ls)
unfolding punctuate
punctuate-token fresh t ls = refl
punctuate-token after_value t ls = refl
punctuate-token after_comma t ls = refl
punctuate-token after_key t ls = refl

pub after_token : (p : Place) (t : Token) (ls : List Lexeme) → NoBad (punctuate p (token t ∷ ls)) → After ls t
after_token p t ls h = behind_placed_token p t ls (begins_colon ls) (subst NoBad (punctuate-token p t ls) h)

-- a word: a value that is no string
abbrev pub IsWord : Token → Type 0
IsWord Token.begin_object = ⊥
IsWord Token.end_object = ⊥
IsWord Token.begin_array = ⊥
IsWord Token.end_array = ⊥
IsWord (Token.key s) = ⊥
IsWord (Token.string s) = ⊥
IsWord (Token.number s) = Unit {0}
IsWord (Token.boolean v) = Unit {0}
IsWord Token.null = Unit {0}
IsWord Token.bad = Unit {0}

behind_placed_word : (p : Place) (t : Token) (ls : List Lexeme) (c : Bool) → IsWord t → NoBad (place_token p t c (λ next. punctuate next ls)) → NoBad (punctuate after_value ls)
behind_placed_word p (Token.number s) ls c w h = behind_allowed (may_begin p) (Token.number s) (λ next. punctuate next ls) after_value h
behind_placed_word p (Token.boolean b) ls c w h = behind_allowed (may_begin p) (Token.boolean b) (λ next. punctuate next ls) after_value h
behind_placed_word p Token.null ls c w h = behind_allowed (may_begin p) Token.null (λ next. punctuate next ls) after_value h
behind_placed_word p Token.bad ls c w h = absurd (false≢true h.0)
behind_placed_word p Token.begin_object ls c w h = absurd w
behind_placed_word p Token.end_object ls c w h = absurd w
behind_placed_word p Token.begin_array ls c w h = absurd w
behind_placed_word p Token.end_array ls c w h = absurd w
behind_placed_word p (Token.key s) ls c w h = absurd w
behind_placed_word p (Token.string s) ls c w h = absurd w

-- behind a word stands what may stand behind a value
pub after_word : (p : Place) (t : Token) (ls : List Lexeme) → IsWord t → NoBad (punctuate p (token t ∷ ls)) → NoBad (punctuate after_value ls)
after_word p t ls w h = behind_placed_word p t ls (begins_colon ls) w (subst NoBad (punctuate-token p t ls) h)

after_comma_lexeme : (p : Place) (ls : List Lexeme) → NoBad (punctuate p (comma ∷ ls)) → Follows ls
unfolding punctuate
after_comma_lexeme fresh ls h = absurd (false≢true h.0)
after_comma_lexeme after_value ls h = (after_comma, h)
after_comma_lexeme after_comma ls h = absurd (false≢true h.0)
after_comma_lexeme after_key ls h = absurd (false≢true h.0)

after_colon_lexeme : (p : Place) (ls : List Lexeme) → NoBad (punctuate p (colon ∷ ls)) → Follows ls
unfolding punctuate
after_colon_lexeme fresh ls h = absurd (false≢true h.0)
after_colon_lexeme after_value ls h = absurd (false≢true h.0)
after_colon_lexeme after_comma ls h = absurd (false≢true h.0)
after_colon_lexeme after_key ls h = (fresh, h)

pub after_lexeme : (p : Place) (l : Lexeme) (ls : List Lexeme) → NoBad (punctuate p (l ∷ ls)) → Follows ls
after_lexeme p (token t) ls h = (after_token p t ls h).1
after_lexeme p comma ls h = after_comma_lexeme p ls h
after_lexeme p colon ls h = after_colon_lexeme p ls h

-- behind a value no word and no string begins
pub not_begun : (t : Token) (ls : List Lexeme) → may_begin after_value ≡ false → (IsWord t ⊎ ((s : List ℕ) × (t ≡ Token.string s))) → NoBad (punctuate after_value (token t ∷ ls)) → ⊥
not_begun t ls shut k h = begins t (begins_colon ls) (λ next. punctuate next ls) k (subst NoBad (punctuate-token after_value t ls) h)
  where
    begins : (t : Token) (c : Bool) (k : Place → List Token) → (IsWord t ⊎ ((s : List ℕ) × (t ≡ Token.string s))) → NoBad (place_token after_value t c k) → ⊥
    begins (Token.number s) c k w h = absurd (false≢true h.0)
    begins (Token.boolean b) c k w h = absurd (false≢true h.0)
    begins Token.null c k w h = absurd (false≢true h.0)
    begins Token.bad c k w h = absurd (false≢true h.0)
    begins (Token.string s) true k w h = absurd (false≢true h.0)
    begins (Token.string s) false k w h = absurd (false≢true h.0)
    begins (Token.key s) c k w h = absurd (false≢true h.0)
    begins Token.begin_object c k w h = absurd (false≢true h.0)
    begins Token.begin_array c k w h = absurd (false≢true h.0)
    begins Token.end_object c k (inl w) h = absurd w
    begins Token.end_object c k (inr w) h = absurd (let e = w.1 in cc)
    begins Token.end_array c k (inl w) h = absurd w
    begins Token.end_array c k (inr w) h = absurd (let e = w.1 in cc)
