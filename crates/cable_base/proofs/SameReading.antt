-- White space outside strings makes no token: what reads as JSON reads as the same value without it.
use Rattle.std.proofs.Common.{◌≡◌, ℕ, zero, suc, ◌≤◌, Bool, true, false, ◌||◌, ◌==◌, cond, List, [], ◌∷◌, ◌++◌, length, Option, Some, None, option_and_then, refl, sym, ap, subst, ◌∙◌, arith, inl, inr, ◌⊎◌}
use Rattle.std.specs.Prelude.{IsSome}
use Rattle.std.proofs.lemmas.Bool.{false≢true}
use Rattle.std.proofs.lemmas.List.{length-append}
use Rattle.json.specs.Token.{Token}
use Rattle.json.specs.Json as json
use Rattle.json.specs.Word.{is_operator, is_space, head, ends_word, after_number, number_before, word}
use Rattle.json.specs.Text.{plain, content}
use Rattle.json.specs.Lex.{tokens, Lexeme, token, Class, quote, backslash, operator, space, other, class, operator_lexeme, string_token, between, in_word, in_string, lex, Place, fresh, after_value, punctuate}
use Rattle.json.specs.Align.{is_good}
use Rattle.json.specs.Tree.{json_tokens}
use Rattle.json.proofs.Unique.Spelling.{value-json_tokens_back}
use Rattle.serde_json.specs.Read.{of_json, max_depth, read}
use Rattle.cable_base.specs.declared.squeezing.Quoting.TheVariants.{Outside, Inside}
use Rattle.cable_base.specs.Squeeze.{squeezed_from, squeezed, IsSqueezedJson}
use Rattle.cable_base.proofs.GoodTokens.{NoBad, NoBad-append, NoBad-json, after_token, IsWord, after_word, after_lexeme, not_begun}
use Rattle.cable_base.proofs.ByteClasses.{class_by, operator_is, space_is, squeezed_from-quote, squeezed_from-operator, squeezed_from-space}
use Rattle.cable_base.proofs.WordsStay.{squeezed_from-run, word_split}
use Rattle.cable_base.proofs.StringsStay.{string_split}
use Rattle.cable_base.proofs.SqueezedTwice.{squeezed_from-twice}

-- ---- the first lexeme

lex-quote : (x : ℕ) (ys : List ℕ) → class x ≡ quote → lex between (x ∷ ys) ≡ token (string_token (content plain ys)) ∷ lex in_string ys
unfolding lex
lex-quote x ys e = rw e refl

lex-backslash : (x : ℕ) (ys : List ℕ) → class x ≡ backslash → lex between (x ∷ ys) ≡ token Token.bad ∷ lex in_word ys
unfolding lex
lex-backslash x ys e = rw e refl

lex-operator : (x : ℕ) (ys : List ℕ) → class x ≡ operator → lex between (x ∷ ys) ≡ operator_lexeme x ∷ lex between ys
unfolding lex
lex-operator x ys e = rw e refl

lex-space : (x : ℕ) (ys : List ℕ) → class x ≡ space → lex between (x ∷ ys) ≡ lex between ys
unfolding lex
lex-space x ys e = rw e refl

lex-other : (x : ℕ) (ys : List ℕ) → class x ≡ other → lex between (x ∷ ys) ≡ token (word (x ∷ ys)) ∷ lex in_word ys
unfolding lex
lex-other x ys e = rw e refl

-- ---- what may stand behind a value

either_word : (b : Bool) (x y : Token) → IsWord x → IsWord y → IsWord (cond b x y)
either_word true x y p q = p
either_word false x y p q = q

number_word : (t : List ℕ) (o : Option (List ℕ)) → IsWord (number_before t o)
number_word t None = tt
number_word t (Some r) = either_word (ends_word r) _ Token.bad tt tt

word_is : (t : List ℕ) → IsWord (word t)
unfolding word
word_is t =
    either_word (head t == 116) _ _ (either_word _ (Token.boolean true) Token.bad tt tt) (either_word (head t == 102) _ _ (either_word _ (Token.boolean false) Token.bad tt tt)
    (either_word (head t == 110) _ _ (either_word _ Token.null Token.bad tt tt) (number_word t (after_number t))))

abbrev Begins : Token → Type 0
Begins t = IsWord t ⊎ ((s : List ℕ) × (t ≡ Token.string s))

string_begins : (o : Option (List ℕ)) → Begins (string_token o)
string_begins None = inl tt
string_begins (Some s) = inr (s, refl)

or_true : (a b : Bool) → b ≡ true → (a || b) ≡ true
or_true true b e = refl
or_true false b e = e

-- what may stand behind a value ends a word
ends_after : (s : List ℕ) → NoBad (punctuate after_value (lex between s)) → ends_word s ≡ true
ends_after [] h = refl
ends_after (b ∷ s) h = by_class (class b) refl
  where
    by_class : (c : Class) → class b ≡ c → ends_word (b ∷ s) ≡ true
    by_class quote e = absurd (not_begun (string_token (content plain s)) (lex in_string s) refl (string_begins (content plain s)) (subst (λ (ls : List Lexeme). NoBad (punctuate after_value ls)) (lex-quote b s e) h))
    by_class backslash e = absurd (not_begun Token.bad (lex in_word s) refl (inl tt) (subst (λ (ls : List Lexeme). NoBad (punctuate after_value ls)) (lex-backslash b s e) h))
    by_class operator e = rw ((operator_is (b == 34) (b == 92) (is_operator b) (is_space b) e).0) refl
    by_class space e = or_true (is_operator b) (is_space b) (space_is (b == 34) (b == 92) (is_operator b) (is_space b) e).0
    by_class other e = absurd (not_begun (word (b ∷ s)) (lex in_word s) refl (inl (word_is (b ∷ s))) (subst (λ (ls : List Lexeme). NoBad (punctuate after_value ls)) (lex-other b s e) h))

other_apart : (q b o s : Bool) → class_by q b o s ≡ other → (o || s) ≡ false
other_apart true b o s e = absurd cc
other_apart false true o s e = absurd cc
other_apart false false true s e = absurd cc
other_apart false false false true e = absurd cc
other_apart false false false false e = refl

-- a word has a byte
shorter : (w r : List ℕ) (x : ℕ) (xs : List ℕ) → class x ≡ other → x ∷ xs ≡ w ++ r → ends_word r ≡ true → length r ≤ length xs
shorter [] r x xs k e h = absurd (false≢true (sym (other_apart (x == 34) (x == 92) (is_operator x) (is_space x) k) ∙ subst (λ (t : List ℕ). ends_word t ≡ true) (sym e) h))
shorter (y ∷ w) r x xs k e h = let n : length (x ∷ xs) ≡ length ((y ∷ w) ++ r) = ap length e in omega (arith, n, length-append w r)

good_string : (o : Option (List ℕ)) → is_good (string_token o) ≡ true → (s : List ℕ) × (o ≡ Some s)
good_string None e = absurd (false≢true e)
good_string (Some s) e = (s, refl)

-- ---- by the class of the first byte

-- up to this length, what lexes well has the same lexemes once it is squeezed
abbrev Same : ℕ → Type 0
Same n = (p : Place) (xs : List ℕ) → length xs ≤ n → NoBad (punctuate p (lex between xs)) → lex between (squeezed_from Outside xs) ≡ lex between xs

at_quote : (n : ℕ) → Same n → (p : Place) (x : ℕ) (xs : List ℕ) → length xs ≤ n → class x ≡ quote → NoBad (punctuate p (lex between (x ∷ xs))) → lex between (squeezed_from Outside (x ∷ xs)) ≡ lex between (x ∷ xs)
at_quote n again p x xs le k h =
    let first = after_token p (string_token (content plain xs)) (lex in_string xs) (subst (λ (ls : List Lexeme). NoBad (punctuate p ls)) (lex-quote x xs k) h) in
    let t = good_string (content plain xs) first.0 in
    let q = string_split plain xs t.0 t.1 in
    let behind_it : lex in_string xs ≡ lex between q.rest = ap (lex in_string) q.parts ∙ q.lexes q.rest in
    let few : length q.rest ≤ n = omega (arith, ap length q.parts, length-append q.front q.rest) in
    let same = again first.1.0 q.rest few (subst (λ (ls : List Lexeme). NoBad (punctuate first.1.0 ls)) behind_it first.1.1) in
    let kept : squeezed_from Outside (x ∷ xs) ≡ x ∷ (q.front ++ squeezed_from Outside q.rest) = squeezed_from-quote x xs k ∙ ap (λ (u : List ℕ). x ∷ squeezed_from Inside u) q.parts ∙ ap (λ (u : List ℕ). x ∷ u) (q.keeps q.rest) in
    ap (lex between) kept ∙ lex-quote x (q.front ++ squeezed_from Outside q.rest) k
    ∙ ap (λ (o : Option (List ℕ)). token (string_token o) ∷ lex in_string (q.front ++ squeezed_from Outside q.rest)) (q.reads (squeezed_from Outside q.rest))
    ∙ ap (λ (ls : List Lexeme). token (Token.string t.0) ∷ ls) (q.lexes (squeezed_from Outside q.rest) ∙ same ∙ sym behind_it)
    ∙ ap (λ (o : Option (List ℕ)). token (string_token o) ∷ lex in_string xs) (sym t.1) ∙ sym (lex-quote x xs k)

at_word : (n : ℕ) → Same n → (p : Place) (x : ℕ) (xs : List ℕ) → length xs ≤ n → class x ≡ other → NoBad (punctuate p (lex between (x ∷ xs))) → lex between (squeezed_from Outside (x ∷ xs)) ≡ lex between (x ∷ xs)
at_word n again p x xs le k h =
    let first = after_token p (word (x ∷ xs)) (lex in_word xs) (subst (λ (ls : List Lexeme). NoBad (punctuate p ls)) (lex-other x xs k) h) in
    let w = word_split (x ∷ xs) first.0 in
    let whole : lex between (x ∷ xs) ≡ token (word (x ∷ xs)) ∷ lex between w.rest = ap (lex between) w.parts ∙ w.lexes w.rest w.ended in
    let follows = after_word p (word (x ∷ xs)) (lex between w.rest) (word_is (x ∷ xs)) (subst (λ (ls : List Lexeme). NoBad (punctuate p ls)) whole h) in
    let few : length w.rest ≤ n = omega (arith, shorter w.word w.rest x xs k w.parts w.ended) in
    let same = again after_value w.rest few follows in
    let ended : ends_word (squeezed_from Outside w.rest) ≡ true = ends_after (squeezed_from Outside w.rest) (subst (λ (ls : List Lexeme). NoBad (punctuate after_value ls)) (sym same) follows) in
    ap (λ (u : List ℕ). lex between (squeezed_from Outside u)) w.parts ∙ ap (lex between) (squeezed_from-run w.word w.rest w.others)
    ∙ w.lexes (squeezed_from Outside w.rest) ended ∙ ap (λ (ls : List Lexeme). token (word (x ∷ xs)) ∷ ls) same ∙ sym whole

at_operator : (n : ℕ) → Same n → (p : Place) (x : ℕ) (xs : List ℕ) → length xs ≤ n → class x ≡ operator → NoBad (punctuate p (lex between (x ∷ xs))) → lex between (squeezed_from Outside (x ∷ xs)) ≡ lex between (x ∷ xs)
at_operator n again p x xs le k h =
    let follows = after_lexeme p (operator_lexeme x) (lex between xs) (subst (λ (ls : List Lexeme). NoBad (punctuate p ls)) (lex-operator x xs k) h) in
    ap (lex between) (squeezed_from-operator x xs k) ∙ lex-operator x (squeezed_from Outside xs) k ∙ ap (λ (ls : List Lexeme). operator_lexeme x ∷ ls) (again follows.0 xs le follows.1) ∙ sym (lex-operator x xs k)

at_space : (n : ℕ) → Same n → (p : Place) (x : ℕ) (xs : List ℕ) → length xs ≤ n → class x ≡ space → NoBad (punctuate p (lex between (x ∷ xs))) → lex between (squeezed_from Outside (x ∷ xs)) ≡ lex between (x ∷ xs)
at_space n again p x xs le k h =
    ap (lex between) (squeezed_from-space x xs k) ∙ again p xs le (subst (λ (ls : List Lexeme). NoBad (punctuate p ls)) (lex-space x xs k) h) ∙ sym (lex-space x xs k)

by_class : (n : ℕ) → Same n → (p : Place) (x : ℕ) (xs : List ℕ) → length xs ≤ n → (c : Class) → class x ≡ c → NoBad (punctuate p (lex between (x ∷ xs))) → lex between (squeezed_from Outside (x ∷ xs)) ≡ lex between (x ∷ xs)
by_class n again p x xs le quote k h = at_quote n again p x xs le k h
by_class n again p x xs le backslash k h = absurd (false≢true (after_token p Token.bad (lex in_word xs) (subst (λ (ls : List Lexeme). NoBad (punctuate p ls)) (lex-backslash x xs k) h)).0)
by_class n again p x xs le operator k h = at_operator n again p x xs le k h
by_class n again p x xs le space k h = at_space n again p x xs le k h
by_class n again p x xs le other k h = at_word n again p x xs le k h

same_lexemes : (n : ℕ) → Same n
same_lexemes n p [] le h = refl
same_lexemes zero p (x ∷ xs) le h = absurd (omega arith)
same_lexemes (suc n) p (x ∷ xs) le h = by_class n (same_lexemes n) p x xs (omega arith) (class x) refl h

-- ---- the whole text

pub tokens-squeezed : (text : List ℕ) → NoBad (tokens text) → tokens (squeezed_from Outside text) ≡ tokens text
tokens-squeezed text h = ap (punctuate fresh) (same_lexemes (length text) fresh text (omega arith) h)

read_whole : (o : Option (json.Json × List Token)) → IsSome (option_and_then of_json (option_and_then (λ p. json.if_last p.0 p.1) o)) → (j : json.Json) × (o ≡ Some (j, []))
read_whole None h = absurd (let e = h in cc)
read_whole (Some (j, [])) h = (j, refl)
read_whole (Some (j, t ∷ ts)) h = absurd (let e = h in cc)

-- what is JSON reads the same once it is squeezed
pub read-squeezed : (text : List ℕ) → IsSome (read text) → read (squeezed_from Outside text) ≡ read text
read-squeezed text h =
    let w = read_whole (json.value max_depth (tokens text)) h in
    let spelled : tokens text ≡ json_tokens w.0 ++ [] = value-json_tokens_back max_depth (tokens text) [] w.0 w.1 in
    let good : NoBad (tokens text) = subst NoBad (sym spelled) (NoBad-append (json_tokens w.0) [] (NoBad-json w.0) tt) in
    ap (λ (ts : List Token). option_and_then of_json (option_and_then (λ p. json.if_last p.0 p.1) (json.value max_depth ts))) (tokens-squeezed text good)

-- squeezed JSON is JSON that has nothing more to lose
pub IsSqueezedJson-squeezed : (text : List ℕ) → IsSome (read text) → IsSqueezedJson (squeezed text)
IsSqueezedJson-squeezed text h = record { reads = rw (read-squeezed text h) h; whole = squeezed_from-twice Outside text }
