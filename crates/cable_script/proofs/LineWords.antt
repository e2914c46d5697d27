-- The words behind a verb are found exactly where they stand.
use Rattle.std.proofs.Common.{◌≡◌, ◌⊎◌, inl, inr, ℕ, List, [], ◌∷◌, ◌++◌, Bool, true, false, ◌&&◌, not, cond, Option, Some, None, refl, sym, ap, subst, ◌∙◌}
use Rattle.std.specs.Prelude.{◌==◌}
use Rattle.std.specs.List.{list_any}
use Rattle.std.specs.Option.{option_map}
use Rattle.std.proofs.lemmas.Bool.{and_parts}
use Rattle.std.proofs.lemmas.List.Folds.{list_any-append}
use Rattle.std.proofs.lemmas.Option.{same_Some}
use Rattle.cable_model.specs.Script.{spaced, IsWord}
use Rattle.cable_model.specs.declared.verb_names.VerbName.{VerbName}
use Rattle.cable_model.specs.declared.verb_names.VerbName.TheVariants as name
use Rattle.cable_model.specs.VerbTable.{Kind, Node, Connection, Moment, Batch, Puts, Word, Rest, spelling, kinds_behind, Fills, Each, BeginsWith, HasWords}
use Rattle.cable_script.specs.Words.{◌>>=◌, is_blank, first_word, after_word, next_word, one_word, two_words, three_words, two_words_and_rest}
use Rattle.cable_script.proofs.Cuts.{either_false, none_before}
use Rattle.cable_script.proofs.WordsRead.{bind_is, bind_of, word_is, word_found, word_alone, next_is, one_is, next_found, one_found}

-- ---- kinds

abbrev is_rest : Kind → Bool
is_rest Node = false
is_rest Connection = false
is_rest Moment = false
is_rest Batch = false
is_rest Puts = false
is_rest Word = false
is_rest Rest = true

-- a word fills each kind
fills : (kind : Kind) (word : List ℕ) → IsWord word → Fills kind word
fills Node word w = w
fills Connection word w = w
fills Moment word w = w
fills Batch word w = w
fills Puts word w = w
fills Word word w = w
fills Rest word w = tt

-- what fills a kind is a word, or the rest of the line
filled : (kind : Kind) (word : List ℕ) → is_rest kind ≡ false → Fills kind word → IsWord word
filled Node word r f = f
filled Connection word r f = f
filled Moment word r f = f
filled Batch word r f = f
filled Puts word r f = f
filled Word word r f = f
filled Rest word r f = absurd cc

rest_fills : (kind : Kind) (word : List ℕ) → is_rest kind ≡ true → Fills kind word
rest_fills Node word r = absurd cc
rest_fills Connection word r = absurd cc
rest_fills Moment word r = absurd cc
rest_fills Batch word r = absurd cc
rest_fills Puts word r = absurd cc
rest_fills Word word r = absurd cc
rest_fills Rest word r = tt

-- the rest of a line stands last
abbrev rest_last : List Kind → Bool
rest_last [] = true
rest_last (kind ∷ []) = true
rest_last (kind ∷ next ∷ kinds) = not (is_rest kind) && rest_last (next ∷ kinds)

verb_rest_last : (verb : VerbName) → rest_last (kinds_behind verb) ≡ true
verb_rest_last name.Boot = refl
verb_rest_last name.Open = refl
verb_rest_last name.In = refl
verb_rest_last name.Drop = refl
verb_rest_last name.Stop = refl
verb_rest_last name.Take = refl
verb_rest_last name.Put = refl
verb_rest_last name.Finish = refl
verb_rest_last name.Work = refl
verb_rest_last name.Cast = refl
verb_rest_last name.Trim = refl
verb_rest_last name.Ask = refl
verb_rest_last name.Read = refl
verb_rest_last name.Deliver = refl
verb_rest_last name.Poll = refl
verb_rest_last name.Beat = refl
verb_rest_last name.Fault = refl

-- ---- the words of a text

-- a text cut into words of these kinds
abbrev pub words_in : List Kind → List ℕ → Option (List (List ℕ))
words_in [] text = None
words_in (kind ∷ []) text = cond (is_rest kind) (Some (text ∷ [])) (one_word text >>= λ word. Some (word ∷ []))
words_in (kind ∷ next ∷ kinds) text = next_word text >>= λ first. words_in (next ∷ kinds) first.1 >>= λ words. Some (first.0 ∷ words)

-- the words behind a verb, of these kinds: none where there is no blank
abbrev pub words_of : List Kind → Option (List ℕ) → Option (List (List ℕ))
words_of [] None = Some []
words_of (kind ∷ kinds) None = None
words_of kinds (Some text) = words_in kinds text

-- what stands behind a verb's blank
abbrev behind : List (List ℕ) → Option (List ℕ)
behind [] = None
behind (word ∷ words) = Some (spaced (word ∷ words))

abbrev AreIn : List Kind → List ℕ → List (List ℕ) → Type 0
AreIn kinds text words = Each Fills kinds words × (text ≡ spaced words)

spaced_more : (word : List ℕ) (kind : Kind) (kinds : List Kind) (words : List (List ℕ)) → Each Fills (kind ∷ kinds) words → word ++ 32 ∷ spaced words ≡ spaced (word ∷ words)
spaced_more word kind kinds [] f = absurd f
spaced_more word kind kinds (next ∷ words) f = refl

last_is : (kind : Kind) (text : List ℕ) (words : List (List ℕ)) (b : Bool) → is_rest kind ≡ b
    → cond b (Some (text ∷ [])) (one_word text >>= λ word. Some (word ∷ [])) ≡ Some words → AreIn (kind ∷ []) text words
last_is kind text words true r e = subst (λ (ws : List (List ℕ)). AreIn (kind ∷ []) text ws) (same_Some (text ∷ []) words e) ((rest_fills kind text r, tt), refl)
last_is kind text words false r e =
    let word = bind_is _ _ words e in
    let o = one_is text word.0 word.1.0 in
    subst (λ (ws : List (List ℕ)). AreIn (kind ∷ []) text ws) (same_Some (word.0 ∷ []) words word.1.1) ((fills kind word.0 o.0, tt), o.1)

words_are : (kinds : List Kind) (text : List ℕ) (words : List (List ℕ)) → words_in kinds text ≡ Some words → AreIn kinds text words
words_are [] text words e = absurd cc
words_are (kind ∷ []) text words e = last_is kind text words (is_rest kind) refl e
words_are (kind ∷ next ∷ kinds) text words e =
    let first = bind_is _ _ words e in
    let others = bind_is _ _ words first.1.1 in
    let n = next_is text first.0 first.1.0 in
    let o = words_are (next ∷ kinds) first.0.1 others.0 others.1.0 in
    let parts : text ≡ first.0.0 ++ 32 ∷ spaced others.0 = subst (λ (r : List ℕ). text ≡ first.0.0 ++ 32 ∷ r) o.1 n.parts in
    subst (λ (ws : List (List ℕ)). AreIn (kind ∷ next ∷ kinds) text ws) (same_Some (first.0.0 ∷ others.0) words others.1.1)
    ((fills kind first.0.0 n.word_is, o.0), parts ∙ spaced_more first.0.0 next kinds others.0 o.0)

last_found : (kind : Kind) (word : List ℕ) (b : Bool) → is_rest kind ≡ b → Fills kind word → cond b (Some (word ∷ [])) (one_word word >>= λ w. Some (w ∷ [])) ≡ Some (word ∷ [])
last_found kind word true r f = refl
last_found kind word false r f = bind_of _ _ word _ (one_found word (filled kind word r f)) refl

not_true : (b : Bool) → not b ≡ true → b ≡ false
not_true true e = absurd cc
not_true false e = refl

words_found : (kind : Kind) (kinds : List Kind) (words : List (List ℕ)) → rest_last (kind ∷ kinds) ≡ true → Each Fills (kind ∷ kinds) words
    → words_in (kind ∷ kinds) (spaced words) ≡ Some words
words_found kind kinds [] l f = absurd f
words_found kind [] (word ∷ []) l f = last_found kind word (is_rest kind) refl f.0
words_found kind [] (word ∷ next ∷ words) l f = absurd f.1
words_found kind (other ∷ kinds) (word ∷ []) l f = absurd f.1
words_found kind (other ∷ kinds) (word ∷ next ∷ words) l f =
    let h = and_parts _ _ l in
    bind_of _ _ (word, spaced (next ∷ words)) _ (next_found word (spaced (next ∷ words)) (filled kind word (not_true _ h.0) f.0))
    (bind_of _ _ (next ∷ words) _ (words_found other kinds (next ∷ words) h.1 f.1) refl)

-- ---- the texts of verbs, which have at most three words

abbrev pub two : List ℕ × List ℕ → List (List ℕ)
two p = p.0 ∷ p.1 ∷ []

abbrev pub three : List ℕ × List ℕ × List ℕ → List (List ℕ)
three p = p.0 ∷ p.1 ∷ p.2 ∷ []

pub one_in : (kind : Kind) (text : List ℕ) → is_rest kind ≡ false → words_in (kind ∷ []) text ≡ option_map (λ w. w ∷ []) (one_word text)
one_in kind text r = rw r (by_word (one_word text))
  where
    by_word : (o : Option (List ℕ)) → (o >>= λ w. Some (w ∷ [])) ≡ option_map (λ w. w ∷ []) o
    by_word None = refl
    by_word (Some w) = refl

pub two_in : (kind next : Kind) (text : List ℕ) → is_rest next ≡ false → words_in (kind ∷ next ∷ []) text ≡ option_map two (two_words text)
unfolding two_words
two_in kind next text r = rw r (by_first (next_word text))
  where
    by_second : (first : List ℕ) (o : Option (List ℕ)) → ((o >>= λ w. Some (w ∷ [])) >>= λ ws. Some (first ∷ ws)) ≡ option_map two (o >>= λ second. Some (first, second))
    by_second first None = refl
    by_second first (Some w) = refl

    by_first : (o : Option (List ℕ × List ℕ)) → (o >>= λ first. (one_word first.1 >>= λ w. Some (w ∷ [])) >>= λ ws. Some (first.0 ∷ ws))
        ≡ option_map two (o >>= λ first. one_word first.1 >>= λ second. Some (first.0, second))
    by_first None = refl
    by_first (Some p) = by_second p.0 (one_word p.1)

pub three_in : (kind next last : Kind) (text : List ℕ) → is_rest last ≡ false → words_in (kind ∷ next ∷ last ∷ []) text ≡ option_map three (three_words text)
unfolding three_words
three_in kind next last text r = by_first (next_word text)
  where
    by_others : (first : List ℕ) (o : Option (List ℕ × List ℕ)) → (option_map two o >>= λ ws. Some (first ∷ ws)) ≡ option_map three (o >>= λ others. Some (first, others.0, others.1))
    by_others first None = refl
    by_others first (Some p) = refl

    by_first : (o : Option (List ℕ × List ℕ)) → (o >>= λ first. words_in (next ∷ last ∷ []) first.1 >>= λ ws. Some (first.0 ∷ ws))
        ≡ option_map three (o >>= λ first. two_words first.1 >>= λ others. Some (first.0, others.0, others.1))
    by_first None = refl
    by_first (Some p) = ap (λ (o : Option (List (List ℕ))). o >>= λ ws. Some (p.0 ∷ ws)) (two_in next last p.1 r) ∙ by_others p.0 (two_words p.1)

-- a word, and the rest
pub next_in : (kind : Kind) (text : List ℕ) → words_in (kind ∷ Rest ∷ []) text ≡ option_map two (next_word text)
next_in kind text = by_first (next_word text)
  where
    by_first : (o : Option (List ℕ × List ℕ)) → (o >>= λ first. words_in (Rest ∷ []) first.1 >>= λ ws. Some (first.0 ∷ ws)) ≡ option_map two o
    by_first None = refl
    by_first (Some p) = refl

pub rest_in : (kind next : Kind) (text : List ℕ) → words_in (kind ∷ next ∷ Rest ∷ []) text ≡ option_map three (two_words_and_rest text)
unfolding two_words_and_rest
rest_in kind next text = by_first (next_word text)
  where
    by_others : (first : List ℕ) (o : Option (List ℕ × List ℕ)) → (option_map two o >>= λ ws. Some (first ∷ ws)) ≡ option_map three (o >>= λ second. Some (first, second.0, second.1))
    by_others first None = refl
    by_others first (Some p) = refl

    by_first : (o : Option (List ℕ × List ℕ)) → (o >>= λ first. words_in (next ∷ Rest ∷ []) first.1 >>= λ ws. Some (first.0 ∷ ws))
        ≡ option_map three (o >>= λ first. next_word first.1 >>= λ second. Some (first.0, second.0, second.1))
    by_first None = refl
    by_first (Some p) = ap (λ (o : Option (List (List ℕ))). o >>= λ ws. Some (p.0 ∷ ws)) (next_in next p.1) ∙ by_others p.0 (next_word p.1)

-- ---- the words of a line

are_behind : (kinds : List Kind) (rest : Option (List ℕ)) (words : List (List ℕ)) → words_of kinds rest ≡ Some words → Each Fills kinds words × (rest ≡ behind words)
are_behind [] None words e = subst (λ (ws : List (List ℕ)). Each Fills [] ws × (None ≡ behind ws)) (same_Some [] words e) (tt, refl)
are_behind [] (Some text) words e = absurd cc
are_behind (kind ∷ kinds) None words e = absurd cc
are_behind (kind ∷ kinds) (Some text) words e = let h = words_are (kind ∷ kinds) text words e in (h.0, ap (λ (t : List ℕ). Some t) h.1 ∙ some_behind words h.0)
  where
    some_behind : (ws : List (List ℕ)) → Each Fills (kind ∷ kinds) ws → Some (spaced ws) ≡ behind ws
    some_behind [] f = absurd f
    some_behind (w ∷ ws) f = refl

found_behind : (kinds : List Kind) (words : List (List ℕ)) → rest_last kinds ≡ true → Each Fills kinds words → words_of kinds (behind words) ≡ Some words
found_behind [] [] l f = refl
found_behind [] (word ∷ words) l f = absurd f
found_behind (kind ∷ kinds) [] l f = absurd f
found_behind (kind ∷ kinds) (word ∷ words) l f = words_found kind kinds (word ∷ words) l f

-- a blank behind a front is among its bytes
has_blank : (front rest : List ℕ) → list_any (λ b. b == 32) (front ++ 32 ∷ rest) ≡ false → ⊥
has_blank front rest none =
    let bytes = either_false (list_any (λ b. b == 32) front) (list_any (λ b. b == 32) (32 ∷ rest)) (sym (list_any-append (λ b. b == 32) front (32 ∷ rest)) ∙ none) in
    let lost : true ≡ false = bytes.1 in
    absurd cc

-- a word without blanks is its own first word
alone : (word : List ℕ) → list_any (λ b. b == 32) word ≡ false → (first_word word ≡ word) × (after_word word ≡ None)
alone word none = by_rest (after_word word) refl
  where
    by_rest : (o : Option (List ℕ)) → after_word word ≡ o → (first_word word ≡ word) × (after_word word ≡ None)
    by_rest None e = (word_alone word e, e)
    by_rest (Some rest) e = absurd (has_blank (first_word word) rest (subst (λ (w : List ℕ). list_any (λ b. b == 32) w ≡ false) (word_is word rest e).parts none))

first_behind : (word : List ℕ) (words : List (List ℕ)) → list_any (λ b. b == 32) word ≡ false
    → (first_word (spaced (word ∷ words)) ≡ word) × (after_word (spaced (word ∷ words)) ≡ behind words)
first_behind word [] none = alone word none
first_behind word (next ∷ words) none = word_found word (spaced (next ∷ words)) none

-- a line begins with its first word
pub begins : (line : List ℕ) → BeginsWith line (first_word line)
begins line = record { one = none_before is_blank line; rest = by_rest (after_word line) refl }
  where
    by_rest : (o : Option (List ℕ)) → after_word line ≡ o → (line ≡ first_word line) ⊎ ((text : List ℕ) × (line ≡ first_word line ++ 32 ∷ text))
    by_rest None e = inl (sym (word_alone line e))
    by_rest (Some text) e = inr (text, (word_is line text e).parts)

pub begun : (line word : List ℕ) → BeginsWith line word → first_word line ≡ word
begun line word b = by_rest b.rest
  where
    by_rest : (line ≡ word) ⊎ ((text : List ℕ) × (line ≡ word ++ 32 ∷ text)) → first_word line ≡ word
    by_rest (inl e) = ap first_word e ∙ (alone word b.one).0
    by_rest (inr (text, e)) = ap first_word e ∙ (word_found word text b.one).0

-- the words that are found stand in the line
pub has_words : (verb : VerbName) (words : List (List ℕ)) (line : List ℕ) → first_word line ≡ spelling verb → words_of (kinds_behind verb) (after_word line) ≡ Some words
    → HasWords verb words line
has_words verb words line first e = let h = are_behind (kinds_behind verb) (after_word line) words e in record { fill = h.0; parts = parts words h.1 }
  where
    parts : (ws : List (List ℕ)) → after_word line ≡ behind ws → line ≡ spaced (spelling verb ∷ ws)
    parts [] a = sym (word_alone line a) ∙ first
    parts (word ∷ ws) a = subst (λ (w : List ℕ). line ≡ w ++ 32 ∷ spaced (word ∷ ws)) first (word_is line (spaced (word ∷ ws)) a).parts

-- the words that stand in a line are found
pub words_had : (verb : VerbName) (words : List (List ℕ)) (line : List ℕ) → list_any (λ b. b == 32) (spelling verb) ≡ false → HasWords verb words line
    → (first_word line ≡ spelling verb) × (words_of (kinds_behind verb) (after_word line) ≡ Some words)
words_had verb words line none h =
    let f = first_behind (spelling verb) words none in (
      ap first_word h.parts ∙ f.0,
      ap (λ (l : List ℕ). words_of (kinds_behind verb) (after_word l)) h.parts ∙ ap (words_of (kinds_behind verb)) f.1
          ∙ found_behind (kinds_behind verb) words (verb_rest_last verb) h.fill,
    )
