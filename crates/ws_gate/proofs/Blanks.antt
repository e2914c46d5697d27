-- Blanks in front of a text, and what is left without them.
use Rattle.std.proofs.Common.{◌≡◌, ℕ, suc, ◌+◌, Bool, true, false, not, cond, List, [], ◌∷◌, ◌++◌, length, take, drop, nat_lt, Option, Some, None, refl, sym, ap, ◌∙◌, arith}
use Rattle.std.specs.List.{list_all, position_or_len}
use Rattle.std.specs.Option.{option_map_or}
use Rattle.std.proofs.lemmas.Bool.{and_parts, ltb-false}
use Rattle.std.proofs.lemmas.List.{drop_all, take-append-drop}
use Rattle.ws_gate.specs.Protocols.{is_blank, is_other, skip_blanks, AreBlank}

-- how many blanks stand in front
abbrev pub blanks : List ℕ → ℕ
blanks text = position_or_len is_other text

abbrev left_at : Bool → List ℕ → List ℕ
left_at b text = option_map_or (λ start. drop start text) (cond {A = Option ℕ} b (Some (blanks text)) None) []

within : (b : Bool) (text : List ℕ) → nat_lt (blanks text) (length text) ≡ b → left_at b text ≡ drop (blanks text) text
within true text e = refl
within false text e = sym (drop_all (blanks text) text (ltb-false (blanks text) (length text) e))

pub skip_is : (text : List ℕ) → skip_blanks text ≡ drop (blanks text) text
unfolding skip_blanks
skip_is text = within (nat_lt (blanks text) (length text)) text refl

blank_front : (text : List ℕ) → AreBlank (take (blanks text) text)
blank_front [] = refl
blank_front (x ∷ text) = by_test (is_blank x) refl (blank_front text)
  where
    by_test : (b : Bool) → is_blank x ≡ b → AreBlank (take (blanks text) text) → AreBlank (take (cond (not (not b)) (1 + blanks text) 0) (x ∷ text))
    by_test true is again = let n : 1 + blanks text ≡ suc (blanks text) = omega arith in rw (n, is) again
    by_test false is again = refl

drop_one : (n x : ℕ) (text : List ℕ) → drop (1 + n) (x ∷ text) ≡ drop n text
drop_one n x text = let e : 1 + n ≡ suc n = omega arith in rw e refl

-- a text is its blanks in front and what is left
pub skipped : (text : List ℕ) → (before : List ℕ) × AreBlank before × (text ≡ before ++ skip_blanks text)
skipped text =
    (take (blanks text) text, blank_front text, sym (take-append-drop (blanks text) text) ∙ ap (λ (t : List ℕ). take (blanks text) text ++ t) (sym (skip_is text)))

front_gone : (before text : List ℕ) → AreBlank before → drop (blanks (before ++ text)) (before ++ text) ≡ drop (blanks text) text
front_gone [] text blank = refl
front_gone (x ∷ before) text blank =
    let both = and_parts (is_blank x) (list_all is_blank before) blank in
    ap (λ (b : Bool). drop (cond (not (not b)) (1 + blanks (before ++ text)) 0) (x ∷ before ++ text)) both.0
    ∙ (drop_one (blanks (before ++ text)) x (before ++ text) ∙ front_gone before text both.1)

-- blanks in front don't count
pub skip_front : (before text : List ℕ) → AreBlank before → skip_blanks (before ++ text) ≡ skip_blanks text
skip_front before text blank = skip_is (before ++ text) ∙ (front_gone before text blank ∙ sym (skip_is text))
