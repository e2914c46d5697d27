-- The payload of a made cast is squeezed JSON, and short.
use Rattle.std.proofs.Common.{◌≡◌, ℕ, ◌<◌, ◌^◌, List, [], ◌∷◌, ◌++◌, codes, decimal, Some, option_and_then, refl, sym, ap, ◌∙◌, arith, append-nil}
use Rattle.std.proofs.lemmas.Bool.{ne_eqb}
use Rattle.std.proofs.lemmas.Fmt.{decimal_is_IsNumeral}
use Rattle.std.specs.Char.{digit_value}
use Rattle.std.specs.Str.Parse.{AllDigits}
use Rattle.json.specs.Json as json
use Rattle.json.specs.Print.{print, print_from, escape_byte}
use Rattle.json.specs.Tree.{json_tokens}
use Rattle.json.proofs.Printed.Decimals.{IsNumber-decimal}
use Rattle.json.proofs.Printed.Tokens.{tokens-print}
use Rattle.json.proofs.Printed.Trees.{value-json_tokens, ArePrintable-json_tokens}
use Rattle.serde_json.specs.Data.{object, member, no_members, number, unsigned}
use Rattle.serde_json.specs.Read.{read, of_json, max_depth}
use Rattle.serde_json.proofs.Numbers.{number_of-decimal}
use Rattle.cable_base.specs.declared.squeezing.Quoting.TheVariants.{Outside}
use Rattle.cable_base.specs.Squeeze.{squeezed_from, squeezed, IsSqueezedJson}

-- ---- it reads

abbrev place_tree : ℕ → json.Json
place_tree n = json.object (json.member (codes "i") (json.number (decimal n)) json.no_members)

abbrev place_text : ℕ → List ℕ
place_text n = codes "{\"i\":" ++ decimal n ++ codes "}"

place_print : (n : ℕ) → place_text n ≡ print (json_tokens (place_tree n))
unfolding print_from escape_byte
place_print n = refl

place_value : (n : ℕ) → n < 2 ^ 64 → of_json (place_tree n) ≡ Some (object (member (codes "i") (number (unsigned n)) no_members))
place_value n fits = rw (number_of-decimal n fits) refl

read-place : (n : ℕ) → n < 2 ^ 64 → read (place_text n) ≡ Some (object (member (codes "i") (number (unsigned n)) no_members))
read-place n fits =
    ap read (place_print n)
    ∙ ap (λ ts. option_and_then of_json (option_and_then (λ p. json.if_last p.0 p.1) (json.value max_depth ts))) (tokens-print (json_tokens (place_tree n)) (ArePrintable-json_tokens (place_tree n) (IsNumber-decimal n fits, tt)) ∙ sym (append-nil (json_tokens (place_tree n))))
    ∙ ap (λ o. option_and_then of_json (option_and_then (λ p. json.if_last p.0 p.1) o)) (value-json_tokens (place_tree n) max_depth [] (omega arith))
    ∙ place_value n fits

-- ---- it has no white space

digit_apart : (d k : ℕ) → digit_value d < 10 → digit_value k ≡ 36 → d ≡ k → ⊥
digit_apart d k digit is e = let same : digit_value d ≡ 36 = ap digit_value e ∙ is in omega arith

-- a digit is kept, and stands outside strings
digit : (d : ℕ) (rest : List ℕ) → digit_value d < 10 → squeezed_from Outside (d ∷ rest) ≡ d ∷ squeezed_from Outside rest
digit d rest lt =
    rw (ne_eqb d 32 (digit_apart d 32 lt refl), ne_eqb d 9 (digit_apart d 9 lt refl), ne_eqb d 10 (digit_apart d 10 lt refl), ne_eqb d 13 (digit_apart d 13 lt refl), ne_eqb d 34 (digit_apart d 34 lt refl)) refl

digits_stay : (ds rest : List ℕ) → AllDigits 10 ds → squeezed_from Outside (ds ++ rest) ≡ ds ++ squeezed_from Outside rest
digits_stay [] rest h = refl
digits_stay (d ∷ ds) rest h = digit d (ds ++ rest) h.0 ∙ ap (λ (t : List ℕ). d ∷ t) (digits_stay ds rest h.1)

squeezed-place : (n : ℕ) → n < 2 ^ 64 → squeezed (place_text n) ≡ place_text n
squeezed-place n fits = ap (λ (t : List ℕ). codes "{\"i\":" ++ t) (digits_stay (decimal n) (codes "}") (decimal_is_IsNumeral n fits).0.1)

pub IsSqueezedJson-place : (n : ℕ) → n < 2 ^ 64 → IsSqueezedJson (codes "{\"i\":" ++ decimal n ++ codes "}")
IsSqueezedJson-place n fits = record { reads = rw (read-place n fits) refl; whole = squeezed-place n fits }
