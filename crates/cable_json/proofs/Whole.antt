-- A text that the server makes has no white space outside strings.
use Rattle.std.proofs.Common.{◌≡◌, ℕ, ◌/◌, ◌%◌, ◌<◌, ◌≤◌, ◌^◌, Bool, true, false, cond, lt-ltb, List, [], ◌∷◌, ◌++◌, codes, decimal, refl, sym, ap, subst, ◌∙◌, arith, append_assoc, append-nil, inl, inr, ◌⊎◌}
use Rattle.std.proofs.lemmas.Bool.{cases_eq, cases_lt, ne_eqb}
use Rattle.std.specs.Prelude.{nat_lt}
use Rattle.std.proofs.lemmas.Str.{digit_value-digit_char}
use Rattle.std.proofs.lemmas.Fmt.{decimal_is_IsNumeral}
use Rattle.std.specs.Char.{digit_value, digit_char}
use Rattle.std.specs.Str.Parse.{AllDigits}
use Rattle.json.specs.Print.{escape_letter, escape_byte, escape, quoted}
use Rattle.json.proofs.Printed.Strings.{escape_byte_plain}
use Rattle.cable_base.specs.declared.squeezing.Quoting.{Quoting}
use Rattle.cable_base.specs.declared.squeezing.Quoting.TheVariants.{Outside, Inside}
use Rattle.cable_base.specs.Squeeze.{squeezed_from, squeezed}
use Rattle.cable_json.specs.declared.reasons.Reason.{Reason}
use Rattle.cable_json.specs.declared.reasons.Reason.TheVariants.{Unauthorized, InvalidRequest, ServerRestart, Remote}
use Rattle.cable_json.specs.Texts.{welcome_text, ping_text, confirm_text, reject_text, disconnect_text}

-- these bytes stay, whatever follows them, and lead from p to q
abbrev Stay : Quoting → List ℕ → Quoting → Type 0
Stay p bs q = (rest : List ℕ) → squeezed_from p (bs ++ rest) ≡ bs ++ squeezed_from q rest

Stay-append : (p q r : Quoting) (a b : List ℕ) → Stay p a q → Stay q b r → Stay p (a ++ b) r
Stay-append p q r a b first second rest =
    ap (squeezed_from p) (append_assoc a b rest) ∙ first (b ++ rest) ∙ ap (λ (t : List ℕ). a ++ t) (second rest) ∙ sym (append_assoc a b (squeezed_from r rest))

-- what stays from its beginning is squeezed
whole : (q : Quoting) (text : List ℕ) → Stay Outside text q → squeezed text ≡ text
whole q text stays = ap squeezed (sym (append-nil text)) ∙ stays [] ∙ append-nil text

-- ---- strings

-- a byte that neither ends a string nor escapes
inside : (x : ℕ) (rest : List ℕ) → (x ≡ 34 → ⊥) → (x ≡ 92 → ⊥) → squeezed_from Inside (x ∷ rest) ≡ x ∷ squeezed_from Inside rest
inside x rest quote backslash = rw (ne_eqb x 34 quote, ne_eqb x 92 backslash) refl

-- a digit is no byte that isn't one
apart : (n k : ℕ) → n < 16 → digit_value k ≡ 36 → digit_char n ≡ k → ⊥
apart n k lt is e = let same : n ≡ 36 = sym (digit_value-digit_char n (omega arith)) ∙ ap digit_value e ∙ is in omega arith

hex : (n : ℕ) (rest : List ℕ) → n < 16 → squeezed_from Inside (digit_char n ∷ rest) ≡ digit_char n ∷ squeezed_from Inside rest
hex n rest lt = inside (digit_char n) rest (apart n 34 lt refl) (apart n 92 lt refl)

-- the escape of a control character, short or long
control : (short : Bool) (letter m n : ℕ) → m < 16 → n < 16 → Stay Inside (cond short (92 ∷ letter ∷ []) (92 ∷ 117 ∷ 48 ∷ 48 ∷ digit_char m ∷ digit_char n ∷ [])) Inside
control true letter m n high low rest = refl
control false letter m n high low rest =
    ap (λ (t : List ℕ). 92 ∷ 117 ∷ 48 ∷ 48 ∷ t) (hex m (digit_char n ∷ rest) high ∙ ap (λ (t : List ℕ). digit_char m ∷ t) (hex n rest low))

Stay-control : (x : ℕ) → x < 32 → Stay Inside (escape_byte x) Inside
unfolding escape_byte
Stay-control x lt = rw (lt-ltb x 32 lt) (control (nat_lt 0 (escape_letter x)) (escape_letter x) (x / 16) (x % 16) (omega arith) (omega arith))

Stay-quote : Stay Inside (escape_byte 34) Inside
unfolding escape_byte
Stay-quote rest = refl

Stay-backslash : Stay Inside (escape_byte 92) Inside
unfolding escape_byte
Stay-backslash rest = refl

Stay-escape_byte : (x : ℕ) → Stay Inside (escape_byte x) Inside
Stay-escape_byte x = by_byte (cases_eq x 34) (cases_eq x 92) (cases_lt x 32)
  where
    by_byte : (x ≡ 34) ⊎ (x ≡ 34 → ⊥) → (x ≡ 92) ⊎ (x ≡ 92 → ⊥) → (x < 32) ⊎ (32 ≤ x) → Stay Inside (escape_byte x) Inside
    by_byte (inl quote) b c = subst (λ (y : ℕ). Stay Inside (escape_byte y) Inside) (sym quote) Stay-quote
    by_byte (inr q) (inl backslash) c = subst (λ (y : ℕ). Stay Inside (escape_byte y) Inside) (sym backslash) Stay-backslash
    by_byte (inr q) (inr b) (inl low) = Stay-control x low
    by_byte (inr q) (inr b) (inr high) = λ rest. rw (escape_byte_plain x q b high) (inside x rest q b)

Stay-escape : (s : List ℕ) → Stay Inside (escape s) Inside
Stay-escape [] = λ rest. refl
Stay-escape (x ∷ s) = Stay-append Inside Inside Inside (escape_byte x) (escape s) (Stay-escape_byte x) (Stay-escape s)

Stay-quoted : (s : List ℕ) → Stay Outside (quoted s) Outside
Stay-quoted s rest = ap (λ (t : List ℕ). 34 ∷ t) (Stay-append Inside Inside Outside (escape s) (34 ∷ []) (Stay-escape s) (λ r. refl) rest)

-- ---- numbers

digit_apart : (d k : ℕ) → digit_value d < 10 → digit_value k ≡ 36 → d ≡ k → ⊥
digit_apart d k digit is e = let same : digit_value d ≡ 36 = ap digit_value e ∙ is in omega arith

digit : (d : ℕ) (rest : List ℕ) → digit_value d < 10 → squeezed_from Outside (d ∷ rest) ≡ d ∷ squeezed_from Outside rest
digit d rest lt =
    rw (ne_eqb d 32 (digit_apart d 32 lt refl), ne_eqb d 9 (digit_apart d 9 lt refl), ne_eqb d 10 (digit_apart d 10 lt refl), ne_eqb d 13 (digit_apart d 13 lt refl), ne_eqb d 34 (digit_apart d 34 lt refl)) refl

Stay-digits : (ds : List ℕ) → AllDigits 10 ds → Stay Outside ds Outside
Stay-digits [] h rest = refl
Stay-digits (d ∷ ds) h rest = digit d (ds ++ rest) h.0 ∙ ap (λ (t : List ℕ). d ∷ t) (Stay-digits ds h.1 rest)

-- ---- the texts

pub squeezed-welcome : squeezed welcome_text ≡ welcome_text
squeezed-welcome = refl

pub squeezed-ping : (seconds : ℕ) → seconds < 2 ^ 64 → squeezed (ping_text seconds) ≡ ping_text seconds
squeezed-ping seconds fits =
    whole Outside (ping_text seconds)
    (Stay-append Outside Outside Outside (codes "{\"type\":\"ping\",\"message\":" ++ decimal seconds) (codes "}")
    (Stay-append Outside Outside Outside (codes "{\"type\":\"ping\",\"message\":") (decimal seconds) (λ rest. refl) (Stay-digits (decimal seconds) (decimal_is_IsNumeral seconds fits).0.1)) (λ rest. refl))

-- the text of an answer, up to its identifier's end
Stay-identifier : (identifier : List ℕ) → Stay Outside (codes "{\"identifier\":" ++ quoted identifier) Outside
Stay-identifier identifier = Stay-append Outside Outside Outside (codes "{\"identifier\":") (quoted identifier) (λ rest. refl) (Stay-quoted identifier)

pub squeezed-confirm : (identifier : List ℕ) → squeezed (confirm_text identifier) ≡ confirm_text identifier
squeezed-confirm identifier =
    whole Outside (confirm_text identifier)
    (Stay-append Outside Outside Outside (codes "{\"identifier\":" ++ quoted identifier) (codes ",\"type\":\"confirm_subscription\"}") (Stay-identifier identifier) (λ rest. refl))

pub squeezed-reject : (identifier : List ℕ) → squeezed (reject_text identifier) ≡ reject_text identifier
squeezed-reject identifier =
    whole Outside (reject_text identifier)
    (Stay-append Outside Outside Outside (codes "{\"identifier\":" ++ quoted identifier) (codes ",\"type\":\"reject_subscription\"}") (Stay-identifier identifier) (λ rest. refl))

pub squeezed-disconnect : (reason : Reason) (reconnect : Bool) → squeezed (disconnect_text reason reconnect) ≡ disconnect_text reason reconnect
squeezed-disconnect Unauthorized true = refl
squeezed-disconnect Unauthorized false = refl
squeezed-disconnect InvalidRequest true = refl
squeezed-disconnect InvalidRequest false = refl
squeezed-disconnect ServerRestart true = refl
squeezed-disconnect ServerRestart false = refl
squeezed-disconnect Remote true = refl
squeezed-disconnect Remote false = refl
