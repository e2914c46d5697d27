-- Squeezed text is UTF-8 text: no byte of a character outside ASCII is dropped.
use Rattle.std.proofs.Common.{◌≡◌, ℕ, suc, ◌<◌, ◌≤◌, List, [], ◌∷◌, ◌++◌, length, get_or, Bool, true, false, ◌&&◌, cond, refl, sym, ap, subst, append-nil, arith, inl, inr}
use Rattle.std.specs.Str.{IsUtf8}
use Rattle.std.proofs.lemmas.Str.{IsUtf8-nil, encode_ascii, inside_one}
use Rattle.std.proofs.lemmas.Bool.{cases_lt}
use Rattle.std.proofs.lemmas.Bool.Decides.{nat_tests}
use lib.Utf8.{scalar, scalars, encode, encodes}
use Rattle.cable_base.specs.declared.squeezing.Quoting.{Quoting}
use Rattle.cable_base.specs.declared.squeezing.Quoting.TheVariants.{Outside, Inside, Escaped}
use Rattle.cable_base.specs.Squeeze.{squeezed, squeezed_from, next_quoting, is_kept}

both : (a b : Bool) → (a && b) ≡ true → (a ≡ true) × (b ≡ true)
both true b e = (refl, e)
both false b e = absurd cc

-- one more character before a text
cons_text : (c : ℕ) (bs : List ℕ) → scalar c ≡ true → IsUtf8 bs → IsUtf8 (encode c ++ bs)
cons_text c bs ok u = (c ∷ u.0, (rw (ok, u.1.0) refl, ap (λ (t : List ℕ). encode c ++ t) u.1.1))

-- the bytes of a character that isn't ASCII are no ASCII bytes
high_bytes : (c : ℕ) → 128 ≤ c → (k : ℕ) → k < length (encode c) → 128 ≤ get_or (encode c) k 0
high_bytes c le k lt =
    elim (cases_lt (get_or (encode c) k 0) 128) [
      | inl low ↦ absurd (let e = inside_one c [] (encode c) k (sym (append-nil (encode c))) lt low in omega arith)
      | inr high ↦ high
    ]

kept_high : (p : Quoting) (b : ℕ) → 128 ≤ b → is_kept p b ≡ true
kept_high Outside b le = grind (arith, nat_tests)
kept_high Inside b le = refl
kept_high Escaped b le = refl

-- no such byte is dropped
high_kept : (p : Quoting) (bs rest : List ℕ) → ((k : ℕ) → k < length bs → 128 ≤ get_or bs k 0) → (q : Quoting) × (squeezed_from p (bs ++ rest) ≡ bs ++ squeezed_from q rest)
high_kept p [] rest high = (p, refl)
high_kept p (b ∷ bs) rest high =
    let h = high_kept (next_quoting p b) bs rest (λ k lt. high (suc k) (omega arith)) in
    (h.0, rw (kept_high p b (high 0 (omega arith))) (ap (λ (t : List ℕ). b ∷ t) h.1))

ascii_step : (kept : Bool) (c : ℕ) (bs : List ℕ) → c < 128 → scalar c ≡ true → IsUtf8 bs → IsUtf8 (cond kept (c ∷ bs) bs)
ascii_step true c bs lt ok u = subst (λ (t : List ℕ). IsUtf8 (t ++ bs)) (encode_ascii c lt) (cons_text c bs ok u)
ascii_step false c bs lt ok u = u

squeezed_chars : (p : Quoting) (cs : List ℕ) → scalars cs ≡ true → IsUtf8 (squeezed_from p (encodes cs))
squeezed_chars p [] ok = IsUtf8-nil
squeezed_chars p (c ∷ cs) ok =
    let parts = both (scalar c) (scalars cs) ok in
    elim (cases_lt c 128) [
      | inl lt ↦ subst (λ (t : List ℕ). IsUtf8 (squeezed_from p (t ++ encodes cs))) (sym (encode_ascii c lt))
          (ascii_step (is_kept p c) c (squeezed_from (next_quoting p c) (encodes cs)) lt parts.0 (squeezed_chars (next_quoting p c) cs parts.1))
      | inr le ↦ let h = high_kept p (encode c) (encodes cs) (high_bytes c le) in
          subst IsUtf8 (sym h.1) (cons_text c (squeezed_from h.0 (encodes cs)) parts.0 (squeezed_chars h.0 cs parts.1))
    ]

-- a text stays a text
pub IsUtf8-squeezed : (text : List ℕ) → IsUtf8 text → IsUtf8 (squeezed text)
IsUtf8-squeezed text u = subst (λ (t : List ℕ). IsUtf8 (squeezed t)) u.1.1 (squeezed_chars Outside u.0 u.1.0)
