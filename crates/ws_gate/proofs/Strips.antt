-- What `strip_prefix` gives at a text, in the words of `starts_with`.
use Rattle.std.proofs.Common.{◌≡◌, ℕ, eqb, Bool, false, cond, List, length, drop, Option, Some, None, option_map, MatchOption, Bor, refl, sym, ap, ◌∙◌}
use Rattle.std.specs.List.{starts_with}
use Rattle.std.specs.Str.Pattern.{FindsTextPrefix, StripsPrefix}
use Rattle.std.proofs.lemmas.Bool.Decides.{Decides-eqb}
use Rattle.std.proofs.lemmas.Slice.Eq.{starts_is}
use Rattle.std.proofs.lemmas.Str.Pattern.{starts_text}

abbrev stripped_by : List ℕ → List ℕ → Bool → Option (List ℕ)
stripped_by front text b = cond b (Some (drop (length front) text)) None

pub stripped : (front text : List ℕ) (r : Option (Bor (List ℕ))) → MatchOption r (FindsTextPrefix front text None) (λ x. StripsPrefix (FindsTextPrefix front) text x.now)
    → option_map (λ x. x.now) r ≡ cond (starts_with eqb text front) (Some (drop (length front) text)) None
stripped front text None h = ap (stripped_by front text) (starts_text false front text h)
stripped front text (Some x) h =
    let begins = (starts_is Decides-eqb text front (starts_with eqb text front) refl).1 (drop h.0 text) h.1.1 in
    let rest : x.now ≡ drop (length front) text = h.2 ∙ ap (λ (k : ℕ). drop k text) h.1.0 in
    ap (λ (t : List ℕ). Some t) rest ∙ sym (ap (stripped_by front text) begins)
