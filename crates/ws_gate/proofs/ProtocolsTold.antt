-- The protocol of a header is the one that it lists.
use Rattle.std.proofs.Common.{◌≡◌, ℕ, Bool, true, false, true≢false, ◌&&◌, cond, List, ◌∷◌, ◌++◌, length, take, drop, bytes_eq, Option, Some, None, refl, sym, ap, subst, ◌∙◌}
use Rattle.std.specs.List.{list_any, list_all, slice_split}
use Rattle.std.proofs.lemmas.Bool.{and_parts}
use Rattle.std.proofs.lemmas.List.{take_at, drop_at, take-append-drop}
use Rattle.std.proofs.lemmas.Slice.Eq.{bytes_eq-Decides}
use Rattle.ws_gate.specs.declared.verdicts.Protocol.{Protocol}
use Rattle.ws_gate.specs.declared.verdicts.Protocol.TheVariants as protocol
use Rattle.ws_gate.specs.Parts.{IsCutAt}
use Rattle.ws_gate.specs.Protocols.{is_comma, is_blank, v1_name, unsupported_name, skip_blanks, is_named, lists, protocol_in, protocol_of, AreBlank, Lists, IsChosen, IsProtocolOf}
use Rattle.ws_gate.proofs.Cuts.{is_cut, split_is}
use Rattle.ws_gate.proofs.Finding.{any_first, any_at}
use Rattle.ws_gate.proofs.Blanks.{skip_is, skipped, skip_front}

-- ---- a part that is a name with blanks around it

record IsPadded (name part : List ℕ) : Type 0 where
  pub before : List ℕ
  pub after : List ℕ
  pub parts : part ≡ before ++ (name ++ after)
  pub blank_before : AreBlank before
  pub blank_after : AreBlank after

padded : (name part : List ℕ) → is_named name part ≡ true → IsPadded name part
padded name part e =
    let left = skip_blanks part in
    let n = length name in
    let both = and_parts (bytes_eq (take n left) name) (list_all is_blank (drop n left)) e in
    let front = skipped part in
    let here : take n left ≡ name = (bytes_eq-Decides (take n left) name).0 both.0 in
    let whole : left ≡ name ++ drop n left = sym (take-append-drop n left) ∙ ap (λ (t : List ℕ). t ++ drop n left) here in
    record {
      before = front.0;
      after = drop n left;
      parts = front.2 ∙ ap (λ (t : List ℕ). front.0 ++ t) whole;
      blank_before = front.1;
      blank_after = both.1;
    }

-- the name has no blank in front
abbrev Begins : List ℕ → Type 0
Begins name = (rest : List ℕ) → skip_blanks (name ++ rest) ≡ name ++ rest

named : (name before after : List ℕ) → Begins name → AreBlank before → AreBlank after → is_named name (before ++ (name ++ after)) ≡ true
named name before after begins blank_before blank_after =
    let n = length name in
    let left : skip_blanks (before ++ (name ++ after)) ≡ name ++ after = skip_front before (name ++ after) blank_before ∙ begins after in
    ap (λ (t : List ℕ). bytes_eq (take n t) name && list_all is_blank (drop n t)) left
    ∙ (ap (λ (t : List ℕ). bytes_eq t name && list_all is_blank (drop n (name ++ after))) (take_at name after n refl)
    ∙ (ap (λ (b : Bool). b && list_all is_blank (drop n (name ++ after))) ((bytes_eq-Decides name name).1 refl)
    ∙ (ap (list_all is_blank) (drop_at name after n refl) ∙ blank_after)))

-- ---- a header that lists a name

listed : (name header : List ℕ) → lists name header ≡ true → Lists name header
listed name header e =
    let found = any_first (is_named name) (slice_split is_comma header) e in
    let is = found.1 in
    let pad = padded name found.0 is.passes in
    record {
      earlier = is.earlier;
      before = pad.before;
      after = pad.after;
      later = is.later;
      cut = subst (λ (p : List ℕ). IsCutAt 44 header (is.earlier ++ p ∷ is.later)) pad.parts (subst (λ (ps : List (List ℕ)). IsCutAt 44 header ps) is.parts (is_cut 44 header));
      blank_before = pad.blank_before;
      blank_after = pad.blank_after;
    }

lists_it : (name header : List ℕ) → Begins name → Lists name header → lists name header ≡ true
lists_it name header begins is =
    let part = is.before ++ (name ++ is.after) in
    ap (list_any (is_named name)) (split_is 44 header is.earlier part is.later is.cut)
    ∙ any_at (is_named name) is.earlier part is.later (named name is.before is.after begins is.blank_before is.blank_after)

unlisted : (name header : List ℕ) → Begins name → lists name header ≡ false → ¬ Lists name header
unlisted name header begins e is = true≢false (sym (lists_it name header begins is) ∙ e)

lists_not : (name header : List ℕ) → ¬ Lists name header → lists name header ≡ false
lists_not name header none = by_test (lists name header) refl
  where
    by_test : (b : Bool) → lists name header ≡ b → lists name header ≡ false
    by_test true e = absurd (none (listed name header e))
    by_test false e = e

v1_begins : Begins v1_name
v1_begins rest = skip_is (v1_name ++ rest)

unsupported_begins : Begins unsupported_name
unsupported_begins rest = skip_is (unsupported_name ++ rest)

-- ---- both ways

abbrev chosen : Bool → Bool → Option Protocol
chosen v1 unsupported = cond v1 (Some protocol.V1) (cond unsupported (Some protocol.Unsupported) None)

protocol_is_chosen : (header : List ℕ) → protocol_in header ≡ chosen (lists v1_name header) (lists unsupported_name header)
unfolding protocol_in
protocol_is_chosen header = refl

told : (header : List ℕ) (a b : Bool) → lists v1_name header ≡ a → lists unsupported_name header ≡ b → IsChosen (chosen a b) header
told header true b v1 unsupported = listed v1_name header v1
told header false true v1 unsupported = (unlisted v1_name header v1_begins v1, listed unsupported_name header unsupported)
told header false false v1 unsupported = (unlisted v1_name header v1_begins v1, unlisted unsupported_name header unsupported_begins unsupported)

same_choice : (a b c d : Bool) → a ≡ c → b ≡ d → chosen a b ≡ chosen c d
same_choice a b c d e f = ap (λ (t : Bool). chosen t b) e ∙ ap (λ (t : Bool). chosen c t) f

only : (header : List ℕ) (p : Option Protocol) → IsChosen p header → chosen (lists v1_name header) (lists unsupported_name header) ≡ p
only header (Some protocol.V1) is = ap (λ (t : Bool). chosen t (lists unsupported_name header)) (lists_it v1_name header v1_begins is)
only header (Some protocol.Unsupported) is =
    same_choice (lists v1_name header) (lists unsupported_name header) false true (lists_not v1_name header is.0) (lists_it unsupported_name header unsupported_begins is.1)
only header None is =
    same_choice (lists v1_name header) (lists unsupported_name header) false false (lists_not v1_name header is.0) (lists_not unsupported_name header is.1)

pub protocol_is : (header : Option (List ℕ)) → IsProtocolOf (protocol_of header) header
protocol_is None = refl
protocol_is (Some header) =
    subst (λ (p : Option Protocol). IsChosen p header) (sym (protocol_is_chosen header)) (told header (lists v1_name header) (lists unsupported_name header) refl refl)

pub protocol_only : (header : Option (List ℕ)) (p : Option Protocol) → IsProtocolOf p header → protocol_of header ≡ p
protocol_only None p is = sym is
protocol_only (Some header) p is = protocol_is_chosen header ∙ only header p is
