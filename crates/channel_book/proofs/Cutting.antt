-- A template is text and names in braces: what is cut at the braces is all of the text, and each such text is cut so.
use Rattle.std.proofs.Common.{◌≡◌, ℕ, suc, ◌+◌, ◌<◌, Bool, true, false, not, cond, ◌&&◌, ◌||◌, List, [], ◌∷◌, ◌++◌, length, drop, Option, Some, None, refl, sym, ap, subst, ◌∙◌, arith, append-nil, inl, inr, ◌⊎◌}
use Rattle.std.specs.Prelude.{nat_lt, bytes_eq, codes, flat_map, option_map, option_and_then}
use Rattle.std.specs.List.{list_any, slice_split, onto_first, join_with_byte, position_or_len, before_first, after_first}
use Rattle.std.proofs.lemmas.Bool.{and_parts, ltb-true, lt-ltb}
use Rattle.std.proofs.lemmas.Option.{cond_some}
use Rattle.std.proofs.lemmas.List.{length-append, take_at}
use Rattle.std.proofs.lemmas.List.Folds.{list_any-append}
use Rattle.std.proofs.lemmas.List.Splits.{slice_split-cons_yes, slice_split-cons_no, slice_split_first, length-slice_split, join_with_byte-slice_split}
use Rattle.std.proofs.lemmas.Slice.Eq.{bytes_eq-Decides}
use Rattle.serde_json.specs.Data.{Data}
use Rattle.channel_book.specs.declared.templates.Slot.{Slot}
use Rattle.channel_book.specs.declared.templates.Template.{Template}
use Rattle.channel_book.specs.Templates.{opens, closes, is_known, around_close, slot_with, slot_of, slots_of, template_with, template_of, slot_text, IsPlain, IsSlot, AreSlots, ArePlain, IsTemplate, filling}

either_false : (a b : Bool) → (a || b) ≡ false → (a ≡ false) × (b ≡ false)
either_false true b e = absurd cc
either_false false b e = (refl, e)

false_unless : (b : Bool) → not b ≡ true → b ≡ false
false_unless true e = absurd cc
false_unless false e = refl

-- ---- what is read

join_more : (c : ℕ) (x : List ℕ) (parts : List (List ℕ)) → 0 < length parts → join_with_byte c (x ∷ parts) ≡ x ++ c ∷ join_with_byte c parts
join_more c x [] some = absurd (omega arith)
join_more c x (y ∷ parts) some = refl

-- a text is what stands before its first `}`, that, and what stands behind it
closed_is : (text n r : List ℕ) → around_close text ≡ Some (n, r) → text ≡ n ++ 125 ∷ r
closed_is text n r e =
    let c = cond_some (nat_lt (position_or_len closes text) (length text)) (before_first closes text, after_first closes text) (n, r) e in
    let within : position_or_len closes text < length text = ltb-true (position_or_len closes text) (length text) c.0 in
    let rest = slice_split closes (after_first closes text) in
    let some : 0 < length rest = omega (arith, length-slice_split closes (after_first closes text)) in
    let joined : text ≡ before_first closes text ++ 125 ∷ after_first closes text =
    sym (join_with_byte-slice_split 125 text) ∙ ap (join_with_byte 125) (slice_split_first closes text 0 within) ∙ join_more 125 (before_first closes text) rest some
    ∙ ap (λ (t : List ℕ). before_first closes text ++ 125 ∷ t) (join_with_byte-slice_split 125 (after_first closes text)) in
    subst (λ (p : List ℕ × List ℕ). text ≡ p.0 ++ 125 ∷ p.1) c.1 joined

-- the parts have no `{`
abbrev AreFree : List (List ℕ) → Type 0
AreFree [] = Unit {0}
AreFree (p ∷ ps) = (list_any opens p ≡ false) × AreFree ps

onto_free : (x : ℕ) (ps : List (List ℕ)) → opens x ≡ false → AreFree ps → AreFree (onto_first x ps)
onto_free x [] e h = (rw e refl, tt)
onto_free x (p ∷ ps) e h = (rw e h.0, h.1)

parts_free : (xs : List ℕ) → AreFree (slice_split opens xs)
parts_free [] = (refl, tt)
parts_free (x ∷ xs) = by_byte (opens x) refl (parts_free xs)
  where
    by_byte : (b : Bool) → opens x ≡ b → AreFree (slice_split opens xs) → AreFree (cond b ([] ∷ slice_split opens xs) (onto_first x (slice_split opens xs)))
    by_byte true e again = (refl, again)
    by_byte false e again = onto_free x (slice_split opens xs) e again

-- a slot that is read is its part
slot_is : (names : List (List ℕ)) (part : List ℕ) (slot : Slot) → list_any opens part ≡ false → slot_of names part ≡ Some slot → (part ≡ slot.name ++ 125 ∷ slot.rest) × IsSlot names slot
slot_is names part slot free e = by_cut (around_close part) refl e
  where
    by_cut : (o : Option (List ℕ × List ℕ)) → around_close part ≡ o → option_and_then (λ p. slot_with names p.0 p.1) o ≡ Some slot → (part ≡ slot.name ++ 125 ∷ slot.rest) × IsSlot names slot
    by_cut None is e = absurd cc
    by_cut (Some (n, r)) is e =
        let c = cond_some (is_known names n && not (list_any closes r)) (record { name = n; rest = r }) slot e in
        let both = and_parts (is_known names n) (not (list_any closes r)) c.0 in
        let cut : part ≡ n ++ 125 ∷ r = closed_is part n r is in
        let split : (list_any opens n || list_any opens (125 ∷ r)) ≡ false = sym (list_any-append opens n (125 ∷ r)) ∙ ap (list_any opens) (sym cut) ∙ free in
        let plain : list_any opens r ≡ false = (either_false (list_any opens n) (list_any opens r) split).1 in
        subst (λ (s : Slot). (part ≡ s.name ++ 125 ∷ s.rest) × IsSlot names s) c.1 (cut, record { known = both.0; plain = (plain, false_unless (list_any closes r) both.1) })

abbrev opened : List (List ℕ) → List ℕ
opened parts = flat_map (λ (p : List ℕ). 123 ∷ p) parts

slots_are : (names : List (List ℕ)) (parts : List (List ℕ)) (slots : List Slot) → AreFree parts → slots_of names parts ≡ Some slots → (opened parts ≡ flat_map slot_text slots) × AreSlots names slots
slots_are names [] slots free e = let none : [] ≡ slots = cc in subst (λ (ss : List Slot). (opened [] ≡ flat_map slot_text ss) × AreSlots names ss) none (refl, tt)
slots_are names (part ∷ parts) slots free e = by_slot (slot_of names part) refl (slots_of names parts) refl (λ ss. slots_are names parts ss free.1) e
  where
    by_slot : (o : Option Slot) → slot_of names part ≡ o → (more : Option (List Slot)) → slots_of names parts ≡ more
        → ((ss : List Slot) → slots_of names parts ≡ Some ss → (opened parts ≡ flat_map slot_text ss) × AreSlots names ss)
        → option_and_then (λ slot. option_map (λ ss. slot ∷ ss) more) o ≡ Some slots → (opened (part ∷ parts) ≡ flat_map slot_text slots) × AreSlots names slots
    by_slot None is more mis again e = absurd cc
    by_slot (Some slot) is None mis again e = absurd cc
    by_slot (Some slot) is (Some ss) mis again e =
        let here = slot_is names part slot free.0 is in
        let behind = again ss mis in
        let all : slot ∷ ss ≡ slots = cc in
        subst (λ (xs : List Slot). (opened (part ∷ parts) ≡ flat_map slot_text xs) × AreSlots names xs) all
        (ap (λ (t : List ℕ). (123 ∷ t) ++ opened parts) here.0 ∙ ap (λ (t : List ℕ). slot_text slot ++ t) behind.0, (here.1, behind.1))

join_opened : (head : List ℕ) (parts : List (List ℕ)) → join_with_byte 123 (head ∷ parts) ≡ head ++ opened parts
join_opened head [] = sym (append-nil head)
join_opened head (part ∷ parts) = ap (λ (t : List ℕ). head ++ 123 ∷ t) (join_opened part parts)

-- what is read as a template is written as one
pub template_is : (names : List (List ℕ)) (text : List ℕ) (t : Template) → template_of names text ≡ Some t → IsTemplate names text t
template_is names text t e = by_parts (slice_split opens text) (join_with_byte-slice_split 123 text) (parts_free text) e
  where
    by_parts : (parts : List (List ℕ)) → join_with_byte 123 parts ≡ text → AreFree parts → template_with names text parts ≡ Some t → IsTemplate names text t
    by_parts [] joined free e = absurd cc
    by_parts (head ∷ parts) joined free e = by_head (list_any closes head) refl e
      where
        by_slots : (more : Option (List Slot)) → slots_of names parts ≡ more → list_any closes head ≡ false → option_map (λ slots. record { text = text; head = head; slots = slots }) more ≡ Some t → IsTemplate names text t
        by_slots None is plain e = absurd cc
        by_slots (Some slots) is plain e =
            let all = slots_are names parts slots free.1 is in
            let same : record { text = text; head = head; slots = slots } ≡ t = cc in
            subst (IsTemplate names text) same
            (record {
              kept = refl;
              written = ap (λ (u : List ℕ). head ++ u) (sym all.0) ∙ sym (join_opened head parts) ∙ joined;
              head = (free.0, plain);
              slots = all.1;
            })

        by_head : (b : Bool) → list_any closes head ≡ b → cond b None (option_map (λ slots. record { text = text; head = head; slots = slots }) (slots_of names parts)) ≡ Some t → IsTemplate names text t
        by_head true plain e = absurd cc
        by_head false plain e = by_slots (slots_of names parts) refl plain e

-- ---- what is written

split_at : (p : ℕ → Bool) (xs : List ℕ) (y : ℕ) (ys : List ℕ) → list_any p xs ≡ false → p y ≡ true → slice_split p (xs ++ y ∷ ys) ≡ xs ∷ slice_split p ys
split_at p [] y ys none is = slice_split-cons_yes p y ys is
split_at p (x ∷ xs) y ys none is =
    let e = either_false (p x) (list_any p xs) none in
    slice_split-cons_no p x (xs ++ y ∷ ys) e.0 ∙ ap (onto_first x) (split_at p xs y ys e.1 is)

split_none : (p : ℕ → Bool) (xs : List ℕ) → list_any p xs ≡ false → slice_split p xs ≡ xs ∷ []
split_none p [] none = refl
split_none p (x ∷ xs) none =
    let e = either_false (p x) (list_any p xs) none in
    slice_split-cons_no p x xs e.0 ∙ ap (onto_first x) (split_none p xs e.1)

-- what stands behind the `{` of a slot
abbrev inside : Slot → List ℕ
inside slot = slot.name ++ 125 ∷ slot.rest

abbrev insides : List Slot → List (List ℕ)
insides [] = []
insides (slot ∷ slots) = inside slot ∷ insides slots

-- no name has a brace
abbrev ArePlainNames : List Slot → Type 0
ArePlainNames [] = Unit {0}
ArePlainNames (slot ∷ slots) = IsPlain slot.name × ArePlainNames slots

inside_free : (slot : Slot) → IsPlain slot.name → IsPlain slot.rest → list_any opens (inside slot) ≡ false
inside_free slot name rest = list_any-append opens slot.name (125 ∷ slot.rest) ∙ rw (name.0, rest.0) refl

split_slots : (names : List (List ℕ)) (head : List ℕ) (slots : List Slot) → list_any opens head ≡ false → AreSlots names slots → ArePlainNames slots → slice_split opens (head ++ flat_map slot_text slots) ≡ head ∷ insides slots
split_slots names head [] free are plain = ap (slice_split opens) (append-nil head) ∙ split_none opens head free
split_slots names head (slot ∷ slots) free are plain =
    split_at opens head 123 (inside slot ++ flat_map slot_text slots) free refl
    ∙ ap (λ (ps : List (List ℕ)). head ∷ ps) (split_slots names (inside slot) slots (inside_free slot plain.0 are.0.plain) are.1 plain.1)

-- a name without a `}` is cut off at the one behind it
closed_at : (n r : List ℕ) → list_any closes n ≡ false → around_close (n ++ 125 ∷ r) ≡ Some (n, r)
closed_at n r none =
    let place : position_or_len closes (n ++ 125 ∷ r) ≡ length n = at_close n r none in
    let within : nat_lt (length n) (length (n ++ 125 ∷ r)) ≡ true = lt-ltb (length n) (length (n ++ 125 ∷ r)) (omega (arith, length-append n (125 ∷ r))) in
    rw (place, within, take_at n (125 ∷ r) (length n) refl, behind n r) refl
  where
    at_close : (n r : List ℕ) → list_any closes n ≡ false → position_or_len closes (n ++ 125 ∷ r) ≡ length n
    at_close [] r e = refl
    at_close (b ∷ n) r e = let h = either_false (closes b) (list_any closes n) e in rw (h.0, at_close n r h.1) (omega arith)

    behind : (n r : List ℕ) → drop (length n + 1) (n ++ 125 ∷ r) ≡ r
    behind [] r = refl
    behind (b ∷ n) r = let e : length (b ∷ n) + 1 ≡ suc (length n + 1) = omega arith in rw e (behind n r)

slot_read : (names : List (List ℕ)) (slot : Slot) → IsPlain slot.name → IsSlot names slot → slot_of names (inside slot) ≡ Some slot
slot_read names slot name is = rw (closed_at slot.name slot.rest name.1, is.known, is.plain.1) refl

slots_read : (names : List (List ℕ)) (slots : List Slot) → AreSlots names slots → ArePlainNames slots → slots_of names (insides slots) ≡ Some slots
slots_read names [] are plain = refl
slots_read names (slot ∷ slots) are plain = rw (slot_read names slot plain.0 are.0, slots_read names slots are.1 plain.1) refl

pair_is : (b c : Bool) → (b || c) ≡ true → (b ≡ true) ⊎ (c ≡ true)
pair_is true c e = inl refl
pair_is false c e = inr e

among_plain : (names : List (List ℕ)) (name : List ℕ) → ArePlain names → list_any (λ n. bytes_eq n name) names ≡ true → IsPlain name
among_plain [] name plain e = absurd cc
among_plain (n ∷ names) name plain e =
    elim (pair_is (bytes_eq n name) (list_any (λ m. bytes_eq m name) names) e) [
      | inl same ↦ subst IsPlain ((bytes_eq-Decides n name).0 same) plain.0
      | inr more ↦ among_plain names name plain.1 more
    ]

known_plain : (names : List (List ℕ)) (name : List ℕ) → ArePlain names → is_known names name ≡ true → IsPlain name
known_plain names name plain e =
    elim (pair_is (bytes_eq name (codes "user")) (list_any (λ n. bytes_eq n name) names) e) [
      | inl user ↦ subst IsPlain (sym ((bytes_eq-Decides name (codes "user")).0 user)) (refl, refl)
      | inr more ↦ among_plain names name plain more
    ]

names_plain : (names : List (List ℕ)) (slots : List Slot) → ArePlain names → AreSlots names slots → ArePlainNames slots
names_plain names [] plain are = tt
names_plain names (slot ∷ slots) plain are = (known_plain names slot.name plain are.0.known, names_plain names slots plain are.1)

-- what is written as a template is read as one
pub template_read : (names : List (List ℕ)) (text : List ℕ) (t : Template) → ArePlain names → IsTemplate names text t → template_of names text ≡ Some t
template_read names text t plain is =
    let cut : slice_split opens text ≡ t.head ∷ insides t.slots = ap (slice_split opens) (sym is.written) ∙ split_slots names t.head t.slots is.head.0 is.slots (names_plain names t.slots plain is.slots) in
    let slots = slots_read names t.slots is.slots (names_plain names t.slots plain is.slots) in
    rw (cut, is.head.1, slots) (ap (λ (u : List ℕ). Some (record { text = u; head = t.head; slots = t.slots })) (sym is.kept))

-- ---- text without braces

pub plain_read : (names : List (List ℕ)) (text : List ℕ) → IsPlain text → template_of names text ≡ Some (record { text = text; head = text; slots = [] })
plain_read names text plain = rw (split_none opens text plain.0, plain.1) refl

pub plain_filled : (names : List (List ℕ)) (text user : List ℕ) (identifier : Data) → IsPlain text → option_map (filling user identifier) (template_of names text) ≡ Some text
plain_filled names text user identifier plain = rw (plain_read names text plain) (ap (λ (t : List ℕ). Some t) (append-nil text))
