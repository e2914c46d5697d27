-- The broadcasts of several answers, walked one answer after another.
use Rattle.std.proofs.Common.{ℕ, ◌+◌, ◌≡◌, ◌<◌, Bool, true, false, cond, List, [], ◌∷◌, ◌++◌, length, map, get_or, take, ltb, is_none, Some, None, Option, Result, Ok, Err, refl, ap, sym, subst, ◌∙◌, append_assoc}
use Rattle.std.specs.List.{All, flat_map}
use Rattle.std.specs.Prelude.{slice_index_or}
use Rattle.std.proofs.lemmas.Bool.{ltb-false}
use Rattle.std.proofs.lemmas.List.{append-nil, map-append, take_more}
use Rattle.std.proofs.lemmas.List.Elements.{All-append, All-filter, All-nil, filter-append, filter_map-append, filter_passes}
use Rattle.std.proofs.lemmas.Grind.{flat_map-append}
use Rattle.cable_base.specs.Names.{is_reserved}
use Rattle.cable_base.specs.Squeeze.{IsSqueezedJson}
use Rattle.channel_book.specs.Calls.{SpeaksJson}
use Rattle.channel_book.specs.declared.answers.Answer.{Answer}
use Rattle.channel_book.specs.declared.answers.Cast.{Cast}
use Rattle.channel_book.specs.declared.answers.CallFault.{CallFault}
use Rattle.cable_model.specs.declared.notes.Note.{Note}
use Rattle.cable_model.specs.Limits.{CanBeRow, most_name, most_payload}
use Rattle.cable_model.specs.Plans.{cast_note, kept_casts, cast_notes, casts_left, notes_left}
use Rattle.conn_core.specs.Payloads.{AreCommittable}

pub kept_append : (xs ys : List Cast) → kept_casts (xs ++ ys) ≡ kept_casts xs ++ kept_casts ys
kept_append xs ys = filter-append _ xs ys

pub notes_append : (xs ys : List Cast) → cast_notes (xs ++ ys) ≡ cast_notes xs ++ cast_notes ys
notes_append xs ys = filter_map-append cast_note xs ys

pub notes_both : (why : List Note) (xs ys : List Cast) → (why ++ cast_notes xs) ++ cast_notes ys ≡ why ++ cast_notes (xs ++ ys)
notes_both why xs ys = append_assoc why (cast_notes xs) (cast_notes ys) ∙ ap (λ ns. why ++ ns) (sym (notes_append xs ys))

-- what one more identifier gives, for each of the lists that are made of them
more : {Y : Type 0} (g : Result Answer CallFault → List Y) (f : List ℕ → Result Answer CallFault) (xs : List (List ℕ)) (i : ℕ) (x : List ℕ) → i < length xs → x ≡ get_or xs i x
    → flat_map g (map f (take (i + 1) xs)) ≡ flat_map g (map f (take i xs)) ++ g (f x)
more {Y} g f xs i x l e =
    let one : take (i + 1) xs ≡ take i xs ++ x ∷ [] = take_more xs i x l ∙ ap (λ y. take i xs ++ y ∷ []) (sym e) in
    rw (one, map-append) (flat_map-append g (map f (take i xs)) (f x ∷ []) ∙ ap (λ ys. flat_map g (map f (take i xs)) ++ ys) (append-nil (g (f x))))

pub kept-more : (f : List ℕ → Result Answer CallFault) (xs : List (List ℕ)) (i : ℕ) (x : List ℕ) (old new : List Cast) → i < length xs → x ≡ get_or xs i x
    → old ≡ kept_casts (flat_map casts_left (map f (take i xs))) → new ≡ old ++ kept_casts (casts_left (f x)) → new ≡ kept_casts (flat_map casts_left (map f (take (i + 1) xs)))
kept-more f xs i x old new l e o n =
    n ∙ (ap (λ cs. cs ++ kept_casts (casts_left (f x))) o ∙ (sym (kept_append (flat_map casts_left (map f (take i xs))) (casts_left (f x))) ∙ ap kept_casts (sym (more casts_left f xs i x l e))))

pub notes-more : (f : List ℕ → Result Answer CallFault) (xs : List (List ℕ)) (i : ℕ) (x : List ℕ) (old new : List Note) → i < length xs → x ≡ get_or xs i x
    → old ≡ cast_notes (flat_map casts_left (map f (take i xs))) → new ≡ old ++ cast_notes (casts_left (f x)) → new ≡ cast_notes (flat_map casts_left (map f (take (i + 1) xs)))
notes-more f xs i x old new l e o n =
    n ∙ (ap (λ cs. cs ++ cast_notes (casts_left (f x))) o ∙ (sym (notes_append (flat_map casts_left (map f (take i xs))) (casts_left (f x))) ∙ ap cast_notes (sym (more casts_left f xs i x l e))))

pub faults-more : (f : List ℕ → Result Answer CallFault) (xs : List (List ℕ)) (i : ℕ) (x : List ℕ) (old new : List Note) → i < length xs → x ≡ get_or xs i x
    → old ≡ flat_map notes_left (map f (take i xs)) → new ≡ old ++ notes_left (f x) → new ≡ flat_map notes_left (map f (take (i + 1) xs))
faults-more f xs i x old new l e o n = n ∙ (ap (λ ns. ns ++ notes_left (f x)) o ∙ sym (more notes_left f xs i x l e))

-- ---- what is kept can be committed

-- a broadcast without a note is within the limits
unnoted : (r n p : Bool) (a b c : Note) → is_none (cond r (Some a) (cond n (Some b) (cond p (Some c) None))) ≡ true → (n ≡ false) × (p ≡ false)
unnoted true n p a b c e = absurd cc
unnoted false true p a b c e = absurd cc
unnoted false false true a b c e = absurd cc
unnoted false false false a b c e = (refl, refl)

can-be-row : (c : Cast) → is_none (cast_note c) ≡ true → IsSqueezedJson c.payload → CanBeRow c.channel c.payload
can-be-row c e json =
    let within = unnoted (is_reserved c.channel) (ltb most_name (length c.channel)) (ltb most_payload (length c.payload)) _ _ _ e in
    record { channel_len = ltb-false _ _ within.0; payload_len = ltb-false _ _ within.1; message = json }

pub kept_committable : (casts : List Cast) → All (λ (c : Cast). IsSqueezedJson c.payload) casts → AreCommittable (kept_casts casts)
kept_committable casts json =
    λ k d l. can-be-row (slice_index_or (kept_casts casts) k d) (filter_passes (λ c. is_none (cast_note c)) casts k d l) (All-filter (λ c. is_none (cast_note c)) (λ (c : Cast). IsSqueezedJson c.payload) casts json k d l)

pub both_committable : (xs ys : List Cast) → AreCommittable xs → AreCommittable ys → AreCommittable (xs ++ ys)
both_committable xs ys = All-append (λ (c : Cast). CanBeRow c.channel c.payload) xs ys

pub none_committable : AreCommittable []
none_committable = All-nil (λ (c : Cast). CanBeRow c.channel c.payload)

-- those of an answer, where none was kept before
pub first_committable : (casts old new : List Cast) → old ≡ [] → new ≡ old ++ kept_casts casts → All (λ (c : Cast). IsSqueezedJson c.payload) casts → AreCommittable new
first_committable casts old new none e json = subst AreCommittable (sym (e ∙ ap (λ cs. cs ++ kept_casts casts) none)) (kept_committable casts json)

-- what an answer of `unsubscribed` leaves
pub left_committable : (left : Result Answer CallFault) (answer : Answer) → left ≡ Ok answer → SpeaksJson answer → AreCommittable (kept_casts (casts_left left))
left_committable left answer e json = subst (λ (r : Result Answer CallFault). AreCommittable (kept_casts (casts_left r))) (sym e) (kept_committable answer.casts json.casts)

pub more_committable : (old more new : List Cast) → AreCommittable old → new ≡ old ++ more → AreCommittable more → AreCommittable new
more_committable old more new h e m = subst AreCommittable (sym e) (both_committable old more h m)
