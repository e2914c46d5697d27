-- The streams that are known while those that a callback asks for are walked.
use Rattle.std.proofs.Common.{ℕ, zero, suc, ◌+◌, ◌≡◌, ◌<◌, ◌≤◌, Bool, true, false, cond, not, ◌&&◌, ◌||◌, List, [], ◌∷◌, ◌++◌, length, get_or, drop, take, Some, None, Option, refl, ap, sym, subst, ◌∙◌, arith, option_to_list, is_none, append_assoc}
use Rattle.std.specs.List.{filter, list_any}
use Rattle.std.specs.Str.{bytes_eq}
use Rattle.std.proofs.Math.Seq.{drop-cons}
use Rattle.std.proofs.Common.{add-one}
use Rattle.std.proofs.lemmas.List.{append-nil, length-append}
use Rattle.std.proofs.lemmas.List.Folds.{list_any-append}
use Rattle.std.proofs.lemmas.Slice.Eq.{bytes_eq-Decides}
use Rattle.cable_model.specs.declared.notes.Note.{Note}
use Rattle.cable_model.specs.Connection.{among}
use Rattle.cable_model.specs.Plans.{unstopped, stream_note, new_stream, new_streams, stream_notes}

-- a name that is left is a stream that doesn't stop
pub among-unstopped : (stops streams : List (List ℕ)) (name : List ℕ) → among (unstopped stops streams) name ≡ (among streams name && not (among stops name))
among-unstopped stops [] name = refl
among-unstopped stops (x ∷ xs) name = go (bytes_eq x name) refl (among stops x) refl (among-unstopped stops xs name)
  where
    either : (b c : Bool) → (b && not c) ≡ ((b || b) && not c)
    either true c = refl
    either false c = refl

    keeps : (b : Bool) → (b && false) ≡ false
    keeps true = refl
    keeps false = refl

    go : (t : Bool) → bytes_eq x name ≡ t → (b : Bool) → among stops x ≡ b → among (unstopped stops xs) name ≡ (among xs name && not (among stops name)) → among (unstopped stops (x ∷ xs)) name ≡ (among (x ∷ xs) name && not (among stops name))
    go true t true b ih =
        let same : x ≡ name = (bytes_eq-Decides x name).0 t in
        let stop : among stops name ≡ true = ap (among stops) (sym same) ∙ b in
        rw (b, t, stop) (ih ∙ rw stop (keeps (among xs name)))
    go true t false b ih =
        let same : x ≡ name = (bytes_eq-Decides x name).0 t in
        let stop : among stops name ≡ false = ap (among stops) (sym same) ∙ b in
        rw (b, t, stop) refl
    go false t true b ih = rw (b, t) ih
    go false t false b ih = rw (b, t) ih

-- the names that are known are those that are left and those that were wanted since
pub among_known : (stops streams wanted : List (List ℕ)) (name : List ℕ) → among (unstopped stops streams ++ wanted) name ≡ ((among streams name && not (among stops name)) || among wanted name)
among_known stops streams wanted name = list_any-append (λ n. bytes_eq n name) (unstopped stops streams) wanted ∙ ap (λ b. b || among wanted name) (among-unstopped stops streams name)

-- one more stream was walked
pub wanted-step : (left wanted next asked all : List (List ℕ)) (i : ℕ) (name : List ℕ) → i < length asked → name ≡ get_or asked i name → next ≡ wanted ++ new_stream (left ++ wanted) name
    → wanted ++ new_streams (left ++ wanted) (drop i asked) ≡ all → next ++ new_streams (left ++ next) (drop (i + 1) asked) ≡ all
wanted-step left wanted next asked all i name l g n h =
    let more : drop i asked ≡ name ∷ drop (i + 1) asked = rw add-one (drop-cons asked i name l ∙ ap (λ x. x ∷ drop (suc i) asked) (sym g)) in
    let before = rw more at h in
    rw n (append_assoc wanted (new_stream (left ++ wanted) name) _ ∙ (ap (λ k. wanted ++ (new_stream (left ++ wanted) name ++ new_streams k (drop (i + 1) asked))) (sym (append_assoc left wanted (new_stream (left ++ wanted) name))) ∙ before))

pub notes-step : (left wanted next asked : List (List ℕ)) (notes next_notes all : List Note) (i : ℕ) (name : List ℕ) → i < length asked → name ≡ get_or asked i name → next ≡ wanted ++ new_stream (left ++ wanted) name
    → next_notes ≡ notes ++ option_to_list (stream_note (left ++ wanted) name)
    → notes ++ stream_notes (left ++ wanted) (drop i asked) ≡ all → next_notes ++ stream_notes (left ++ next) (drop (i + 1) asked) ≡ all
notes-step left wanted next asked notes next_notes all i name l g n m h =
    let more : drop i asked ≡ name ∷ drop (i + 1) asked = rw add-one (drop-cons asked i name l ∙ ap (λ x. x ∷ drop (suc i) asked) (sym g)) in
    let before = rw more at h in
    rw (m, n) (append_assoc notes (option_to_list (stream_note (left ++ wanted) name)) _ ∙ (ap (λ k. notes ++ (option_to_list (stream_note (left ++ wanted) name) ++ stream_notes k (drop (i + 1) asked))) (sym (append_assoc left wanted (new_stream (left ++ wanted) name))) ∙ before))

-- at most one stream is wanted of a name
one-or-none : (b : Bool) (name : List ℕ) → length (cond b (name ∷ []) []) ≤ 1
one-or-none true name = omega arith
one-or-none false name = omega arith

pub length-step : (left wanted next : List (List ℕ)) (i : ℕ) (name : List ℕ) → next ≡ wanted ++ new_stream (left ++ wanted) name → length wanted ≤ i → length next ≤ i + 1
length-step left wanted next i name n h =
    let few = one-or-none (is_none (stream_note (left ++ wanted) name) && not (among (left ++ wanted) name)) name in
    omega (arith, ap length n, length-append wanted (new_stream (left ++ wanted) name))
