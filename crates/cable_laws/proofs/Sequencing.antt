-- The pieces of every worked journal are worked in sequence, and its inbox is kept call by call.
use Rattle.std.proofs.Common.{ℕ, zero, suc, ◌+◌, ◌-◌, ◌≡◌, ◌<◌, ◌≤◌, false, List, [], ◌∷◌, ◌++◌, length, take, Some, ap, sym, ◌∙◌, arith, inl, inr, append_assoc, length-append, slice_get, take_at}
use Rattle.std.proofs.lemmas.Bool.Decides.{nat_tests}
use Rattle.cable_base.specs.declared.rows.Row.{Row}
use Rattle.cable_model.specs.declared.pieces.Piece.{Piece}
use Rattle.cable_model.specs.Steps.{Step}
use Rattle.cable_model.specs.Connection.{Conn, Planner, fold, still}
use Rattle.cable_model.specs.Wants.{marks, user_of}
use Rattle.cable_model.specs.Pieces.{seat}
use Rattle.cable_model.specs.Window.{finished, job, live}
use Rattle.cable_model.specs.Promise.{AllWorked}
use Rattle.cable_model.specs.Sequence.{InSequence, InboxKept}
use Rattle.cable_model.proofs.Working.{Working, working, Out, Passed, get-split}
use Rattle.cable_model.proofs.Inbox.{known, plan-strikes, valid-at}
use Rattle.cable_model.proofs.Standing.{deliver-stands}
use Rattle.cable_model.proofs.Waiting.{puts-wait, take-waits}

-- a piece of `skipped`, which stands behind `front`
passed-at : (k : Conn) (front skipped back : List Piece) (index : ℕ) (p : Piece) → Passed k skipped → length front ≤ index → index < length front + length skipped
    → slice_get (front ++ (skipped ++ back)) index ≡ Some p → still k p ≡ false
passed-at k [] [] back index p h l m e = absurd (omega arith)
passed-at k [] (q ∷ skipped) back zero p h l m e = let same : q ≡ p = cc (e) in ap (still k) (sym same) ∙ h.0
passed-at k [] (q ∷ skipped) back (suc index) p h l m e = passed-at k [] skipped back index p h.1 (omega arith) (omega arith) e
passed-at k (q ∷ front) skipped back zero p h l m e = absurd (omega arith)
passed-at k (q ∷ front) skipped back (suc index) p h l m e = passed-at k front skipped back index p h (omega arith) (omega arith) e

pub in_sequence : (pl : Planner) (c : ℕ) (past : List Step) → AllWorked pl c past → InSequence pl c past
in_sequence pl c past a =
    record {
      folded = v.conn ∙ ap (fold pl) (sym front);
      finished_taken = elim v.job [ inl e ↦ omega arith | inr o ↦ let e = o.1 in omega arith ];
      taken_put = elim v.job [ inl e ↦ omega (arith, all, v.done) | inr o ↦ let e = o.1 in omega (arith, all, v.done, o.2.far, out-length o.2.skipped o.2.piece o.2.rest o.2.is) ];
      skipped = λ index p l m e. elim v.job [ inl f ↦ absurd (omega arith) | inr o ↦ skipped o.0 o.1 o.2 index p l m e ];
      stands = λ h. elim v.job [ inl e ↦ absurd (grind (arith, nat_tests)) | inr o ↦ (o.2.piece, got o.0 o.1 o.2, o.2.stands) ];
      rows = λ s w. v.finished s w ∙ ap (live pl s w) (sym front);
      closed = v.ended;
    }
  where
    v : Working pl (seat c past) (λ sub want. finished c sub want past)
    v = working pl c past a

    front : take (seat c past).done (seat c past).pieces ≡ v.front
    front = ap (take (seat c past).done) v.pieces ∙ take_at v.front v.back (seat c past).done (sym v.done)

    all : length (seat c past).pieces ≡ length v.front + length v.back
    all = ap length v.pieces ∙ length-append v.front v.back

    out-length : (skipped : List Piece) (q : Piece) (rest : List Piece) → v.back ≡ skipped ++ q ∷ rest → length v.back ≡ length skipped + (1 + length rest)
    out-length skipped q rest e = ap length e ∙ (length-append skipped (q ∷ rest) ∙ omega arith)

    skipped : (gap : ℕ) → (seat c past).taken ≡ (seat c past).done + gap → Out (seat c past).conn v.back gap → (index : ℕ) (p : Piece) → (seat c past).done ≤ index → suc index < (seat c past).taken
        → slice_get (seat c past).pieces index ≡ Some p → still (seat c past).conn p ≡ false
    skipped gap t o index p l m e =
        passed-at (seat c past).conn v.front o.skipped (o.piece ∷ o.rest) index p o.passed (omega (arith, v.done)) (omega (arith, v.done, o.far))
        (sym (ap (λ ps. slice_get ps index) (v.pieces ∙ ap (λ b. v.front ++ b) o.is)) ∙ e)

    got : (gap : ℕ) → (seat c past).taken ≡ (seat c past).done + gap → (o : Out (seat c past).conn v.back gap) → job (seat c past) ≡ Some o.piece
    got gap t o =
        let there : (seat c past).pieces ≡ (v.front ++ o.skipped) ++ o.piece ∷ o.rest = v.pieces ∙ (ap (λ b. v.front ++ b) o.is ∙ sym (append_assoc v.front o.skipped (o.piece ∷ o.rest))) in
        let at : (seat c past).taken - 1 ≡ length (v.front ++ o.skipped) = omega (arith, o.far, v.done, length-append v.front o.skipped) in
        ap (λ ps. slice_get ps ((seat c past).taken - 1)) there ∙ get-split (v.front ++ o.skipped) o.piece o.rest ((seat c past).taken - 1) at

pub inbox_kept : (pl : Planner) (c : ℕ) (past : List Step) → AllWorked pl c past → InboxKept c past
inbox_kept pl c past a =
    let v = working pl c past a in
    let rows : ℕ → ℕ → List Row = λ sub want. finished c sub want past in
    record {
      put = λ qs. puts-wait pl (seat c past) rows qs v;
      taken = λ free p ps w. let r = take-waits pl (seat c past) rows v free p ps w in (r.0, r.1);
      struck = λ out plan. plan-strikes pl (seat c past) rows plan out (known pl c past a) v;
      delivered = λ now rows'. deliver-stands (seat c past).done (seat c past).conn (user_of c past) (marks c past) now rows' (valid-at pl (seat c past) rows v);
    }
