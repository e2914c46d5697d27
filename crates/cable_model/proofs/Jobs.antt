-- The piece of a job that is out: it is among the pieces, and it isn't passed over.
use Rattle.std.proofs.Common.{ℕ, ◌+◌, ◌-◌, ◌≡◌, true, List, ◌∷◌, ◌++◌, length, length-append, append_assoc, Some, ap, sym, ◌∙◌, arith, inl, inr, slice_get}
use Rattle.std.proofs.lemmas.Bool.Decides.{nat_tests}
use Rattle.cable_base.specs.declared.rows.Row.{Row}
use Rattle.cable_model.specs.declared.pieces.Piece.{Piece}
use Rattle.cable_model.specs.Connection.{Planner, still}
use Rattle.cable_model.specs.Pieces.{Seat}
use Rattle.cable_model.specs.Possible.{has_job}
use Rattle.cable_model.specs.Window.{job}
use Rattle.cable_model.proofs.Working.{Working, Out, get-split}

pub record JobPiece (s : Seat) : Type 0 where
  pub before : List Piece
  pub piece : Piece
  pub behind : List Piece
  pub among : s.pieces ≡ before ++ piece ∷ behind
  pub at : s.taken - 1 ≡ length before
  pub is : job s ≡ Some piece
  pub stands : still s.conn piece ≡ true

pub job-piece : (pl : Planner) (s : Seat) (rows : (sub want : ℕ) → List Row) → Working pl s rows → has_job s ≡ true → JobPiece s
job-piece pl s rows v out = elim v.job as (λ _. JobPiece s) [ inl e ↦ absurd (grind (arith, nat_tests)) | inr o ↦ go o.0 o.1 o.2 ]
  where
    go : (gap : ℕ) → s.taken ≡ s.done + gap → Out s.conn v.back gap → JobPiece s
    go gap t o =
        let all : s.pieces ≡ (v.front ++ o.skipped) ++ o.piece ∷ o.rest = v.pieces ∙ (ap (λ x. v.front ++ x) o.is ∙ sym (append_assoc v.front o.skipped (o.piece ∷ o.rest))) in
        let lens : length (v.front ++ o.skipped) ≡ length v.front + length o.skipped = length-append v.front o.skipped in
        let at : s.taken - 1 ≡ length (v.front ++ o.skipped) = omega (arith, o.far, v.done) in
        record {
          before = v.front ++ o.skipped;
          piece = o.piece;
          behind = o.rest;
          among = all;
          at = at;
          is = ap (λ x. slice_get x (s.taken - 1)) all ∙ get-split (v.front ++ o.skipped) o.piece o.rest (s.taken - 1) at;
          stands = o.stands;
        }
