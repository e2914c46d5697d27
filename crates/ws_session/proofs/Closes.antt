-- A client that has gone leaves a connection on which nothing more is put.
use Rattle.std.proofs.Common.{◌≡◌, ℕ, ◌==◌, Bool, true, false, cond, not, ◌&&◌, ◌||◌, List, [], ◌∷◌, ◌++◌, Ok, refl, sym, ap, subst, ◌∙◌, arith}
use Rattle.std.proofs.Math.Bool.{and-false}
use Rattle.std.proofs.lemmas.Bool.Decides.{nat_tests}
use Rattle.cable_base.specs.declared.numbers.ConnNo.{ConnNo}
use Rattle.cable_model.specs.declared.pieces.Piece.{Piece}
use Rattle.cable_model.specs.declared.pieces.Piece.TheVariants as piece
use Rattle.cable_model.specs.Pieces.{Seat, closing, put, seat, with_put}
use Rattle.cable_model.specs.Possible.{is_live, is_opened, is_over, is_receiving}
use Rattle.cable_model.specs.Steps.{Step}
use Rattle.cable_model.proofs.Puts.{closing-push}
use Rattle.node_core.specs.Desks.{Leaves}
use Rattle.node_core.specs.Nodes.{NodeState, past}

put-closes : (ps : List Piece) → closing (put ps piece.Gone) ≡ true
put-closes ps = go (closing ps) refl
  where
    go : (b : Bool) → closing ps ≡ b → closing (cond (closing ps) ps (ps ++ piece.Gone ∷ [])) ≡ true
    go true e = subst (λ x. closing (cond x ps (ps ++ piece.Gone ∷ [])) ≡ true) (sym e) e
    go false e = subst (λ x. closing (cond x ps (ps ++ piece.Gone ∷ [])) ≡ true) (sym e) (closing-push ps piece.Gone ∙ ap (λ x. x || true) e)

closed-receives : (live : Bool) (ps : List Piece) → closing ps ≡ true → (live && not (closing ps)) ≡ false
closed-receives live ps e = ap (λ x. live && not x) e ∙ and-false live

drop-closes : (c : ℕ) (steps : List Step) → is_receiving c (Step.Drop c ∷ steps) ≡ false
drop-closes c steps =
    let own : (c == c) ≡ true = grind (arith, nat_tests) in
    let s : Seat = seat c steps in
    closed-receives (is_live c (Step.Drop c ∷ steps)) (seat c (Step.Drop c ∷ steps)).pieces
    (ap (λ x. closing (cond x (with_put s piece.Gone) s).pieces) own ∙ put-closes s.pieces)

pub gone-closes : (conn : ConnNo) (old new : NodeState) (closes : Bool) → Leaves old conn (Ok closes) new → is_receiving conn.0 (past new) ≡ false
gone-closes conn old new true h = ap (is_receiving conn.0) h.ok ∙ drop-closes conn.0 (past old)
gone-closes conn old new false h = ap (is_receiving conn.0) h.ok ∙ sym h.answer

pub over-closed : (c : ℕ) (steps : List Step) → is_over c steps ≡ true → is_receiving c steps ≡ false
over-closed c steps h = go (is_opened c steps) (is_live c steps) (closing (seat c steps).pieces) h
  where
    go : (opened live closed : Bool) → (opened && not live) ≡ true → (live && not closed) ≡ false
    go true true closed e = absurd (let f : false ≡ true = e in cc f)
    go true false closed e = refl
    go false live closed e = absurd (let f : false ≡ true = e in cc f)
