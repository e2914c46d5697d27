-- The fold of a connection's pieces.
use Rattle.std.proofs.Common.{ℕ, suc, ◌+◌, ◌≡◌, List, [], ◌∷◌, ◌++◌, length, ap, sym, ◌∙◌, arith, append_assoc}
use Rattle.cable_model.specs.declared.pieces.Piece.{Piece}
use Rattle.cable_model.specs.Connection.{Conn, Planner, fold_from, worked}
use Rattle.cable_model.specs.Window.{live_from, row_of}

pub fold_from-append : (pl : Planner) (n : ℕ) (k : Conn) (ps qs : List Piece) → fold_from pl n k (ps ++ qs) ≡ fold_from pl (n + length ps) (fold_from pl n k ps) qs
fold_from-append pl n k [] qs = ap (λ m. fold_from pl m k qs) (omega arith)
fold_from-append pl n k (p ∷ ps) qs =
    fold_from-append pl (suc n) (worked pl (suc n) k p) ps qs
    ∙ ap (λ m. fold_from pl m (fold_from pl n k (p ∷ ps)) qs) (omega arith)

pub live_from-append : (pl : Planner) (s w n : ℕ) (k : Conn) (ps qs : List Piece)
    → live_from pl s w n k (ps ++ qs) ≡ live_from pl s w n k ps ++ live_from pl s w (n + length ps) (fold_from pl n k ps) qs
live_from-append pl s w n k [] qs = ap (λ m. live_from pl s w m k qs) (omega arith)
live_from-append pl s w n k (p ∷ ps) qs =
    ap (λ rs. row_of s w k p ++ rs) (live_from-append pl s w (suc n) (worked pl (suc n) k p) ps qs)
    ∙ (sym (append_assoc (row_of s w k p) (live_from pl s w (suc n) (worked pl (suc n) k p) ps) (live_from pl s w (suc n + length ps) (fold_from pl n k (p ∷ ps)) qs))
    ∙ ap (λ m. live_from pl s w n k (p ∷ ps) ++ live_from pl s w m (fold_from pl n k (p ∷ ps)) qs) (omega arith))
