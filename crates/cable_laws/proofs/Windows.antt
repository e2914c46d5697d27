-- The promise holds of every journal whose pieces are worked and whose turns fit.
use Rattle.std.proofs.Common.{ℕ, suc, ◌+◌, ◌≡◌, ◌≤◌, Bool, true, false, cond, List, [], ◌∷◌, ◌++◌, length, take, drop, Some, None, Option, refl, ap, sym, subst, ◌∙◌, arith, is_some}
use Rattle.std.proofs.lemmas.List.{append-nil, take_at}
use Rattle.std.specs.List.{filter}
use Rattle.cable_base.specs.declared.rows.Row.{Row}
use Rattle.cable_base.proofs.Rises.{Rises, Rises-filter, Rises-front, Rises-increasing}
use Rattle.cable_model.specs.declared.pieces.Piece.{Piece}
use Rattle.cable_model.specs.Steps.{Step}
use Rattle.cable_model.specs.Connection.{Conn, Planner, change_of, worked, name_of, still, fresh, fold}
use Rattle.cable_model.specs.Pieces.{seat, waiting, numbered}
use Rattle.cable_model.specs.Possible.{is_empty}
use Rattle.cable_model.specs.Window.{Reads, window, in_window, finished, live, live_from, row_of, row_in}
use Rattle.cable_model.specs.Promise.{AllWorked, AllLinked, Windows}
use Rattle.cable_model.proofs.Folds.{live_from-append}
use Rattle.cable_model.proofs.Valid.{Valid, fresh-valid, fold_from-valid, worked-valid, changed-keeps, changed-made}
use Rattle.cable_model.proofs.Delivered.{id_of}
use Rattle.cable_model.proofs.Working.{working, Passed, passed-live, drop-numbered, free}
use Rattle.cable_model.proofs.Reaching.{reached}
use Rattle.cable_laws.proofs.Confirming.{telling}

none-wait : (k : Conn) (n : ℕ) (ps : List Piece) → is_empty (filter (λ p. still k p.piece) (numbered n ps)) ≡ true → Passed k ps
none-wait k n [] h = tt
none-wait k n (p ∷ ps) h = go (still k p) refl (none-wait k (suc n) ps)
  where
    go : (b : Bool) → still k p ≡ b → (is_empty (filter (λ q. still k q.piece) (numbered (suc n) ps)) ≡ true → Passed k ps) → Passed k (p ∷ ps)
    go true b ih = let h' = rw b at h in absurd (cc (h'))
    go false b ih = let h' = rw b at h in (b, ih h')

-- a want that was made and does not stand has no rows from there on
live-ended : (pl : Planner) (n s w : ℕ) (k : Conn) (ps : List Piece) → Valid n k → w ≤ k.made → name_of s w k ≡ None → live_from pl s w n k ps ≡ []
live-ended pl n s w k [] v l e = refl
live-ended pl n s w k (p ∷ ps) v l e =
    let g = changed-made (suc n) k (change_of pl (suc n) k p) in
    let e' : name_of s w (worked pl (suc n) k p) ≡ None = after (name_of s w (worked pl (suc n) k p)) refl in
    ap (λ rs. rs ++ live_from pl s w (suc n) (worked pl (suc n) k p) ps) (none p) ∙ live-ended pl (suc n) s w (worked pl (suc n) k p) ps (worked-valid pl n k p v) (omega arith) e'
  where
    after : (o : Option (List ℕ)) → name_of s w (worked pl (suc n) k p) ≡ o → o ≡ None
    after None q = refl
    after (Some name) q = let x = changed-keeps n s w k (change_of pl (suc n) k p) name v l q in absurd (cc (e, x))

    none : (q : Piece) → row_of s w k q ≡ []
    none q = ap (λ o. cond (is_some o) (row_in s w q) []) e

pub windows : (pl : Planner) (reads : Reads) (rows : List Row) (top c s w : ℕ) (past : List Step) → Rises id_of 0 rows top → AllWorked pl c past → AllLinked rows reads past
    → Windows pl (window pl reads c s w past rows) c s w past
windows pl reads rows top c s w past rise a l =
    let v = working pl c past a in
    let r = reached pl reads rows top rise c s w past a l in
    let cut : live pl s w (seat c past).pieces ≡ live pl s w v.front ++ live_from pl s w (0 + length v.front) (seat c past).conn v.back =
    ap (live pl s w) v.pieces ∙ (live_from-append pl s w 0 fresh v.front v.back ∙ ap (λ k. live pl s w v.front ++ live_from pl s w (0 + length v.front) k v.back) (sym v.conn)) in
    let whole : window pl reads c s w past rows ≡ finished c s w past ++ live_from pl s w (0 + length v.front) (seat c past).conn v.back =
    r.same ∙ (cut ∙ ap (λ x. x ++ live_from pl s w (0 + length v.front) (seat c past).conn v.back) (sym (v.finished s w))) in
    record {
      reached = r.same;
      worked = v.finished s w ∙ ap (live pl s w) (sym (ap (take (seat c past).done) v.pieces ∙ take_at v.front v.back (seat c past).done (sym v.done)));
      ended = λ front back is l e.
          v.finished s w
          ∙ (sym (ap (live pl s w) (ap (take (seat c past).done) v.pieces ∙ take_at v.front v.back (seat c past).done (sym v.done)))
          ∙ (ap (live pl s w) is
          ∙ (live_from-append pl s w 0 fresh front back
          ∙ (ap (λ x. live pl s w front ++ x) (live-ended pl (0 + length front) s w (fold pl front) back (fold_from-valid pl 0 fresh front fresh-valid) l e)
          ∙ append-nil (live pl s w front)))));
      rising =
          Rises-increasing id_of 0 (finished c s w past) top
          (Rises-front id_of 0 (finished c s w past) (live_from pl s w (0 + length v.front) (seat c past).conn v.back) top
          (subst (λ rs. Rises id_of 0 rs top) whole (Rises-filter id_of (in_window pl reads c s w past) 0 rows top rise)));
      confirmed = (telling pl s w c past a).order;
      prefix = (live_from pl s w (0 + length v.front) (seat c past).conn v.back, sym whole);
      all = λ idle none.
          let last = free pl (seat c past) (λ sub want. finished c sub want past) v idle in
          let there : waiting (seat c past) ≡ filter (λ p. still (seat c past).conn p.piece) (numbered (0 + length v.front) v.back) =
          ap (λ xs. filter (λ p. still (seat c past).conn p.piece) (drop (seat c past).taken (numbered 0 xs))) v.pieces
          ∙ (ap (λ n. filter (λ p. still (seat c past).conn p.piece) (drop n (numbered 0 (v.front ++ v.back)))) (last ∙ v.done)
          ∙ ap (filter (λ p. still (seat c past).conn p.piece)) (drop-numbered 0 v.front v.back)) in
          let passed = none-wait (seat c past).conn (0 + length v.front) v.back (sym (ap is_empty there) ∙ none) in
          sym (whole ∙ (ap (λ x. finished c s w past ++ x) (passed-live pl s w (0 + length v.front) (seat c past).conn v.back passed) ∙ append-nil (finished c s w past)));
    }
