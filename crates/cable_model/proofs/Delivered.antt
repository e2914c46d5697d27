-- What a Deliver puts, and which of it is live: the rows below a closing piece whose name is that of the want.
use Rattle.std.proofs.Common.{ℕ, ◌≡◌, ◌≤◌, Bool, true, false, cond, ◌&&◌, List, [], ◌∷◌, ◌++◌, Some, None, Option, refl, ap, sym, subst, ◌∙◌, arith, ltb, append_assoc, bytes_eq, is_some}
use Rattle.std.proofs.lemmas.List.{append-nil}
use Rattle.std.specs.List.{filter, AllByRecursion}
use Rattle.std.proofs.lemmas.Bool.Decides.{nat_tests}
use Rattle.cable_base.specs.Names.{own_name}
use Rattle.cable_base.specs.declared.rows.Row.{Row}
use Rattle.cable_base.proofs.Rises.{Rises, Rises-reaches}
use Rattle.cable_json.specs.Disconnects.{disconnect_of}
use Rattle.cable_model.specs.declared.pieces.Piece.{Piece}
use Rattle.cable_model.specs.declared.pieces.Piece.TheVariants as piece
use Rattle.cable_model.specs.Connection.{Want, Sub, Conn, Planner, fold, name_in, name_of}
use Rattle.cable_model.specs.Wants.{Mark, mark_of}
use Rattle.cable_model.specs.Pieces.{closing, put, put_all, below, sub_puts, own_puts, row_puts, rows_puts, takes_now, confirm_puts, deliver_puts}
use Rattle.cable_model.specs.Window.{live, same_name, earlier}
use Rattle.cable_model.proofs.Puts.{Ended, put-Ended, put-live, no-row, fold-push, quiet, puts-quiet, put_all-append, rows_in, if_row, hit, subs-one, subs-quiet}

abbrev pub id_of : Row → ℕ
id_of r = r.id.0

none-earlier : (r : Row) (b : ℕ) (rs : List Row) (e : ℕ) → r.id.0 ≤ b → Rises id_of b rs e → earlier r rs ≡ []
none-earlier r b [] e l h = refl
none-earlier r b (x ∷ rs) e l h =
    let t : ltb x.id.0 r.id.0 ≡ false = grind (arith, nat_tests) in rw t (none-earlier r x.id.0 rs e (omega arith) h.1)

-- in a list that rises, the rows below one are those before it
pub earlier-split : (b : ℕ) (gs rs : List Row) (r : Row) (e : ℕ) → Rises id_of b (gs ++ r ∷ rs) e → earlier r (gs ++ r ∷ rs) ≡ gs
earlier-split b [] rs r e h =
    let t : ltb r.id.0 r.id.0 ≡ false = grind (arith, nat_tests) in rw t (none-earlier r r.id.0 rs e (omega arith) h.1)
earlier-split b (a ∷ gs) rs r e h =
    let l = Rises-reaches id_of a.id.0 gs rs r e h.1 in
    let t : ltb a.id.0 r.id.0 ≡ true = grind (arith, nat_tests) in
    rw t (ap (λ xs. a ∷ xs) (earlier-split a.id.0 gs rs r e h.1))

module _ (pl : Planner) (s w : ℕ) (user : Option (List ℕ)) (ms : List Mark) (subs : List Sub) (e m : ℕ)
    (rise : Rises (λ (x : Sub). x.number) 0 subs e) (wants : AllByRecursion (λ (x : Sub). Rises (λ (y : Want). y.number) 0 x.wants m) subs) where
  -- the pieces end with a closing one, if they have one, and what stands behind them stands now
  pub record Fit (ps : List Piece) : Type 0 where
    pub ended : Ended pl ps
    pub names : is_some (mark_of w ms) ≡ true → (name : List ℕ) → name_of s w (fold pl ps) ≡ Some name → name_in s w subs ≡ Some name

  remote : (ps : List Piece) (b : Bool) → Fit ps → (live pl s w (put ps (piece.Remote b)) ≡ live pl s w ps) × Fit (put ps (piece.Remote b))
  remote ps b f = (
    put-live pl s w ps (piece.Remote b) f.ended ∙ (ap (λ rs. live pl s w ps ++ rs) (no-row s w (fold pl ps) (piece.Remote b) refl) ∙ append-nil (live pl s w ps)),
    record {
      ended = put-Ended pl ps (piece.Remote b) f.ended;
      names = λ t name. go t name (closing ps) refl;
    },
  )
    where
      go : is_some (mark_of w ms) ≡ true → (name : List ℕ) → (c : Bool) → closing ps ≡ c → name_of s w (fold pl (put ps (piece.Remote b))) ≡ Some name → name_in s w subs ≡ Some name
      go t name true c q = let q' = rw c at q in f.names t name q'
      go t name false c q = let q' = rw (c, fold-push pl ps (piece.Remote b)) at q in absurd (cc (q'))

  own : (ps : List Piece) (row : Row) (u : Option (List ℕ)) → Fit ps → (live pl s w (put_all ps (own_puts u ms row)) ≡ live pl s w ps) × Fit (put_all ps (own_puts u ms row))
  own ps row None f = (refl, f)
  own ps row (Some u) f = go (bytes_eq (own_name u) row.channel && below (mark_of 0 ms) row.id.0) refl (disconnect_of row.payload) refl
    where
      go : (t : Bool) → (bytes_eq (own_name u) row.channel && below (mark_of 0 ms) row.id.0) ≡ t → (d : Option Bool) → disconnect_of row.payload ≡ d
          → (live pl s w (put_all ps (own_puts (Some u) ms row)) ≡ live pl s w ps) × Fit (put_all ps (own_puts (Some u) ms row))
      go true t None d = rw (t, d) (refl, f)
      go true t (Some b) d = rw (t, d) (remote ps b f)
      go false t d e' = rw t (refl, f)

  -- whether the row is live where these pieces stand before it
  abbrev pub passes : List Piece → Row → Bool
  passes ps row = below (mark_of w ms) row.id.0 && same_name (name_of s w (fold pl ps)) row.channel

  hit-passes : (ps : List Piece) (row : Row) → Fit ps → hit s w (fold pl ps) ms row (name_in s w subs) ≡ passes ps row
  hit-passes ps row f = go (mark_of w ms) refl (name_of s w (fold pl ps)) refl
    where
      go : (m : Option ℕ) → mark_of w ms ≡ m → (o : Option (List ℕ)) → name_of s w (fold pl ps) ≡ o → hit s w (fold pl ps) ms row (name_in s w subs) ≡ passes ps row
      go m q' None q = rw q (elim (below (mark_of w ms) row.id.0) as (λ b. false ≡ (b && false)) [ true ↦ refl | false ↦ refl ])
      go (Some m) q' (Some name) q = let n = f.names (ap is_some q') name q in rw (q, n) refl
      go None q' (Some name) q = rw (q', q) refl

  one_row : (ps : List Piece) (row : Row) → Fit ps
      → (live pl s w (put_all ps (row_puts user ms subs row)) ≡ live pl s w ps ++ if_row (passes ps row) row) × Fit (put_all ps (row_puts user ms subs row))
  one_row ps row f =
      let q = puts-quiet pl s w ps (sub_puts ms row subs) f.ended (subs-quiet s w (fold pl ps) ms row subs) in
      let g : Fit (put_all ps (sub_puts ms row subs)) = record { ended = q.ended; names = λ t name h. f.names t name (sym (ap (name_of s w) q.same) ∙ h) } in
      let o = own (put_all ps (sub_puts ms row subs)) row user g in
      rw (put_all-append ps (sub_puts ms row subs) (own_puts user ms row))
      (o.0 ∙ (q.rows ∙ ap (λ rs. live pl s w ps ++ rs) (subs-one s w (fold pl ps) ms row 0 subs e m rise wants ∙ ap (λ b. if_row b row) (hit-passes ps row f))), o.1)

  rows_puts-push : (gs : List Row) (r : Row) → rows_puts user ms subs (gs ++ r ∷ []) ≡ rows_puts user ms subs gs ++ row_puts user ms subs r
  rows_puts-push [] r = append-nil (row_puts user ms subs r)
  rows_puts-push (a ∷ gs) r = ap (λ ps. row_puts user ms subs a ++ ps) (rows_puts-push gs r) ∙ sym (append_assoc (row_puts user ms subs a) (rows_puts user ms subs gs) (row_puts user ms subs r))

  abbrev pub test : List Piece → List Row → Row → Bool
  test ps all row = passes (put_all ps (rows_puts user ms subs (earlier row all))) row

  filter-cons : (p : Row → Bool) (r : Row) (rs : List Row) → filter p (r ∷ rs) ≡ if_row (p r) r ++ filter p rs
  filter-cons p r rs = elim (p r) as (λ b. cond b (r ∷ filter p rs) (filter p rs) ≡ if_row b r ++ filter p rs) [ true ↦ refl | false ↦ refl ]

  rows_live : (ps : List Piece) (b top : ℕ) (rs gs : List Row) → Rises id_of b (gs ++ rs) top → Fit (put_all ps (rows_puts user ms subs gs))
      → (live pl s w (put_all (put_all ps (rows_puts user ms subs gs)) (rows_puts user ms subs rs)) ≡ live pl s w (put_all ps (rows_puts user ms subs gs)) ++ filter (test ps (gs ++ rs)) rs)
      × Fit (put_all (put_all ps (rows_puts user ms subs gs)) (rows_puts user ms subs rs))
  rows_live ps b top [] gs h f = (sym (append-nil (live pl s w (put_all ps (rows_puts user ms subs gs)))), f)
  rows_live ps b top (r ∷ rs) gs h f =
      let q = put_all ps (rows_puts user ms subs gs) in
      let all : (gs ++ r ∷ []) ++ rs ≡ gs ++ r ∷ rs = append_assoc gs (r ∷ []) rs in
      let one = one_row q r f in
      let there : put_all ps (rows_puts user ms subs (gs ++ r ∷ [])) ≡ put_all q (row_puts user ms subs r) = ap (put_all ps) (rows_puts-push gs r) ∙ put_all-append ps (rows_puts user ms subs gs) (row_puts user ms subs r) in
      let f' : Fit (put_all ps (rows_puts user ms subs (gs ++ r ∷ []))) = subst Fit (sym there) one.1 in
      let ih = rows_live ps b top rs (gs ++ r ∷ []) (subst (λ xs. Rises id_of b xs top) (sym all) h) f' in
      let here : passes q r ≡ test ps (gs ++ r ∷ rs) r = ap (λ xs. passes (put_all ps (rows_puts user ms subs xs)) r) (sym (earlier-split b gs rs r top h)) in
      let joined = put_all-append q (row_puts user ms subs r) (rows_puts user ms subs rs) in
      let moved : put_all q (row_puts user ms subs r ++ rows_puts user ms subs rs) ≡ put_all (put_all ps (rows_puts user ms subs (gs ++ r ∷ []))) (rows_puts user ms subs rs) = joined ∙ ap (λ x. put_all x (rows_puts user ms subs rs)) (sym there) in (
        ap (live pl s w) moved
            ∙ (ih.0
            ∙ (ap (λ x. live pl s w x ++ filter (test ps ((gs ++ r ∷ []) ++ rs)) rs) there
            ∙ (ap (λ x. x ++ filter (test ps ((gs ++ r ∷ []) ++ rs)) rs) one.0
            ∙ (append_assoc (live pl s w q) (if_row (passes q r) r) (filter (test ps ((gs ++ r ∷ []) ++ rs)) rs)
            ∙ (ap (λ x. live pl s w q ++ (if_row (passes q r) r ++ filter (test ps x) rs)) all
            ∙ (ap (λ x. live pl s w q ++ (if_row x r ++ filter (test ps (gs ++ r ∷ rs)) rs)) here
            ∙ ap (λ x. live pl s w q ++ x) (sym (filter-cons (test ps (gs ++ r ∷ rs)) r rs)))))))),
        subst Fit (sym moved) ih.1,
      )

  confirms : (now : List Mark) (xs : List Sub) (k : Conn) → AllByRecursion (λ q. quiet q ≡ true) (confirm_puts ms now xs) × (rows_in s w k (confirm_puts ms now xs) ≡ [])
  confirms now [] k = (tt, refl)
  confirms now (x ∷ xs) k = go (takes_now ms now x.due) refl (confirms now xs k)
    where
      go : (t : Bool) → takes_now ms now x.due ≡ t → AllByRecursion (λ q. quiet q ≡ true) (confirm_puts ms now xs) × (rows_in s w k (confirm_puts ms now xs) ≡ [])
          → AllByRecursion (λ q. quiet q ≡ true) (confirm_puts ms now (x ∷ xs)) × (rows_in s w k (confirm_puts ms now (x ∷ xs)) ≡ [])
      go true t ih = rw t ((refl, ih.0), ap (λ rs. rs ++ rows_in s w k (confirm_puts ms now xs)) (no-row s w k (piece.Confirm (record { 0 = x.number })) refl) ∙ ih.1)
      go false t ih = rw t ih

  -- a Deliver adds the rows of its note that the test passes, in their order
  pub deliver_live : (ps : List Piece) (b top : ℕ) (now : List Mark) (rows : List Row) → Rises id_of b rows top → Fit ps
      → (live pl s w (put_all ps (deliver_puts user ms now subs rows)) ≡ live pl s w ps ++ filter (test ps rows) rows) × Ended pl (put_all ps (deliver_puts user ms now subs rows))
  deliver_live ps b top now rows h f =
      let r = rows_live ps b top rows [] h f in
      let x = put_all ps (rows_puts user ms subs rows) in
      let c = confirms now subs (fold pl x) in
      let q = puts-quiet pl s w x (confirm_puts ms now subs) r.1.ended c.0 in
      rw (put_all-append ps (rows_puts user ms subs rows) (confirm_puts ms now subs))
      (q.rows ∙ (ap (λ y. live pl s w x ++ y) c.1 ∙ (append-nil (live pl s w x) ∙ r.0)), q.ended)
