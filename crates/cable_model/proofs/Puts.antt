-- What a put does to the fold of the pieces and to the rows of a want that are not passed over.
use Rattle.std.proofs.Common.{ℕ, suc, ◌≡◌, ◌≤◌, ◌==◌, Bool, true, false, cond, ◌&&◌, ◌||◌, List, [], ◌∷◌, ◌++◌, length, Some, None, Option, refl, ap, sym, ◌∙◌, arith, append_assoc, bytes_eq, is_some}
use Rattle.std.proofs.lemmas.List.{append-nil}
use Rattle.std.specs.List.{AllByRecursion}
use Rattle.std.proofs.lemmas.Bool.Decides.{nat_tests}
use Rattle.cable_model.specs.declared.pieces.Piece.{Piece}
use Rattle.cable_model.specs.declared.pieces.Piece.TheVariants as piece
use Rattle.cable_base.specs.declared.rows.Row.{Row}
use Rattle.cable_model.specs.Connection.{Want, Sub, Conn, Planner, fresh, worked, fold, want_in, name_in, name_of, stands_want}
use Rattle.cable_model.specs.Wants.{Mark, mark_of}
use Rattle.cable_model.specs.Pieces.{is_closing, closing, put, put_all, below, hold_puts, sub_puts}
use Rattle.cable_model.specs.Window.{row_in, row_of, live, same_name}
use Rattle.cable_base.proofs.Each.{All-append}
use Rattle.cable_base.proofs.Rises.{Rises}
use Rattle.cable_model.proofs.Folds.{fold_from-append, live_from-append}
use Rattle.cable_model.proofs.Valid.{want_in-above}

pub closing-push : (ps : List Piece) (q : Piece) → closing (ps ++ q ∷ []) ≡ (closing ps || is_closing q)
closing-push [] q = elim (is_closing q) as (λ b. (b || false) ≡ b) [ true ↦ refl | false ↦ refl ]
closing-push (p ∷ ps) q =
    let ih = closing-push ps q in
    rw ih (elim (is_closing p) as (λ b. (b || (closing ps || is_closing q)) ≡ ((b || closing ps) || is_closing q)) [ true ↦ refl | false ↦ refl ])

-- a closed connection has no subscriptions
abbrev pub Ended : Planner → List Piece → Type 0
Ended pl ps = closing ps ≡ true → (fold pl ps).subs ≡ []

pub fold-push : (pl : Planner) (ps : List Piece) (q : Piece) → fold pl (ps ++ q ∷ []) ≡ worked pl (suc (length ps)) (fold pl ps) q
fold-push pl ps q = fold_from-append pl 0 fresh ps (q ∷ []) ∙ ap (λ n. worked pl (suc n) (fold pl ps) q) (omega arith)

pub live-push : (pl : Planner) (s w : ℕ) (ps : List Piece) (q : Piece) → live pl s w (ps ++ q ∷ []) ≡ live pl s w ps ++ row_of s w (fold pl ps) q
live-push pl s w ps q = live_from-append pl s w 0 fresh ps (q ∷ []) ∙ ap (λ rs. live pl s w ps ++ rs) (append-nil (row_of s w (fold pl ps) q))

closes : (pl : Planner) (n : ℕ) (k : Conn) (q : Piece) → is_closing q ≡ true → (worked pl n k q).subs ≡ []
closes pl n k (piece.Remote reconnect) h = refl
closes pl n k piece.Gone h = refl
closes pl n k piece.Restart h = refl
closes pl n k _ h = absurd (cc (h))

pub put-Ended : (pl : Planner) (ps : List Piece) (q : Piece) → Ended pl ps → Ended pl (put ps q)
put-Ended pl ps q d = go (closing ps) refl
  where
    go : (b : Bool) → closing ps ≡ b → Ended pl (put ps q)
    go true e = rw e (λ h. d e)
    go false e = rw e λ h.
        let e2 : is_closing q ≡ true = rw (closing-push ps q, e) at h in
        ap (λ k. k.subs) (fold-push pl ps q) ∙ closes pl (suc (length ps)) (fold pl ps) q e2

none-stands : (s w : ℕ) (k : Conn) → k.subs ≡ [] → name_of s w k ≡ None
none-stands s w k e = ap (name_in s w) e

row_of-ended : (s w : ℕ) (k : Conn) (q : Piece) → k.subs ≡ [] → row_of s w k q ≡ []
row_of-ended s w k q e = let f : stands_want s w k ≡ false = ap is_some (none-stands s w k e) in rw f refl

-- a piece that is no row of the want
pub no-row : (s w : ℕ) (k : Conn) (q : Piece) → row_in s w q ≡ [] → row_of s w k q ≡ []
no-row s w k q e = ap (λ rs. cond (stands_want s w k) rs []) e ∙ elim (stands_want s w k) as (λ b. cond {A = List Row} b [] [] ≡ []) [ true ↦ refl | false ↦ refl ]

pub put-live : (pl : Planner) (s w : ℕ) (ps : List Piece) (q : Piece) → Ended pl ps → live pl s w (put ps q) ≡ live pl s w ps ++ row_of s w (fold pl ps) q
put-live pl s w ps q d = go (closing ps) refl
  where
    go : (b : Bool) → closing ps ≡ b → live pl s w (put ps q) ≡ live pl s w ps ++ row_of s w (fold pl ps) q
    go true e = rw (e, row_of-ended s w (fold pl ps) q (d e)) (sym (append-nil (live pl s w ps)))
    go false e = rw e (live-push pl s w ps q)

-- a piece that changes nothing
abbrev pub quiet : Piece → Bool
quiet (piece.Row sub want row) = true
quiet (piece.Confirm sub) = true
quiet _ = false

pub worked-quiet : (pl : Planner) (n : ℕ) (k : Conn) (q : Piece) → quiet q ≡ true → worked pl n k q ≡ k
worked-quiet pl n k (piece.Row sub want row) h = refl
worked-quiet pl n k (piece.Confirm sub) h = refl
worked-quiet pl n k _ h = absurd (cc (h))

pub put-quiet : (pl : Planner) (ps : List Piece) (q : Piece) → quiet q ≡ true → fold pl (put ps q) ≡ fold pl ps
put-quiet pl ps q h = go (closing ps) refl
  where
    go : (b : Bool) → closing ps ≡ b → fold pl (put ps q) ≡ fold pl ps
    go true e = rw e refl
    go false e = rw e (fold-push pl ps q ∙ worked-quiet pl (suc (length ps)) (fold pl ps) q h)

-- the rows of the want among these pieces, on one connection
abbrev pub rows_in : ℕ → ℕ → Conn → List Piece → List Row
rows_in s w k [] = []
rows_in s w k (q ∷ qs) = row_of s w k q ++ rows_in s w k qs

pub record Quietly (pl : Planner) (s w : ℕ) (ps qs : List Piece) : Type 0 where
  pub same : fold pl (put_all ps qs) ≡ fold pl ps
  pub rows : live pl s w (put_all ps qs) ≡ live pl s w ps ++ rows_in s w (fold pl ps) qs
  pub ended : Ended pl (put_all ps qs)

pub puts-quiet : (pl : Planner) (s w : ℕ) (ps qs : List Piece) → Ended pl ps → AllByRecursion (λ q. quiet q ≡ true) qs → Quietly pl s w ps qs
puts-quiet pl s w ps [] d h = record { same = refl; rows = sym (append-nil (live pl s w ps)); ended = d }
puts-quiet pl s w ps (q ∷ qs) d h =
    let ih = puts-quiet pl s w (put ps q) qs (put-Ended pl ps q d) h.1 in
    let f = put-quiet pl ps q h.0 in
    record {
      same = ih.same ∙ f;
      rows = ih.rows ∙ (ap (λ rs. rs ++ rows_in s w (fold pl (put ps q)) qs) (put-live pl s w ps q d) ∙ (ap (λ k. (live pl s w ps ++ row_of s w (fold pl ps) q) ++ rows_in s w k qs) f ∙ append_assoc (live pl s w ps) (row_of s w (fold pl ps) q) (rows_in s w (fold pl ps) qs)));
      ended = ih.ended;
    }

pub put_all-append : (ps qs rs : List Piece) → put_all ps (qs ++ rs) ≡ put_all (put_all ps qs) rs
put_all-append ps [] rs = refl
put_all-append ps (q ∷ qs) rs = put_all-append (put ps q) qs rs

-- the row, where the test passes
abbrev pub if_row : Bool → Row → List Row
if_row b row = cond b (row ∷ []) []

module _ (s w : ℕ) (k : Conn) (ms : List Mark) (row : Row) where
  abbrev pub hit : Option (List ℕ) → Bool
  hit o = stands_want s w k && (below (mark_of w ms) row.id.0 && same_name o row.channel)

  miss : (a : Bool) (b : Bool) → cond (a && (b && false)) (row ∷ []) [] ≡ []
  miss true true = refl
  miss true false = refl
  miss false b = refl

  blank : (stands : Bool) (sub want : Bool) (rest : List Row) → (sub && want) ≡ false → cond stands (cond (sub && want) (row ∷ []) []) [] ++ rest ≡ rest
  blank true sub want rest e = rw e refl
  blank false sub want rest e = refl

  not-want : (sub want : Bool) → want ≡ false → (sub && want) ≡ false
  not-want true want e = e
  not-want false want e = refl

  holds-none : (x : ℕ) (ws : List Want) → want_in w ws ≡ None → rows_in s w k (hold_puts ms row x ws) ≡ []
  holds-none x [] h = refl
  holds-none x (y ∷ ys) h = go (y.number == w) refl (bytes_eq y.name row.channel && below (mark_of y.number ms) row.id.0) refl (holds-none x ys)
    where
      go : (u : Bool) → (y.number == w) ≡ u → (t : Bool) → (bytes_eq y.name row.channel && below (mark_of y.number ms) row.id.0) ≡ t
          → (want_in w ys ≡ None → rows_in s w k (hold_puts ms row x ys) ≡ []) → rows_in s w k (hold_puts ms row x (y ∷ ys)) ≡ []
      go true u t e ih = let h' = rw u at h in absurd (cc (h'))
      go false u true e ih =
          let h' = rw u at h in
          rw e (blank (stands_want s w k) (x == s) (y.number == w) (rows_in s w k (hold_puts ms row x ys)) (not-want (x == s) (y.number == w) u) ∙ ih h')
      go false u false e ih = let h' = rw u at h in rw e (ih h')

  holds-other : (x : ℕ) (ws : List Want) → (x == s) ≡ false → rows_in s w k (hold_puts ms row x ws) ≡ []
  holds-other x [] h = refl
  holds-other x (y ∷ ys) h = go (bytes_eq y.name row.channel && below (mark_of y.number ms) row.id.0) refl (holds-other x ys h)
    where
      go : (t : Bool) → (bytes_eq y.name row.channel && below (mark_of y.number ms) row.id.0) ≡ t → rows_in s w k (hold_puts ms row x ys) ≡ [] → rows_in s w k (hold_puts ms row x (y ∷ ys)) ≡ []
      go true e ih = rw e (blank (stands_want s w k) (x == s) (y.number == w) (rows_in s w k (hold_puts ms row x ys)) (ap (λ b. b && (y.number == w)) h) ∙ ih)
      go false e ih = rw e ih

  holds-own : (b : ℕ) (ws : List Want) (e : ℕ) → Rises (λ (y : Want). y.number) b ws e → rows_in s w k (hold_puts ms row s ws) ≡ if_row (hit (want_in w ws)) row
  holds-own b [] e r = sym (miss (stands_want s w k) (below (mark_of w ms) row.id.0))
  holds-own b (y ∷ ys) e r = go (y.number == w) refl (holds-own y.number ys e r.1)
    where
      ss : (s == s) ≡ true
      ss = grind (arith, nat_tests)

      ww : (w == w) ≡ true
      ww = grind (arith, nat_tests)

      found : y.number ≡ w → (n : Bool) → bytes_eq y.name row.channel ≡ n → (m : Bool) → below (mark_of w ms) row.id.0 ≡ m → (t : Bool) → stands_want s w k ≡ t
          → rows_in s w k (hold_puts ms row s ys) ≡ [] → rows_in s w k (hold_puts ms row s (y ∷ ys)) ≡ if_row (hit (Some y.name)) row
      found same true n true m true t none = rw (same, n, m, none) (rw t (rw (ss, ww) refl))
      found same true n true m false t none = rw (same, n, m, none) (rw t refl)
      found same true n false m t t' none = rw (same, n, m, none) (sym (miss (stands_want s w k) false))
      found same false n m m' t t' none = rw (same, n, none) (sym (miss (stands_want s w k) (below (mark_of w ms) row.id.0)))

      skip : (y.number == w) ≡ false → rows_in s w k (hold_puts ms row s ys) ≡ if_row (hit (want_in w ys)) row → (t : Bool) → (bytes_eq y.name row.channel && below (mark_of y.number ms) row.id.0) ≡ t
          → rows_in s w k (hold_puts ms row s (y ∷ ys)) ≡ if_row (hit (want_in w ys)) row
      skip u ih true e' = rw e' (blank (stands_want s w k) (s == s) (y.number == w) (rows_in s w k (hold_puts ms row s ys)) (not-want (s == s) (y.number == w) u) ∙ ih)
      skip u ih false e' = rw e' ih

      go : (u : Bool) → (y.number == w) ≡ u → rows_in s w k (hold_puts ms row s ys) ≡ if_row (hit (want_in w ys)) row → rows_in s w k (hold_puts ms row s (y ∷ ys)) ≡ if_row (hit (want_in w (y ∷ ys))) row
      go true u ih =
          let same : y.number ≡ w = grind (arith, nat_tests) in
          let none = holds-none s ys (want_in-above w y.number ys e r.1 (omega arith)) in
          rw u (found same (bytes_eq y.name row.channel) refl (below (mark_of w ms) row.id.0) refl (stands_want s w k) refl none)
      go false u ih = rw u (skip u ih (bytes_eq y.name row.channel && below (mark_of y.number ms) row.id.0) refl)

  rows_in-append : (ps qs : List Piece) → rows_in s w k (ps ++ qs) ≡ rows_in s w k ps ++ rows_in s w k qs
  rows_in-append [] qs = refl
  rows_in-append (p ∷ ps) qs = ap (λ rs. row_of s w k p ++ rs) (rows_in-append ps qs) ∙ sym (append_assoc (row_of s w k p) (rows_in s w k ps) (rows_in s w k qs))

  subs-none : (b : ℕ) (xs : List Sub) (e : ℕ) → Rises (λ (x : Sub). x.number) b xs e → s ≤ b → rows_in s w k (sub_puts ms row xs) ≡ []
  subs-none b [] e r l = refl
  subs-none b (x ∷ xs) e r l =
      let o : (x.number == s) ≡ false = grind (arith, nat_tests) in
      rows_in-append (hold_puts ms row x.number x.wants) (sub_puts ms row xs)
      ∙ (ap (λ rs. rs ++ rows_in s w k (sub_puts ms row xs)) (holds-other x.number x.wants o) ∙ subs-none x.number xs e r.1 (omega arith))

  -- a row puts one piece for the want, where its hold has the row's name and a lower mark
  pub subs-one : (b : ℕ) (xs : List Sub) (e m : ℕ) → Rises (λ (x : Sub). x.number) b xs e → AllByRecursion (λ (x : Sub). Rises (λ (y : Want). y.number) 0 x.wants m) xs
      → rows_in s w k (sub_puts ms row xs) ≡ if_row (hit (name_in s w xs)) row
  subs-one b [] e m r a = sym (miss (stands_want s w k) (below (mark_of w ms) row.id.0))
  subs-one b (x ∷ xs) e m r a = go (x.number == s) refl (subs-one x.number xs e m r.1 a.1)
    where
      go : (u : Bool) → (x.number == s) ≡ u → rows_in s w k (sub_puts ms row xs) ≡ if_row (hit (name_in s w xs)) row → rows_in s w k (sub_puts ms row (x ∷ xs)) ≡ if_row (hit (name_in s w (x ∷ xs))) row
      go true u ih =
          let same : x.number ≡ s = grind (arith, nat_tests) in
          rw u
          (rows_in-append (hold_puts ms row x.number x.wants) (sub_puts ms row xs)
          ∙ (ap (λ rs. rows_in s w k (hold_puts ms row x.number x.wants) ++ rs) (subs-none x.number xs e r.1 (omega arith))
          ∙ (append-nil (rows_in s w k (hold_puts ms row x.number x.wants)) ∙ rw same (holds-own 0 x.wants m a.0))))
      go false u ih =
          rw u (rows_in-append (hold_puts ms row x.number x.wants) (sub_puts ms row xs) ∙ (ap (λ rs. rs ++ rows_in s w k (sub_puts ms row xs)) (holds-other x.number x.wants u) ∙ ih))

  holds-quiet : (x : ℕ) (ws : List Want) → AllByRecursion (λ q. quiet q ≡ true) (hold_puts ms row x ws)
  holds-quiet x [] = tt
  holds-quiet x (y ∷ ys) = go (bytes_eq y.name row.channel && below (mark_of y.number ms) row.id.0) refl (holds-quiet x ys)
    where
      go : (t : Bool) → (bytes_eq y.name row.channel && below (mark_of y.number ms) row.id.0) ≡ t → AllByRecursion (λ q. quiet q ≡ true) (hold_puts ms row x ys) → AllByRecursion (λ q. quiet q ≡ true) (hold_puts ms row x (y ∷ ys))
      go true e ih = rw e (refl, ih)
      go false e ih = rw e ih

  pub subs-quiet : (xs : List Sub) → AllByRecursion (λ q. quiet q ≡ true) (sub_puts ms row xs)
  subs-quiet [] = tt
  subs-quiet (x ∷ xs) = All-append (λ q. quiet q ≡ true) (hold_puts ms row x.number x.wants) (sub_puts ms row xs) (holds-quiet x.number x.wants) (subs-quiet xs)
