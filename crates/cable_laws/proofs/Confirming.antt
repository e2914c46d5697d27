-- Each row that is worked stands behind its subscription's confirmation.
use Rattle.std.proofs.Common.{ℕ, suc, ◌+◌, ◌≡◌, ◌≤◌, ◌==◌, Bool, true, false, cond, ◌&&◌, ◌||◌, List, [], ◌∷◌, ◌++◌, length, length-append, Some, None, Option, refl, ap, sym, subst, ◌∙◌, arith, inl, inr, ◌⊎◌, leb, is_some, is_none, bytes_eq}
use Rattle.std.specs.List.{list_any, AllByRecursion}
use Rattle.std.proofs.lemmas.Bool.Decides.{nat_tests}
use Rattle.std.proofs.lemmas.Bool.{and_parts, leb-true}
use Rattle.cable_base.specs.Names.{own_name}
use Rattle.cable_base.specs.declared.rows.Row.{Row}
use Rattle.cable_base.proofs.Each.{All-append}
use Rattle.cable_json.specs.Commands.{command_of}
use Rattle.cable_json.specs.Disconnects.{disconnect_of}
use Rattle.cable_model.specs.declared.journals.ReadNote.{ReadNote}
use Rattle.cable_model.specs.declared.pieces.Piece.{Piece}
use Rattle.cable_model.specs.declared.pieces.Piece.TheVariants as piece
use Rattle.cable_model.specs.Steps.{Step}
use Rattle.cable_model.specs.Connection.{Want, Sub, Conn, Planner, fresh, change_of, worked, fold_from, fold, name_of, stands_want, stands_sub}
use Rattle.cable_model.specs.Wants.{Mark, marks, mark_of, turn_mark, user_of, made}
use Rattle.cable_model.specs.Pieces.{closing, put, put_all, seat, below, hold_puts, sub_puts, own_puts, row_puts, rows_puts, remote_put, takes_now, confirm_puts, deliver_puts, with_put, with_all, with_job, with_plan}
use Rattle.cable_model.specs.Window.{finished}
use Rattle.cable_model.specs.Promise.{AllWorked, due_in, confirms, AfterConfirm, InOrder}
use Rattle.cable_model.proofs.Folds.{fold_from-append}
use Rattle.cable_model.proofs.Valid.{Valid, fresh-valid, fold_from-valid, worked-valid, changed-made}
use Rattle.cable_model.proofs.Dues.{Dues, due-keeps, fold-due, changed-dues, fold-dues, due-below, name-due, due-stands}
use Rattle.cable_model.proofs.Puts.{Ended, put-Ended, fold-push}
use Rattle.cable_model.proofs.Working.{WorkingAt, working}
use Rattle.cable_model.proofs.Inbox.{valid-at}
use Rattle.cable_model.proofs.Marks.{marked-made, made-conn, mark_of-append, first_mark, missed-marks}

-- whether s was confirmed once these pieces are worked
abbrev pub confirmed_from : Planner → (s n : ℕ) → Conn → (seen : Bool) → List Piece → Bool
confirmed_from pl s n k seen [] = seen
confirmed_from pl s n k seen (p ∷ ps) = confirmed_from pl s (suc n) (worked pl (suc n) k p) (seen || confirms s k p) ps

module _ (pl : Planner) (s w : ℕ) where
  abbrev pub confirmed : List Piece → Bool
  confirmed ps = confirmed_from pl s 0 fresh false ps

  abbrev pub Ordered : List Piece → Type 0
  Ordered ps = InOrder pl s w 0 fresh false ps

  confirmed-append : (n : ℕ) (k : Conn) (b : Bool) (ps : List Piece) (q : Piece) → confirmed_from pl s n k b (ps ++ q ∷ []) ≡ (confirmed_from pl s n k b ps || confirms s (fold_from pl n k ps) q)
  confirmed-append n k b [] q = refl
  confirmed-append n k b (p ∷ ps) q = confirmed-append (suc n) (worked pl (suc n) k p) (b || confirms s k p) ps q

  order-append : (n : ℕ) (k : Conn) (b : Bool) (ps : List Piece) (q : Piece) → InOrder pl s w n k b ps → AfterConfirm s w (fold_from pl n k ps) (confirmed_from pl s n k b ps) q → InOrder pl s w n k b (ps ++ q ∷ [])
  order-append n k b [] q o a = (a, tt)
  order-append n k b (p ∷ ps) q o a = (o.0, order-append (suc n) (worked pl (suc n) k p) (b || confirms s k p) ps q o.1 a)

  put-ordered : (ps : List Piece) (q : Piece) → Ordered ps → AfterConfirm s w (fold pl ps) (confirmed ps) q → Ordered (put ps q)
  put-ordered ps q o a = elim (closing ps) as (λ b. Ordered (cond b ps (ps ++ q ∷ []))) [ true ↦ o | false ↦ order-append 0 fresh false ps q o a ]

  put-confirmed : (ps : List Piece) (q : Piece) → confirmed ps ≡ true → confirmed (put ps q) ≡ true
  put-confirmed ps q h =
      elim (closing ps) as (λ b. confirmed (cond b ps (ps ++ q ∷ [])) ≡ true) [ true ↦ h | false ↦ rw (confirmed-append 0 fresh false ps q, h) refl ]

  puts-confirmed : (ps qs : List Piece) → confirmed ps ≡ true → confirmed (put_all ps qs) ≡ true
  puts-confirmed ps [] h = h
  puts-confirmed ps (q ∷ qs) h = puts-confirmed (put ps q) qs (put-confirmed ps q h)

  -- a piece that is no command
  abbrev told_by_node : Piece → Bool
  told_by_node (piece.Cmd read) = false
  told_by_node _ = true

  worked-due : (n : ℕ) (k : Conn) (q : Piece) (d : Option ℕ) → told_by_node q ≡ true → due_in s (worked pl n k q).subs ≡ Some d → due_in s k.subs ≡ Some d
  worked-due n k (piece.Cmd read) d t h = absurd (cc (t))
  worked-due n k (piece.Row sub want row) d t h = h
  worked-due n k (piece.Confirm sub) d t h = h
  worked-due n k _ d t h = absurd (cc (h))

  put-due : (ps : List Piece) (q : Piece) (d : Option ℕ) → told_by_node q ≡ true → due_in s (fold pl (put ps q)).subs ≡ Some d → due_in s (fold pl ps).subs ≡ Some d
  put-due ps q d t h = go (closing ps) refl
    where
      go : (b : Bool) → closing ps ≡ b → due_in s (fold pl ps).subs ≡ Some d
      go true b = let h' = rw b at h in h'
      go false b = let h' = rw (b, fold-push pl ps q) at h in worked-due (suc (length ps)) (fold pl ps) q d t h'

  puts-due : (ps qs : List Piece) (d : Option ℕ) → AllByRecursion (λ q. told_by_node q ≡ true) qs → due_in s (fold pl (put_all ps qs)).subs ≡ Some d → due_in s (fold pl ps).subs ≡ Some d
  puts-due ps [] d t h = h
  puts-due ps (q ∷ qs) d t h = put-due ps q d t.0 (puts-due (put ps q) qs d t.1 h)

  abbrev is_confirm : Piece → Bool
  is_confirm (piece.Confirm sub) = sub.0 == s
  is_confirm _ = false

  confirm-counts : (k : Conn) (q : Piece) → is_confirm q ≡ true → stands_sub s k ≡ true → confirms s k q ≡ true
  confirm-counts k (piece.Confirm sub) h st = rw (h, st) refl
  confirm-counts k _ h st = h

  or-true : (b : Bool) → (b || true) ≡ true
  or-true true = refl
  or-true false = refl

  -- a confirmation that is put while its subscription still stands at the end is told
  puts-confirm : (ps qs : List Piece) (d : Option ℕ) → Ended pl ps → AllByRecursion (λ q. told_by_node q ≡ true) qs → list_any is_confirm qs ≡ true → due_in s (fold pl (put_all ps qs)).subs ≡ Some d → confirmed (put_all ps qs) ≡ true
  puts-confirm ps [] d e t h st = absurd (cc (h))
  puts-confirm ps (q ∷ qs) d e t h st = go (is_confirm q) refl (closing ps) refl (λ h'. puts-confirm (put ps q) qs d (put-Ended pl ps q e) t.1 h' st)
    where
      there : due_in s (fold pl ps).subs ≡ Some d
      there = put-due ps q d t.0 (puts-due (put ps q) qs d t.1 st)

      go : (b : Bool) → is_confirm q ≡ b → (x : Bool) → closing ps ≡ x → (list_any is_confirm qs ≡ true → confirmed (put_all (put ps q) qs) ≡ true) → confirmed (put_all (put ps q) qs) ≡ true
      go true b true x ih = let none = e x in let no : due_in s (fold pl ps).subs ≡ None = ap (due_in s) none in absurd (cc (no, there))
      go true b false x ih = puts-confirmed (put ps q) qs (rw x (confirmed-append 0 fresh false ps q ∙ (ap (λ y. confirmed ps || y) (confirm-counts (fold pl ps) q b (due-stands s d (fold pl ps).subs there)) ∙ or-true (confirmed ps))))
      go false b x x' ih = let h' = rw b at h in ih h'

  -- a Row of the want only where the want has a mark
  abbrev Marked : List Mark → Piece → Type 0
  Marked ms (piece.Row sub want row) = want.0 ≡ w → is_some (mark_of w ms) ≡ true
  Marked ms (piece.Cmd read) = ⊥
  Marked ms _ = Unit {0}

  marked-told : (ms : List Mark) (q : Piece) → Marked ms q → told_by_node q ≡ true
  marked-told ms (piece.Cmd read) m = absurd m
  marked-told ms _ m = refl

  all-told : (ms : List Mark) (qs : List Piece) → AllByRecursion (Marked ms) qs → AllByRecursion (λ q. told_by_node q ≡ true) qs
  all-told ms [] h = tt
  all-told ms (q ∷ qs) h = (marked-told ms q h.0, all-told ms qs h.1)

  mark-below : (n : ℕ) (ms : List Mark) → n ≤ w → is_some (mark_of w ms) ≡ true → (m : ℕ) × (mark_of n ms ≡ Some m)
  mark-below n [] l h = absurd (cc (h))
  mark-below n (t ∷ ts) l h = go (leb n t.seen) refl (leb w t.seen) refl (mark-below n ts l)
    where
      go : (a : Bool) → leb n t.seen ≡ a → (b : Bool) → leb w t.seen ≡ b → (is_some (mark_of w ts) ≡ true → (m : ℕ) × (mark_of n ts ≡ Some m)) → (m : ℕ) × (mark_of n (t ∷ ts) ≡ Some m)
      go true a b b' ih = (t.last, rw a refl)
      go false a true b ih = absurd (let x = leb-true w t.seen b in let y : leb n t.seen ≡ true = grind (arith, nat_tests) in cc (a, y))
      go false a false b ih = let h' = rw b at h in let r = ih h' in (r.0, rw a r.1)

  -- the pieces that a Deliver puts keep the order
  puts-ordered : (start ps qs : List Piece) (ms : List Mark) → ((d : Option ℕ) → due_in s (fold pl ps).subs ≡ Some d → due_in s (fold pl start).subs ≡ Some d)
      → (confirmed start ≡ true → confirmed ps ≡ true) → Dues (fold pl ps) → ((n m : ℕ) → due_in s (fold pl start).subs ≡ Some (Some n) → mark_of n ms ≡ Some m → confirmed start ≡ true)
      → (n : ℕ) → Valid n (fold pl ps) → n ≡ length ps
      → AllByRecursion (Marked ms) qs → Ordered ps → Ordered (put_all ps qs)
  puts-ordered start ps [] ms back on dues told n v len h o = o
  puts-ordered start ps (q ∷ qs) ms back on dues told n v len h o =
      puts-ordered start (put ps q) qs ms (λ d e. back d (put-due ps q d (marked-told ms q h.0) e)) (λ c. put-confirmed ps q (on c)) next.0 told (length (put ps q)) next.1 refl h.1 (put-ordered ps q o (after q h.0))
    where
      next : Dues (fold pl (put ps q)) × Valid (length (put ps q)) (fold pl (put ps q))
      next = go (closing ps) refl
        where
          go : (b : Bool) → closing ps ≡ b → Dues (fold pl (put ps q)) × Valid (length (put ps q)) (fold pl (put ps q))
          go true b = rw b (dues, subst (λ m. Valid m (fold pl ps)) len v)
          go false b =
              let v' : Valid (length ps) (fold pl ps) = subst (λ m. Valid m (fold pl ps)) len v in
              let l : suc (length ps) ≡ length (ps ++ q ∷ []) = omega (arith, length-append ps (q ∷ [])) in
              rw b (rw (fold-push pl ps q) (changed-dues (length ps) (fold pl ps) (change_of pl (suc (length ps)) (fold pl ps) q) v' dues, subst (λ m. Valid m (worked pl (suc (length ps)) (fold pl ps) q)) l (worked-valid pl (length ps) (fold pl ps) q v')))

      after : (p : Piece) → Marked ms p → AfterConfirm s w (fold pl ps) (confirmed ps) p
      after (piece.Cmd read) m = absurd m
      after (piece.Row sub want row) m = λ a b st. go b st (name_of s w (fold pl ps)) refl
        where
          go : want.0 ≡ w → stands_want s w (fold pl ps) ≡ true → (x : Option (List ℕ)) → name_of s w (fold pl ps) ≡ x → (due_in s (fold pl ps).subs ≡ Some None) ⊎ (confirmed ps ≡ true)
          go b st None x = let st' = rw x at st in absurd (cc (st'))
          go b st (Some name) x = due (name-due s w name (fold pl ps).subs x).0 (name-due s w name (fold pl ps).subs x).1
            where
              due : (d : Option ℕ) → due_in s (fold pl ps).subs ≡ Some d → (due_in s (fold pl ps).subs ≡ Some None) ⊎ (confirmed ps ≡ true)
              due None e = inl e
              due (Some n) e =
                  let l = due-below (fold pl ps).made s w n name (fold pl ps).subs dues x e in
                  let mk = mark-below n ms l (m b) in
                  inr (on (told n mk.0 (back (Some n) e) mk.1))
      after _ m = tt

  holds-marked : (ms : List Mark) (row : Row) (x : ℕ) (ws : List Want) → AllByRecursion (Marked ms) (hold_puts ms row x ws)
  holds-marked ms row x [] = tt
  holds-marked ms row x (y ∷ ys) = go (bytes_eq y.name row.channel && below (mark_of y.number ms) row.id.0) refl (holds-marked ms row x ys)
    where
      some : (o : Option ℕ) → below o row.id.0 ≡ true → is_some o ≡ true
      some None h = h
      some (Some m) h = refl

      go : (t : Bool) → (bytes_eq y.name row.channel && below (mark_of y.number ms) row.id.0) ≡ t → AllByRecursion (Marked ms) (hold_puts ms row x ys) → AllByRecursion (Marked ms) (hold_puts ms row x (y ∷ ys))
      go true t ih =
          let h = some (mark_of y.number ms) (and_parts (bytes_eq y.name row.channel) (below (mark_of y.number ms) row.id.0) t).1 in
          rw t (λ e. subst (λ n. is_some (mark_of n ms) ≡ true) e h, ih)
      go false t ih = rw t ih

  subs-marked : (ms : List Mark) (row : Row) (xs : List Sub) → AllByRecursion (Marked ms) (sub_puts ms row xs)
  subs-marked ms row [] = tt
  subs-marked ms row (x ∷ xs) = All-append (Marked ms) (hold_puts ms row x.number x.wants) (sub_puts ms row xs) (holds-marked ms row x.number x.wants) (subs-marked ms row xs)

  own-marked : (u : Option (List ℕ)) (ms : List Mark) (row : Row) → AllByRecursion (Marked ms) (own_puts u ms row)
  own-marked None ms row = tt
  own-marked (Some u) ms row =
      elim (bytes_eq (own_name u) row.channel && below (mark_of 0 ms) row.id.0) as (λ t. AllByRecursion (Marked ms) (cond t (remote_put (disconnect_of row.payload)) [])) [
        | true ↦ elim (disconnect_of row.payload) as (λ d. AllByRecursion (Marked ms) (remote_put d)) [ None ↦ tt | Some b ↦ (tt, tt) ]
        | false ↦ tt
      ]

  rows-marked : (u : Option (List ℕ)) (ms : List Mark) (xs : List Sub) (rows : List Row) → AllByRecursion (Marked ms) (rows_puts u ms xs rows)
  rows-marked u ms xs [] = tt
  rows-marked u ms xs (r ∷ rows) = All-append (Marked ms) (row_puts u ms xs r) (rows_puts u ms xs rows) (All-append (Marked ms) (sub_puts ms r xs) (own_puts u ms r) (subs-marked ms r xs) (own-marked u ms r)) (rows-marked u ms xs rows)

  confirms-marked : (ms now : List Mark) (xs : List Sub) → AllByRecursion (Marked ms) (confirm_puts ms now xs)
  confirms-marked ms now [] = tt
  confirms-marked ms now (x ∷ xs) = let ih = confirms-marked ms now xs in elim (takes_now ms now x.due) as (λ t. AllByRecursion (Marked ms) (cond t (piece.Confirm (record { 0 = x.number }) ∷ confirm_puts ms now xs) (confirm_puts ms now xs))) [ true ↦ (tt, ih) | false ↦ ih ]

  any-behind : (ps qs : List Piece) → list_any is_confirm qs ≡ true → list_any is_confirm (ps ++ qs) ≡ true
  any-behind [] qs h = h
  any-behind (p ∷ ps) qs h = rw (any-behind ps qs h) (or-true (is_confirm p))

  confirm-in : (ms now : List Mark) (n : ℕ) (xs : List Sub) → due_in s xs ≡ Some (Some n) → takes_now ms now (Some n) ≡ true → list_any is_confirm (confirm_puts ms now xs) ≡ true
  confirm-in ms now n [] a t = absurd (cc (a))
  confirm-in ms now n (x ∷ xs) a t = go (x.number == s) refl (confirm-in ms now n xs)
    where
      go : (u : Bool) → (x.number == s) ≡ u → (due_in s xs ≡ Some (Some n) → takes_now ms now (Some n) ≡ true → list_any is_confirm (confirm_puts ms now xs) ≡ true) → list_any is_confirm (confirm_puts ms now (x ∷ xs)) ≡ true
      go true u ih =
          let a' = rw u at a in
          let d : x.due ≡ Some n = cc (a') in
          let t' : takes_now ms now x.due ≡ true = ap (takes_now ms now) d ∙ t in
          rw (t', u) refl
      go false u ih =
          let a' = rw u at a in
          let r = ih a' t in
          elim (takes_now ms now x.due) as (λ b. list_any is_confirm (cond b (piece.Confirm (record { 0 = x.number }) ∷ confirm_puts ms now xs) (confirm_puts ms now xs)) ≡ true) [ true ↦ rw (u, r) refl | false ↦ r ]

  -- a connection with these pieces and marks: its rows stand in order, and where the want that is due with s has a mark, s was confirmed
  pub record Told (ps : List Piece) (ms : List Mark) : Type 0 where
    pub order : Ordered ps
    pub told : (n m : ℕ) → due_in s (fold pl ps).subs ≡ Some (Some n) → mark_of n ms ≡ Some m → confirmed ps ≡ true

  fold-made : (n : ℕ) (k : Conn) (ps : List Piece) → k.made ≤ (fold_from pl n k ps).made
  fold-made n k [] = omega arith
  fold-made n k (p ∷ ps) = let a = changed-made (suc n) k (change_of pl (suc n) k p) in let b = fold-made (suc n) (worked pl (suc n) k p) ps in omega arith

  valid-all : (ps : List Piece) → Valid (length ps) (fold pl ps)
  valid-all ps = let e : 0 + length ps ≡ length ps = omega arith in subst (λ n. Valid n (fold pl ps)) e (fold_from-valid pl 0 fresh ps fresh-valid)

  dues-all : (ps : List Piece) → Dues (fold pl ps)
  dues-all ps = fold-dues pl 0 fresh ps fresh-valid tt

  -- a piece is put, where the wants that have a mark were made before
  pub put-told : (ps : List Piece) (ms : List Mark) (q : Piece) → AfterConfirm s w (fold pl ps) (confirmed ps) q → ((n m : ℕ) → mark_of n ms ≡ Some m → n ≤ (fold pl ps).made)
      → Told ps ms → Told (put ps q) ms
  put-told ps ms q a made t =
      record {
        order = put-ordered ps q t.order a;
        told = λ n x d k. put-confirmed ps q (t.told n x (back n x k (closing ps) refl d) k);
      }
    where
      back : (n x : ℕ) → mark_of n ms ≡ Some x → (y : Bool) → closing ps ≡ y → due_in s (fold pl (put ps q)).subs ≡ Some (Some n) → due_in s (fold pl ps).subs ≡ Some (Some n)
      back n x k true y d = let d' = rw y at d in d'
      back n x k false y d =
          let d' = rw (y, fold-push pl ps q) at d in
          due-keeps (length ps) s n (fold pl ps) (change_of pl (suc (length ps)) (fold pl ps) q) (valid-all ps) (made n x k) d'

  folded : (c : ℕ) (past : List Step) (v : WorkingAt pl c past) → fold pl (seat c past).pieces ≡ fold_from pl (seat c past).done (seat c past).conn v.back
  folded c past v = ap (fold pl) v.pieces ∙ (fold_from-append pl 0 fresh v.front v.back ∙ (ap (λ x. fold_from pl (0 + length v.front) x v.back) (sym v.conn) ∙ ap (λ n. fold_from pl n (seat c past).conn v.back) (omega (arith, v.done))))

  -- the wants that have a mark were made
  made-folded : (c : ℕ) (past : List Step) → WorkingAt pl c past → (n m : ℕ) → mark_of n (marks c past) ≡ Some m → n ≤ (fold pl (seat c past).pieces).made
  made-folded c past v n m k =
      let l = marked-made c n m past k in
      let g = fold-made (seat c past).done (seat c past).conn v.back in
      omega (arith, made-conn c past, ap (λ z. z.made) (folded c past v))

  abbrev pub ToldAt : ℕ → List Step → Type 0
  ToldAt c past = Told (seat c past).pieces (marks c past)

  deliver-told : (c turn : ℕ) (note : ReadNote) (past : List Step) → WorkingAt pl c past → ToldAt c past
      → Told (put_all (seat c past).pieces (deliver_puts (user_of c past) (marks c past) (turn_mark c note past) (seat c past).conn.subs note.rows)) (marks c past ++ turn_mark c note past)
  deliver-told c turn note past v t =
      record {
        order = puts-ordered ps ps qs ms (λ d e. e) (λ x. x) (dues-all ps) t.told (length ps) (valid-all ps) refl marked t.order;
        told = λ n x d k. go n x d k (mark_of n ms) refl;
      }
    where
      ps : List Piece
      ps = (seat c past).pieces

      ms : List Mark
      ms = marks c past

      qs : List Piece
      qs = deliver_puts (user_of c past) (marks c past) (turn_mark c note past) (seat c past).conn.subs note.rows

      marked : AllByRecursion (Marked ms) qs
      marked = All-append (Marked ms) (rows_puts (user_of c past) (marks c past) (seat c past).conn.subs note.rows) (confirm_puts (marks c past) (turn_mark c note past) (seat c past).conn.subs) (rows-marked (user_of c past) (marks c past) (seat c past).conn.subs note.rows) (confirms-marked (marks c past) (turn_mark c note past) (seat c past).conn.subs)

      go : (n x : ℕ) → due_in s (fold pl (put_all ps qs)).subs ≡ Some (Some n) → mark_of n (marks c (Step.Deliver turn note ∷ past)) ≡ Some x → (o : Option ℕ) → mark_of n ms ≡ o → confirmed (put_all ps qs) ≡ true
      go n x d k (Some m) o = puts-confirmed ps qs (t.told n m (puts-due ps qs (Some n) (all-told ms qs marked) d) o)
      go n x d k None o =
          let k' : mark_of n (turn_mark c note past) ≡ Some x = sym (mark_of-append n (marks c past) (turn_mark c note past) ∙ ap (λ z. first_mark z (mark_of n (turn_mark c note past))) o) ∙ k in
          let takes : takes_now (marks c past) (turn_mark c note past) (Some n) ≡ true = ap (λ z. is_none z && is_some (mark_of n (turn_mark c note past))) o ∙ ap is_some k' in
          let l : n ≤ made c past = marked-made c n x (Step.Deliver turn note ∷ past) k in
          let l' : n ≤ (seat c past).conn.made = omega (arith, made-conn c past) in
          let d0 = puts-due ps qs (Some n) (all-told ms qs marked) d in
          let d1 : due_in s (fold_from pl (seat c past).done (seat c past).conn v.back).subs ≡ Some (Some n) = sym (ap (λ z. due_in s z.subs) (folded c past v)) ∙ d0 in
          let valid = valid-at pl (seat c past) (λ sub want. finished c sub want past) v in
          let d2 = fold-due pl (seat c past).done s n (seat c past).conn v.back valid l' d1 in
          let here = any-behind (rows_puts (user_of c past) (marks c past) (seat c past).conn.subs note.rows) (confirm_puts (marks c past) (turn_mark c note past) (seat c past).conn.subs) (confirm-in (marks c past) (turn_mark c note past) n (seat c past).conn.subs d2 takes) in
          puts-confirm ps qs (Some n) v.ended (all-told ms qs marked) here d

  putting : (b : Bool) (q : Piece) (c : ℕ) (past : List Step) → ((k : Conn) (seen : Bool) → AfterConfirm s w k seen q) → WorkingAt pl c past → ToldAt c past
      → Told (cond b (with_put (seat c past) q) (seat c past)).pieces (marks c past)
  putting true q c past a v t = put-told (seat c past).pieces (marks c past) q (a (fold pl (seat c past).pieces) (confirmed (seat c past).pieces)) (made-folded c past v) t
  putting false q c past a v t = t

  pub telling : (c : ℕ) (past : List Step) → AllWorked pl c past → ToldAt c past
  telling c [] a = record { order = tt; told = λ n m d. absurd (cc (d)) }
  telling c (Step.In d text ∷ past) a = putting (d == c) (piece.Cmd (command_of text)) c past (λ k seen. tt) (working pl c past a.1) (telling c past a.1)
  telling c (Step.Drop d ∷ past) a = putting (d == c) piece.Gone c past (λ k seen. tt) (working pl c past a.1) (telling c past a.1)
  telling c (Step.Stop ∷ past) a = putting (is_some (user_of c past)) piece.Restart c past (λ k seen. tt) (working pl c past a.1) (telling c past a.1)
  telling c (Step.Take d ∷ past) a =
      let t = telling c past a.1 in elim (d == c) as (λ b. Told (cond b (with_job (seat c past)) (seat c past)).pieces (marks c past)) [ true ↦ t | false ↦ t ]
  telling c (Step.Finish d puts plan ∷ past) a =
      let t = telling c past a.1 in elim (d == c) as (λ b. Told (cond b (with_plan (seat c past) plan) (seat c past)).pieces (marks c past)) [ true ↦ t | false ↦ t ]
  telling c (Step.Deliver turn note ∷ past) a = go note.failed refl (telling c past a.1)
    where
      now : Bool → List Piece
      now b = (cond b (seat c past) (with_all (seat c past) (deliver_puts (user_of c past) (marks c past) (turn_mark c note past) (seat c past).conn.subs note.rows))).pieces

      go : (b : Bool) → note.failed ≡ b → ToldAt c past → ToldAt c (Step.Deliver turn note ∷ past)
      go true f t = subst (λ b. Told (now b) (marks c (Step.Deliver turn note ∷ past))) (sym f) (subst (Told (seat c past).pieces) (sym (missed-marks c turn note past f)) t)
      go false f t = subst (λ b. Told (now b) (marks c (Step.Deliver turn note ∷ past))) (sym f) (deliver-told c turn note past (working pl c past a.1) t)
  telling c (_ ∷ past) a = telling c past a.1
