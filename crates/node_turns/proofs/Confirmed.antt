-- The confirmations that are due with the wants that the turn takes are those that the journal says.
use Rattle.std.proofs.Common.{ℕ, suc, ◌+◌, ◌≡◌, ◌≤◌, ◌<◌, ◌==◌, ◌&&◌, ◌||◌, Bool, true, false, cond, List, [], ◌∷◌, length, map, take, Some, None, Option}
use Rattle.std.proofs.Common.{refl, ap, sym, subst, ◌∙◌, arith, is_none, is_some}
use Rattle.std.specs.Prelude.{leb, ltb}
use Rattle.std.specs.List.{list_any, AllByRecursion}
use Rattle.std.proofs.lemmas.Bool.{leb-true}
use Rattle.std.proofs.lemmas.Bool.Decides.{nat_tests}
use Rattle.cable_model.specs.Connection.{Sub}
use Rattle.cable_model.specs.declared.journals.ReadNote.{ReadNote}
use Rattle.cable_model.specs.declared.pieces.Piece.{Piece}
use Rattle.cable_model.specs.declared.pieces.Piece.TheVariants as piece
use Rattle.cable_model.specs.Legal.{Legal}
use Rattle.cable_model.specs.Pieces.{seat, confirm_puts, takes_now}
use Rattle.cable_model.specs.Possible.{is_out}
use Rattle.cable_model.specs.Steps.{Step}
use Rattle.cable_model.specs.Wants.{Mark, mark_of, marks, turn_mark, user_of, made, at_ask}
use Rattle.conn_core.specs.Marked.{Marks, marked_sub}
use Rattle.conn_core.specs.Subscriptions.{has_number}
use Rattle.conn_seat.specs.Seated.{marks_at}
use Rattle.conn_seat.specs.Seats.{Seated}
use Rattle.node_seats.specs.AreSeats.{AreSeats}
use Rattle.node_seats.specs.declared.turning.Wanted.{Wanted}
use Rattle.node_seats.specs.Numbers.{Numbers, Opened, opened_at}
use Rattle.node_seats.specs.Turned.{pieces_for, wanted_by}
use Rattle.node_turns.specs.Wants.{confirms_of}
use Rattle.node_turns.specs.Wished.{AreWished, taken_count, found_made}
use Rattle.node_turns.proofs.Gone.{live-found}
use Rattle.node_turns.proofs.TurnsSeen.{above-none, seens}
use Rattle.node_turns.proofs.WantsCounted.{userless-mark}
use Rattle.node_turns.proofs.WantsNumbered.{Numbered}
use Rattle.node_turns.proofs.WantsOwned.{Owns, owned, is_due, DuesFrom, dues_of, one-due}
use Rattle.node_turns.proofs.MarksPlaced.{found, none-found}

-- ---- the confirmations of one connection

abbrev confirm : ℕ → Piece
confirm n = piece.Confirm (record { 0 = n })

-- those of these wants whose subscription stands
abbrev here : List Sub → List Wanted → List Piece
here subs [] = []
here subs (y ∷ ys) = cond (y.confirms && list_any (λ (x : Sub). x.number == y.sub.0) subs) (piece.Confirm y.sub ∷ here subs ys) (here subs ys)

abbrev due_within : (lo hi : ℕ) → Option ℕ → Bool
due_within lo hi None = false
due_within lo hi (Some d) = leb lo d && ltb d hi

-- those of these subscriptions whose due lies there
abbrev due_there : (lo hi : ℕ) → List Sub → List Piece
due_there lo hi [] = []
due_there lo hi (x ∷ xs) = cond (due_within lo hi x.due) (confirm x.number ∷ due_there lo hi xs) (due_there lo hi xs)

none-within : (n : ℕ) (o : Option ℕ) → due_within n n o ≡ false
none-within n None = refl
none-within n (Some d) = grind (arith, nat_tests)

none-there : (n : ℕ) (xs : List Sub) → due_there n n xs ≡ []
none-there n [] = refl
none-there n (x ∷ xs) = let f = none-within n x.due in rw f (none-there n xs)

-- above a due the place doesn't matter
due-beyond : (n hi : ℕ) (o : Option ℕ) (os : List (Option ℕ)) (e : ℕ) → DuesFrom n (o ∷ os) e → due_within n hi o ≡ due_within (suc n) hi o
due-beyond n hi None os e h = refl
due-beyond n hi (Some d) os e h = let g = h.0 in grind (arith, nat_tests)

beyond : (n hi : ℕ) (xs : List Sub) (e : ℕ) → DuesFrom n (dues_of xs) e → due_there n hi xs ≡ due_there (suc n) hi xs
beyond n hi [] e h = refl
beyond n hi (x ∷ xs) e h =
    let f = due-beyond n hi x.due (dues_of xs) e h in
    ap (λ t. cond t (confirm x.number ∷ due_there n hi xs) (due_there n hi xs)) f
    ∙ ap (λ (ps : List Piece). cond (due_within (suc n) hi x.due) (confirm x.number ∷ ps) ps) (beyond n hi xs e (one-due n x.due (dues_of xs) e h))

not-due : (n : ℕ) (o : Option ℕ) (os : List (Option ℕ)) (e : ℕ) → DuesFrom n (o ∷ os) e → is_due o n ≡ false
not-due n None os e h = refl
not-due n (Some d) os e h = let g = h.0 in grind (arith, nat_tests)

-- a want whose confirmation is due with none of these confirms none of them
none-due : (y : Wanted) (n : ℕ) (xs : List Sub) (e : ℕ) → y.want.0 ≡ n → AllByRecursion (Owns y) xs → DuesFrom n (dues_of xs) e
    → (y.confirms && list_any (λ (x : Sub). x.number == y.sub.0) xs) ≡ false
none-due y n [] e w o h = grind arith
none-due y n (x ∷ xs) e w o h =
    let ih = none-due y n xs e w o.1 (one-due n x.due (dues_of xs) e h) in
    let d = not-due n x.due (dues_of xs) e h in
    let at = o.0.due in
    grind (arith, nat_tests, ih, d, at)

-- the want of the number n confirms the subscription whose due is n
at-due : (y : Wanted) (n hi b : ℕ) (xs : List Sub) (e : ℕ) → n < hi → y.want.0 ≡ n → AllByRecursion (Owns y) xs → DuesFrom b (dues_of xs) e
    → due_there n hi xs
    ≡ cond (y.confirms && list_any (λ (x : Sub). x.number == y.sub.0) xs) (piece.Confirm y.sub ∷ due_there (suc n) hi xs) (due_there (suc n) hi xs)
at-due y n hi b [] e l w o h = sym (elim y.confirms as (λ t. cond (t && false) (piece.Confirm y.sub ∷ []) [] ≡ []) [ true ↦ refl | false ↦ refl ])
at-due y n hi b (x ∷ xs) e l w o h = by-due x.due refl (λ a g. at-due y n hi a xs e l w o.1 g)
  where
    -- the subscription's due is another one
    other : (due_within n hi x.due ≡ false) → (due_within (suc n) hi x.due ≡ false) → (is_due x.due n ≡ false)
        → due_there n hi xs
        ≡ cond (y.confirms && list_any (λ (x : Sub). x.number == y.sub.0) xs) (piece.Confirm y.sub ∷ due_there (suc n) hi xs) (due_there (suc n) hi xs)
        → due_there n hi (x ∷ xs)
        ≡ cond (y.confirms && list_any (λ (x : Sub). x.number == y.sub.0) (x ∷ xs)) (piece.Confirm y.sub ∷ due_there (suc n) hi (x ∷ xs))
        (due_there (suc n) hi (x ∷ xs))
    other f g d ih = let due = o.0.due in grind (arith, nat_tests, f, g, d, ih, due, w)

    by-due : (d : Option ℕ) → x.due ≡ d
        → ((a : ℕ) → DuesFrom a (dues_of xs) e
        → due_there n hi xs
        ≡ cond (y.confirms && list_any (λ (x : Sub). x.number == y.sub.0) xs) (piece.Confirm y.sub ∷ due_there (suc n) hi xs) (due_there (suc n) hi xs))
        → due_there n hi (x ∷ xs)
        ≡ cond (y.confirms && list_any (λ (x : Sub). x.number == y.sub.0) (x ∷ xs)) (piece.Confirm y.sub ∷ due_there (suc n) hi (x ∷ xs))
        (due_there (suc n) hi (x ∷ xs))
    by-due None d ih =
        let h' : DuesFrom b (dues_of xs) e = subst (λ k. DuesFrom b (k ∷ dues_of xs) e) d h in
        other (ap (due_within n hi) d) (ap (due_within (suc n) hi) d) (ap (λ k. is_due k n) d) (ih b h')
    by-due (Some m) d ih = by-order (leb n m) refl (m == n) refl
      where
        h' : (b < m) × DuesFrom m (dues_of xs) e
        h' = subst (λ k. DuesFrom b (k ∷ dues_of xs) e) d h

        by-order : (p : Bool) → leb n m ≡ p → (q : Bool) → (m == n) ≡ q
            → due_there n hi (x ∷ xs)
            ≡ cond (y.confirms && list_any (λ (x : Sub). x.number == y.sub.0) (x ∷ xs)) (piece.Confirm y.sub ∷ due_there (suc n) hi (x ∷ xs))
            (due_there (suc n) hi (x ∷ xs))
        by-order false p q q' =
            let f : due_within n hi (Some m) ≡ false = grind (arith, nat_tests) in
            let g : due_within (suc n) hi (Some m) ≡ false = grind (arith, nat_tests) in
            let k : is_due (Some m) n ≡ false = grind (arith, nat_tests) in
            other (ap (due_within n hi) d ∙ f) (ap (due_within (suc n) hi) d ∙ g) (ap (λ z. is_due z n) d ∙ k) (ih m h'.1)
        by-order true p true q =
            let e' : m ≡ n = grind (arith, nat_tests) in
            let s : y.sub.0 ≡ x.number = o.0.due_sub m d (w ∙ sym e') in
            let t : (x.number == y.sub.0) ≡ true = grind (arith, nat_tests) in
            let k : is_due (Some m) n ≡ true = q in
            let c : y.confirms ≡ true = o.0.due s ∙ ap (is_due x.due) w ∙ ap (λ z. is_due z n) d ∙ k in
            let f : due_within n hi x.due ≡ true = ap (due_within n hi) d ∙ within-now e' in
            let g : due_within (suc n) hi x.due ≡ false = ap (due_within (suc n) hi) d ∙ within-next e' in
            let rest = beyond n hi xs e (subst (λ z. DuesFrom z (dues_of xs) e) e' h'.1) in
            rw (f, g, t, c) (ap (λ (ps : List Piece). confirm x.number ∷ ps) rest ∙ ap (λ z. confirm z ∷ due_there (suc n) hi xs) (sym s))
          where
            within-now : m ≡ n → due_within n hi (Some m) ≡ true
            within-now e = grind (arith, nat_tests, l)

            within-next : m ≡ n → due_within (suc n) hi (Some m) ≡ false
            within-next e = grind (arith, nat_tests)
        by-order true p false q =
            let above : n < m = grind (arith, nat_tests) in
            let rises : DuesFrom n (dues_of (x ∷ xs)) e = subst (λ k. DuesFrom n (k ∷ dues_of xs) e) (sym d) (above, h'.1) in
            let f = none-due y n (x ∷ xs) e w o rises in
            beyond n hi (x ∷ xs) e rises ∙ sym (ap (λ t. cond t (piece.Confirm y.sub ∷ due_there (suc n) hi (x ∷ xs)) (due_there (suc n) hi (x ∷ xs))) f)

here-due : (n : ℕ) (ys : List Wanted) (xs : List Sub) (e : ℕ) → Numbered n ys → AllByRecursion (λ (y : Wanted). AllByRecursion (Owns y) xs) ys
    → DuesFrom 0 (dues_of xs) e → here xs ys ≡ due_there n (n + length ys) xs
here-due n [] xs e h o r =
    let m : n + length {A = Wanted} [] ≡ n = omega arith in
    sym (ap (λ hi. due_there n hi xs) m ∙ none-there n xs)
here-due n (y ∷ ys) xs e h o r =
    let m : suc n + length ys ≡ n + length (y ∷ ys) = omega arith in
    let ih : here xs ys ≡ due_there (suc n) (n + length (y ∷ ys)) xs = here-due (suc n) ys xs e h.2 o.1 r ∙ ap (λ hi. due_there (suc n) hi xs) m in
    ap (λ (ps : List Piece). cond (y.confirms && list_any (λ (x : Sub). x.number == y.sub.0) xs) (piece.Confirm y.sub ∷ ps) ps) ih
    ∙ sym (at-due y n (n + length (y ∷ ys)) 0 xs e (omega arith) h.0 o.0 r)

-- ---- as the journal says it

-- a want that a turn took has a mark
marked-below : (w : ℕ) (ms : List Mark) → w < taken_count ms → is_none (mark_of w ms) ≡ false
marked-below w [] l = absurd (omega (arith, l))
marked-below w (t ∷ []) l = grind (arith, nat_tests)
marked-below w (t ∷ r ∷ ts) l = grind (arith, nat_tests, marked-below w (r ∷ ts) l)

takes-due : (ms : List Mark) (t : Mark) (o : Option ℕ) → AllByRecursion (λ (m : Mark). suc m.seen ≤ taken_count ms) ms
    → takes_now ms (t ∷ []) o ≡ due_within (taken_count ms) (suc t.seen) o
takes-due ms t None h = refl
takes-due ms t (Some d) h = go (leb (taken_count ms) d) refl
  where
    upto : is_some (mark_of d (t ∷ [])) ≡ ltb d (suc t.seen)
    upto = grind (arith, nat_tests)

    go : (b : Bool) → leb (taken_count ms) d ≡ b → (is_none (mark_of d ms) && is_some (mark_of d (t ∷ []))) ≡ (leb (taken_count ms) d && ltb d (suc t.seen))
    go true b =
        let n = above-none (taken_count ms) d ms h (leb-true (taken_count ms) d b) in
        rw (n, b) upto
    go false b =
        let n = marked-below d ms (grind (arith, nat_tests)) in
        rw (n, b) refl

confirms-due : (ms : List Mark) (t : Mark) (xs : List Sub) → AllByRecursion (λ (m : Mark). suc m.seen ≤ taken_count ms) ms
    → confirm_puts ms (t ∷ []) xs ≡ due_there (taken_count ms) (suc t.seen) xs
confirms-due ms t [] h = refl
confirms-due ms t (x ∷ xs) h =
    ap (λ b. cond b (confirm x.number ∷ confirm_puts ms (t ∷ []) xs) (confirm_puts ms (t ∷ []) xs)) (takes-due ms t x.due h)
    ∙ ap (λ (ps : List Piece). cond (due_within (taken_count ms) (suc t.seen) x.due) (confirm x.number ∷ ps) ps) (confirms-due ms t xs h)

takes-none : (ms : List Mark) (o : Option ℕ) → takes_now ms [] o ≡ false
takes-none ms None = refl
takes-none ms (Some d) = grind arith

confirms-none : (ms : List Mark) (xs : List Sub) → confirm_puts ms [] xs ≡ []
confirms-none ms [] = refl
confirms-none ms (x ∷ xs) = let f = takes-none ms x.due in rw f (confirms-none ms xs)

-- ---- of one connection among all

same-here : (ms : Marks) (subs : List Sub) (y : Wanted)
    → list_any (has_number y.sub) (map (marked_sub ms) subs) ≡ list_any (λ (x : Sub). x.number == y.sub.0) subs
same-here ms [] y = refl
same-here ms (x ∷ xs) y = ap (λ b. (x.number == y.sub.0) || b) (same-here ms xs y)

for-conn : (c : ℕ) (v : Numbers) (s : Seated) (ms : Marks) (subs : List Sub) (xs : List Wanted) → opened_at c v ≡ Some (Opened.Live s)
    → s.subs ≡ map (marked_sub ms) subs → pieces_for c (confirms_of v xs) ≡ here subs (wanted_by c xs)
for-conn c v s ms subs [] at is = refl
for-conn c v s ms subs (y ∷ ys) at is =
    let ih = for-conn c v s ms subs ys at is in
    let stands = ap (list_any (has_number y.sub)) is ∙ same-here ms subs y in
    grind (arith, nat_tests, ih, at, stands)

pub turn-confirms : (c : ℕ) (note : ReadNote) (past : List Step) (v : Numbers) (s : Seated) (gone : ℕ → Bool) (ws : List Wanted) (taken : ℕ)
    → Legal past → is_out past ≡ true → note.failed ≡ false → AreSeats past v → AreWished past gone ws taken → opened_at c v ≡ Some (Opened.Live s)
    → pieces_for c (confirms_of v (take taken ws)) ≡ confirm_puts (marks c past) (turn_mark c note past) (seat c past).conn.subs
turn-confirms c note past v s gone ws taken l o f a w at =
    for-conn c v s (marks_at c past) subs (take taken ws) at (a.each c (Opened.Live s) at).0.shows.conn.subs ∙ ap (here subs) taken_now
    ∙ go (user_of c (at_ask past)) refl
  where
    subs : List Sub
    subs = (seat c past).conn.subs

    taken_now : wanted_by c (take taken ws) ≡ found_made c past
    taken_now = let is = a.each c (Opened.Live s) at in live-found c past s gone ws taken o w is.0 is.1

    go : (u : Option (List ℕ)) → user_of c (at_ask past) ≡ u
        → here (seat c past).conn.subs (found_made c past) ≡ confirm_puts (marks c past) (turn_mark c note past) (seat c past).conn.subs
    go None u =
        ap (here (seat c past).conn.subs) (none-found c past l u)
        ∙ sym (ap (λ ts. confirm_puts (marks c past) ts (seat c past).conn.subs) (userless-mark c note past u)
        ∙ confirms-none (marks c past) (seat c past).conn.subs)
    go (Some user) u =
        let d = found c user past l o u in
        let t : Mark = record { seen = made c (at_ask past); last = note.last.0 } in
        let mark : turn_mark c note past ≡ t ∷ [] = rw (u, f) refl in
        let whole = owned c past l in
        here-due (taken_count (marks c past)) (found_made c past) (seat c past).conn.subs (seat c past).conn.made d.numbered d.owns whole.rise
        ∙ ap (λ hi. due_there (taken_count (marks c past)) hi (seat c past).conn.subs) d.length_is
        ∙ sym (ap (λ ts. confirm_puts (marks c past) ts (seat c past).conn.subs) mark ∙ confirms-due (marks c past) t (seat c past).conn.subs (seens c past l))
