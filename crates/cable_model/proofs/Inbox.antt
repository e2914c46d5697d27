-- What waits, entry by entry: a put adds at the end, a Take takes the first, and a Finish strikes what no longer stands.
use Rattle.std.proofs.Common.{ℕ, suc, ◌+◌, ◌-◌, ◌≡◌, ◌<◌, ◌≤◌, ◌==◌, Bool, true, false, cond, not, ◌&&◌, ◌||◌, List, [], ◌∷◌, ◌++◌, length, map, drop, Some, None, Option, refl, ap, sym, subst, ◌∙◌, arith, inl, inr, append_assoc, bytes_eq, is_some, length-append}
use Rattle.std.specs.List.{filter, list_any, AllByRecursion}
use Rattle.std.proofs.lemmas.Bool.Decides.{nat_tests}
use Rattle.cable_base.specs.Names.{own_name}
use Rattle.cable_base.specs.declared.rows.Row.{Row}
use Rattle.cable_base.proofs.Each.{All-append, All-back, All-implied}
use Rattle.cable_base.proofs.Rises.{Rises, Rises-within}
use Rattle.cable_json.specs.Commands.{command_of}
use Rattle.cable_json.specs.Disconnects.{disconnect_of}
use Rattle.cable_model.specs.declared.pieces.Piece.{Piece}
use Rattle.cable_model.specs.declared.pieces.Piece.TheVariants as piece
use Rattle.cable_model.specs.declared.plans.Change.{Change}
use Rattle.cable_model.specs.declared.plans.Change.TheVariants as change
use Rattle.cable_model.specs.declared.plans.Plan.{Plan}
use Rattle.cable_model.specs.Steps.{Step, In, Drop, Stop, Take, Finish, Deliver}
use Rattle.cable_model.specs.Connection.{Want, Sub, Conn, Planner, fresh, changed, streamed, wanted, first_above, fold, still, stands_want, stands_sub, name_of}
use Rattle.cable_model.specs.Wants.{Mark, marks, mark_of, turn_mark, user_of}
use Rattle.cable_model.specs.Pieces.{closing, put, put_all, below, row_piece, hold_puts, sub_puts, own_puts, remote_put, row_puts, rows_puts, takes_now, confirm_puts, deliver_puts, numbered, Seat, seat, waiting, with_put, with_all, with_job, with_plan}
use Rattle.cable_model.specs.Possible.{has_job}
use Rattle.cable_model.specs.Window.{finished}
use Rattle.cable_model.specs.Promise.{AllWorked}
use Rattle.cable_model.proofs.Valid.{Valid, fresh-valid, fold_from-valid, changed-keeps, changed-made, streamed-number, Valid-upto}
use Rattle.cable_model.proofs.Working.{Working, working, Out, drop-numbered}

-- the numbers that a piece names were given
abbrev pub Known : ℕ → ℕ → Piece → Type 0
Known made n (piece.Row sub want row) = want.0 ≤ made
Known made n (piece.Confirm sub) = sub.0 ≤ n
Known made n _ = Unit {0}

abbrev pub AllKnown : ℕ → ℕ → List Piece → Type 0
AllKnown made n ps = AllByRecursion (Known made n) ps

Known-more : (m m' n n' : ℕ) → m ≤ m' → n ≤ n' → (q : Piece) → Known m n q → Known m' n' q
Known-more m m' n n' a b (piece.Row sub want row) h = omega arith
Known-more m m' n n' a b (piece.Confirm sub) h = omega arith
Known-more m m' n n' a b _ h = tt

AllKnown-more : (m m' n n' : ℕ) → m ≤ m' → n ≤ n' → (qs : List Piece) → AllKnown m n qs → AllKnown m' n' qs
AllKnown-more m m' n n' a b qs h = All-implied (Known m n) (Known m' n') qs (Known-more m m' n n' a b) h

put-known : (m n : ℕ) (ps : List Piece) (q : Piece) → AllKnown m n ps → Known m n q → AllKnown m n (put ps q)
put-known m n ps q a k = elim (closing ps) as (λ b. AllKnown m n (cond b ps (ps ++ q ∷ []))) [ true ↦ a | false ↦ All-append (Known m n) ps (q ∷ []) a (k, tt) ]

puts-known : (m n : ℕ) (ps qs : List Piece) → AllKnown m n ps → AllKnown m n qs → AllKnown m n (put_all ps qs)
puts-known m n ps [] a k = a
puts-known m n ps (q ∷ qs) a k = puts-known m n (put ps q) qs (put-known m n ps q a k.0) k.1

holds-known : (ms : List Mark) (row : Row) (x b m n : ℕ) (ws : List Want) → Rises (λ (y : Want). y.number) b ws m → AllKnown m n (hold_puts ms row x ws)
holds-known ms row x b m n [] r = tt
holds-known ms row x b m n (y ∷ ys) r =
    let l = Rises-within (λ (z : Want). z.number) y.number ys m r.1 in
    let ih = holds-known ms row x y.number m n ys r.1 in
    elim (bytes_eq y.name row.channel && below (mark_of y.number ms) row.id.0) as (λ t. AllKnown m n (cond t (row_piece x y.number row ∷ hold_puts ms row x ys) (hold_puts ms row x ys))) [ true ↦ (l, ih) | false ↦ ih ]

subs-known : (ms : List Mark) (row : Row) (m n : ℕ) (xs : List Sub) → AllByRecursion (λ (x : Sub). Rises (λ (y : Want). y.number) 0 x.wants m) xs → AllKnown m n (sub_puts ms row xs)
subs-known ms row m n [] h = tt
subs-known ms row m n (x ∷ xs) h = All-append (Known m n) (hold_puts ms row x.number x.wants) (sub_puts ms row xs) (holds-known ms row x.number 0 m n x.wants h.0) (subs-known ms row m n xs h.1)

own-known : (u : Option (List ℕ)) (ms : List Mark) (row : Row) (m n : ℕ) → AllKnown m n (own_puts u ms row)
own-known None ms row m n = tt
own-known (Some u) ms row m n =
    elim (bytes_eq (own_name u) row.channel && below (mark_of 0 ms) row.id.0) as (λ t. AllKnown m n (cond t (remote_put (disconnect_of row.payload)) [])) [
      | true ↦ elim (disconnect_of row.payload) as (λ d. AllKnown m n (remote_put d)) [ None ↦ tt | Some b ↦ (tt, tt) ]
      | false ↦ tt
    ]

rows-known : (u : Option (List ℕ)) (ms : List Mark) (m n : ℕ) (xs : List Sub) (rows : List Row) → AllByRecursion (λ (x : Sub). Rises (λ (y : Want). y.number) 0 x.wants m) xs → AllKnown m n (rows_puts u ms xs rows)
rows-known u ms m n xs [] h = tt
rows-known u ms m n xs (r ∷ rows) h =
    All-append (Known m n) (row_puts u ms xs r) (rows_puts u ms xs rows) (All-append (Known m n) (sub_puts ms r xs) (own_puts u ms r) (subs-known ms r m n xs h) (own-known u ms r m n)) (rows-known u ms m n xs rows h)

confirms-known : (ms now : List Mark) (b m n : ℕ) (xs : List Sub) → Rises (λ (x : Sub). x.number) b xs n → AllKnown m n (confirm_puts ms now xs)
confirms-known ms now b m n [] r = tt
confirms-known ms now b m n (x ∷ xs) r =
    let l = Rises-within (λ (z : Sub). z.number) x.number xs n r.1 in
    let ih = confirms-known ms now x.number m n xs r.1 in
    elim (takes_now ms now x.due) as (λ t. AllKnown m n (cond t (piece.Confirm (record { 0 = x.number }) ∷ confirm_puts ms now xs) (confirm_puts ms now xs))) [ true ↦ (l, ih) | false ↦ ih ]

abbrev pub SeatKnown : Seat → Type 0
SeatKnown s = AllKnown s.conn.made s.done s.pieces

pub valid-at : (pl : Planner) (s : Seat) (rows : (sub want : ℕ) → List Row) → Working pl s rows → Valid s.done s.conn
valid-at pl s rows v =
    let e : 0 + length v.front ≡ s.done = omega (arith, v.done) in
    subst (Valid s.done) (sym v.conn) (subst (λ n. Valid n (fold pl v.front)) e (fold_from-valid pl 0 fresh v.front fresh-valid))

one-known : (s : Seat) (q : Piece) (b : Bool) → Known s.conn.made s.done q → SeatKnown s → SeatKnown (cond b (with_put s q) s)
one-known s q true k a = put-known s.conn.made s.done s.pieces q a k
one-known s q false k a = a

plan-known : (s : Seat) (plan : Plan) → has_job s ≡ true → SeatKnown s → SeatKnown (with_plan s plan)
plan-known s plan h a =
    let l : s.done ≤ s.taken = grind (arith, nat_tests) in
    AllKnown-more s.conn.made (changed plan.change s.taken s.conn).made s.done s.taken (changed-made s.taken s.conn plan.change) l s.pieces a

deliver-known : (s : Seat) (user : Option (List ℕ)) (ms now : List Mark) (rows : List Row) → Valid s.done s.conn → SeatKnown s → SeatKnown (with_all s (deliver_puts user ms now s.conn.subs rows))
deliver-known s user ms now rows v a =
    puts-known s.conn.made s.done s.pieces (deliver_puts user ms now s.conn.subs rows) a
    (All-append (Known s.conn.made s.done) (rows_puts user ms s.conn.subs rows) (confirm_puts ms now s.conn.subs)
    (rows-known user ms s.conn.made s.done s.conn.subs rows v.wants)
    (confirms-known ms now 0 s.conn.made s.done s.conn.subs v.subs))

pub known : (pl : Planner) (c : ℕ) (past : List Step) → AllWorked pl c past → SeatKnown (seat c past)
known pl c [] a = tt
known pl c (In d text ∷ past) a = one-known (seat c past) (piece.Cmd (command_of text)) (d == c) tt (known pl c past a.1)
known pl c (Drop d ∷ past) a = one-known (seat c past) piece.Gone (d == c) tt (known pl c past a.1)
known pl c (Stop ∷ past) a = one-known (seat c past) piece.Restart (is_some (user_of c past)) tt (known pl c past a.1)
known pl c (Take d ∷ past) a =
    let ih = known pl c past a.1 in elim (d == c) as (λ b. SeatKnown (cond b (with_job (seat c past)) (seat c past))) [ true ↦ ih | false ↦ ih ]
known pl c (Finish d puts plan ∷ past) a = go (d == c) refl (known pl c past a.1)
  where
    go : (b : Bool) → (d == c) ≡ b → SeatKnown (seat c past) → SeatKnown (seat c (Finish d puts plan ∷ past))
    go true b ih =
        let same : d ≡ c = grind (arith, nat_tests) in
        subst (λ x. SeatKnown (cond x (with_plan (seat c past) plan) (seat c past))) (sym b) (plan-known (seat c past) plan (a.0 same).0 ih)
    go false b ih = rw b ih
known pl c (Deliver turn note ∷ past) a =
    let ih = known pl c past a.1 in
    let v = valid-at pl (seat c past) (λ sub want. finished c sub want past) (working pl c past a.1) in
    elim note.failed as (λ b. SeatKnown (cond b (seat c past) (with_all (seat c past) (deliver_puts (user_of c past) (marks c past) (turn_mark c note past) (seat c past).conn.subs note.rows)))) [
      | true ↦ ih
      | false ↦ deliver-known (seat c past) (user_of c past) (marks c past) (turn_mark c note past) note.rows v ih
    ]
known pl c (_ ∷ past) a = known pl c past a.1

-- no change brings a subscription back, nor one under a number that was given
stands-push : (s : ℕ) (xs : List Sub) (y : Sub) → (y.number == s) ≡ false → list_any (λ (x : Sub). x.number == s) (xs ++ y ∷ []) ≡ list_any (λ (x : Sub). x.number == s) xs
stands-push s [] y h = rw h refl
stands-push s (x ∷ xs) y h = ap (λ b. (x.number == s) || b) (stands-push s xs y h)

stands-filter : (s : ℕ) (p : Sub → Bool) (xs : List Sub) → list_any (λ (x : Sub). x.number == s) (filter p xs) ≡ true → list_any (λ (x : Sub). x.number == s) xs ≡ true
stands-filter s p [] h = h
stands-filter s p (x ∷ xs) h = go (p x) refl (x.number == s) refl (stands-filter s p xs)
  where
    go : (a : Bool) → p x ≡ a → (b : Bool) → (x.number == s) ≡ b → (list_any (λ (z : Sub). z.number == s) (filter p xs) ≡ true → list_any (λ (z : Sub). z.number == s) xs ≡ true) → list_any (λ (z : Sub). z.number == s) (x ∷ xs) ≡ true
    go a a' true b ih = rw b refl
    go true a false b ih = let h' = rw (a, b) at h in rw b (ih h')
    go false a false b ih = let h' = rw a at h in rw b (ih h')

stands-map : (s n : ℕ) (identifier : List ℕ) (stops streams : List (List ℕ)) (xs : List Sub) → list_any (λ (x : Sub). x.number == s) (map (streamed n identifier stops streams) xs) ≡ list_any (λ (x : Sub). x.number == s) xs
stands-map s n identifier stops streams [] = refl
stands-map s n identifier stops streams (x ∷ xs) = rw (streamed-number n identifier stops streams x) (ap (λ b. (x.number == s) || b) (stands-map s n identifier stops streams xs))

sub-keeps : (place s : ℕ) (k : Conn) (c : Change) → s < place → stands_sub s (changed c place k) ≡ true → stands_sub s k ≡ true
sub-keeps place s k change.Nothing l h = h
sub-keeps place s k (change.Add identifier streams) l h =
    sym (stands-push s k.subs (record { number = place; identifier = identifier; wants = wanted k.made streams; due = first_above k.made streams }) (grind (arith, nat_tests))) ∙ h
sub-keeps place s k (change.Streams identifier stops streams) l h = sym (stands-map s k.made identifier stops streams k.subs) ∙ h
sub-keeps place s k (change.Remove identifier) l h = stands-filter s (λ x. not (bytes_eq x.identifier identifier)) k.subs h
sub-keeps place s k change.Close l h = absurd (cc (h))

-- what stands after a change stood before it
still-keeps : (n : ℕ) (k : Conn) (c : Change) (q : Piece) → Valid n k → Known k.made n q → still (changed c (suc n) k) q ≡ true → still k q ≡ true
still-keeps n k c (piece.Row sub want row) v l h = go (name_of sub.0 want.0 (changed c (suc n) k)) refl
  where
    go : (o : Option (List ℕ)) → name_of sub.0 want.0 (changed c (suc n) k) ≡ o → stands_want sub.0 want.0 k ≡ true
    go None o = let h' = rw o at h in absurd (cc (h'))
    go (Some name) o = ap is_some (changed-keeps n sub.0 want.0 k c name v l o)
still-keeps n k c (piece.Confirm sub) v l h = sub-keeps (suc n) sub.0 k c (omega arith) h
still-keeps n k c _ v l h = refl

struck : (n m : ℕ) (k : Conn) (c : Change) (qs : List Piece) → Valid n k → AllKnown k.made n qs
    → filter (λ p. still (changed c (suc n) k) p.piece) (numbered m qs) ≡ filter (λ p. still (changed c (suc n) k) p.piece) (filter (λ p. still k p.piece) (numbered m qs))
struck n m k c [] v a = refl
struck n m k c (q ∷ qs) v a = go (still k q) refl (still (changed c (suc n) k) q) refl (struck n (suc m) k c qs v a.1)
  where
    k' : Conn
    k' = changed c (suc n) k

    go : (x : Bool) → still k q ≡ x → (y : Bool) → still (changed c (suc n) k) q ≡ y
        → filter (λ p. still (changed c (suc n) k) p.piece) (numbered (suc m) qs) ≡ filter (λ p. still (changed c (suc n) k) p.piece) (filter (λ p. still k p.piece) (numbered (suc m) qs))
        → filter (λ p. still (changed c (suc n) k) p.piece) (numbered m (q ∷ qs)) ≡ filter (λ p. still (changed c (suc n) k) p.piece) (filter (λ p. still k p.piece) (numbered m (q ∷ qs)))
    go true x true y ih = rw (x, y) (ap (λ ps. record { place = suc m; piece = q } ∷ ps) ih)
    go true x false y ih = rw (x, y) ih
    go false x true y ih = let z = still-keeps n k c q v a.0 y in absurd (cc (x, z))
    go false x false y ih = rw (x, y) ih

drop-rest : (s : Seat) (xs ys : List Piece) → s.pieces ≡ xs ++ ys → s.taken ≡ length xs → drop s.taken (numbered 0 s.pieces) ≡ numbered (length xs) ys
drop-rest s xs ys p t = ap (λ ps. drop s.taken (numbered 0 ps)) p ∙ (ap (λ n. drop n (numbered 0 (xs ++ ys))) t ∙ (drop-numbered 0 xs ys ∙ ap (λ n. numbered n ys) (omega arith)))

-- finishing a job strikes from what waits exactly the pieces that are passed over from then on
pub plan-strikes : (pl : Planner) (s : Seat) (rows : (sub want : ℕ) → List Row) (plan : Plan) → has_job s ≡ true → SeatKnown s → Working pl s rows
    → waiting (with_plan s plan) ≡ filter (λ p. still (changed plan.change s.taken s.conn) p.piece) (waiting s)
plan-strikes pl s rows plan out ks v =
    elim v.job as (λ _. waiting (with_plan s plan) ≡ filter (λ p. still (changed plan.change s.taken s.conn) p.piece) (waiting s)) [
      | inl e ↦ absurd (grind (arith, nat_tests))
      | inr o ↦ go o.0 o.1 o.2
    ]
  where
    go : (gap : ℕ) → s.taken ≡ s.done + gap → Out s.conn v.back gap → waiting (with_plan s plan) ≡ filter (λ p. still (changed plan.change s.taken s.conn) p.piece) (waiting s)
    go gap t o =
        let k = s.conn in
        let xs = (v.front ++ o.skipped) ++ o.piece ∷ [] in
        let all : s.pieces ≡ xs ++ o.rest = v.pieces ∙ (ap (λ x. v.front ++ x) o.is ∙ (sym (append_assoc v.front o.skipped (o.piece ∷ o.rest)) ∙ sym (append_assoc (v.front ++ o.skipped) (o.piece ∷ []) o.rest))) in
        let n : ℕ = s.taken - 1 in
        let place : s.taken ≡ suc n = omega (arith, o.far) in
        let len : s.taken ≡ length xs = omega (arith, o.far, v.done, length-append (v.front ++ o.skipped) (o.piece ∷ []), length-append v.front o.skipped) in
        let here = drop-rest s xs o.rest all len in
        let valid = Valid-upto s.done n k (omega (arith, o.far)) (valid-at pl s rows v) in
        let known-rest = All-back (Known k.made s.done) xs o.rest (subst (AllKnown k.made s.done) all ks) in
        let known-now = AllKnown-more k.made k.made s.done n (omega arith) (omega (arith, o.far)) o.rest known-rest in
        let k' = changed plan.change s.taken k in
        let struck-now : filter (λ p. still k' p.piece) (numbered (length xs) o.rest) ≡ filter (λ p. still k' p.piece) (filter (λ p. still k p.piece) (numbered (length xs) o.rest)) =
        subst (λ m. filter (λ p. still (changed plan.change m k) p.piece) (numbered (length xs) o.rest) ≡ filter (λ p. still (changed plan.change m k) p.piece) (filter (λ p. still k p.piece) (numbered (length xs) o.rest))) (sym place)
        (struck n (length xs) k plan.change o.rest valid known-now) in
        ap (filter (λ p. still k' p.piece)) here ∙ (struck-now ∙ ap (λ x. filter (λ p. still k' p.piece) (filter (λ p. still k p.piece) x)) (sym here))
