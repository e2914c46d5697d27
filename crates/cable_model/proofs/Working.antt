-- The pieces that were taken and finished: the connection is the fold of all pieces up to the last one finished, passed over or not.
use Rattle.std.proofs.Common.{ℕ, zero, suc, ◌+◌, ◌-◌, ◌≡◌, ◌==◌, Bool, true, false, cond, List, [], ◌∷◌, ◌++◌, length, drop, Some, refl, ap, sym, subst, ◌∙◌, arith, inl, inr, ◌⊎◌, append_assoc, slice_get, length-append}
use Rattle.std.proofs.lemmas.List.{append-nil}
use Rattle.std.specs.List.{filter, AllByRecursion}
use Rattle.std.proofs.lemmas.Bool.Decides.{nat_tests}
use Rattle.cable_base.specs.declared.rows.Row.{Row}
use Rattle.cable_model.specs.declared.pieces.Piece.{Piece}
use Rattle.cable_model.specs.declared.pieces.Piece.TheVariants as piece
use Rattle.cable_model.specs.declared.plans.Plan.{Plan}
use Rattle.cable_model.specs.Steps.{Step, Take, Finish}
use Rattle.cable_model.specs.Connection.{Conn, Planner, fresh, changed, change_of, worked, fold_from, fold, still, stands_want}
use Rattle.cable_model.specs.Pieces.{closing, put, put_all, numbered, Seat, seat, waiting, first_place, with_all, with_job, with_plan, unseated}
use Rattle.cable_model.specs.Possible.{has_job, is_empty}
use Rattle.cable_model.specs.Window.{row_of, live_from, live, row_worked, job, finished}
use Rattle.cable_model.specs.Promise.{AllWorked}
use Rattle.cable_model.proofs.Entries.{only-puts}
use Rattle.cable_model.proofs.Folds.{fold_from-append, live_from-append}
use Rattle.cable_model.proofs.Puts.{Ended, put-Ended}

-- these pieces are passed over on the connection k
abbrev pub Passed : Conn → List Piece → Type 0
Passed k qs = AllByRecursion (λ q. still k q ≡ false) qs

passed-worked : (pl : Planner) (n : ℕ) (k : Conn) (q : Piece) → still k q ≡ false → worked pl n k q ≡ k
passed-worked pl n k (piece.Row sub want row) h = refl
passed-worked pl n k (piece.Confirm sub) h = refl
passed-worked pl n k _ h = absurd (cc (h))

no-rows : (stands : Bool) (b : Bool) → cond {A = List Row} stands [] [] ≡ cond b [] []
no-rows true true = refl
no-rows true false = refl
no-rows false true = refl
no-rows false false = refl

-- the row of a piece is worked where the piece isn't passed over
row-still : (s w : ℕ) (k : Conn) (q : Piece) (b : Bool) → still k q ≡ b → row_of s w k q ≡ cond b (row_worked s w (Some q)) []
row-still s w k (piece.Row sub want row) b h = go (sub.0 == s) refl (want.0 == w) refl
  where
    go : (x : Bool) → (sub.0 == s) ≡ x → (y : Bool) → (want.0 == w) ≡ y → row_of s w k (piece.Row sub want row) ≡ cond b (row_worked s w (Some (piece.Row sub want row))) []
    go true x true y =
        let a : sub.0 ≡ s = grind (arith, nat_tests) in
        let c : want.0 ≡ w = grind (arith, nat_tests) in
        let stands : stands_want s w k ≡ b = rw (a, c) at h in
        rw stands refl
    go true x false y = rw (x, y) (no-rows (stands_want s w k) b)
    go false x y y' = rw x (no-rows (stands_want s w k) b)
row-still s w k _ b h = no-rows (stands_want s w k) b

pub passed-fold : (pl : Planner) (n : ℕ) (k : Conn) (qs : List Piece) → Passed k qs → fold_from pl n k qs ≡ k
passed-fold pl n k [] h = refl
passed-fold pl n k (q ∷ qs) h = ap (λ x. fold_from pl (suc n) x qs) (passed-worked pl (suc n) k q h.0) ∙ passed-fold pl (suc n) k qs h.1

pub passed-live : (pl : Planner) (s w n : ℕ) (k : Conn) (qs : List Piece) → Passed k qs → live_from pl s w n k qs ≡ []
passed-live pl s w n k [] h = refl
passed-live pl s w n k (q ∷ qs) h =
    ap (λ rs. rs ++ live_from pl s w (suc n) (worked pl (suc n) k q) qs) (row-still s w k q false h.0)
    ∙ (ap (λ x. live_from pl s w (suc n) x qs) (passed-worked pl (suc n) k q h.0) ∙ passed-live pl s w (suc n) k qs h.1)

pub get-split : {A : Type 0} (xs : List A) (p : A) (ys : List A) (n : ℕ) → n ≡ length xs → slice_get (xs ++ p ∷ ys) n ≡ Some p
get-split [] p ys zero e = refl
get-split [] p ys (suc n) e = absurd (omega arith)
get-split (x ∷ xs) p ys zero e = absurd (omega arith)
get-split (x ∷ xs) p ys (suc n) e = get-split xs p ys n (omega arith)

pub drop-numbered : (n : ℕ) (xs ys : List Piece) → drop (length xs) (numbered n (xs ++ ys)) ≡ numbered (n + length xs) ys
drop-numbered n [] ys = ap (λ m. numbered m ys) (omega arith)
drop-numbered n (x ∷ xs) ys = drop-numbered (suc n) xs ys ∙ ap (λ m. numbered m ys) (omega arith)

-- the piece of a job: the first of `back` that isn't passed over, so many places on
pub record Out (k : Conn) (back : List Piece) (gap : ℕ) : Type 0 where
  pub skipped : List Piece
  pub piece : Piece
  pub rest : List Piece
  pub is : back ≡ skipped ++ piece ∷ rest
  pub far : gap ≡ length skipped + 1
  pub passed : Passed k skipped
  pub stands : still k piece ≡ true

Out-skip : (k : Conn) (q : Piece) (qs : List Piece) (gap : ℕ) → still k q ≡ false → Out k qs gap → Out k (q ∷ qs) (suc gap)
Out-skip k q qs gap h o =
    record { skipped = q ∷ o.skipped; piece = o.piece; rest = o.rest; is = ap (λ xs. q ∷ xs) o.is; far = omega (arith, o.far); passed = (h, o.passed); stands = o.stands }

pub first-waits : (k : Conn) (n t : ℕ) (ys : List Piece) → is_empty (filter (λ p. still k p.piece) (numbered n ys)) ≡ false
    → (gap : ℕ) × (first_place (filter (λ p. still k p.piece) (numbered n ys)) t ≡ n + gap) × Out k ys gap
first-waits k n t [] h = absurd (cc (h))
first-waits k n t (y ∷ ys) h = go (still k y) refl (first-waits k (suc n) t ys)
  where
    go : (b : Bool) → still k y ≡ b
        → (is_empty (filter (λ p. still k p.piece) (numbered (suc n) ys)) ≡ false → (gap : ℕ) × (first_place (filter (λ p. still k p.piece) (numbered (suc n) ys)) t ≡ suc n + gap) × Out k ys gap)
        → (gap : ℕ) × (first_place (filter (λ p. still k p.piece) (numbered n (y ∷ ys))) t ≡ n + gap) × Out k (y ∷ ys) gap
    go true b ih = (1, rw b (omega arith), record { skipped = []; piece = y; rest = ys; is = refl; far = refl; passed = tt; stands = b })
    go false b ih =
        let h' = rw b at h in
        let r = ih h' in
        (suc r.0, rw b (r.1 ∙ omega arith), Out-skip k y ys r.0 b r.2)

-- a job is out, so many places behind the finished ones
abbrev pub Busy : Seat → List Piece → Type 0
Busy s back = (gap : ℕ) × (s.taken ≡ s.done + gap) × Out s.conn back gap

-- a connection whose pieces are worked one at a time, with the rows that are finished for each want
pub record Working (pl : Planner) (s : Seat) (rows : (sub want : ℕ) → List Row) : Type 0 where
  pub front : List Piece
  pub back : List Piece
  pub pieces : s.pieces ≡ front ++ back
  pub done : s.done ≡ length front
  pub conn : s.conn ≡ fold pl front
  pub job : (s.taken ≡ s.done) ⊎ Busy s back
  pub finished : (sub want : ℕ) → rows sub want ≡ live pl sub want front
  pub ended : Ended pl s.pieces

-- ---- pieces are put

pub put_all-more : (ps qs : List Piece) → (xs : List Piece) × (put_all ps qs ≡ ps ++ xs)
put_all-more ps [] = ([], sym (append-nil ps))
put_all-more ps (q ∷ qs) = go (closing ps) refl (put_all-more (put ps q) qs)
  where
    go : (b : Bool) → closing ps ≡ b → (xs : List Piece) × (put_all (put ps q) qs ≡ put ps q ++ xs) → (xs : List Piece) × (put_all ps (q ∷ qs) ≡ ps ++ xs)
    go true b r = (r.0, r.1 ∙ rw b refl)
    go false b r = (q ∷ r.0, r.1 ∙ rw b (append_assoc ps (q ∷ []) r.0))

Out-more : (k : Conn) (back xs : List Piece) (gap : ℕ) → Out k back gap → Out k (back ++ xs) gap
Out-more k back xs gap o =
    record {
      skipped = o.skipped;
      piece = o.piece;
      rest = o.rest ++ xs;
      is = ap (λ b. b ++ xs) o.is ∙ append_assoc o.skipped (o.piece ∷ o.rest) xs;
      far = o.far;
      passed = o.passed;
      stands = o.stands;
    }

puts-Ended : (pl : Planner) (ps qs : List Piece) → Ended pl ps → Ended pl (put_all ps qs)
puts-Ended pl ps [] d = d
puts-Ended pl ps (q ∷ qs) d = puts-Ended pl (put ps q) qs (put-Ended pl ps q d)

pub put-works : (pl : Planner) (s : Seat) (rows : (sub want : ℕ) → List Row) (qs : List Piece) → Working pl s rows → Working pl (with_all s qs) rows
put-works pl s rows qs v =
    let x = put_all-more s.pieces qs in
    record {
      front = v.front;
      back = v.back ++ x.0;
      pieces = x.1 ∙ (ap (λ ps. ps ++ x.0) v.pieces ∙ append_assoc v.front v.back x.0);
      done = v.done;
      conn = v.conn;
      job = elim v.job as (λ _. (s.taken ≡ s.done) ⊎ Busy s (v.back ++ x.0)) [ inl e ↦ inl e | inr o ↦ inr (o.0, o.1, Out-more s.conn v.back x.0 o.0 o.2) ];
      finished = v.finished;
      ended = puts-Ended pl s.pieces qs v.ended;
    }

unseated-works : (pl : Planner) → Working pl unseated (λ sub want. [])
unseated-works pl = record { front = []; back = []; pieces = refl; done = refl; conn = refl; job = inl refl; finished = λ sub want. refl; ended = λ h. absurd (cc (h)) }

-- ---- the first that waits is taken

pub take-first : (s : Seat) (front back : List Piece) → s.pieces ≡ front ++ back → s.taken ≡ length front → is_empty (waiting s) ≡ false
    → (gap : ℕ) × (first_place (waiting s) s.taken ≡ length front + gap) × Out s.conn back gap
take-first s front back ps t =
    let there : drop s.taken (numbered 0 s.pieces) ≡ numbered (length front) back =
    ap (λ xs. drop s.taken (numbered 0 xs)) ps ∙ (ap (λ n. drop n (numbered 0 (front ++ back))) t ∙ (drop-numbered 0 front back ∙ ap (λ n. numbered n back) (omega arith))) in
    subst (λ xs. is_empty (filter (λ p. still s.conn p.piece) xs) ≡ false → (gap : ℕ) × (first_place (filter (λ p. still s.conn p.piece) xs) s.taken ≡ length front + gap) × Out s.conn back gap)
    (sym there) (first-waits s.conn (length front) s.taken back)

-- where no job is out, the last piece that was taken is finished
pub free : (pl : Planner) (s : Seat) (rows : (sub want : ℕ) → List Row) → Working pl s rows → has_job s ≡ false → s.taken ≡ s.done
free pl s rows v h = elim v.job [ inl e ↦ e | inr o ↦ absurd (let f = o.2.far in let g = o.1 in grind (arith, nat_tests)) ]

pub take-works : (pl : Planner) (s : Seat) (rows : (sub want : ℕ) → List Row) → has_job s ≡ false → is_empty (waiting s) ≡ false → Working pl s rows → Working pl (with_job s) rows
take-works pl s rows h w v =
    let first = take-first s v.front v.back v.pieces (free pl s rows v h ∙ v.done) w in
    record {
      front = v.front;
      back = v.back;
      pieces = v.pieces;
      done = v.done;
      conn = v.conn;
      job = inr (first.0, first.1 ∙ ap (λ n. n + first.0) (sym v.done), first.2);
      finished = v.finished;
      ended = v.ended;
    }

-- ---- the job is finished

pub finish-works : (pl : Planner) (s : Seat) (rows : (sub want : ℕ) → List Row) (plan : Plan) → has_job s ≡ true
    → ((p : Piece) → job s ≡ Some p → plan.change ≡ change_of pl s.taken s.conn p)
    → Working pl s rows → Working pl (with_plan s plan) (λ sub want. rows sub want ++ row_worked sub want (job s))
finish-works pl s rows plan out planned v =
    elim v.job as (λ _. Working pl (with_plan s plan) (λ sub want. rows sub want ++ row_worked sub want (job s))) [
      | inl e ↦ absurd (grind (arith, nat_tests))
      | inr o ↦ go o.0 o.1 o.2
    ]
  where
    go : (gap : ℕ) → s.taken ≡ s.done + gap → Out s.conn v.back gap → Working pl (with_plan s plan) (λ sub want. rows sub want ++ row_worked sub want (job s))
    go gap t o =
        let k = s.conn in
        let all : s.pieces ≡ (v.front ++ o.skipped) ++ o.piece ∷ o.rest = v.pieces ∙ (ap (λ x. v.front ++ x) o.is ∙ sym (append_assoc v.front o.skipped (o.piece ∷ o.rest))) in
        let lens : length (v.front ++ o.skipped) ≡ length v.front + length o.skipped = length-append v.front o.skipped in
        let at : s.taken - 1 ≡ length (v.front ++ o.skipped) = omega (arith, o.far, v.done) in
        let got : job s ≡ Some o.piece = ap (λ x. slice_get x (s.taken - 1)) all ∙ get-split (v.front ++ o.skipped) o.piece o.rest (s.taken - 1) at in
        let place : s.taken ≡ suc (length (v.front ++ o.skipped)) = omega (arith, o.far, v.done) in
        let over : fold pl (v.front ++ o.skipped) ≡ k =
        fold_from-append pl 0 fresh v.front o.skipped ∙ (ap (λ x. fold_from pl (0 + length v.front) x o.skipped) (sym v.conn) ∙ passed-fold pl (0 + length v.front) k o.skipped o.passed) in
        let folded : fold pl ((v.front ++ o.skipped) ++ o.piece ∷ []) ≡ worked pl (suc (length (v.front ++ o.skipped))) k o.piece =
        fold_from-append pl 0 fresh (v.front ++ o.skipped) (o.piece ∷ []) ∙ (ap (λ n. worked pl (suc n) (fold pl (v.front ++ o.skipped)) o.piece) (omega arith) ∙ ap (λ x. worked pl (suc (length (v.front ++ o.skipped))) x o.piece) over) in
        let live-is : (sub want : ℕ) → live pl sub want ((v.front ++ o.skipped) ++ o.piece ∷ []) ≡ live pl sub want v.front ++ row_of sub want k o.piece = λ sub want.
        live_from-append pl sub want 0 fresh (v.front ++ o.skipped) (o.piece ∷ [])
        ∙ (ap (λ x. live pl sub want (v.front ++ o.skipped) ++ (row_of sub want x o.piece ++ [])) over
        ∙ (ap (λ x. live pl sub want (v.front ++ o.skipped) ++ x) (append-nil (row_of sub want k o.piece))
        ∙ ap (λ x. x ++ row_of sub want k o.piece)
        (live_from-append pl sub want 0 fresh v.front o.skipped
        ∙ (ap (λ x. live pl sub want v.front ++ live_from pl sub want (0 + length v.front) x o.skipped) (sym v.conn)
        ∙ (ap (λ x. live pl sub want v.front ++ x) (passed-live pl sub want (0 + length v.front) k o.skipped o.passed)
        ∙ append-nil (live pl sub want v.front)))))) in
        record {
          front = (v.front ++ o.skipped) ++ o.piece ∷ [];
          back = o.rest;
          pieces = all ∙ sym (append_assoc (v.front ++ o.skipped) (o.piece ∷ []) o.rest);
          done = place ∙ sym (length-append (v.front ++ o.skipped) (o.piece ∷ []) ∙ omega arith);
          conn = ap (λ x. changed x s.taken k) (planned o.piece got) ∙ (ap (λ n. worked pl n k o.piece) place ∙ sym folded);
          job = inl refl;
          finished = λ sub want.
              ap (λ x. x ++ row_worked sub want (job s)) (v.finished sub want)
              ∙ (ap (λ x. live pl sub want v.front ++ row_worked sub want x) got
              ∙ (ap (λ x. live pl sub want v.front ++ x) (sym (row-still sub want k o.piece true o.stands)) ∙ sym (live-is sub want)));
          ended = v.ended;
        }

-- ---- over a journal

-- the connection c after a journal
abbrev pub WorkingAt : Planner → (c : ℕ) → List Step → Type 0
WorkingAt pl c past = Working pl (seat c past) (λ sub want. finished c sub want past)

pub working : (pl : Planner) (c : ℕ) (past : List Step) → AllWorked pl c past → WorkingAt pl c past
working pl c [] h = unseated-works pl
working pl c (Take d ∷ past) h = go (d == c) refl (working pl c past h.1)
  where
    go : (b : Bool) → (d == c) ≡ b → WorkingAt pl c past → WorkingAt pl c (Take d ∷ past)
    go true b v =
        let w = h.0 (grind (arith, nat_tests)) in
        subst (λ x. Working pl (cond x (with_job (seat c past)) (seat c past)) (λ sub want. finished c sub want past)) (sym b)
        (take-works pl (seat c past) (λ sub want. finished c sub want past) w.0 w.1 v)
    go false b v = rw b v
working pl c (Finish d puts plan ∷ past) h = go (d == c) refl (working pl c past h.1)
  where
    go : (b : Bool) → (d == c) ≡ b → WorkingAt pl c past → WorkingAt pl c (Finish d puts plan ∷ past)
    go true b v =
        let w = h.0 (grind (arith, nat_tests)) in
        subst
        (λ x. Working pl (cond x (with_plan (seat c past) plan) (seat c past)) (λ sub want. cond x (finished c sub want past ++ row_worked sub want (job (seat c past))) (finished c sub want past)))
        (sym b)
        (finish-works pl (seat c past) (λ sub want. finished c sub want past) plan w.0 w.1 v)
    go false b v = rw b v
working pl c (e ∷ past) h =
    let put = only-puts c e past refl in
    subst (λ s. Working pl s (λ sub want. finished c sub want past)) (sym put.1) (put-works pl (seat c past) (λ sub want. finished c sub want past) put.0 (working pl c past h.1))
