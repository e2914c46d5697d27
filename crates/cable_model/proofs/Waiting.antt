-- The inbox, call by call: a put adds at the end, a Take takes the first. What a Finish strikes stands in Inbox.
use Rattle.std.proofs.Common.{ℕ, suc, ◌+◌, ◌≡◌, ◌<◌, ◌==◌, Bool, true, false, cond, List, [], ◌∷◌, ◌++◌, length, drop, refl, ap, sym, subst, ◌∙◌, arith, inl, inr, append_assoc, length-append}
use Rattle.std.proofs.lemmas.List.Elements.{filter-append}
use Rattle.std.specs.List.{filter}
use Rattle.std.proofs.lemmas.Bool.Decides.{nat_tests}
use Rattle.cable_base.specs.declared.rows.Row.{Row}
use Rattle.cable_model.specs.declared.pieces.Piece.{Piece}
use Rattle.cable_model.specs.Steps.{Step}
use Rattle.cable_model.specs.Connection.{Conn, Planner, still}
use Rattle.cable_model.specs.Pieces.{closing, put, put_all, Placed, numbered, Seat, seat, waiting, with_put, with_all, with_job}
use Rattle.cable_model.specs.Possible.{has_job, is_empty}
use Rattle.cable_model.specs.Window.{finished}
use Rattle.cable_model.specs.Promise.{AllWorked}
use Rattle.cable_model.proofs.Working.{Working, working, Out, Passed, put_all-more, drop-numbered, take-first, free}

numbered-append : (n : ℕ) (xs ys : List Piece) → numbered n (xs ++ ys) ≡ numbered n xs ++ numbered (n + length xs) ys
numbered-append n [] ys = ap (λ m. numbered m ys) (omega arith)
numbered-append n (x ∷ xs) ys = ap (λ ps. record { place = suc n; piece = x } ∷ ps) (numbered-append (suc n) xs ys ∙ ap (λ m. numbered (suc n) xs ++ numbered m ys) (omega arith))

waits-split : (s : Seat) (xs ys : List Piece) → s.pieces ≡ xs ++ ys → s.taken ≡ length xs → waiting s ≡ filter (λ p. still s.conn p.piece) (numbered (length xs) ys)
waits-split s xs ys p t =
    ap (filter (λ q. still s.conn q.piece)) (ap (λ ps. drop s.taken (numbered 0 ps)) p ∙ (ap (λ n. drop n (numbered 0 (xs ++ ys))) t ∙ (drop-numbered 0 xs ys ∙ ap (λ n. numbered n ys) (omega arith))))

none-passed : (k : Conn) (n : ℕ) (qs : List Piece) → Passed k qs → filter (λ p. still k p.piece) (numbered n qs) ≡ []
none-passed k n [] h = refl
none-passed k n (q ∷ qs) h = rw h.0 (none-passed k (suc n) qs h.1)

-- ---- puts

-- the pieces that were taken, and those behind them
record Cut (s : Seat) : Type 0 where
  taken : List Piece
  rest : List Piece
  pieces : s.pieces ≡ taken ++ rest
  many : s.taken ≡ length taken

cut-taken : (pl : Planner) (s : Seat) (rows : (sub want : ℕ) → List Row) → Working pl s rows → Cut s
cut-taken pl s rows v =
    elim v.job as (λ _. Cut s) [
      | inl e ↦ record { taken = v.front; rest = v.back; pieces = v.pieces; many = e ∙ v.done }
      | inr o ↦
          record {
            taken = (v.front ++ o.2.skipped) ++ o.2.piece ∷ [];
            rest = o.2.rest;
            pieces = v.pieces ∙ (ap (λ x. v.front ++ x) o.2.is ∙ (sym (append_assoc v.front o.2.skipped (o.2.piece ∷ o.2.rest)) ∙ sym (append_assoc (v.front ++ o.2.skipped) (o.2.piece ∷ []) o.2.rest)));
            many = omega (arith, o.1, o.2.far, v.done, length-append (v.front ++ o.2.skipped) (o.2.piece ∷ []), length-append v.front o.2.skipped);
          }
    ]

-- pieces that are put wait behind the others, where they stand
pub puts-wait : (pl : Planner) (s : Seat) (rows : (sub want : ℕ) → List Row) (qs : List Piece) → Working pl s rows
    → waiting (with_all s qs) ≡ waiting s ++ filter (λ p. still s.conn p.piece) (drop (length s.pieces) (numbered 0 (with_all s qs).pieces))
puts-wait pl s rows qs v =
    let t = cut-taken pl s rows v in
    let x = put_all-more s.pieces qs in
    let f : Placed → Bool = λ p. still s.conn p.piece in
    let grown : put_all s.pieces qs ≡ t.taken ++ (t.rest ++ x.0) = x.1 ∙ (ap (λ ps. ps ++ x.0) t.pieces ∙ append_assoc t.taken t.rest x.0) in
    let len : length t.taken + length t.rest ≡ length s.pieces = sym (ap length t.pieces ∙ length-append t.taken t.rest) in
    let new : drop (length s.pieces) (numbered 0 (put_all s.pieces qs)) ≡ numbered (length t.taken + length t.rest) x.0 =
    ap (λ ps. drop (length s.pieces) (numbered 0 ps)) x.1 ∙ (drop-numbered 0 s.pieces x.0 ∙ ap (λ n. numbered n x.0) (omega (arith, len))) in
    waits-split (with_all s qs) t.taken (t.rest ++ x.0) grown t.many
    ∙ (ap (filter f) (numbered-append (length t.taken) t.rest x.0)
    ∙ (filter-append f (numbered (length t.taken) t.rest) (numbered (length t.taken + length t.rest) x.0)
    ∙ (ap (λ ps. filter f (numbered (length t.taken) t.rest) ++ filter f ps) (sym new)
    ∙ ap (λ ps. ps ++ filter f (drop (length s.pieces) (numbered 0 (put_all s.pieces qs)))) (sym (waits-split s t.taken t.rest t.pieces t.many)))))

-- the piece with its place, where it stands
abbrev pub if_stands : Bool → Placed → List Placed
if_stands b p = cond b (p ∷ []) []

-- a piece that is put waits last, where it stands
pub put-waits : (pl : Planner) (s : Seat) (rows : (sub want : ℕ) → List Row) (q : Piece) → Working pl s rows → closing s.pieces ≡ false
    → waiting (with_put s q) ≡ waiting s ++ if_stands (still s.conn q) (record { place = suc (length s.pieces); piece = q })
put-waits pl s rows q v c =
    let f : Placed → Bool = λ p. still s.conn p.piece in
    let last : drop (length s.pieces) (numbered 0 (put s.pieces q)) ≡ record { place = suc (length s.pieces); piece = q } ∷ [] =
    ap (λ b. drop (length s.pieces) (numbered 0 (cond b s.pieces (s.pieces ++ q ∷ [])))) c ∙ (drop-numbered 0 s.pieces (q ∷ []) ∙ ap (λ n. record { place = suc n; piece = q } ∷ []) (omega arith)) in
    puts-wait pl s rows (q ∷ []) v ∙ ap (λ ps. waiting s ++ filter f ps) last

-- behind a closing piece nothing is put
pub put-closed : (s : Seat) (q : Piece) → closing s.pieces ≡ true → with_put s q ≡ s
put-closed s q c = ap (λ b. record { pieces = cond b s.pieces (s.pieces ++ q ∷ []); taken = s.taken; done = s.done; conn = s.conn }) c

-- ---- takes

-- the connection with the piece at a place taken
abbrev taken_at : Seat → ℕ → Seat
taken_at s place = record { pieces = s.pieces; taken = place; done = s.done; conn = s.conn }

record TakesFirst (s : Seat) (place : ℕ) : Type 0 where
  piece : Piece
  first : waiting s ≡ record { place = place; piece = piece } ∷ waiting (taken_at s place)

-- the first that waits is taken, and the others go on waiting
take-first-of : (s : Seat) (front back : List Piece) (gap : ℕ) → s.pieces ≡ front ++ back → s.taken ≡ length front → Out s.conn back gap → TakesFirst s (length front + gap)
take-first-of s front back gap p t o =
    let xs = (front ++ o.skipped) ++ o.piece ∷ [] in
    let all : s.pieces ≡ xs ++ o.rest = p ∙ (ap (λ x. front ++ x) o.is ∙ (sym (append_assoc front o.skipped (o.piece ∷ o.rest)) ∙ sym (append_assoc (front ++ o.skipped) (o.piece ∷ []) o.rest))) in
    let len : length front + gap ≡ length xs = omega (arith, o.far, length-append (front ++ o.skipped) (o.piece ∷ []), length-append front o.skipped) in
    let f : Placed → Bool = λ q. still s.conn q.piece in
    let n = length front + length o.skipped in
    let cut : numbered (length front) (o.skipped ++ o.piece ∷ o.rest) ≡ numbered (length front) o.skipped ++ (record { place = suc n; piece = o.piece } ∷ numbered (suc n) o.rest) = numbered-append (length front) o.skipped (o.piece ∷ o.rest) in
    let kept : filter f (record { place = suc n; piece = o.piece } ∷ numbered (suc n) o.rest) ≡ record { place = suc n; piece = o.piece } ∷ filter f (numbered (suc n) o.rest) = rw o.stands refl in
    let after : waiting (taken_at s (length front + gap)) ≡ filter f (numbered (length xs) o.rest) = waits-split (taken_at s (length front + gap)) xs o.rest all len in
    record {
      piece = o.piece;
      first =
          waits-split s front back p t
          ∙ (ap (λ b. filter f (numbered (length front) b)) o.is
          ∙ (ap (filter f) cut
          ∙ (filter-append f (numbered (length front) o.skipped) (record { place = suc n; piece = o.piece } ∷ numbered (suc n) o.rest)
          ∙ (ap (λ ys. ys ++ filter f (record { place = suc n; piece = o.piece } ∷ numbered (suc n) o.rest)) (none-passed s.conn (length front) o.skipped o.passed)
          ∙ (kept
          ∙ (ap (λ m. record { place = m; piece = o.piece } ∷ filter f (numbered (suc n) o.rest)) (omega (arith, o.far))
          ∙ ap (λ ys. record { place = length front + gap; piece = o.piece } ∷ ys) (ap (λ m. filter f (numbered m o.rest)) (omega (arith, o.far, len)) ∙ sym after)))))));
    }

-- where no job is out, a Take takes the first that waits
pub take-waits : (pl : Planner) (s : Seat) (rows : (sub want : ℕ) → List Row) → Working pl s rows → has_job s ≡ false → (p : Placed) (ps : List Placed) → waiting s ≡ p ∷ ps
    → ((with_job s).taken ≡ p.place) × (waiting (with_job s) ≡ ps) × (s.done < p.place)
take-waits pl s rows v h p ps w =
    let t : s.taken ≡ length v.front = free pl s rows v h ∙ v.done in
    let some : is_empty (waiting s) ≡ false = ap is_empty w in
    let f = take-first s v.front v.back v.pieces t some in
    let first = take-first-of s v.front v.back f.0 v.pieces t f.2 in
    let both : p ∷ ps ≡ record { place = length v.front + f.0; piece = first.piece } ∷ waiting (taken_at s (length v.front + f.0)) = sym w ∙ first.first in
    let head : p ≡ record { place = length v.front + f.0; piece = first.piece } = cc (both) in
    let tail : ps ≡ waiting (taken_at s (length v.front + f.0)) = cc (both) in
    let place : p.place ≡ length v.front + f.0 = ap (λ x. x.place) head in
    let now : with_job s ≡ taken_at s (length v.front + f.0) = ap (taken_at s) f.1 in
    let far = f.2.far in
    (f.1 ∙ sym place, ap waiting now ∙ sym tail, omega (arith, v.done))

-- a possible Take, as the node sees it
pub taking : (pl : Planner) (c : ℕ) (past : List Step) → AllWorked pl c past → has_job (seat c past) ≡ false → (p : Placed) (ps : List Placed) → waiting (seat c past) ≡ p ∷ ps
    → ((seat c (Step.Take c ∷ past)).taken ≡ p.place) × (waiting (seat c (Step.Take c ∷ past)) ≡ ps) × ((seat c (Step.Take c ∷ past)).done < p.place)
taking pl c past a h p ps w =
    let self : (c == c) ≡ true = grind (arith, nat_tests) in
    let s = seat c past in
    let r = take-waits pl s (λ sub want. finished c sub want past) (working pl c past a) h p ps w in
    let now : seat c (Step.Take c ∷ past) ≡ with_job s = ap (λ b. cond b (with_job s) s) self in
    (ap (λ x. x.taken) now ∙ r.0, ap waiting now ∙ r.1, subst (λ n. n < p.place) (sym (ap (λ x. x.done) now)) r.2)
