-- A connection goes on showing the model's connection, call by call.
use Rattle.std.proofs.Common.{ℕ, zero, suc, ◌+◌, ◌-◌, ◌≡◌, ◌⊎◌, inl, inr, Bool, true, false, cond, List, [], ◌∷◌, ◌++◌, length, map, drop, Some, None, refl, ap, sym, subst, ◌∙◌, arith, slice_get, ltb, length-append}
use Rattle.std.specs.Prelude.{option_map}
use Rattle.std.specs.List.{filter, AllByRecursion}
use Rattle.std.proofs.lemmas.Bool.Decides.{nat_tests}
use Rattle.cable_base.specs.declared.rows.Row.{Row}
use Rattle.cable_model.specs.declared.pieces.Piece.{Piece}
use Rattle.cable_model.specs.declared.plans.Change.{Change}
use Rattle.cable_model.specs.declared.plans.Change.TheVariants as change
use Rattle.cable_model.specs.declared.plans.Plan.{Plan}
use Rattle.cable_model.specs.Connection.{Conn, Planner, changed, still}
use Rattle.cable_model.specs.Wants.{makes}
use Rattle.cable_model.specs.Pieces.{is_closing, closing, put, Placed, numbered, Seat, waiting, with_put, with_all, with_job, with_plan}
use Rattle.cable_model.specs.Possible.{has_job}
use Rattle.cable_model.specs.Window.{job}
use Rattle.cable_model.proofs.Inbox.{Known, SeatKnown, valid-at, plan-strikes}
use Rattle.cable_model.proofs.Jobs.{JobPiece, job-piece}
use Rattle.cable_model.proofs.JobsStay.{job-more}
use Rattle.cable_model.proofs.Marks.{changed-makes}
use Rattle.cable_model.proofs.Puts.{closing-push}
use Rattle.cable_model.proofs.Waiting.{if_stands, put-waits, put-closed, take-waits}
use Rattle.cable_model.proofs.Working.{Working}
use Rattle.conn_core.specs.Connections.{connection_behind}
use Rattle.conn_core.specs.Marked.{Marks, marked_sub, IsMarked, UnmarkedAbove}
use Rattle.conn_core.specs.Subscriptions.{WantsApart}
use Rattle.conn_core.proofs.MarkedSteps.{marked-step}
use Rattle.conn_core.proofs.StaysApart.{apart-applied}
use Rattle.conn_core.proofs.WantsStayApart.{wants-applied}
use Rattle.conn_seat.specs.Ends.{left}
use Rattle.conn_seat.specs.Seats.{Seated, Becomes, with_piece, with_first, place_of, sub_out, next_want, last_behind, with_change, CanFinish}
use Rattle.conn_seat.specs.Seated.{connection_of, job_out, Shows}
use Rattle.conn_seat.proofs.Ending.{AtEnd}
use Rattle.conn_seat.proofs.Leaving.{Stands, change-leaves}

pub shows-room : (marks : Marks) (s : Seat) (v new : Seated) → Becomes v new → Shows marks s v → Shows marks s new
shows-room marks s v new b h =
    subst (Shows marks s) (sym b.now)
    (record { conn = record { subs = h.conn.subs; over = h.conn.over }; waiting = h.waiting; last = h.last; taken = h.taken; job = h.job; closing = h.closing; made = h.made; apart = h.apart; wants = h.wants })

-- ---- a piece is put

job-out-more : (pl : Planner) (s : Seat) (rows : (sub want : ℕ) → List Row) (qs : List Piece) → Working pl s rows → job_out (with_all s qs) ≡ job_out s
job-out-more pl s rows qs w = go (has_job s) refl
  where
    go : (b : Bool) → has_job s ≡ b → job_out (with_all s qs) ≡ job_out s
    go true b = ap (λ j. cond (has_job s) (option_map (λ (p : Piece). record { place = s.taken; piece = p }) j) None) (job-more pl s rows qs w b)
    go false b = rw b refl

pub shows-put : (pl : Planner) (marks : Marks) (s : Seat) (rows : (sub want : ℕ) → List Row) (v : Seated) (p : Piece) → Working pl s rows → still s.conn p ≡ true → Shows marks s v → Shows marks (with_put s p) (with_piece p v)
shows-put pl marks s rows v p w t h = go v.closing refl
  where
    put-now : Seated
    put-now = record v { waiting = v.waiting ++ record { place = v.last + 1; piece = p } ∷ []; last = v.last + 1; closing = is_closing p; spare = v.spare - 1 }

    go : (b : Bool) → v.closing ≡ b → Shows marks (with_put s p) (with_piece p v)
    go true b =
        subst (λ x. Shows marks (with_put s p) (cond x v put-now)) (sym b)
        (subst (λ x. Shows marks x v) (sym (put-closed s p (sym h.closing ∙ b))) h)
    go false b =
        let unshut : closing s.pieces ≡ false = sym h.closing ∙ b in
        let grown : put s.pieces p ≡ s.pieces ++ p ∷ [] = ap (λ x. cond x s.pieces (s.pieces ++ p ∷ [])) unshut in
        let next : v.last + 1 ≡ suc (length s.pieces) = let l = h.last in omega (arith, l) in
        let more : waiting (with_put s p) ≡ waiting s ++ record { place = suc (length s.pieces); piece = p } ∷ [] =
        put-waits pl s rows p w unshut ∙ ap (λ x. waiting s ++ if_stands x (record { place = suc (length s.pieces); piece = p })) t in
        subst (λ x. Shows marks (with_put s p) (cond x v put-now)) (sym b)
        (record {
          conn = record { subs = h.conn.subs; over = h.conn.over };
          waiting = ap (λ ps. ps ++ record { place = v.last + 1; piece = p } ∷ []) h.waiting ∙ (ap (λ n. waiting s ++ record { place = n; piece = p } ∷ []) next ∙ sym more);
          last = next ∙ sym (ap length grown ∙ (length-append s.pieces (p ∷ []) ∙ omega arith));
          taken = h.taken;
          job = h.job ∙ sym (job-out-more pl s rows (p ∷ []) w);
          closing = sym (ap closing grown ∙ (closing-push s.pieces p ∙ rw unshut refl));
          made = h.made;
          apart = h.apart;
          wants = h.wants;
        })

-- ---- the first piece is taken

-- the piece that waits first stands at its place among all pieces
head-placed : (f : Placed → Bool) (n t : ℕ) (ps : List Piece) (q : Placed) (rest : List Placed) → filter f (drop t (numbered n ps)) ≡ q ∷ rest → (i : ℕ) × (q.place ≡ n + i + 1) × (slice_get ps i ≡ Some q.piece)
head-placed f n zero [] q rest e = absurd (cc (e))
head-placed f n (suc t) [] q rest e = absurd (cc (e))
head-placed f n (suc t) (x ∷ xs) q rest e = let r = head-placed f (suc n) t xs q rest e in (suc r.0, r.1 ∙ omega arith, r.2)
head-placed f n zero (x ∷ xs) q rest e = go (f (record { place = suc n; piece = x })) refl (head-placed f (suc n) zero xs q rest)
  where
    go : (b : Bool) → f (record { place = suc n; piece = x }) ≡ b
        → (filter f (numbered (suc n) xs) ≡ q ∷ rest → (i : ℕ) × (q.place ≡ suc n + i + 1) × (slice_get xs i ≡ Some q.piece))
        → (i : ℕ) × (q.place ≡ n + i + 1) × (slice_get (x ∷ xs) i ≡ Some q.piece)
    go true b ih =
        let e' = rw b at e in
        let head : record { place = suc n; piece = x } ≡ q = cc (e') in
        (0, sym (ap (λ (p : Placed). p.place) head) ∙ omega arith, ap (λ (p : Placed). Some p.piece) head)
    go false b ih =
        let e' = rw b at e in
        let r = ih e' in (suc r.0, r.1 ∙ omega arith, r.2)

pub shows-take : (pl : Planner) (marks : Marks) (s : Seat) (rows : (sub want : ℕ) → List Row) (v : Seated) (p : Placed) (ps : List Placed) → Working pl s rows → has_job s ≡ false → waiting s ≡ p ∷ ps → Shows marks s v
    → Shows marks (with_job s) (with_first (p ∷ ps) v)
shows-take pl marks s rows v p ps w out e h =
    let t = take-waits pl s rows w out p ps e in
    let head = head-placed (λ q. still s.conn q.piece) 0 s.taken s.pieces p ps e in
    let behind : ltb s.done p.place ≡ true = let far = t.2 in grind (arith, nat_tests) in
    let at : p.place - 1 ≡ head.0 = let place = head.1 in omega (arith, place) in
    record {
      conn = record { subs = h.conn.subs; over = h.conn.over };
      waiting = sym t.1;
      last = h.last;
      taken = sym t.0;
      job =
          sym
          (ap (λ n. cond (ltb s.done n) (option_map (λ (x : Piece). record { place = n; piece = x }) (slice_get s.pieces (n - 1))) None) t.0
          ∙ (ap (λ b. cond b (option_map (λ (x : Piece). record { place = p.place; piece = x }) (slice_get s.pieces (p.place - 1))) None) behind
          ∙ ap (option_map (λ (x : Piece). record { place = p.place; piece = x })) (ap (slice_get s.pieces) at ∙ head.2)));
      closing = h.closing;
      made = h.made;
      apart = h.apart;
      wants = h.wants;
    }

-- ---- a job is finished

pub out-is : (s : Seat) (j : JobPiece s) → has_job s ≡ true → job_out s ≡ Some (record { place = s.taken; piece = j.piece })
out-is s j out = ap (λ b. cond b (option_map (λ (p : Piece). record { place = s.taken; piece = p }) (job s)) None) out ∙ ap (option_map (λ (p : Piece). record { place = s.taken; piece = p })) j.is

all-waits : (n : ℕ) (k : Conn) (b t : ℕ) (ps : List Piece) → AllByRecursion (Known k.made n) ps → AllByRecursion (Stands n k) (filter (λ p. still k p.piece) (drop t (numbered b ps)))
all-waits n k b zero [] a = tt
all-waits n k b (suc t) [] a = tt
all-waits n k b (suc t) (x ∷ xs) a = all-waits n k (suc b) t xs a.1
all-waits n k b zero (x ∷ xs) a = go (still k x) refl (all-waits n k (suc b) zero xs a.1)
  where
    go : (z : Bool) → still k x ≡ z → AllByRecursion (Stands n k) (filter (λ p. still k p.piece) (numbered (suc b) xs)) → AllByRecursion (Stands n k) (filter (λ p. still k p.piece) (numbered b (x ∷ xs)))
    go true z ih = rw z ((z, a.0), ih)
    go false z ih = rw z ih

last-of : (d : Change) (taken last n : ℕ) → last ≡ n → (d ≡ change.Close → taken ≡ n) → last_behind d taken last ≡ n
last-of change.Nothing taken last n e f = e
last-of (change.Add identifier streams) taken last n e f = e
last-of (change.Streams identifier stops streams) taken last n e f = e
last-of (change.Remove identifier) taken last n e f = e
last-of change.Close taken last n e f = f refl

is-close : (d : Change) → (d ≡ change.Close) ⊎ (d ≡ change.Close → ⊥)
is-close change.Nothing = inr (λ e. absurd (cc (e)))
is-close (change.Add identifier streams) = inr (λ e. absurd (cc (e)))
is-close (change.Streams identifier stops streams) = inr (λ e. absurd (cc (e)))
is-close (change.Remove identifier) = inr (λ e. absurd (cc (e)))
is-close change.Close = inl refl

pub shows-finish : (pl : Planner) (marks : Marks) (s : Seat) (rows : (sub want : ℕ) → List Row) (v : Seated) (plan : Plan) → Working pl s rows → SeatKnown s → has_job s ≡ true → (plan.change ≡ change.Close → AtEnd s)
    → UnmarkedAbove s.conn.made marks → CanFinish plan.change v → Shows marks s v → Shows marks (with_plan s plan) (with_change plan.change v)
shows-finish pl marks s rows v plan w ks out end above f h =
    let d = plan.change in
    let k = s.conn in
    let place : place_of v.job ≡ s.taken = ap place_of (h.job ∙ out-is s (job-piece pl s rows w out) out) in
    let first : v.made + 1 ≡ k.made + 1 = ap (λ n. n + 1) h.made in
    let step = marked-step marks k (connection_of v) d (sub_out v) (next_want v) h.conn above first in
    let now : ltb s.taken s.taken ≡ false = grind (arith, nat_tests) in
    record {
      conn = subst (λ n. IsMarked marks (changed d n k) (connection_behind d (sub_out v) (next_want v) (connection_of v))) place step;
      waiting = ap (λ ss. left d ss v.waiting) h.conn.subs ∙ (ap (left d (map (marked_sub marks) k.subs)) h.waiting ∙ (struck (is-close d) ∙ sym (plan-strikes pl s rows plan out ks w)));
      last = last-of d v.taken v.last (length s.pieces) h.last (λ e. h.taken ∙ (end e).last);
      taken = h.taken;
      job = sym (ap (λ b. cond b (option_map (λ (p : Piece). record { place = s.taken; piece = p }) (job s)) None) now);
      closing = h.closing;
      made = ap (λ n. n + makes d) h.made ∙ sym (changed-makes d s.taken k);
      apart = apart-applied d (sub_out v) (next_want v) v.subs f.can h.apart;
      wants = wants-applied d (sub_out v) (next_want v) v.subs f.can h.apart h.wants;
    }
  where
    struck : (plan.change ≡ change.Close) ⊎ (plan.change ≡ change.Close → ⊥) → left plan.change (map (marked_sub marks) s.conn.subs) (waiting s) ≡ filter (λ p. still (changed plan.change s.taken s.conn) p.piece) (waiting s)
    struck (inl e) =
        let none = (end e).waiting in
        ap (left plan.change (map (marked_sub marks) s.conn.subs)) none ∙ sym (ap (filter (λ p. still (changed plan.change s.taken s.conn) p.piece)) none)
    struck (inr n) = change-leaves marks s.done s.taken s.conn plan.change (waiting s) (valid-at pl s rows w) (subst WantsApart h.conn.subs h.wants) n (all-waits s.done s.conn 0 s.taken s.pieces ks)
