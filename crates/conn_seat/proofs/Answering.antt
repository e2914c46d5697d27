-- What a connection answers, and the plan of its job, are what the journal says.
use Rattle.std.proofs.Common.{ℕ, zero, suc, ◌+◌, ◌-◌, ◌^◌, ◌≡◌, ◌<◌, Bool, true, false, cond, not, ◌&&◌, List, [], ◌∷◌, length, map, drop, Some, None, refl, ap, sym, subst, ◌∙◌, arith, is_some}
use Rattle.std.specs.List.{filter, AllByRecursion}
use Rattle.std.proofs.lemmas.Bool.Decides.{nat_tests}
use Rattle.cable_base.specs.declared.numbers.SubNo.{SubNo}
use Rattle.cable_base.specs.declared.numbers.WantNo.{WantNo}
use Rattle.cable_base.proofs.Rises.{Rises, Rises-within}
use Rattle.cable_model.specs.declared.pieces.Piece.{Piece}
use Rattle.cable_model.specs.declared.pieces.Piece.TheVariants as piece
use Rattle.cable_model.specs.Steps.{Step}
use Rattle.cable_model.specs.Connection.{Want, Sub, Conn, Planner, still}
use Rattle.cable_model.specs.Plans.{Callbacks, plan_for}
use Rattle.cable_model.specs.Wants.{makes, user_of}
use Rattle.cable_model.specs.Pieces.{Placed, numbered, Seat, seat}
use Rattle.cable_model.specs.Possible.{is_live, is_command, has_job, is_empty, planned}
use Rattle.cable_model.specs.Window.{job, finished}
use Rattle.cable_model.specs.Promise.{AllWorked}
use Rattle.cable_model.proofs.Inbox.{valid-at}
use Rattle.cable_model.proofs.Jobs.{job-piece}
use Rattle.cable_model.proofs.Valid.{Valid}
use Rattle.cable_model.proofs.Working.{working}
use Rattle.conn_core.specs.Connections.{SubsBelow, AllWantsBelow}
use Rattle.conn_core.specs.Marked.{Marks, marked_want, marked_sub}
use Rattle.conn_core.specs.Subscriptions.{WantsBelow}
use Rattle.conn_core.proofs.MarkedTasks.{marked-task}
use Rattle.conn_core.proofs.PlansApply.{plan-applies}
use Rattle.conn_seat.specs.Seats.{Seated, place_of, sub_out, next_want, CanFinish}
use Rattle.conn_seat.specs.Seated.{SeatOf, connection_of, marks_at, AnswersAs, PlansAs, plan_of_piece}
use Rattle.conn_seat.proofs.Showing.{out-is}
use Rattle.conn_seat.proofs.Sitting.{busy-is}

-- ---- answers

command-stands : (k : Conn) (p : Piece) → is_command p ≡ true → still k p ≡ true
command-stands k (piece.Cmd read) e = refl
command-stands k (piece.Row sub want row) e = absurd (cc (e))
command-stands k (piece.Confirm sub) e = absurd (cc (e))
command-stands k (piece.Remote reconnect) e = refl
command-stands k piece.Gone e = refl
command-stands k piece.Restart e = refl

-- no command is ever passed over
commands-wait : (k : Conn) (b t : ℕ) (ps : List Piece) → filter is_command (map (λ (p : Placed). p.piece) (filter (λ p. still k p.piece) (drop t (numbered b ps)))) ≡ filter is_command (drop t ps)
commands-wait k b zero [] = refl
commands-wait k b (suc t) [] = refl
commands-wait k b (suc t) (x ∷ xs) = commands-wait k (suc b) t xs
commands-wait k b zero (x ∷ xs) = go (is_command x) refl (still k x) refl (commands-wait k (suc b) zero xs)
  where
    go : (i : Bool) → is_command x ≡ i → (z : Bool) → still k x ≡ z
        → filter is_command (map (λ (p : Placed). p.piece) (filter (λ p. still k p.piece) (numbered (suc b) xs))) ≡ filter is_command xs
        → filter is_command (map (λ (p : Placed). p.piece) (filter (λ p. still k p.piece) (numbered b (x ∷ xs)))) ≡ filter is_command (x ∷ xs)
    go true i true z ih = rw (z, i) (ap (λ ps. x ∷ ps) ih)
    go true i false z ih = let s = command-stands k x i in absurd (cc (s, z))
    go false i true z ih = rw (z, i) ih
    go false i false z ih = rw (z, i) ih

takes-order : (j o e : Bool) → (not j && (o && e)) ≡ ((o && not j) && e)
takes-order true true e = refl
takes-order true false e = refl
takes-order false true e = refl
takes-order false false e = refl

pub answers : (pl : Planner) (c : ℕ) (past : List Step) (v : Seated) → AllWorked pl c past → SeatOf c past v → AnswersAs c past v
answers pl c past v a h =
    let s = seat c past in
    let live : not v.over ≡ is_live c past = ap not h.shows.conn.over ∙ ap (λ o. is_some o && not s.conn.over) (sym h.user) in
    let busy = busy-is pl c past v a h in
    record {
      live = live;
      receiving = ap (λ b. b && not v.closing) live ∙ ap (λ b. is_live c past && not b) h.shows.closing;
      busy = busy;
      takes =
          takes-order (is_some v.job) (not v.over) (not (is_empty v.waiting))
          ∙ (ap (λ b. (b && not (is_some v.job)) && not (is_empty v.waiting)) live
          ∙ (ap (λ b. (is_live c past && not b) && not (is_empty v.waiting)) busy ∙ ap (λ ps. (is_live c past && not (has_job s)) && not (is_empty ps)) h.shows.waiting));
      commands = ap (λ ps. length (filter is_command (map (λ (p : Placed). p.piece) ps))) h.shows.waiting ∙ ap length (commands-wait s.conn 0 s.taken s.pieces);
    }

-- ---- the plan of the job

-- the piece that is out is the model's
record OutIs (s : Seat) (p : Placed) : Type 0 where
  out : has_job s ≡ true
  job : job s ≡ Some p.piece
  place : p.place ≡ s.taken

job-out-is : (pl : Planner) (c : ℕ) (past : List Step) (v : Seated) (p : Placed) → AllWorked pl c past → SeatOf c past v → v.job ≡ Some p → OutIs (seat c past) p
job-out-is pl c past v p a h e =
    let s = seat c past in
    let out : has_job s ≡ true = sym (busy-is pl c past v a h) ∙ ap is_some e in
    let j = job-piece pl s (λ sub want. finished c sub want past) (working pl c past a) out in
    let all : Some p ≡ Some (record { place = s.taken; piece = j.piece }) = sym e ∙ (h.shows.job ∙ out-is s j out) in
    let same : p ≡ record { place = s.taken; piece = j.piece } = cc (all) in
    record { out = out; job = j.is ∙ ap Some (sym (ap (λ (x : Placed). x.piece) same)); place = ap (λ (x : Placed). x.place) same }

pub plans : (pl : Planner) (c : ℕ) (past : List Step) (v : Seated) → AllWorked pl c past → SeatOf c past v → PlansAs c past v
plans pl c past v a h =
    record {
      out = λ r p e.
          let s = seat c past in
          let o = job-out-is pl c past v p a h e in
          ap (λ b. cond b (planned r (user_of c past) s.conn (job s)) None) o.out
          ∙ (ap (λ u. planned r u s.conn (job s)) h.user
          ∙ (ap (λ x. planned r (Some v.user) s.conn x) o.job ∙ ap (λ t. Some (plan_for r v.user t)) (sym (marked-task (marks_at c past) s.conn (connection_of v) p.piece h.shows.conn))));
      none = λ r e.
          let s = seat c past in
          let free : has_job s ≡ false = sym (busy-is pl c past v a h) ∙ ap is_some e in
          ap (λ b. cond b (planned r (user_of c past) s.conn (job s)) None) free;
    }

-- ---- it can be finished

subs-below : (marks : Marks) (sub : SubNo) (b e : ℕ) (xs : List Sub) → Rises (λ (x : Sub). x.number) b xs e → e < sub.0 → SubsBelow sub (map (marked_sub marks) xs)
subs-below marks sub b e [] r l = tt
subs-below marks sub b e (x ∷ xs) r l = (let most = Rises-within (λ (y : Sub). y.number) x.number xs e r.1 in omega arith, subs-below marks sub x.number e xs r.1 l)

wants-below : (marks : Marks) (first b e : ℕ) (ws : List Want) → Rises (λ (y : Want). y.number) b ws e → e < first → WantsBelow first (map (marked_want marks) ws)
wants-below marks first b e [] r l = tt
wants-below marks first b e (x ∷ xs) r l = (let most = Rises-within (λ (y : Want). y.number) x.number xs e r.1 in omega arith, wants-below marks first x.number e xs r.1 l)

all-wants-below : (marks : Marks) (first : WantNo) (e : ℕ) (xs : List Sub) → AllByRecursion (λ (x : Sub). Rises (λ (y : Want). y.number) 0 x.wants e) xs → e < first.0 → AllWantsBelow first (map (marked_sub marks) xs)
all-wants-below marks first e [] a l = tt
all-wants-below marks first e (x ∷ xs) a l = (wants-below marks first.0 0 e x.wants a.0 l, all-wants-below marks first e xs a.1 l)

pub finishable : (pl : Planner) (r : Callbacks) (c : ℕ) (past : List Step) (v : Seated) (p : Placed) → AllWorked pl c past → SeatOf c past v → v.job ≡ Some p → v.reserved ≡ Some (plan_of_piece r v p.piece).change
    → v.made + makes (plan_of_piece r v p.piece).change < 2 ^ 64 - 1 → CanFinish (plan_of_piece r v p.piece).change v
finishable pl r c past v p a h e reserved numbers =
    let s = seat c past in
    let o = job-out-is pl c past v p a h e in
    let valid : Valid s.done s.conn = valid-at pl s (λ sub want. finished c sub want past) (working pl c past a) in
    let place : place_of v.job ≡ s.taken = ap place_of e ∙ o.place in
    let behind : s.done < place_of v.job = let out = o.out in let q = place in grind (arith, nat_tests) in
    let above : s.conn.made < v.made + 1 = let made = h.shows.made in omega (arith, made) in
    record {
      out = ap is_some e;
      reserved = reserved;
      numbers = numbers;
      can =
          plan-applies r v.user v.subs p.piece (sub_out v) (next_want v) h.shows.apart
          (subst (SubsBelow (sub_out v)) (sym h.shows.conn.subs) (subs-below (marks_at c past) (sub_out v) 0 s.done s.conn.subs valid.subs behind))
          (subst (AllWantsBelow (next_want v)) (sym h.shows.conn.subs) (all-wants-below (marks_at c past) (next_want v) s.conn.made s.conn.subs valid.wants above))
          (omega (arith, numbers));
    }
