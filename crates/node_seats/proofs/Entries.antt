-- Each call is its entry of the node's journal.
use Rattle.std.proofs.Common.{◌≡◌, ℕ, ◌+◌, ◌-◌, ◌==◌, Bool, true, false, cond, not, ◌&&◌, List, [], ◌∷◌, ◌++◌, Option, Some, refl, sym, ap, subst, ◌∙◌, arith}
use Rattle.std.specs.Prelude.{is_some}
use Rattle.std.proofs.lemmas.Bool.Decides.{nat_tests}
use Rattle.cable_base.specs.declared.numbers.RowId.{RowId}
use Rattle.cable_json.specs.Commands.{command_of}
use Rattle.cable_model.specs.declared.pieces.Piece.{Piece}
use Rattle.cable_model.specs.declared.pieces.Piece.TheVariants as piece
use Rattle.cable_model.specs.declared.plans.Plan.{Plan}
use Rattle.cable_model.specs.declared.plans.Change.{Change}
use Rattle.cable_model.specs.declared.plans.Change.TheVariants as change
use Rattle.cable_model.specs.Connection.{Planner}
use Rattle.cable_model.specs.Plans.{Callbacks}
use Rattle.cable_model.specs.Pieces as model
use Rattle.cable_model.specs.Pieces.{seat, unseated, closing, is_closing, with_plan}
use Rattle.cable_model.specs.Possible.{opened, has_job, job_plan}
use Rattle.cable_model.specs.Promise.{AllWorked}
use Rattle.cable_model.specs.Steps.{Step}
use Rattle.conn_core.specs.Connections.{over_behind}
use Rattle.conn_seat.specs.Seats.{Seated, Becomes, CanFinish, may_take_now, with_piece, with_first, with_taken, with_change}
use Rattle.conn_seat.specs.Seated.{SeatOf}
use Rattle.conn_seat.proofs.Sitting.{sits-room, sits-text, sits-gone, sits-take, sits-finish, sits-closing}
use Rattle.node_seats.specs.Numbers.{Numbers, Opened, Moves, Lives, Prepares, Finished, opened_at, with_opened}
use Rattle.node_seats.specs.AreSeats.{IsDone, IsOpened, AreSeats, AreWorked, Leaves}
use Rattle.node_seats.proofs.Onward.{leaves-other, moved}

pub self : (c : ℕ) → (c == c) ≡ true
self c = grind (arith, nat_tests)

pub apart-test : (c d : ℕ) → (c ≡ d → ⊥) → (c == d) ≡ false
apart-test c d apart = by-test (c == d) refl
  where
    by-test : (b : Bool) → (c == d) ≡ b → b ≡ false
    by-test true is = absurd (apart (grind (arith, nat_tests)))
    by-test false is = refl

-- ---- a live connection that moved

-- it, and what it became
pub record Live (By : Seated → Seated → Type 0) (c : ℕ) (v new : Numbers) : Type 0 where
  pub old_seat : Seated
  pub new_seat : Seated
  pub found : opened_at c v ≡ Some (Opened.Live old_seat)
  pub moved_by : By old_seat new_seat
  pub now : new ≡ with_opened c (Opened.Live new_seat) v

pub live : (By : Seated → Seated → Type 0) (c : ℕ) (v new : Numbers) → Moves c (Lives By) v new → Live By c v new
live By c v new m = by-kept m.kept m.found m.moved
  where
    by-kept : (k : Opened) → opened_at c v ≡ Some k → Lives By k m.became → Live By c v new
    by-kept (Opened.Live s) found l = record { old_seat = s; new_seat = l.0; found = found; moved_by = l.1; now = m.now ∙ ap (λ (o : Opened). with_opened c o v) l.2 }
    by-kept Opened.Over found l = absurd l

-- an entry of one connection, which goes on standing for it
goes-on : (c : ℕ) (e : Step) (past : List Step) (v new : Numbers) (s t : Seated) → opened (e ∷ past) ≡ opened past → ((d : ℕ) → (c ≡ d → ⊥) → Leaves d past (e ∷ past)) → AreSeats past v
    → opened_at c v ≡ Some (Opened.Live s) → new ≡ with_opened c (Opened.Live t) v → SeatOf c (e ∷ past) t → t.over ≡ false → AreSeats (e ∷ past) new
goes-on c e past v new s t same leaves a found now seated shut =
    subst (AreSeats (e ∷ past)) (sym now) (moved c past (e ∷ past) v (Opened.Live t) (Opened.Live s) same leaves a found (seated, shut))

-- ---- room

pub rooms : (c : ℕ) (past : List Step) (v new : Numbers) → AreSeats past v → Moves c (Lives Becomes) v new → AreSeats past new
rooms c past v new a m =
    let l = live Becomes c v new m in
    let h = a.each c (Opened.Live l.old_seat) l.found in
    subst (AreSeats past) (sym l.now)
    (moved c past past v (Opened.Live l.new_seat) (Opened.Live l.old_seat) refl (λ d apart. record { user = refl; seated = refl; marked = refl }) a l.found
    (sits-room c past l.old_seat l.new_seat l.moved_by h.0, ap (λ (x : Seated). x.over) l.moved_by.now ∙ h.1))

-- room for the change of a plan
pub prepares : (d : Change) (c : ℕ) (past : List Step) (v new : Numbers) → AreSeats past v → Moves c (Lives (Prepares d)) v new → AreSeats past new
prepares d c past v new a m =
    let l = live (Prepares d) c v new m in
    let h = a.each c (Opened.Live l.old_seat) l.found in
    let k = h.0.shows in
    let seated : SeatOf c past (record l.old_seat { reserved = Some d }) = record {
      user = h.0.user;
      shows = record {
        conn = record { subs = k.conn.subs; over = k.conn.over };
        waiting = k.waiting;
        last = k.last;
        taken = k.taken;
        job = k.job;
        closing = k.closing;
        made = k.made;
        apart = k.apart;
        wants = k.wants;
      };
    } in
    subst (AreSeats past) (sym l.now)
    (moved c past past v (Opened.Live l.new_seat) (Opened.Live l.old_seat) refl (λ n apart. record { user = refl; seated = refl; marked = refl }) a l.found
    (subst (SeatOf c past) (sym l.moved_by.now) seated, ap (λ (x : Seated). x.over) l.moved_by.now ∙ h.1))

-- ---- puts

pub piece-over : (p : Piece) (v : Seated) → (with_piece p v).over ≡ v.over
piece-over p v = by-closing v.closing
  where
    by-closing : (b : Bool) → (cond b v (record v { waiting = v.waiting ++ record { place = v.last + 1; piece = p } ∷ []; last = v.last + 1; closing = is_closing p; spare = v.spare - 1 })).over ≡ v.over
    by-closing true = refl
    by-closing false = refl

pub put-over : (p : Piece) (s t : Seated) → Becomes (with_piece p s) t → s.over ≡ false → t.over ≡ false
put-over p s t b shut = ap (λ (x : Seated). x.over) b.now ∙ piece-over p s ∙ shut

pub texts : (c : ℕ) (text : List ℕ) (past : List Step) (v new : Numbers) → AreWorked past → AreSeats past v
    → Moves c (Lives (λ s t. Becomes (with_piece (piece.Cmd (command_of text)) s) t)) v new → AreSeats (Step.In c text ∷ past) new
texts c text past v new w a m =
    let l = live (λ s t. Becomes (with_piece (piece.Cmd (command_of text)) s) t) c v new m in
    let h = a.each c (Opened.Live l.old_seat) l.found in
    let pl = w c l.old_seat.user h.0.user in
    goes-on c (Step.In c text) past v new l.old_seat l.new_seat refl (λ d apart. leaves-other d (Step.In c text) past (apart-test c d apart) refl) a l.found l.now
    (sits-text pl.0 c text past l.old_seat l.new_seat pl.1 h.0 l.moved_by) (put-over (piece.Cmd (command_of text)) l.old_seat l.new_seat l.moved_by h.1)

pub drops : (c : ℕ) (past : List Step) (v new : Numbers) → AreWorked past → AreSeats past v
    → Moves c (Lives (λ s t. Becomes (with_piece piece.Gone s) t)) v new → AreSeats (Step.Drop c ∷ past) new
drops c past v new w a m =
    let l = live (λ s t. Becomes (with_piece piece.Gone s) t) c v new m in
    let h = a.each c (Opened.Live l.old_seat) l.found in
    let pl = w c l.old_seat.user h.0.user in
    goes-on c (Step.Drop c) past v new l.old_seat l.new_seat refl (λ d apart. leaves-other d (Step.Drop c) past (apart-test c d apart) refl) a l.found l.now
    (sits-gone pl.0 c past l.old_seat l.new_seat pl.1 h.0 l.moved_by) (put-over piece.Gone l.old_seat l.new_seat l.moved_by h.1)

-- ---- takes

taken-over : (v : Seated) → may_take_now v ≡ true → (with_taken v).over ≡ v.over
taken-over v may = ap (λ b. (cond b (with_first v.waiting v) v).over) may ∙ first v.waiting
  where
    first : (ps : List model.Placed) → (with_first ps v).over ≡ v.over
    first [] = refl
    first (p ∷ ps) = refl

pub takes : (c : ℕ) (past : List Step) (v new : Numbers) → AreWorked past → AreSeats past v → Moves c (Lives (λ s t. Becomes (with_taken s) t)) v new
    → ((s : Seated) → opened_at c v ≡ Some (Opened.Live s) → may_take_now s ≡ true) → AreSeats (Step.Take c ∷ past) new
takes c past v new w a m may =
    let l = live (λ s t. Becomes (with_taken s) t) c v new m in
    let h = a.each c (Opened.Live l.old_seat) l.found in
    let pl = w c l.old_seat.user h.0.user in
    let t = may l.old_seat l.found in
    goes-on c (Step.Take c) past v new l.old_seat l.new_seat refl (λ d apart. leaves-other d (Step.Take c) past (apart-test c d apart) refl) a l.found l.now
    (sits-take pl.0 c past l.old_seat l.new_seat pl.1 h.0 t l.moved_by) (ap (λ (x : Seated). x.over) l.moved_by.now ∙ taken-over l.old_seat t ∙ h.1)

-- a take that takes nothing
pub takes-none : (c : ℕ) (past : List Step) (v new : Numbers) → AreSeats past v → Moves c (Lives (λ s t. Becomes (with_taken s) t)) v new
    → ((s : Seated) → opened_at c v ≡ Some (Opened.Live s) → may_take_now s ≡ false) → AreSeats past new
takes-none c past v new a m may_not =
    let l = live (λ s t. Becomes (with_taken s) t) c v new m in
    let still : with_taken l.old_seat ≡ l.old_seat = ap (λ b. cond b (with_first l.old_seat.waiting l.old_seat) l.old_seat) (may_not l.old_seat l.found) in
    rooms c past v new a (record { kept = Opened.Live l.old_seat; became = Opened.Live l.new_seat; found = l.found; moved = (l.new_seat, subst (λ (x : Seated). Becomes x l.new_seat) still l.moved_by, refl); now = l.now })

-- ---- finishes

closes-is : (d : Change) (over : Bool) → over ≡ false → over_behind d over ≡ true → d ≡ change.Close
closes-is change.Nothing over shut ends = absurd (let e : false ≡ true = sym shut ∙ ends in cc)
closes-is (change.Add identifier streams) over shut ends = absurd (let e : false ≡ true = sym shut ∙ ends in cc)
closes-is (change.Streams identifier stops streams) over shut ends = absurd (let e : false ≡ true = sym shut ∙ ends in cc)
closes-is (change.Remove identifier) over shut ends = absurd (let e : false ≡ true = sym shut ∙ ends in cc)
closes-is change.Close over shut ends = refl

no-job : (c : ℕ) (puts : List (Option RowId)) (plan : Plan) (past : List Step) → has_job (seat c (Step.Finish c puts plan ∷ past)) ≡ false
no-job c puts plan past =
    let none : has_job (with_plan (seat c past) plan) ≡ false = grind (arith, nat_tests) in
    ap (λ b. has_job (cond b (with_plan (seat c past) plan) (seat c past))) (self c) ∙ none

is-done : (r : Callbacks) (pl : Planner) (c : ℕ) (puts : List (Option RowId)) (plan : Plan) (past : List Step) (s t : Seated) → AllWorked pl c past → job_plan r c past ≡ Some plan → SeatOf c past s
    → s.over ≡ false → Becomes (with_change plan.change s) t → SeatOf c (Step.Finish c puts plan ∷ past) t → t.over ≡ true → IsDone c (Step.Finish c puts plan ∷ past)
is-done r pl c puts plan past s t aw out h shut b now over =
    let ends : over_behind plan.change s.over ≡ true = sym (ap (λ (x : Seated). x.over) b.now) ∙ over in
    let closes = closes-is plan.change s.over shut ends in
    record {
      live = ap (λ (o : Option (List ℕ)). is_some o && not (seat c (Step.Finish c puts plan ∷ past)).conn.over) now.user ∙ ap not (sym now.shows.conn.over ∙ over);
      job = no-job c puts plan past;
      closed = λ u. sym now.shows.closing ∙ ap (λ (x : Seated). x.closing) b.now ∙ sits-closing pl r c plan past s aw out h closes;
    }

pub finishes : (r : Callbacks) (c : ℕ) (puts : List (Option RowId)) (plan : Plan) (past : List Step) (v new : Numbers) → AreWorked past → AreSeats past v → job_plan r c past ≡ Some plan
    → ((s : Seated) → opened_at c v ≡ Some (Opened.Live s) → CanFinish plan.change s) → Moves c (Finished plan.change) v new → AreSeats (Step.Finish c puts plan ∷ past) new
finishes r c puts plan past v new w a out can m = by-kept m.kept m.found m.moved
  where
    leaves : (d : ℕ) → (c ≡ d → ⊥) → Leaves d past (Step.Finish c puts plan ∷ past)
    leaves d apart = leaves-other d (Step.Finish c puts plan) past (apart-test c d apart) refl

    by-over : (s t : Seated) (b : Bool) → t.over ≡ b → IsOpened c past (Opened.Live s) → opened_at c v ≡ Some (Opened.Live s) → Becomes (with_change plan.change s) t
        → IsOpened c (Step.Finish c puts plan ∷ past) (cond b Opened.Over (Opened.Live t))
    by-over s t b over h found by =
        let pl = w c s.user h.0.user in
        let now = sits-finish pl.0 r c puts plan past s t pl.1 out h.0 (can s found) by in
        by-bool b over pl.0 pl.1 now
      where
        by-bool : (b : Bool) → t.over ≡ b → (pl : Planner) → AllWorked pl c past → SeatOf c (Step.Finish c puts plan ∷ past) t → IsOpened c (Step.Finish c puts plan ∷ past) (cond b Opened.Over (Opened.Live t))
        by-bool true over pl aw now = is-done r pl c puts plan past s t aw out h.0 h.1 by now over
        by-bool false over pl aw now = (now, over)

    by-kept : (k : Opened) → opened_at c v ≡ Some k → Finished plan.change k m.became → AreSeats (Step.Finish c puts plan ∷ past) new
    by-kept (Opened.Live s) found f =
        subst (AreSeats (Step.Finish c puts plan ∷ past)) (sym m.now)
        (moved c past (Step.Finish c puts plan ∷ past) v m.became (Opened.Live s) refl leaves a found
        (subst (IsOpened c (Step.Finish c puts plan ∷ past)) (sym f.2) (by-over s f.0 f.0.over refl (a.each c (Opened.Live s) found) found f.1)))
    by-kept Opened.Over found f = absurd f
