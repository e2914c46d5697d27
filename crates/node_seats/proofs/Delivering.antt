-- A Deliver is an entry of the node's journal.
use Rattle.std.proofs.Common.{◌≡◌, ℕ, true, false, cond, not, ◌&&◌, List, [], ◌∷◌, ◌++◌, Option, Some, None, refl, sym, ap, subst, ◌∙◌}
use Rattle.std.specs.Prelude.{is_some}
use Rattle.std.specs.Ordering.{nat_cmp}
use Rattle.std.specs.List.Sorted.{IsStrictlySortedBy}
use Rattle.cable_base.specs.declared.numbers.RowId.{RowId}
use Rattle.cable_base.specs.declared.rows.Row.{Row}
use Rattle.cable_model.specs.declared.journals.ReadNote.{ReadNote}
use Rattle.cable_model.specs.declared.pieces.Piece.{Piece}
use Rattle.cable_model.specs.Pieces as model
use Rattle.cable_model.specs.Pieces.{seat, unseated, closing, put_all, with_all, rows_puts, deliver_puts}
use Rattle.cable_model.specs.Possible.{has_job}
use Rattle.cable_model.specs.Steps.{Step}
use Rattle.cable_model.specs.Wants.{Mark, marks, turn_mark, user_of}
use Rattle.cable_model.proofs.JobsStay.{unopened-user}
use Rattle.cable_model.proofs.Marks.{missed-marks}
use Rattle.cable_model.proofs.Waiting.{put-closed}
use Rattle.conn_core.specs.Subscriptions.{Subscription}
use Rattle.conn_seat.specs.Seats.{Seated, Becomes, with_piece}
use Rattle.conn_seat.specs.Turns.{with_pieces, with_turn, taken_by, placed_each}
use Rattle.conn_seat.proofs.Sitting.{sits-room}
use Rattle.conn_seat.proofs.Turning.{sits-found}
use Rattle.node_seats.specs.Numbers.{Numbers, Opened, opened_at}
use Rattle.node_seats.specs.AreSeats.{IsDone, IsOpened, AreSeats, AreWorked}
use Rattle.node_seats.specs.declared.turning.Delivery.{Delivery}
use Rattle.node_seats.specs.declared.turning.Wanted.{Wanted}
use Rattle.node_seats.specs.Turned.{Turns, TurnsOne, Roomier, Places, Delivers, pieces_for, pairs_by}
use Rattle.node_seats.proofs.Composing.{all-on}
use Rattle.node_seats.proofs.Onward.{onward, some-is}
use Rattle.node_seats.proofs.Entries.{piece-over}

-- ---- a turn that was missed

pub turn-missed : (turn : ℕ) (note : ReadNote) (past : List Step) (v : Numbers) → note.failed ≡ true → AreSeats past v → AreSeats (Step.Deliver turn note ∷ past) v
turn-missed turn note past v f a =
    onward past (Step.Deliver turn note ∷ past) v refl
    (λ c. record {
      user = refl;
      seated =
          ap (λ b. cond b (seat c past) (with_all (seat c past) (deliver_puts (user_of c past) (marks c past) (turn_mark c note past) (seat c past).conn.subs note.rows))) f;
      marked = missed-marks c turn note past f;
    })
    a

-- ---- what is put where nothing can happen

-- behind a closing piece nothing is put
closed-all : (s : model.Seat) (qs : List Piece) → closing s.pieces ≡ true → put_all s.pieces qs ≡ s.pieces
closed-all s [] shut = refl
closed-all s (q ∷ qs) shut = ap (λ (x : model.Seat). put_all x.pieces qs) (put-closed s q shut) ∙ closed-all s qs shut

-- without a user and subscriptions no row puts anything
no-rows : (ms : List Mark) (rows : List Row) → rows_puts None ms [] rows ≡ []
no-rows ms [] = refl
no-rows ms (row ∷ rows) = no-rows ms rows

no-puts : (c : ℕ) (ms now : List Mark) (rows : List Row) (u : Option (List ℕ)) (s : model.Seat) → u ≡ None → s ≡ unseated → with_all s (deliver_puts u ms now s.conn.subs rows) ≡ s
no-puts c ms now rows u s none empty =
    rw (none, empty) (ap (λ qs. with_all unseated (qs)) (ap (λ (ps : List Piece). ps ++ []) (no-rows ms rows)))

pieces-over : (qs : List Piece) (v : Seated) → (with_pieces qs v).over ≡ v.over
pieces-over [] v = refl
pieces-over (q ∷ qs) v = pieces-over qs (with_piece q v) ∙ piece-over q v

-- ---- a turn that was found

-- the pieces that the turn puts on the connection c
puts_of : ℕ → ReadNote → List Step → List Piece
puts_of c note past = deliver_puts (user_of c past) (marks c past) (turn_mark c note past) (seat c past).conn.subs note.rows

put-now : (c turn : ℕ) (note : ReadNote) (past : List Step) → note.failed ≡ false → seat c (Step.Deliver turn note ∷ past) ≡ with_all (seat c past) (puts_of c note past)
unfolding puts_of
put-now c turn note past f = ap (λ b. cond b (seat c past) (with_all (seat c past) (puts_of c note past))) f

done-found : (c turn : ℕ) (note : ReadNote) (past : List Step) → note.failed ≡ false → IsDone c past → IsDone c (Step.Deliver turn note ∷ past)
done-found c turn note past f h =
    let now = put-now c turn note past f in
    record {
      live = ap (λ (x : model.Seat). is_some (user_of c past) && not x.conn.over) now ∙ h.live;
      job = ap has_job now ∙ h.job;
      closed = λ u. ap (λ (x : model.Seat). closing x.pieces) now ∙ ap closing (closed-all (seat c past) (puts_of c note past) (h.closed u)) ∙ h.closed u;
    }

pub turn-found : (turn : ℕ) (note : ReadNote) (past : List Step) (v new : Numbers) → AreWorked past → AreSeats past v → note.failed ≡ false
    → Turns (λ c s t. Becomes (with_turn (turn_mark c note past) (deliver_puts (user_of c past) (marks c past) (turn_mark c note past) (seat c past).conn.subs note.rows) s) t) v new
    → AreSeats (Step.Deliver turn note ∷ past) new
unfolding puts_of
turn-found turn note past v new w a f t =
    record {
      numbers = t.numbers ∙ a.numbers;
      rising = subst (IsStrictlySortedBy nat_cmp) (sym t.numbers) a.rising;
      each = λ c p at. by-kept c p (opened_at c v) refl (t.each c) at;
      unopened = λ c e.
          put-now c turn note past f
          ∙ no-puts c (marks c past) (turn_mark c note past) note.rows (user_of c past) (seat c past) (unopened-user c past e) (a.unopened c e) ∙ a.unopened c e;
    }
  where
    By : ℕ → Seated → Seated → Type 0
    By c s t = Becomes (with_turn (turn_mark c note past) (puts_of c note past) s) t

    by-kept : (c : ℕ) (p : Opened) (o : Option Opened) → opened_at c v ≡ o → TurnsOne (By c) o (opened_at c new) → opened_at c new ≡ Some p → IsOpened c (Step.Deliver turn note ∷ past) p
    by-kept c p None was one at = absurd (let e : None ≡ Some p = sym one ∙ at in cc)
    by-kept c p (Some Opened.Over) was one at =
        subst (IsOpened c (Step.Deliver turn note ∷ past)) (some-is Opened.Over p (sym one ∙ at)) (done-found c turn note past f (a.each c Opened.Over was))
    by-kept c p (Some (Opened.Live s)) was one at =
        let h = a.each c (Opened.Live s) was in
        let pl = w c s.user h.0.user in
        subst (IsOpened c (Step.Deliver turn note ∷ past)) (some-is (Opened.Live one.0) p (sym one.2 ∙ at)) (
          sits-found pl.0 c turn note past s one.0 pl.1 h.0 f one.1,
          ap (λ (x : Seated). x.over) one.1.now ∙ pieces-over (puts_of c note past) (record s { subs = taken_by (turn_mark c note past) s.subs }) ∙ h.1,
        )

-- ---- what the calls of a Deliver make

-- room that is made for pieces is no entry
pub turn-rooms : (past : List Step) (v new : Numbers) → AreSeats past v → Roomier v new → AreSeats past new
turn-rooms past v new a r =
    record {
      numbers = r.numbers ∙ a.numbers;
      rising = subst (IsStrictlySortedBy nat_cmp) (sym r.numbers) a.rising;
      each = λ c p at. by-kept c p (opened_at c v) refl (r.each c) at;
      unopened = a.unopened;
    }
  where
    by-kept : (c : ℕ) (p : Opened) (o : Option Opened) → opened_at c v ≡ o → TurnsOne (λ s t. Becomes s t) o (opened_at c new) → opened_at c new ≡ Some p → IsOpened c past p
    by-kept c p None was one at = absurd (let e : None ≡ Some p = sym one ∙ at in cc)
    by-kept c p (Some Opened.Over) was one at = subst (IsOpened c past) (some-is Opened.Over p (sym one ∙ at)) (a.each c Opened.Over was)
    by-kept c p (Some (Opened.Live s)) was one at =
        let h = a.each c (Opened.Live s) was in
        subst (IsOpened c past) (some-is (Opened.Live one.0) p (sym one.2 ∙ at)) (sits-room c past s one.0 one.1 h.0, ap (λ (x : Seated). x.over) one.1.now ∙ h.1)

placed-seat : List Subscription → Seated → Seated
placed-seat subs s = record s { subs = subs }

-- room is made, then wants are placed, then pieces are put: the turn, where the wants are those that it takes and the pieces are its own
pub turn-calls : (turns : ℕ → List Mark) (qs : ℕ → List Piece) (mark : RowId) (ws : List Wanted) (ds : List Delivery) (v a b new : Numbers)
    → ((c : ℕ) (s : Seated) → opened_at c v ≡ Some (Opened.Live s) → placed_each mark (pairs_by c ws) s.subs ≡ taken_by (turns c) s.subs)
    → ((c : ℕ) (s : Seated) → opened_at c v ≡ Some (Opened.Live s) → pieces_for c ds ≡ qs c)
    → Roomier v a → Places mark ws a b → Delivers ds b new → Turns (λ c s t. Becomes (with_turn (turns c) (qs c) s) t) v new
unfolding placed-seat
turn-calls turns qs mark ws ds v a b new takes puts rooms places delivers =
    record { numbers = delivers.numbers ∙ places.numbers ∙ rooms.numbers; each = λ c. one c (opened_at c v) (opened_at c a) (opened_at c b) (opened_at c new) refl (rooms.each c) (places.each c) (delivers.each c) }
  where
    Placed_by : ℕ → Seated → Seated → Type 0
    Placed_by c s t = t ≡ record s { subs = placed_each mark (pairs_by c ws) s.subs }

    Put_by : ℕ → Seated → Seated → Type 0
    Put_by c s t = Becomes (with_pieces (pieces_for c ds) s) t

    live-one : (c : ℕ) (s x y z : Seated) → opened_at c v ≡ Some (Opened.Live s) → Becomes s x → Placed_by c x y → Put_by c y z → Becomes (with_turn (turns c) (qs c) s) z
    live-one c s x y z at r p d =
        let subs : x.subs ≡ s.subs = ap (λ (w : Seated). w.subs) r.now in
        let marked : placed_each mark (pairs_by c ws) x.subs ≡ taken_by (turns c) s.subs = ap (placed_each mark (pairs_by c ws)) subs ∙ takes c s at in
        let placed : y ≡ placed-seat (taken_by (turns c) s.subs) x = p ∙ ap (λ ss. placed-seat ss x) marked in
        let on : Becomes (placed-seat (taken_by (turns c) s.subs) s) y = subst (Becomes (placed-seat (taken_by (turns c) s.subs) s)) (sym placed)
        (record { now = ap (placed-seat (taken_by (turns c) s.subs)) r.now; spare = r.spare }) in
        subst (λ (ps : List Piece). Becomes (with_pieces ps (placed-seat (taken_by (turns c) s.subs) s)) z) (puts c s at)
        (all-on (pieces_for c ds) (placed-seat (taken_by (turns c) s.subs) s) y z on d)

    one : (c : ℕ) (o p q r : Option Opened) → opened_at c v ≡ o → TurnsOne (λ s t. Becomes s t) o p → TurnsOne (Placed_by c) p q → TurnsOne (Put_by c) q r
        → TurnsOne (λ s t. Becomes (with_turn (turns c) (qs c) s) t) o r
    one c None p q r at x y z =
        let y' : q ≡ None = subst (λ (i : Option Opened). TurnsOne (Placed_by c) i q) x y in
        subst (λ (i : Option Opened). TurnsOne (Put_by c) i r) y' z
    one c (Some Opened.Over) p q r at x y z =
        let y' : q ≡ Some Opened.Over = subst (λ (i : Option Opened). TurnsOne (Placed_by c) i q) x y in
        subst (λ (i : Option Opened). TurnsOne (Put_by c) i r) y' z
    one c (Some (Opened.Live s)) p q r at x y z =
        let y' = subst (λ (i : Option Opened). TurnsOne (Placed_by c) i q) x.2 y in
        let z' = subst (λ (i : Option Opened). TurnsOne (Put_by c) i r) y'.2 z in
        (z'.0, live-one c s x.0 y'.0 z'.0 at x.1 y'.1 z'.1, z'.2)
