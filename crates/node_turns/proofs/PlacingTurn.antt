-- The Deliver of a turn places the wants that the turn takes.
use Rattle.std.proofs.Common.{◌≡◌, ℕ, Bool, true, false, cond, not, ◌&&◌, List, [], ◌∷◌, ◌++◌, map, take, Option, Some, None, refl, ap, sym, subst, ◌∙◌}
use Rattle.std.proofs.Common.{is_some}
use Rattle.cable_model.specs.declared.journals.ReadNote.{ReadNote}
use Rattle.cable_model.specs.Connection.{Conn}
use Rattle.cable_model.specs.Legal.{Legal}
use Rattle.cable_model.specs.Pieces.{seat}
use Rattle.cable_model.specs.Possible.{is_out, is_live}
use Rattle.cable_model.specs.Steps.{Step}
use Rattle.cable_model.specs.Wants.{Mark, marks, mark_of, turn_mark, user_of}
use Rattle.cable_model.proofs.JobsStay.{unopened-user, userless-seat}
use Rattle.conn_core.specs.Marked.{marked_sub}
use Rattle.conn_seat.specs.Seats.{Seated}
use Rattle.conn_seat.specs.Seated.{SeatOf, marks_at}
use Rattle.conn_seat.specs.Turns.{placed_each, taken_by}
use Rattle.conn_seat.proofs.Turning.{subs-both}
use Rattle.node_seats.specs.AreSeats.{AreSeats}
use Rattle.node_seats.specs.declared.turning.Wanted.{Wanted}
use Rattle.node_seats.specs.Numbers.{Numbers, Opened, opened_at, seat_at, seat_in}
use Rattle.node_seats.specs.Turned.{wanted_by, pairs_by}
use Rattle.node_seats.proofs.Onward.{used-is}
use Rattle.subscriber_map.specs.declared.holding.Hold.{Hold}
use Rattle.subscriber_map.specs.HoldMaps.{HoldMap, holds_at}
use Rattle.node_turns.specs.Wished.{AreWished, taken_count}
use Rattle.node_turns.specs.Held.{AreHeld, own_hold, sub_holds, subs_at, holds_of, holds_on}
use Rattle.node_turns.specs.Holding.{AreNew, placings_of, with_placings}
use Rattle.node_turns.proofs.Gone.{live-found}
use Rattle.node_turns.proofs.WantsNumbered.{Numbered, made-numbered}
use Rattle.node_turns.proofs.MarksPlaced.{turn-places}
use Rattle.node_turns.proofs.PlacingSubs.{Sits, Free}
use Rattle.node_turns.proofs.PlacingWalk.{own_after, At, AllReady, all-new, all-placed, none-placed}
use Rattle.node_turns.proofs.PlacingJournal.{own-unplaced, own-is, subs-sit, subs-free, shut}
use Rattle.std.proofs.lemmas.List.{append-nil}
use Rattle.cable_model.proofs.Entries.{unfinished}
use Rattle.std.proofs.Common.{arith}

-- ---- live connections

live-at : (c : ℕ) (s : Seated) (o : Option Opened) → seat_in o ≡ Some s → o ≡ Some (Opened.Live s)
live-at c s None e = absurd (cc (e))
live-at c s (Some (Opened.Live t)) e = ap (λ (x : Option Seated). go x) e
  where
    go : Option Seated → Option Opened
    go None = None
    go (Some x) = Some (Opened.Live x)
live-at c s (Some Opened.Over) e = absurd (cc (e))

-- where the turn's walk begins with it
begins : (c : ℕ) (past : List Step) (v : Numbers) (gone : ℕ → Bool) (ws : List Wanted) (taken : ℕ) (m : HoldMap) (s : Seated)
    → Legal past → is_out past ≡ true → AreWished past gone ws taken → AreHeld past m → SeatOf c past s → s.over ≡ false
    → At c s.user s.subs (taken_count (marks c past)) (mark_of 0 (marks c past)) s.subs (take taken ws) m
begins c past v gone ws taken m s l o w h sits open_still =
    record {
      numbered = subst (Numbered (taken_count (marks c past))) (sym (live-found c past s gone ws taken o w sits open_still)) (made-numbered c past l);
      unplaced = own-unplaced c past;
      sits = subst (Sits 0) (sym sits.shows.conn.subs) (subs-sit c (marks_at c past) past l);
      free = subst (Free (taken_count (marks c past))) (sym sits.shows.conn.subs) (subs-free c past l);
      names = λ x. refl;
      holds = λ r.
          h c r
          ∙ (ap (λ b. cond b [] (own_hold c r (user_of c past) (mark_of 0 (marks c past))) ++ sub_holds c r (subs_at c past))
          (sym sits.shows.conn.over ∙ open_still)
          ∙ (ap (λ u. own_hold c r u (mark_of 0 (marks c past)) ++ sub_holds c r (subs_at c past)) sits.user
          ∙ ap (λ ss. own_hold c r (Some s.user) (mark_of 0 (marks c past)) ++ sub_holds c r ss) (sym sits.shows.conn.subs)));
    }

all-ready : (past : List Step) (v : Numbers) (gone : ℕ → Bool) (ws : List Wanted) (taken : ℕ) (m : HoldMap)
    → Legal past → is_out past ≡ true → AreSeats past v → AreWished past gone ws taken → AreHeld past m → AllReady v (take taken ws) m
all-ready past v gone ws taken m l o a w h c s e =
    let live : opened_at c v ≡ Some (Opened.Live s) = live-at c s (opened_at c v) e in
    let is = a.each c (Opened.Live s) live in
    record { n = taken_count (marks c past); own = mark_of 0 (marks c past); subs = s.subs; is = begins c past v gone ws taken m s l o w h is.0 is.1 }

pub places-new : (turn : ℕ) (note : ReadNote) (past : List Step) (v : Numbers) (gone : ℕ → Bool) (ws : List Wanted) (taken : ℕ) (m : HoldMap)
    → Legal past → is_out past ≡ true → note.failed ≡ false → AreSeats past v → AreWished past gone ws taken → AreHeld past m
    → AreNew (placings_of v note.last (take taken ws)) m
places-new turn note past v gone ws taken m l o f a w h = all-new v note.last (take taken ws) m (all-ready past v gone ws taken m l o a w h)

-- ---- a Deliver

-- it leaves what was finished
conn-stays : (c turn : ℕ) (note : ReadNote) (past : List Step) → (seat c (Step.Deliver turn note ∷ past)).conn ≡ (seat c past).conn
conn-stays c turn note past = (unfinished c (Step.Deliver turn note) past refl).conn

-- the holds of a connection by its parts
parts : ℕ → (name : List ℕ) → Option (List ℕ) → List Mark → Conn → List Hold
parts c name user ms k = cond k.over [] (own_hold c name user (mark_of 0 ms)) ++ sub_holds c name (map (marked_sub (λ w. mark_of w ms)) k.subs)

no-parts : (c : ℕ) (name : List ℕ) (user : Option (List ℕ)) (ms : List Mark) (k : Conn) → k.subs ≡ [] → (is_some user && not k.over) ≡ false
    → parts c name user ms k ≡ []
unfolding parts
no-parts c name user ms k e f =
    ap (λ ss. cond k.over [] (own_hold c name user (mark_of 0 ms)) ++ sub_holds c name (map (marked_sub (λ w. mark_of w ms)) ss)) e
    ∙ (append-nil (cond k.over [] (own_hold c name user (mark_of 0 ms))) ∙ go user k.over f)
  where
    go : (u : Option (List ℕ)) (over : Bool) → (is_some u && not over) ≡ false → cond over [] (own_hold c name u (mark_of 0 ms)) ≡ []
    go u true f = refl
    go None false f = refl
    go (Some x) false f = absurd (cc (f))

-- a connection that isn't live has no subscriptions
gone-subs : (c : ℕ) (past : List Step) → Legal past → is_live c past ≡ false → (seat c past).conn.subs ≡ []
gone-subs c past l e = grind (arith, userless-seat c past l, shut c past l, e)

not-live : (c : ℕ) (past : List Step) (v : Numbers) (o : Option Opened) → AreSeats past v → opened_at c v ≡ o → seat_in o ≡ None → is_live c past ≡ false
not-live c past v None a e n = ap (λ u. is_some u && not (seat c past).conn.over) (unopened-user c past (sym (used-is past v c a) ∙ ap is_some e))
not-live c past v (Some (Opened.Live s)) a e n = absurd (cc (n))
not-live c past v (Some Opened.Over) a e n = (a.each c Opened.Over e).live

held-live : (c turn : ℕ) (note : ReadNote) (past : List Step) (v : Numbers) (gone : ℕ → Bool) (ws : List Wanted) (taken : ℕ) (m : HoldMap)
    (name : List ℕ) (s : Seated) → Legal past → is_out past ≡ true → note.failed ≡ false → AreSeats past v → AreWished past gone ws taken → AreHeld past m → seat_at c v ≡ Some s
    → holds_on c (holds_at (with_placings (placings_of v note.last (take taken ws)) m) name) ≡ holds_of c (Step.Deliver turn note ∷ past) name
unfolding parts
held-live c turn note past v gone ws taken m name s l o f a w h e =
    let is = a.each c (Opened.Live s) (live-at c s (opened_at c v) e) in
    let sits : SeatOf c past s = is.0 in
    let mark : own_after note.last (wanted_by c (take taken ws)) (mark_of 0 (marks c past)) ≡ mark_of 0 (marks c past ++ turn_mark c note past) =
    ap (λ x. own_after note.last x (mark_of 0 (marks c past))) (live-found c past s gone ws taken o w sits is.1) ∙ own-is c note past l f in
    let subs : placed_each note.last (pairs_by c (take taken ws)) s.subs
    ≡ map (marked_sub (λ x. mark_of x (marks c past ++ turn_mark c note past))) (seat c past).conn.subs =
    turn-places c note past s gone ws taken l o f sits w
    ∙ (ap (taken_by (turn_mark c note past)) sits.shows.conn.subs ∙ subs-both (marks c past) (turn_mark c note past) (seat c past).conn.subs) in
    let now = marks c past ++ turn_mark c note past in
    all-placed v note.last c s (taken_count (marks c past)) (mark_of 0 (marks c past)) s.subs (take taken ws) m name e
    (begins c past v gone ws taken m s l o w h sits is.1)
    ∙ (ap (λ x. own_hold c name (Some s.user) x ++ sub_holds c name (placed_each note.last (pairs_by c (take taken ws)) s.subs)) mark
    ∙ (ap (λ x. own_hold c name (Some s.user) (mark_of 0 now) ++ sub_holds c name x) subs
    ∙ (ap (λ u. own_hold c name u (mark_of 0 now) ++ sub_holds c name (map (marked_sub (λ x. mark_of x now)) (seat c past).conn.subs)) (sym sits.user)
    ∙ (ap (λ b. cond b [] (own_hold c name (user_of c past) (mark_of 0 now))
    ++ sub_holds c name (map (marked_sub (λ x. mark_of x now)) (seat c past).conn.subs)) (sym (sym sits.shows.conn.over ∙ is.1))
    ∙ ap (parts c name (user_of c past) now) (sym (conn-stays c turn note past))))))

held-gone : (c turn : ℕ) (note : ReadNote) (past : List Step) (v : Numbers) (ws : List Wanted) (m : HoldMap) (name : List ℕ)
    → Legal past → AreSeats past v → AreHeld past m → seat_at c v ≡ None
    → holds_on c (holds_at (with_placings (placings_of v note.last ws) m) name) ≡ holds_of c (Step.Deliver turn note ∷ past) name
unfolding parts
held-gone c turn note past v ws m name l a h e =
    let live = not-live c past v (opened_at c v) a refl e in
    let none = gone-subs c past l live in
    none-placed v note.last c ws m name e
    ∙ (h c name
    ∙ (no-parts c name (user_of c past) (marks c past) (seat c past).conn none live
    ∙ (sym (no-parts c name (user_of c past) (marks c past ++ turn_mark c note past) (seat c past).conn none live)
    ∙ ap (parts c name (user_of c past) (marks c past ++ turn_mark c note past)) (sym (conn-stays c turn note past)))))

pub places-held : (turn : ℕ) (note : ReadNote) (past : List Step) (v : Numbers) (gone : ℕ → Bool) (ws : List Wanted) (taken : ℕ) (m : HoldMap)
    → Legal past → is_out past ≡ true → note.failed ≡ false → AreSeats past v → AreWished past gone ws taken → AreHeld past m
    → AreHeld (Step.Deliver turn note ∷ past) (with_placings (placings_of v note.last (take taken ws)) m)
places-held turn note past v gone ws taken m l o f a w h c name = go (seat_at c v) refl
  where
    go : (o' : Option Seated) → seat_at c v ≡ o'
        → holds_on c (holds_at (with_placings (placings_of v note.last (take taken ws)) m) name) ≡ holds_of c (Step.Deliver turn note ∷ past) name
    go None e = held-gone c turn note past v (take taken ws) m name l a h e
    go (Some s) e = held-live c turn note past v gone ws taken m name s l o f a w h e
