-- What a connection stands for goes on with the turns of its node.
use Rattle.std.proofs.Common.{ℕ, ◌+◌, ◌-◌, ◌≡◌, Bool, true, false, cond, List, [], ◌∷◌, ◌++◌, map, Option, Some, None, refl, ap, sym, subst, ◌∙◌, arith}
use Rattle.std.specs.Prelude.{option_map}
use Rattle.std.specs.List.{list_any, AllByRecursion}
use Rattle.cable_base.specs.declared.numbers.WantNo.{WantNo}
use Rattle.cable_base.specs.declared.rows.Row.{Row}
use Rattle.stream_set.specs.declared.entries.StreamEntry.{StreamEntry}
use Rattle.stream_set.specs.Streams.{has_want, is_wanted_as}
use Rattle.cable_model.specs.declared.journals.ReadNote.{ReadNote}
use Rattle.cable_model.specs.declared.pieces.Piece.{Piece}
use Rattle.cable_model.specs.Steps.{Step}
use Rattle.cable_model.specs.Connection.{Want, Sub, Planner, still}
use Rattle.cable_model.specs.Wants.{Mark, marks, mark_of, turn_mark, user_of}
use Rattle.cable_model.specs.Pieces.{is_closing, Seat, seat, with_all, with_put, deliver_puts}
use Rattle.cable_model.specs.Window.{finished}
use Rattle.cable_model.specs.Promise.{AllWorked}
use Rattle.cable_model.proofs.Inbox.{valid-at}
use Rattle.cable_model.proofs.Marks.{first_mark, mark_of-append, missed-marks}
use Rattle.cable_model.proofs.Standing.{deliver-stands}
use Rattle.cable_model.proofs.Working.{Working, working, put-works}
use Rattle.conn_core.specs.Marked.{Marks, row_id, marked_want, marked_sub}
use Rattle.conn_core.specs.Subscriptions.{Subscription, has_number, has_identifier, AreApart, WantsApart}
use Rattle.conn_core.proofs.Mapped.{any-map}
use Rattle.conn_seat.specs.Seats.{Seated, Becomes, with_piece}
use Rattle.conn_seat.specs.Seated.{SeatOf, Shows, marks_at}
use Rattle.conn_seat.specs.Turns.{with_pieces, or_mark, taken_stream, taken_sub, taken_by, with_turn}
use Rattle.conn_seat.proofs.Showing.{shows-put}
use Rattle.conn_seat.proofs.Sitting.{sits-room, piece-user}

-- ---- pieces are put

pub shows-puts : (pl : Planner) (ms : Marks) (s : Seat) (rows : (sub want : ℕ) → List Row) (v : Seated) (qs : List Piece) → Working pl s rows → AllByRecursion (λ q. still s.conn q ≡ true) qs → Shows ms s v → Shows ms (with_all s qs) (with_pieces qs v)
shows-puts pl ms s rows v [] w t h = h
shows-puts pl ms s rows v (q ∷ qs) w t h = shows-puts pl ms (with_put s q) rows (with_piece q v) qs (put-works pl s rows (q ∷ []) w) t.1 (shows-put pl ms s rows v q w t.0 h)

pieces-user : (qs : List Piece) (v : Seated) → (with_pieces qs v).user ≡ v.user
pieces-user [] v = refl
pieces-user (q ∷ qs) v = pieces-user qs (with_piece q v) ∙ piece-user q v

-- ---- marks

mark-both : (o later : Option ℕ) → or_mark (option_map row_id o) later ≡ option_map row_id (first_mark o later)
mark-both None later = refl
mark-both (Some m) later = refl

marks-both : (ms : List Mark) (turns : List Mark) (ws : List Want) → map (taken_stream turns) (map (marked_want (λ w. mark_of w ms)) ws) ≡ map (marked_want (λ w. mark_of w (ms ++ turns))) ws
marks-both ms turns [] = refl
marks-both ms turns (w ∷ ws) =
    let mark : or_mark (option_map row_id (mark_of w.number ms)) (mark_of w.number turns) ≡ option_map row_id (mark_of w.number (ms ++ turns)) =
    mark-both (mark_of w.number ms) (mark_of w.number turns) ∙ ap (option_map row_id) (sym (mark_of-append w.number ms turns)) in
    ap (λ m. record { name = w.name; want = record { 0 = w.number }; mark = m } ∷ map (taken_stream turns) (map (marked_want (λ w. mark_of w ms)) ws)) mark
    ∙ ap (λ (es : List StreamEntry). marked_want (λ w. mark_of w (ms ++ turns)) w ∷ es) (marks-both ms turns ws)

pub subs-both : (ms : List Mark) (turns : List Mark) (ss : List Sub) → taken_by turns (map (marked_sub (λ w. mark_of w ms)) ss) ≡ map (marked_sub (λ w. mark_of w (ms ++ turns))) ss
subs-both ms turns [] = refl
subs-both ms turns (s ∷ ss) =
    ap (λ es. record { number = record { 0 = s.number }; identifier = s.identifier; streams = es } ∷ taken_by turns (map (marked_sub (λ w. mark_of w ms)) ss)) (marks-both ms turns s.wants)
    ∙ ap (λ (ts : List Subscription). marked_sub (λ w. mark_of w (ms ++ turns)) s ∷ ts) (subs-both ms turns ss)

apart-taken : (turns : List Mark) (ss : List Subscription) → AreApart ss → AreApart (taken_by turns ss)
apart-taken turns [] a = tt
apart-taken turns (s ∷ ss) a = (any-map (taken_sub turns) (has_number s.number) ss ∙ a.0, any-map (taken_sub turns) (has_identifier s.identifier) ss ∙ a.1, apart-taken turns ss a.2)

want-taken : (turns : List Mark) (want : WantNo) (es : List StreamEntry) → has_want want (map (taken_stream turns) es) ≡ has_want want es
want-taken turns want es = any-map (taken_stream turns) (is_wanted_as want) es

any-taken : (turns : List Mark) (want : WantNo) (ss : List Subscription) → list_any (λ (t : Subscription). has_want want t.streams) (taken_by turns ss) ≡ list_any (λ (t : Subscription). has_want want t.streams) ss
any-taken turns want [] = refl
any-taken turns want (s ∷ ss) = rw (want-taken turns want s.streams, any-taken turns want ss) refl

wants-taken : (turns : List Mark) (ss : List Subscription) → WantsApart ss → WantsApart (taken_by turns ss)
wants-taken turns [] a = tt
wants-taken turns (s ∷ ss) a = ((λ want h. any-taken turns want ss ∙ a.0 want (sym (want-taken turns want s.streams) ∙ h)), wants-taken turns ss a.1)

pub shows-taken : (ms turns : List Mark) (s : Seat) (v : Seated) → Shows (λ w. mark_of w ms) s v → Shows (λ w. mark_of w (ms ++ turns)) s (record v { subs = taken_by turns v.subs })
shows-taken ms turns s v h =
    record {
      conn = record { subs = ap (taken_by turns) h.conn.subs ∙ subs-both ms turns s.conn.subs; over = h.conn.over };
      waiting = h.waiting;
      last = h.last;
      taken = h.taken;
      job = h.job;
      closing = h.closing;
      made = h.made;
      apart = apart-taken turns v.subs h.apart;
      wants = wants-taken turns v.subs h.wants;
    }

-- ---- a Deliver

pub sits-missed : (c turn : ℕ) (note : ReadNote) (past : List Step) (v : Seated) → note.failed ≡ true → SeatOf c past v → SeatOf c (Step.Deliver turn note ∷ past) v
sits-missed c turn note past v f h =
    let puts = deliver_puts (user_of c past) (marks c past) (turn_mark c note past) (seat c past).conn.subs note.rows in
    let same : seat c (Step.Deliver turn note ∷ past) ≡ seat c past = ap (λ b. cond b (seat c past) (with_all (seat c past) puts)) f in
    record { user = h.user; shows = subst (λ s. Shows (marks_at c (Step.Deliver turn note ∷ past)) s v) (sym same) (subst (λ ms. Shows (λ w. mark_of w ms) (seat c past) v) (sym (missed-marks c turn note past f)) h.shows) }

pub sits-found : (pl : Planner) (c turn : ℕ) (note : ReadNote) (past : List Step) (v new : Seated) → AllWorked pl c past → SeatOf c past v → note.failed ≡ false
    → Becomes (with_turn (turn_mark c note past) (deliver_puts (user_of c past) (marks c past) (turn_mark c note past) (seat c past).conn.subs note.rows) v) new → SeatOf c (Step.Deliver turn note ∷ past) new
sits-found pl c turn note past v new a h f b =
    let s = seat c past in
    let rows : (sub want : ℕ) → List Row = λ sub want. finished c sub want past in
    let now = turn_mark c note past in
    let puts = deliver_puts (user_of c past) (marks c past) now s.conn.subs note.rows in
    let placed : Seated = record v { subs = taken_by now v.subs } in
    let put-now : seat c (Step.Deliver turn note ∷ past) ≡ with_all s puts = ap (λ b. cond b s (with_all s puts)) f in
    let w = working pl c past a in
    let stands = deliver-stands s.done s.conn (user_of c past) (marks c past) now note.rows (valid-at pl s rows w) in
    let shown = shows-puts pl (λ w. mark_of w (marks c past ++ now)) s rows placed puts w stands (shows-taken (marks c past) now s v h.shows) in
    sits-room c (Step.Deliver turn note ∷ past) (with_pieces puts placed) new b
    (record { user = h.user ∙ ap Some (sym (pieces-user puts placed)); shows = subst (λ x. Shows (marks_at c (Step.Deliver turn note ∷ past)) x (with_pieces puts placed)) (sym put-now) shown })

-- room that was made before plays no part in a put
pub puts-on : (q : Piece) (v old new : Seated) → Becomes v old → Becomes (with_piece q old) new → Becomes (with_piece q v) new
puts-on q v old new a b = go v.closing refl
  where
    put_on : Seated → Seated
    put_on w = record w { waiting = v.waiting ++ record { place = v.last + 1; piece = q } ∷ []; last = v.last + 1; closing = is_closing q; spare = w.spare - 1 }

    with_room : Seated
    with_room = record v { spare = old.spare }

    room : Becomes (cond v.closing with_room (put_on with_room)) new
    room = subst (λ x. Becomes (with_piece q x) new) a.now b

    go : (z : Bool) → v.closing ≡ z → Becomes (with_piece q v) new
    go true z =
        let r : Becomes with_room new = subst (λ x. Becomes (cond x with_room (put_on with_room)) new) z room in
        subst (λ x. Becomes (cond x v (put_on v)) new) (sym z) (record { now = r.now; spare = let x = a.spare in let y = r.spare in omega (arith, x, y) })
    go false z =
        let r : Becomes (put_on with_room) new = subst (λ x. Becomes (cond x with_room (put_on with_room)) new) z room in
        subst (λ x. Becomes (cond x v (put_on v)) new) (sym z) (record { now = r.now; spare = let x = a.spare in let y = r.spare in omega (arith, x, y) })
