-- The counts and lists of what a node keeps are its journal's.
use Rattle.std.proofs.Common.{◌≡◌, ℕ, Bool, true, false, cond, not, ◌&&◌, List, [], ◌∷◌, length, filter, map, Option, Some, None, refl, sym, ap, ◌∙◌}
use Rattle.std.specs.Prelude.{is_some}
use Rattle.std.specs.List.{AllByRecursion}
use Rattle.std.specs.List.Sorted.{IsStrictlySortedBy}
use Rattle.std.specs.Map.{keys_of}
use Rattle.cable_base.specs.declared.numbers.ConnNo.{ConnNo}
use Rattle.cable_model.specs.Pieces.{seat}
use Rattle.cable_model.specs.Possible.{is_opened, is_over, is_live, is_receiving, receiving, live_count}
use Rattle.cable_model.specs.Steps.{Step}
use Rattle.conn_seat.specs.Seats.{Seated}
use Rattle.conn_seat.specs.Seated.{SeatOf}
use Rattle.conn_seat.proofs.Answering.{answers}
use Rattle.node_seats.specs.Numbers.{Numbers, Opened, opened_at, is_over_in, is_over_at, live_among, receiving_among, is_receiving_in, seat_in}
use Rattle.node_seats.specs.AreSeats.{IsOpened, AreSeats, AreWorked}
use Rattle.node_seats.proofs.Living.{count-by}
use Rattle.node_seats.proofs.Lookups.{each-entry}
use Rattle.node_seats.proofs.Onward.{entries, used-is}

-- ---- those that are live

pub live-is : (c : ℕ) (past : List Step) (s : Seated) → SeatOf c past s → s.over ≡ false → is_live c past ≡ true
live-is c past s h shut =
    ap (λ (o : Option (List ℕ)). is_some o && not (seat c past).conn.over) h.user ∙ ap not (sym h.shows.conn.over ∙ shut)

live-kept : (c : ℕ) (past : List Step) (o : Opened) → IsOpened c past o → is_some (seat_in (Some o)) ≡ is_live c past
live-kept c past (Opened.Live s) h = sym (live-is c past s h.0 h.1)
live-kept c past Opened.Over h = sym h.live

pub live-count : (past : List Step) (v : Numbers) → AreSeats past v → live_among v ≡ live_count past
live-count past v a =
    count-by (λ c. is_live c past) v (each-entry (λ c o. is_some (seat_in (Some o)) ≡ is_live c past) v a.rising (λ c o at. live-kept c past o (a.each c o at)))
    ∙ ap (λ ks. length (filter (λ c. is_live c past) ks)) a.numbers

-- ---- those that are receiving

pub receiving-is : (c : ℕ) (past : List Step) (o : Opened) → AreWorked past → IsOpened c past o → is_receiving_in o ≡ is_receiving c past
receiving-is c past (Opened.Live s) w h = let pl = w c s.user h.0.user in (answers pl.0 c past s pl.1 h.0).receiving
receiving-is c past Opened.Over w h = let l = h.live in rw l refl

conn_no : ℕ → ConnNo
conn_no c = record { 0 = c }

list-receiving : (past : List Step) (v : Numbers) → AreWorked past → AllByRecursion (λ (e : ℕ × Opened). IsOpened e.0 past e.1) v
    → map (λ (c : ConnNo). c.0) (receiving_among v) ≡ filter (λ c. is_receiving c past) (keys_of v)
list-receiving past [] w h = refl
list-receiving past (e ∷ es) w h = by-test (is_receiving_in e.1) (is_receiving e.0 past) (receiving-is e.0 past e.1 w h.0) (list-receiving past es w h.1)
  where
    by-test : (a b : Bool) → a ≡ b → map (λ (c : ConnNo). c.0) (receiving_among es) ≡ filter (λ c. is_receiving c past) (keys_of es)
        → map (λ (c : ConnNo). c.0) (cond a (record { 0 = e.0 } ∷ receiving_among es) (receiving_among es)) ≡ cond b (e.0 ∷ filter (λ c. is_receiving c past) (keys_of es)) (filter (λ c. is_receiving c past) (keys_of es))
    by-test true true same ih = ap (λ ks. e.0 ∷ ks) ih
    by-test false false same ih = ih
    by-test true false same ih = absurd cc
    by-test false true same ih = absurd cc

pub receiving-all : (past : List Step) (v : Numbers) → AreWorked past → AreSeats past v → map (λ (c : ConnNo). c.0) (receiving_among v) ≡ receiving past
receiving-all past v w a = list-receiving past v w (entries past v a) ∙ ap (filter (λ c. is_receiving c past)) a.numbers

-- ---- those that are over

over-in : (c : ℕ) (past : List Step) (o : Option Opened) → ((p : Opened) → o ≡ Some p → IsOpened c past p) → is_some o ≡ is_opened c past → is_over_in o ≡ is_over c past
over-in c past None h used = ap (λ b. b && not (is_live c past)) used
over-in c past (Some (Opened.Live s)) h used =
    let f = h (Opened.Live s) refl in
    let l = live-is c past s f.0 f.1 in
    ap (λ b. true && not b) (sym l) ∙ ap (λ b. b && not (is_live c past)) used
over-in c past (Some Opened.Over) h used =
    let l = (h Opened.Over refl).live in
    ap (λ b. true && not b) (sym l) ∙ ap (λ b. b && not (is_live c past)) used

pub over-is : (past : List Step) (v : Numbers) (c : ℕ) → AreSeats past v → is_over_at c v ≡ is_over c past
over-is past v c a = over-in c past (opened_at c v) (λ p at. a.each c p at) (used-is past v c a)

pub none-yet : AreSeats [] []
unfolding IsStrictlySortedBy
none-yet = record { numbers = refl; rising = tt; each = λ c o at. absurd cc; unopened = λ c e. refl }
