-- Giving each want that the turn takes its mark is what the turn does to the streams.
use Rattle.std.proofs.Common.{ℕ, zero, suc, ◌+◌, ◌≡◌, ◌≤◌, Bool, true, false, cond, List, [], ◌∷◌, ◌++◌, length, map, take, drop, Some, None, Option}
use Rattle.std.proofs.Common.{refl, ap, sym, subst, ◌∙◌, arith, is_none}
use Rattle.std.specs.Prelude.{leb, ltb, option_map}
use Rattle.std.specs.List.{list_any, AllByRecursion}
use Rattle.std.proofs.lemmas.Bool.Decides.{nat_tests}
use Rattle.cable_base.proofs.Each.{All-implied}
use Rattle.cable_model.specs.Connection.{Want, Sub}
use Rattle.cable_model.specs.declared.journals.ReadNote.{ReadNote}
use Rattle.cable_model.specs.Legal.{Legal}
use Rattle.cable_model.specs.Pieces.{seat}
use Rattle.cable_model.specs.Possible.{is_out}
use Rattle.cable_model.specs.Steps.{Step}
use Rattle.cable_model.specs.Wants.{Mark, mark_of, marks, turn_mark, user_of, made, at_ask}
use Rattle.cable_model.proofs.Holding.{marks-at_ask}
use Rattle.conn_core.specs.Marked.{Marks, marked_want, marked_sub, row_id}
use Rattle.conn_core.specs.Subscriptions.{Subscription}
use Rattle.conn_seat.specs.Seated.{SeatOf, marks_at}
use Rattle.conn_seat.specs.Seats.{Seated}
use Rattle.conn_seat.specs.Turns.{placed_each, taken_by, taken_stream, AreTaken, AreTakenOf, is_pair}
use Rattle.conn_seat.proofs.Placing.{places-take}
use Rattle.node_seats.specs.declared.turning.Wanted.{Wanted}
use Rattle.node_seats.specs.Turned.{pairs_by, pair_of}
use Rattle.stream_set.specs.declared.entries.StreamEntry.{StreamEntry}
use Rattle.node_turns.specs.Wished.{AreWished, wants_of, taken_count, found_made}
use Rattle.node_turns.proofs.Gone.{over-shut}
use Rattle.node_turns.proofs.PlacingJournal.{shut}
use Rattle.node_turns.proofs.WantsCounted.{userless-mark, userless-wants, legal-at_ask, wants-length, wants-since, count-within}
use Rattle.node_turns.proofs.WantsNumbered.{Numbered, made-numbered}
use Rattle.node_turns.proofs.WantsOwned.{Owns, owned}

-- ---- a stretch of wants that are numbered on

pub dropped-length : {A : Type 0} (k : ℕ) (xs : List A) → k ≤ length xs → k + length (drop k xs) ≡ length xs
dropped-length zero xs l = omega arith
dropped-length (suc k) [] l = absurd (omega (arith, l))
dropped-length (suc k) (x ∷ xs) l = let ih = dropped-length k xs (omega (arith, l)) in omega (arith, ih)

pub All-drop : {A : Type 0} (P : A → Type 0) (k : ℕ) (xs : List A) → AllByRecursion P xs → AllByRecursion P (drop k xs)
All-drop P zero xs h = h
All-drop P (suc k) [] h = tt
All-drop P (suc k) (x ∷ xs) h = All-drop P k xs h.1

pub All-front : {A : Type 0} (P : A → Type 0) (xs ys : List A) → AllByRecursion P (xs ++ ys) → AllByRecursion P xs
All-front P [] ys h = tt
All-front P (x ∷ xs) ys h = (h.0, All-front P xs ys h.1)

-- a want of this number is among them where the number is one of theirs, and it is of this subscription
at-want : (s w n : ℕ) (ys : List Wanted) → Numbered n ys → AllByRecursion (λ (y : Wanted). y.want.0 ≡ w → y.sub.0 ≡ s) ys → n ≤ w
    → list_any (is_pair (record { 0 = s }) (record { 0 = w })) (map pair_of ys) ≡ ltb w (n + length ys)
at-want s w n [] h o l = grind (arith, nat_tests)
at-want s w n (y ∷ ys) h o l =
    let number = h.0 in
    let own = o.0 in
    grind (arith, nat_tests, (λ (m : suc n ≤ w). at-want s w (suc n) ys h.2 o.1 m), number, own)

-- ---- the streams that are taken

no-mark : (o : Option ℕ) → is_none (option_map row_id o) ≡ true → o ≡ None
no-mark o h = grind arith

taken-of : (ms : Marks) (seen s n : ℕ) (ys : List Wanted) (ws : List Want) → Numbered n ys → n + length ys ≡ suc seen → ((w : ℕ) → ms w ≡ None → n ≤ w)
    → AllByRecursion (λ (y : Wanted). AllByRecursion (λ (w : Want). y.want.0 ≡ w.number → y.sub.0 ≡ s) ws) ys
    → AreTakenOf seen (map pair_of ys) (record { 0 = s }) (map (marked_want ms) ws)
taken-of ms seen s n ys [] h l u o = tt
taken-of ms seen s n ys (w ∷ ws) h l u o =
    let own : AllByRecursion (λ (y : Wanted). y.want.0 ≡ w.number → y.sub.0 ≡ s) ys =
    All-implied (λ (y : Wanted). AllByRecursion (λ (x : Want). y.want.0 ≡ x.number → y.sub.0 ≡ s) (w ∷ ws))
    (λ (y : Wanted). y.want.0 ≡ w.number → y.sub.0 ≡ s) ys (λ y a. a.0) o in
    let rest = All-implied (λ (y : Wanted). AllByRecursion (λ (x : Want). y.want.0 ≡ x.number → y.sub.0 ≡ s) (w ∷ ws))
    (λ (y : Wanted). AllByRecursion (λ (x : Want). y.want.0 ≡ x.number → y.sub.0 ≡ s) ws) ys (λ y a. a.1) o in
    let upto : ltb w.number (n + length ys) ≡ leb w.number seen = grind (arith, nat_tests, l) in
    ((λ m. at-want s w.number n ys h own (u w.number (no-mark (ms w.number) m)) ∙ upto), taken-of ms seen s n ys ws h l u rest)

taken-subs : (ms : Marks) (seen n : ℕ) (ys : List Wanted) (xs : List Sub) → Numbered n ys → n + length ys ≡ suc seen → ((w : ℕ) → ms w ≡ None → n ≤ w)
    → AllByRecursion (λ (y : Wanted). AllByRecursion (Owns y) xs) ys → AreTaken seen (map pair_of ys) (map (marked_sub ms) xs)
taken-subs ms seen n ys [] h l u o = tt
taken-subs ms seen n ys (x ∷ xs) h l u o = (
  taken-of ms seen x.number n ys x.wants h l u
      (All-implied (λ (y : Wanted). AllByRecursion (Owns y) (x ∷ xs))
      (λ (y : Wanted). AllByRecursion (λ (w : Want). y.want.0 ≡ w.number → y.sub.0 ≡ x.number) x.wants) ys (λ y a. a.0.wants) o),
  taken-subs ms seen n ys xs h l u
      (All-implied (λ (y : Wanted). AllByRecursion (Owns y) (x ∷ xs)) (λ (y : Wanted). AllByRecursion (Owns y) xs) ys (λ y a. a.1) o),
)

-- ---- the turn that is out

-- a want without a mark was taken by no turn
pub unmarked-above : (w : ℕ) (ms : List Mark) → mark_of w ms ≡ None → taken_count ms ≤ w
unmarked-above w [] h = omega arith
unmarked-above w (t ∷ []) h = grind (arith, nat_tests)
unmarked-above w (t ∷ r ∷ ts) h = grind (arith, nat_tests, unmarked-above w (r ∷ ts), h)

pub record Found (c : ℕ) (past : List Step) : Type 0 where
  pub numbered : Numbered (taken_count (marks c past)) (found_made c past)
  pub length_is : taken_count (marks c past) + length (found_made c past) ≡ suc (made c (at_ask past))
  pub owns : AllByRecursion (λ (y : Wanted). AllByRecursion (Owns y) (seat c past).conn.subs) (found_made c past)

-- what the turn that is out found of a connection that had a user
pub found : (c : ℕ) (user : List ℕ) (past : List Step) → Legal past → is_out past ≡ true → user_of c (at_ask past) ≡ Some user → Found c past
found c user past l o u =
    let before = at_ask past in
    let l' = legal-at_ask past l in
    let k = taken_count (marks c past) in
    let within : k ≤ length (wants_of c before) =
    subst (λ ms. taken_count ms ≤ length (wants_of c before)) (sym (marks-at_ask c past o)) (count-within c before l') in
    let count = wants-length c user before l' u in
    let since = wants-since c past l in
    let whole = owned c past l in
    let front = All-front (λ (y : Wanted). AllByRecursion (Owns y) (seat c past).conn.subs) (wants_of c before) since.0
    (subst (AllByRecursion (λ (y : Wanted). AllByRecursion (Owns y) (seat c past).conn.subs)) since.1 whole.owns) in
    record {
      numbered = made-numbered c past l;
      length_is = dropped-length k (wants_of c before) within ∙ count;
      owns = All-drop (λ (y : Wanted). AllByRecursion (Owns y) (seat c past).conn.subs) k (wants_of c before) front;
    }

drop-nil : (k : ℕ) → drop {A = Wanted} k [] ≡ []
drop-nil zero = refl
drop-nil (suc k) = refl

-- .. and of one that had none
pub none-found : (c : ℕ) (past : List Step) → Legal past → user_of c (at_ask past) ≡ None → found_made c past ≡ []
none-found c past l u = ap (drop (taken_count (marks c past))) (userless-wants c (at_ask past) (legal-at_ask past l) u) ∙ drop-nil (taken_count (marks c past))

none-stream : (e : StreamEntry) → taken_stream [] e ≡ e
none-stream e = grind arith

none-streams : (es : List StreamEntry) → map (taken_stream []) es ≡ es
none-streams [] = refl
none-streams (e ∷ es) = ap (λ x. x ∷ map (taken_stream []) es) (none-stream e) ∙ ap (λ xs. e ∷ xs) (none-streams es)

none-taken : (subs : List Subscription) → taken_by [] subs ≡ subs
none-taken [] = refl
none-taken (s ∷ subs) =
    ap (λ es. record { number = s.number; identifier = s.identifier; streams = es } ∷ taken_by [] subs) (none-streams s.streams)
    ∙ ap (λ xs. s ∷ xs) (none-taken subs)

pub turn-places : (c : ℕ) (note : ReadNote) (past : List Step) (s : Seated) (gone : ℕ → Bool) (ws : List Wanted) (taken : ℕ)
    → Legal past → is_out past ≡ true → note.failed ≡ false → SeatOf c past s → AreWished past gone ws taken
    → placed_each note.last (pairs_by c (take taken ws)) s.subs ≡ taken_by (turn_mark c note past) s.subs
turn-places c note past s gone ws taken l o f h w =
    ap (λ ys. placed_each note.last (map pair_of ys) s.subs) (w.out o c) ∙ by-gone (gone c) refl
  where
    go : (u : Option (List ℕ)) → user_of c (at_ask past) ≡ u
        → placed_each note.last (map pair_of (found_made c past)) s.subs ≡ taken_by (turn_mark c note past) s.subs
    go None u =
        let none = none-found c past l u in
        ap (λ ys. placed_each note.last (map pair_of ys) s.subs) none ∙ sym (ap (λ ts. taken_by ts s.subs) (userless-mark c note past u) ∙ none-taken s.subs)
    go (Some user) u =
        let d = found c user past l o u in
        let mark : turn_mark c note past ≡ record { seen = made c (at_ask past); last = note.last.0 } ∷ [] = rw (u, f) refl in
        let are : AreTaken (made c (at_ask past)) (map pair_of (found_made c past)) s.subs =
        subst (AreTaken (made c (at_ask past)) (map pair_of (found_made c past))) (sym h.shows.conn.subs)
        (taken-subs (marks_at c past) (made c (at_ask past)) (taken_count (marks c past)) (found_made c past) (seat c past).conn.subs d.numbered d.length_is
        (λ w m. unmarked-above w (marks c past) m) d.owns) in
        places-take (made c (at_ask past)) note.last (map pair_of (found_made c past)) s.subs are ∙ ap (λ ts. taken_by ts s.subs) (sym mark)

    by-gone : (b : Bool) → gone c ≡ b
        → placed_each note.last (map pair_of (cond (gone c) [] (found_made c past))) s.subs ≡ taken_by (turn_mark c note past) s.subs
    by-gone true g =
        let none : (seat c past).conn.subs ≡ [] = (shut c past l (over-shut c s.user past (w.over c g) h.user)).0 in
        let none' : s.subs ≡ [] = h.shows.conn.subs ∙ ap (map (marked_sub (marks_at c past))) none in
        rw (g, none') refl
    by-gone false g = rw g (go (user_of c (at_ask past)) refl)
