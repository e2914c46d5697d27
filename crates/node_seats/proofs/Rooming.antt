-- Room for the pieces of a turn: how it is made, and that each put spends at most one of it.
use Rattle.std.proofs.Common.{◌≡◌, ℕ, ◌+◌, ◌≤◌, ◌<◌, ◌==◌, Bool, true, false, cond, List, [], ◌∷◌, ◌++◌, length, filter, map, take, get_or, Option, Some, None, append_assoc, refl, sym, ap, subst, ◌∙◌, arith, inl, inr}
use Rattle.std.specs.Ordering.{nat_cmp}
use Rattle.std.specs.BTreeMap.{is_at}
use Rattle.std.specs.List.{AllByRecursion}
use Rattle.std.specs.Map.{lookup}
use Rattle.std.proofs.lemmas.Bool.{cases_eq}
use Rattle.std.proofs.lemmas.List.{length-append, append-nil, length-take-le, take_more}
use Rattle.std.proofs.lemmas.Bool.Decides.{nat_tests}
use Rattle.cable_base.specs.declared.numbers.RowId.{RowId}
use Rattle.cable_model.specs.declared.pieces.Piece.{Piece}
use Rattle.conn_seat.specs.Seats.{Seated, Becomes, with_piece}
use Rattle.conn_seat.specs.Turns.{with_pieces, placed_each}
use Rattle.node_seats.specs.declared.turning.Delivery.{Delivery}
use Rattle.node_seats.specs.declared.turning.Wanted.{Wanted}
use Rattle.node_seats.specs.Numbers.{Numbers, Opened, Moves, Lives, Widens, opened_at, seat_at, seat_in, HasRoomAt, HasRoomIn}
use Rattle.node_seats.specs.Turned.{TurnsOne, Roomier, Delivers, Places, pairs_by, HasRoomFor, room_for, needed_in, one_more, or_none, pieces_for, is_for}
use Rattle.node_seats.proofs.Composing.{pieces-own, pieces-other, pieces-for-more, delivers-on, rooms-none, rooms-on}
use Rattle.node_seats.proofs.Entries.{live}
use Rattle.node_seats.proofs.Lookups.{found-there}

-- ---- it is kept

-- a live connection spends no more than so many pieces of its room
one-spends : (By : Seated → Seated → Type 0) (spent more : ℕ) (o p : Option Opened) → ((s t : Seated) → By s t → s.spare ≤ t.spare + spent) → TurnsOne By o p → HasRoomIn (more + spent) (seat_in o) → HasRoomIn more (seat_in p)
one-spends By spent more None p few t room = subst (λ x. HasRoomIn more (seat_in x)) (sym t) tt
one-spends By spent more (Some Opened.Over) p few t room = subst (λ x. HasRoomIn more (seat_in x)) (sym t) tt
one-spends By spent more (Some (Opened.Live s)) p few t room = subst (λ x. HasRoomIn more (seat_in x)) (sym t.2) (let f = few s t.0 t.1 in omega (arith, f, room))

pub room-kept : (c more : ℕ) (v new : Numbers) → Roomier v new → HasRoomAt c more v → HasRoomAt c more new
room-kept c more v new r room =
    one-spends (λ s t. Becomes s t) 0 more (opened_at c v) (opened_at c new) (λ s t b. let x = b.spare in omega (arith, x)) (r.each c)
    (let e : more + 0 ≡ more = omega arith in subst (λ (n : ℕ). HasRoomAt c n v) (sym e) room)

piece-spends : (p : Piece) (s : Seated) → s.spare ≤ (with_piece p s).spare + 1
piece-spends p s = by-closing s.closing refl
  where
    by-closing : (b : Bool) → s.closing ≡ b → s.spare ≤ (with_piece p s).spare + 1
    by-closing true is = rw is (omega arith)
    by-closing false is = rw is (omega arith)

room-less : (ps : List Piece) (p : Piece) → room_for ps + 1 ≤ room_for (p ∷ ps)
room-less [] p = omega arith
room-less (q ∷ ps) p = omega arith

pub at-least : (c few more : ℕ) (v : Numbers) → few ≤ more → HasRoomAt c more v → HasRoomAt c few v
at-least c few more v less room = by-seat (seat_at c v) room
  where
    by-seat : (o : Option Seated) → HasRoomIn more o → HasRoomIn few o
    by-seat None r = tt
    by-seat (Some s) r = omega (arith, less, r)

-- room was made on a live connection
pub room-made : (c more : ℕ) (v new : Numbers) → Moves c (Lives (Widens more)) v new → HasRoomAt c more new
room-made c more v new m =
    let l = live (Widens more) c v new m in
    subst (λ (o : Option Opened). HasRoomIn more (seat_in o)) (sym (ap (opened_at c) l.now ∙ found-there c (Opened.Live l.new_seat) (Opened.Live l.old_seat) v l.found)) l.moved_by.room

-- ---- the pieces of a turn

-- the first of the pieces finds room
pub room-first : (d : Delivery) (ds : List Delivery) (v : Numbers) → HasRoomFor (d ∷ ds) v → HasRoomAt d.conn.0 2 v
room-first d ds v room =
    at-least d.conn.0 2 (room_for (pieces_for d.conn.0 (d ∷ ds))) v
    (let e = pieces-for-more d.conn.0 (d ∷ []) ds ∙ ap (λ (ps : List Piece). ps ++ pieces_for d.conn.0 ds) (pieces-own d) in
    subst (λ (ps : List Piece). 2 ≤ room_for ps) (sym e) (omega arith))
    (room d.conn.0)

-- there is room for the others behind it
pub room-rest : (d : Delivery) (ds : List Delivery) (v new : Numbers) → Delivers (d ∷ []) v new → HasRoomFor (d ∷ ds) v → HasRoomFor ds new
room-rest d ds v new delivers room = λ c. elim (cases_eq d.conn.0 c) [
  | inl e ↦ subst (λ (x : ℕ). HasRoomAt x (room_for (pieces_for x ds)) new) e mine
  | inr apart ↦ one-spends (λ s t. Becomes (with_pieces (pieces_for c (d ∷ [])) s) t) 0 (room_for (pieces_for c ds)) (opened_at c v) (opened_at c new)
      (λ s t b. let x = (subst (λ (ps : List Piece). Becomes (with_pieces ps s) t) (pieces-other c d [] apart) b).spare in omega (arith, x)) (delivers.each c)
      (at-least c (room_for (pieces_for c ds) + 0) (room_for (pieces_for c (d ∷ ds))) v
      (subst (λ (ps : List Piece). room_for (pieces_for c ds) + 0 ≤ room_for ps) (sym (pieces-other c d ds apart)) (omega arith)) (room c))
]
  where
    mine : HasRoomAt d.conn.0 (room_for (pieces_for d.conn.0 ds)) new
    mine =
        one-spends (λ s t. Becomes (with_pieces (pieces_for d.conn.0 (d ∷ [])) s) t) 1 (room_for (pieces_for d.conn.0 ds)) (opened_at d.conn.0 v) (opened_at d.conn.0 new)
        (λ s t b. let x = (subst (λ (ps : List Piece). Becomes (with_pieces ps s) t) (pieces-own d) b).spare in let y = piece-spends d.piece s in omega (arith, x, y)) (delivers.each d.conn.0)
        (at-least d.conn.0 (room_for (pieces_for d.conn.0 ds) + 1) (room_for (pieces_for d.conn.0 (d ∷ ds))) v
        (let e = pieces-for-more d.conn.0 (d ∷ []) ds ∙ ap (λ (ps : List Piece). ps ++ pieces_for d.conn.0 ds) (pieces-own d) in
        subst (λ (ps : List Piece). room_for (pieces_for d.conn.0 ds) + 1 ≤ room_for ps) (sym e) (room-less (pieces_for d.conn.0 ds) d.piece)) (room d.conn.0))

-- marks leave the room
pub room-placed : (mark : RowId) (ws : List Wanted) (ds : List Delivery) (v new : Numbers) → Places mark ws v new → HasRoomFor ds v → HasRoomFor ds new
room-placed mark ws ds v new p room = λ c.
    one-spends (λ s t. t ≡ record s { subs = placed_each mark (pairs_by c ws) s.subs }) 0 (room_for (pieces_for c ds)) (opened_at c v) (opened_at c new)
    (λ s t b. let e : t.spare ≡ s.spare = ap (λ (x : Seated). x.spare) b in omega (arith, e)) (p.each c)
    (at-least c (room_for (pieces_for c ds) + 0) (room_for (pieces_for c ds)) v (omega arith) (room c))

-- ---- how much is needed

-- each of the numbers has the room that stands beside it
abbrev pub RoomByAll : List (ℕ × ℕ) → Numbers → Type 0
RoomByAll es v = AllByRecursion (λ (e : ℕ × ℕ). HasRoomAt e.0 e.1 v) es

pub rooms-stay : (es : List (ℕ × ℕ)) (v new : Numbers) → Roomier v new → RoomByAll es v → RoomByAll es new
rooms-stay [] v new r a = tt
rooms-stay (e ∷ es) v new r a = (room-kept e.0 e.1 v new r a.0, rooms-stay es v new r a.1)

pub rooms-more : (es : List (ℕ × ℕ)) (c more : ℕ) (v : Numbers) → RoomByAll es v → HasRoomAt c more v → RoomByAll (es ++ (c, more) ∷ []) v
rooms-more [] c more v a room = (room, tt)
rooms-more (e ∷ es) c more v a room = (a.0, rooms-more es c more v a.1 room)

pub room-found : (es : List (ℕ × ℕ)) (v : Numbers) (c : ℕ) → RoomByAll es v → HasRoomAt c (or_none (lookup (is_at (nat_cmp c)) es)) v
room-found [] v c a = at-least c 0 0 v (omega arith) (none c v)
  where
    none : (c : ℕ) (v : Numbers) → HasRoomAt c 0 v
    none c v = by-seat (seat_at c v)
      where
        by-seat : (o : Option Seated) → HasRoomIn 0 o
        by-seat None = tt
        by-seat (Some s) = omega arith
room-found (e ∷ es) v c a = by-test (is_at (nat_cmp c) e.0) refl (room-found es v c a.1)
  where
    by-test : (b : Bool) → is_at (nat_cmp c) e.0 ≡ b → HasRoomAt c (or_none (lookup (is_at (nat_cmp c)) es)) v → HasRoomAt c (or_none (cond b (Some e.1) (lookup (is_at (nat_cmp c)) es))) v
    by-test true is rest = let same : e.0 ≡ c = grind (arith, nat_tests, is) in subst (λ (x : ℕ). HasRoomAt x e.1 v) same a.0
    by-test false is rest = rest

-- the number's count is of its pieces
counts-is : (ps : List Piece) → or_none (needed_in ps) ≡ room_for ps
counts-is [] = refl
counts-is (p ∷ ps) = refl

pub room-needed : (ds : List Delivery) (v : Numbers) (needed : ℕ → Option ℕ) → ((c : ℕ) → needed c ≡ needed_in (pieces_for c ds)) → ((c : ℕ) → HasRoomAt c (or_none (needed c)) v) → HasRoomFor ds v
room-needed ds v needed is rooms = λ c. subst (λ (n : ℕ). HasRoomAt c n v) (ap or_none (is c) ∙ counts-is (pieces_for c ds)) (rooms c)

more-needed : (ps : List Piece) (p : Piece) → needed_in (ps ++ p ∷ []) ≡ Some (one_more (needed_in ps))
more-needed [] p = refl
more-needed (q ∷ ps) p = ap (λ (n : ℕ). Some n) (let e = length-append ps (p ∷ []) in omega (arith, e))

-- one piece more
pub needed-on : (ds : List Delivery) (d : Delivery) (c : ℕ) → needed_in (pieces_for c (ds ++ d ∷ [])) ≡ cond (d.conn.0 == c) (Some (one_more (needed_in (pieces_for c ds)))) (needed_in (pieces_for c ds))
needed-on ds d c = ap needed_in (pieces-for-more c ds (d ∷ [])) ∙ by-test (d.conn.0 == c)
  where
    by-test : (b : Bool) → needed_in (pieces_for c ds ++ map (λ (x : Delivery). x.piece) (cond b (d ∷ []) [])) ≡ cond b (Some (one_more (needed_in (pieces_for c ds)))) (needed_in (pieces_for c ds))
    by-test true = more-needed (pieces_for c ds) d.piece
    by-test false = ap needed_in (append-nil (pieces_for c ds))

few-pieces : (c : ℕ) (ds : List Delivery) → length (pieces_for c ds) ≤ length ds
few-pieces c [] = omega arith
few-pieces c (d ∷ ds) = by-test (d.conn.0 == c) (few-pieces c ds)
  where
    by-test : (b : Bool) → length (pieces_for c ds) ≤ length ds → length (map (λ (x : Delivery). x.piece) (cond b (d ∷ filter (is_for c) ds) (filter (is_for c) ds))) ≤ length (d ∷ ds)
    by-test true few = omega (arith, few)
    by-test false few = omega (arith, few)

room-few : (ps : List Piece) → or_none (needed_in ps) ≤ length ps + 1
room-few [] = omega arith
room-few (p ∷ ps) = omega arith

pub needed-few : (c : ℕ) (ds : List Delivery) → or_none (needed_in (pieces_for c ds)) ≤ length ds + 1
needed-few c ds = let f = few-pieces c ds in let g = room-few (pieces_for c ds) in omega (arith, f, g)

-- ---- the loop that puts them

-- these pieces were put, and there is room for the others
abbrev pub Putting : List Delivery → List Delivery → Numbers → Numbers → Type 0
Putting all left v now = (done : List Delivery) × (done ++ left ≡ all) × Delivers done v now × HasRoomFor left now

pub put-one : (all left rest : List Delivery) (d : Delivery) (v old new : Numbers) → left ≡ d ∷ rest → Putting all left v old → Delivers (d ∷ []) old new → Putting all rest v new
put-one all left rest d v old new is p one =
    let room = subst (λ (ds : List Delivery). HasRoomFor ds old) is p.3 in (
      p.0 ++ d ∷ [],
      append_assoc p.0 (d ∷ []) rest ∙ ap (λ (ds : List Delivery). p.0 ++ ds) (sym is) ∙ p.1,
      delivers-on p.0 (d ∷ []) v old new p.2 one,
      room-rest d rest old new one room,
    )

-- ---- the loops that count and make room

abbrev pub Counted : List Delivery → ℕ → (ℕ → Option ℕ) → Type 0
Counted ds i needed = (c : ℕ) → needed c ≡ needed_in (pieces_for c (take i ds))

pub count-few : (ds : List Delivery) (i c : ℕ) (needed : ℕ → Option ℕ) → i ≤ length ds → Counted ds i needed → or_none (needed c) ≤ i + 1
count-few ds i c needed l is = let e = is c in let f = needed-few c (take i ds) in let g = length-take-le i ds l in rw e (omega (arith, f, g))

pub count-more : (ds : List Delivery) (i : ℕ) (d : Delivery) (needed new : ℕ → Option ℕ) → i < length ds → d ≡ get_or ds i d → Counted ds i needed
    → ((c : ℕ) → new c ≡ cond (d.conn.0 == c) (Some (one_more (needed c))) (needed c)) → Counted ds (i + 1) new
count-more ds i d needed new l is before step = λ c.
    step c ∙ ap (λ (n : Option ℕ). cond (d.conn.0 == c) (Some (one_more n)) n) (before c) ∙ sym (needed-on (take i ds) d c)
    ∙ ap (λ (xs : List Delivery). needed_in (pieces_for c xs)) (sym (take_more ds i d l ∙ ap (λ (x : Delivery). take i ds ++ x ∷ []) (sym is)))

-- room was made for the first of the numbers
pub record Making (all left : List (ℕ × ℕ)) (v now : Numbers) : Type 0 where
  pub same : Roomier v now
  pub done : List (ℕ × ℕ)
  pub parts : done ++ left ≡ all
  pub rooms : RoomByAll done now

pub make-none : (all : List (ℕ × ℕ)) (v : Numbers) → Making all all v v
make-none all v = record { same = rooms-none v; done = []; parts = refl; rooms = tt }

pub make-one : (all left rest : List (ℕ × ℕ)) (n more : ℕ) (v old new : Numbers) → left ≡ (n, more) ∷ rest → Making all left v old → Roomier old new → HasRoomAt n more new → Making all rest v new
make-one all left rest n more v old new is m r room =
    record {
      same = rooms-on v old new m.same r;
      done = m.done ++ (n, more) ∷ [];
      parts = append_assoc m.done ((n, more) ∷ []) rest ∙ ap (λ (xs : List (ℕ × ℕ)). m.done ++ xs) (sym is) ∙ m.parts;
      rooms = rooms-more m.done n more new (rooms-stay m.done old new r m.rooms) room;
    }

pub make-all : (all left : List (ℕ × ℕ)) (v now : Numbers) → left ≡ [] → Making all left v now → (c : ℕ) → HasRoomAt c (or_none (lookup (is_at (nat_cmp c)) all)) now
make-all all left v now is m = λ c.
    let e : m.done ≡ all = sym (append-nil m.done) ∙ ap (λ (xs : List (ℕ × ℕ)). m.done ++ xs) (sym is) ∙ m.parts in
    room-found all now c (subst (λ (xs : List (ℕ × ℕ)). RoomByAll xs now) e m.rooms)
