-- What rows put on a connection for the holds that the node has is what its journal says.
use Rattle.std.proofs.Common.{ℕ, ◌≡◌, ◌==◌, Bool, true, false, cond, List, [], ◌∷◌, ◌++◌, map, Option, Some, None, refl, ap, sym, subst, ◌∙◌, arith, bytes_eq}
use Rattle.std.proofs.Common.{ltb}
use Rattle.std.specs.List.{AllByRecursion, filter, flat_map}
use Rattle.std.proofs.lemmas.Bool.Decides.{nat_tests}
use Rattle.std.proofs.lemmas.Grind.{flat_map-append}
use Rattle.std.proofs.lemmas.List.{map-append, append-nil}
use Rattle.std.proofs.lemmas.List.Elements.{filter-append}
use Rattle.std.proofs.lemmas.Slice.Eq.{bytes_eq-Decides}
use Rattle.cable_base.specs.Names.{is_reserved, own_name}
use Rattle.cable_base.specs.declared.rows.Row.{Row}
use Rattle.cable_base.proofs.Rises.{Rises}
use Rattle.cable_model.specs.declared.pieces.Piece.{Piece}
use Rattle.cable_model.specs.Connection.{Want, Sub}
use Rattle.cable_model.specs.Legal.{Legal, stored_plans}
use Rattle.cable_model.specs.Pieces.{seat, row_piece, hold_puts, sub_puts, own_puts, row_puts, rows_puts}
use Rattle.cable_model.specs.Steps.{Step}
use Rattle.cable_model.specs.Wants.{Mark, marks, mark_of, user_of}
use Rattle.cable_model.specs.Window.{finished}
use Rattle.cable_model.proofs.Inbox.{valid-at}
use Rattle.cable_model.proofs.Stored.{stored-works}
use Rattle.cable_model.proofs.Working.{working}
use Rattle.conn_core.specs.Marked.{marked_want, marked_sub}
use Rattle.node_seats.specs.declared.turning.Delivery.{Delivery}
use Rattle.node_seats.specs.Turned.{is_for, pieces_for}
use Rattle.subscriber_map.specs.declared.holding.Hold.{Hold}
use Rattle.subscriber_map.specs.HoldMaps.{HoldMap, holds_at}
use Rattle.node_turns.specs.Held.{AreHeld, holds_on, is_on, own_hold, stream_holds, sub_holds, subs_at}
use Rattle.node_turns.specs.Holding.{held_puts, piece_for, rows_bring}
use Rattle.node_turns.proofs.Unreserved.{IsPlain, ArePlain, unreserved}

-- ---- what holds of a connection put

-- what a row puts for one hold
abbrev puts_at : Row → Hold → List Piece
puts_at row h = cond (ltb h.mark.0 row.id.0) (piece_for h row) []

pieces-append : (c : ℕ) (xs ys : List Delivery) → pieces_for c (xs ++ ys) ≡ pieces_for c xs ++ pieces_for c ys
pieces-append c xs ys =
    ap (map (λ (d : Delivery). d.piece)) (filter-append (is_for c) xs ys) ∙ map-append (λ (d : Delivery). d.piece) (filter (is_for c) xs) (filter (is_for c) ys)

pieces-on : (c : ℕ) (h : Hold) (ps : List Piece) → is_on c h ≡ true → pieces_for c (map (λ (p : Piece). record { conn = h.conn; piece = p }) ps) ≡ ps
pieces-on c h [] e = refl
pieces-on c h (p ∷ ps) e = rw e (ap (λ (qs : List Piece). p ∷ qs) (pieces-on c h ps e))

pieces-off : (c : ℕ) (h : Hold) (ps : List Piece) → is_on c h ≡ false → pieces_for c (map (λ (p : Piece). record { conn = h.conn; piece = p }) ps) ≡ []
pieces-off c h [] e = refl
pieces-off c h (p ∷ ps) e = rw e (pieces-off c h ps e)

one-on : (c : ℕ) (row : Row) (h : Hold) → is_on c h ≡ true → pieces_for c (held_puts row h) ≡ puts_at row h
one-on c row h e =
    elim (ltb h.mark.0 row.id.0) as (λ b. pieces_for c (cond b (map (λ (p : Piece). record { conn = h.conn; piece = p }) (piece_for h row)) [])
    ≡ cond b (piece_for h row) []) [
      | true ↦ pieces-on c h (piece_for h row) e
      | false ↦ refl
    ]

one-off : (c : ℕ) (row : Row) (h : Hold) → is_on c h ≡ false → pieces_for c (held_puts row h) ≡ []
one-off c row h e =
    elim (ltb h.mark.0 row.id.0) as (λ b. pieces_for c (cond b (map (λ (p : Piece). record { conn = h.conn; piece = p }) (piece_for h row)) []) ≡ []) [
      | true ↦ pieces-off c h (piece_for h row) e
      | false ↦ refl
    ]

-- only its own holds put on a connection
pieces-of-holds : (c : ℕ) (row : Row) (hs : List Hold) → pieces_for c (flat_map (held_puts row) hs) ≡ flat_map (puts_at row) (holds_on c hs)
pieces-of-holds c row [] = refl
pieces-of-holds c row (h ∷ hs) = go (is_on c h) refl (pieces-of-holds c row hs)
  where
    go : (b : Bool) → is_on c h ≡ b → pieces_for c (flat_map (held_puts row) hs) ≡ flat_map (puts_at row) (holds_on c hs)
        → pieces_for c (flat_map (held_puts row) (h ∷ hs)) ≡ flat_map (puts_at row) (holds_on c (h ∷ hs))
    go true b ih = rw (pieces-append c (held_puts row h) (flat_map (held_puts row) hs), one-on c row h b, ih, b) refl
    go false b ih = rw (pieces-append c (held_puts row h) (flat_map (held_puts row) hs), one-off c row h b, ih, b) refl

-- ---- the two parts of a connection's holds

own-puts : (c : ℕ) (row : Row) (user : Option (List ℕ)) (ms : List Mark)
    → flat_map (puts_at row) (own_hold c row.channel user (mark_of 0 ms)) ≡ own_puts user ms row
own-puts c row None ms = refl
own-puts c row (Some user) ms = go (mark_of 0 ms) refl (bytes_eq (own_name user) row.channel) refl
  where
    go : (o : Option ℕ) → mark_of 0 ms ≡ o → (b : Bool) → bytes_eq (own_name user) row.channel ≡ b
        → flat_map (puts_at row) (own_hold c row.channel (Some user) (mark_of 0 ms)) ≡ own_puts (Some user) ms row
    go None o true b = rw (o, b) refl
    go None o false b = rw (o, b) refl
    go (Some mark) o false b = rw (o, b) refl
    go (Some mark) o true b = rw (o, b) (append-nil _)

stream-puts : (c : ℕ) (row : Row) (ms : List Mark) (s : ℕ) (ws : List Want) → (s == 0) ≡ false
    → flat_map (puts_at row) (stream_holds c row.channel (record { 0 = s }) (map (marked_want (λ w. mark_of w ms)) ws)) ≡ hold_puts ms row s ws
stream-puts c row ms s [] n = refl
stream-puts c row ms s (w ∷ ws) n = go (bytes_eq w.name row.channel) refl (mark_of w.number ms) refl (stream-puts c row ms s ws n)
  where
    rest : List Hold
    rest = stream_holds c row.channel (record { 0 = s }) (map (marked_want (λ v. mark_of v ms)) ws)

    go : (b : Bool) → bytes_eq w.name row.channel ≡ b → (o : Option ℕ) → mark_of w.number ms ≡ o → flat_map (puts_at row) rest ≡ hold_puts ms row s ws
        → flat_map (puts_at row) (stream_holds c row.channel (record { 0 = s }) (map (marked_want (λ v. mark_of v ms)) (w ∷ ws))) ≡ hold_puts ms row s (w ∷ ws)
    go false b o o' ih = rw b ih
    go true b None o ih = rw (b, o) ih
    go true b (Some mark) o ih = rw (b, o, n) (below-mark (ltb mark row.id.0) refl)
      where
        below-mark : (t : Bool) → ltb mark row.id.0 ≡ t
            → cond (ltb mark row.id.0) (row_piece s w.number row ∷ []) [] ++ flat_map (puts_at row) rest
            ≡ cond (ltb mark row.id.0) (row_piece s w.number row ∷ hold_puts ms row s ws) (hold_puts ms row s ws)
        below-mark true t = rw (t, ih) refl
        below-mark false t = rw (t, ih) refl

subs-put : (c : ℕ) (row : Row) (ms : List Mark) (b : ℕ) (subs : List Sub) (e : ℕ) → Rises (λ (s : Sub). s.number) b subs e
    → flat_map (puts_at row) (sub_holds c row.channel (map (marked_sub (λ w. mark_of w ms)) subs)) ≡ sub_puts ms row subs
subs-put c row ms b [] e r = refl
subs-put c row ms b (s ∷ subs) e r =
    let n : (s.number == 0) ≡ false = grind (arith, nat_tests) in
    flat_map-append (puts_at row) (stream_holds c row.channel (record { 0 = s.number }) (map (marked_want (λ w. mark_of w ms)) s.wants))
    (sub_holds c row.channel (map (marked_sub (λ w. mark_of w ms)) subs))
    ∙ rw (stream-puts c row ms s.number s.wants n, subs-put c row ms s.number subs e r.1) refl

-- ---- no row puts in both parts

no-want : (ms : List Mark) (row : Row) (s : ℕ) (ws : List Want) → is_reserved row.channel ≡ true → AllByRecursion IsPlain ws → hold_puts ms row s ws ≡ []
no-want ms row s [] r h = refl
no-want ms row s (w ∷ ws) r h = go (bytes_eq w.name row.channel) refl (no-want ms row s ws r h.1)
  where
    go : (b : Bool) → bytes_eq w.name row.channel ≡ b → hold_puts ms row s ws ≡ [] → hold_puts ms row s (w ∷ ws) ≡ []
    go true b ih =
        let same : w.name ≡ row.channel = (bytes_eq-Decides w.name row.channel).0 b in
        let plain : is_reserved row.channel ≡ false = subst (λ name. is_reserved name ≡ false) same h.0 in
        absurd (cc (r, plain))
    go false b ih = rw b ih

no-sub : (ms : List Mark) (row : Row) (subs : List Sub) → is_reserved row.channel ≡ true → ArePlain subs → sub_puts ms row subs ≡ []
no-sub ms row [] r h = refl
no-sub ms row (s ∷ subs) r h = rw (no-want ms row s.number s.wants r h.0, no-sub ms row subs r h.1) refl

own-reserved : (user : List ℕ) → is_reserved (own_name user) ≡ true
own-reserved user = refl

either-part : (user : Option (List ℕ)) (ms : List Mark) (subs : List Sub) (row : Row) → ArePlain subs
    → own_puts user ms row ++ sub_puts ms row subs ≡ row_puts user ms subs row
either-part None ms subs row h = sym (append-nil (sub_puts ms row subs))
either-part (Some user) ms subs row h = go (bytes_eq (own_name user) row.channel) refl
  where
    go : (b : Bool) → bytes_eq (own_name user) row.channel ≡ b → own_puts (Some user) ms row ++ sub_puts ms row subs ≡ row_puts (Some user) ms subs row
    go true b =
        let same : own_name user ≡ row.channel = (bytes_eq-Decides (own_name user) row.channel).0 b in
        let none : sub_puts ms row subs ≡ [] = no-sub ms row subs (subst (λ name. is_reserved name ≡ true) same (own-reserved user)) h in
        rw none (append-nil (own_puts (Some user) ms row))
    go false b = rw b (sym (append-nil (sub_puts ms row subs)))

-- ---- rows

row-brings : (c : ℕ) (row : Row) (past : List Step) (m : HoldMap) → Legal past → AreHeld past m → (seat c past).conn.over ≡ false
    → pieces_for c (flat_map (held_puts row) (holds_at m row.channel)) ≡ row_puts (user_of c past) (marks c past) (seat c past).conn.subs row
row-brings c row past m l h live =
    pieces-of-holds c row (holds_at m row.channel)
    ∙ ap (flat_map (puts_at row))
    (h c row.channel
    ∙ ap (λ b. cond b [] (own_hold c row.channel (user_of c past) (mark_of 0 (marks c past))) ++ sub_holds c row.channel (subs_at c past)) live)
    ∙ flat_map-append (puts_at row) (own_hold c row.channel (user_of c past) (mark_of 0 (marks c past))) (sub_holds c row.channel (subs_at c past))
    ∙ rw (own-puts c row (user_of c past) (marks c past), subs-put c row (marks c past) 0 (seat c past).conn.subs (seat c past).done rising)
    (either-part (user_of c past) (marks c past) (seat c past).conn.subs row (unreserved c past l))
  where
    rising : Rises (λ (s : Sub). s.number) 0 (seat c past).conn.subs (seat c past).done
    rising =
        (valid-at (stored_plans c past) (seat c past) (λ sub want. finished c sub want past)
        (working (stored_plans c past) c past (stored-works c past l))).subs

pub brings-rows : (c : ℕ) (rows : List Row) (past : List Step) (m : HoldMap) → Legal past → AreHeld past m → (seat c past).conn.over ≡ false
    → pieces_for c (rows_bring m rows) ≡ rows_puts (user_of c past) (marks c past) (seat c past).conn.subs rows
brings-rows c [] past m l h live = refl
brings-rows c (row ∷ rows) past m l h live =
    pieces-append c (flat_map (held_puts row) (holds_at m row.channel)) (rows_bring m rows)
    ∙ rw (row-brings c row past m l h live, brings-rows c rows past m l h live) refl
