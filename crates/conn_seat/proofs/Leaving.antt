-- A change strikes exactly the pieces that no longer stand.
use Rattle.std.proofs.Common.{ℕ, ◌≡◌, ◌≤◌, ◌==◌, Bool, true, false, not, ◌&&◌, ◌||◌, List, [], ◌∷◌, ◌++◌, map, refl, ap, sym, ◌∙◌, arith, bytes_eq, is_some}
use Rattle.std.specs.List.{filter, list_any, AllByRecursion}
use Rattle.std.proofs.lemmas.Bool.Decides.{nat_tests}
use Rattle.cable_base.specs.declared.numbers.SubNo.{SubNo}
use Rattle.cable_base.specs.declared.numbers.WantNo.{WantNo}
use Rattle.cable_base.specs.declared.rows.Row.{Row}
use Rattle.cable_base.proofs.Rises.{Rises}
use Rattle.stream_set.specs.declared.entries.StreamEntry.{StreamEntry}
use Rattle.stream_set.specs.Streams.{has_want, is_wanted_as}
use Rattle.stream_set.proofs.Apart.{or-false}
use Rattle.cable_model.specs.declared.pieces.Piece.{Piece}
use Rattle.cable_model.specs.declared.pieces.Piece.TheVariants as piece
use Rattle.cable_model.specs.declared.plans.Change.{Change}
use Rattle.cable_model.specs.declared.plans.Change.TheVariants as change
use Rattle.cable_model.specs.Connection.{Want, Sub, Conn, among, wanted, first_above, streamed, changed, want_in, stands_sub, stands_want, still}
use Rattle.cable_model.specs.Pieces.{Placed}
use Rattle.cable_model.proofs.Inbox.{Known}
use Rattle.cable_model.proofs.Valid.{Valid, streamed-number}
use Rattle.run_queue.specs.Inboxes.{is_row_of, is_piece_of}
use Rattle.conn_core.specs.Subscriptions.{Subscription, has_identifier, WantsApart}
use Rattle.conn_core.specs.Marked.{Marks, marked_want, marked_sub}
use Rattle.conn_core.proofs.Mapped.{any-map}
use Rattle.conn_seat.specs.Ends.{is_row_stopped, is_stopped_in, is_removed_with, ends, left}
use Rattle.conn_seat.proofs.Looking.{look, has_want_named, look-name, look-number, look-push, look-map, look-ended, stopped_as, want-restreamed}

-- ---- no want stands in two subscriptions

abbrev Apart : ℕ → List Sub → Type 0
Apart w [] = Unit {0}
Apart w (x ∷ xs) = (has_want_named w x ≡ true → list_any (has_want_named w) xs ≡ false) × Apart w xs

named-there : (w : ℕ) (ws : List Want) → is_some (want_in w ws) ≡ list_any (λ (y : Want). y.number == w) ws
named-there w [] = refl
named-there w (x ∷ xs) = go (x.number == w) refl (named-there w xs)
  where
    go : (b : Bool) → (x.number == w) ≡ b → is_some (want_in w xs) ≡ list_any (λ (y : Want). y.number == w) xs → is_some (want_in w (x ∷ xs)) ≡ list_any (λ (y : Want). y.number == w) (x ∷ xs)
    go true b ih = rw b refl
    go false b ih = rw b ih

named-marked : (marks : Marks) (want : WantNo) (x : Sub) → has_want want (marked_sub marks x).streams ≡ has_want_named want.0 x
named-marked marks want x = any-map (marked_want marks) (is_wanted_as want) x.wants ∙ sym (named-there want.0 x.wants)

any-marked : (marks : Marks) (want : WantNo) (xs : List Sub) → list_any (λ (t : Subscription). has_want want t.streams) (map (marked_sub marks) xs) ≡ list_any (has_want_named want.0) xs
any-marked marks want [] = refl
any-marked marks want (x ∷ xs) = rw (named-marked marks want x, any-marked marks want xs) refl

apart-from : (marks : Marks) (want : WantNo) (xs : List Sub) → WantsApart (map (marked_sub marks) xs) → Apart want.0 xs
apart-from marks want [] a = tt
apart-from marks want (x ∷ xs) a = ((λ h. sym (any-marked marks want xs) ∙ a.0 want (named-marked marks want x ∙ h)), apart-from marks want xs a.1)

look-there : (s w : ℕ) (xs : List Sub) → look s (has_want_named w) xs ≡ true → list_any (has_want_named w) xs ≡ true
look-there s w [] h = absurd (cc (h))
look-there s w (x ∷ xs) h = go (x.number == s) refl (has_want_named w x) refl (look-there s w xs)
  where
    go : (n : Bool) → (x.number == s) ≡ n → (t : Bool) → has_want_named w x ≡ t → (look s (has_want_named w) xs ≡ true → list_any (has_want_named w) xs ≡ true) → list_any (has_want_named w) (x ∷ xs) ≡ true
    go n n' true t ih = rw t refl
    go true n false t ih = let h' = rw (n, t) at h in absurd (cc (h'))
    go false n false t ih = let h' = rw n at h in rw t (ih h')

-- ---- streams that stop

and-none : (b : Bool) → (b && false) ≡ false
and-none true = refl
and-none false = refl

none-stops : (stops : List (List ℕ)) (w : ℕ) (ws : List Want) → is_some (want_in w ws) ≡ false → list_any (stopped_as stops w) ws ≡ false
none-stops stops w [] h = refl
none-stops stops w (x ∷ xs) h = go (x.number == w) refl (none-stops stops w xs)
  where
    go : (n : Bool) → (x.number == w) ≡ n → (is_some (want_in w xs) ≡ false → list_any (stopped_as stops w) xs ≡ false) → list_any (stopped_as stops w) (x ∷ xs) ≡ false
    go true n ih = let h' = rw n at h in absurd (cc (h'))
    go false n ih =
        let h' = rw n at h in
        let m : (w == x.number) ≡ false = grind (arith, nat_tests) in
        rw m (or-false (among stops x.name && false) (list_any (stopped_as stops w) xs) (and-none (among stops x.name)) (ih h'))

-- the subscription has this identifier, and its want of this number is of a stream that stops
abbrev stops_there : List ℕ → List (List ℕ) → ℕ → Sub → Bool
stops_there identifier stops w x = bytes_eq x.identifier identifier && list_any (stopped_as stops w) x.wants

none-stops-there : (identifier : List ℕ) (stops : List (List ℕ)) (w : ℕ) (x : Sub) → has_want_named w x ≡ false → stops_there identifier stops w x ≡ false
none-stops-there identifier stops w x h = rw (none-stops stops w x.wants h) (and-none (bytes_eq x.identifier identifier))

all-stop-none : (identifier : List ℕ) (stops : List (List ℕ)) (w : ℕ) (xs : List Sub) → list_any (has_want_named w) xs ≡ false → list_any (stops_there identifier stops w) xs ≡ false
all-stop-none identifier stops w [] h = refl
all-stop-none identifier stops w (x ∷ xs) h = go (has_want_named w x) refl (all-stop-none identifier stops w xs)
  where
    go : (t : Bool) → has_want_named w x ≡ t → (list_any (has_want_named w) xs ≡ false → list_any (stops_there identifier stops w) xs ≡ false) → list_any (stops_there identifier stops w) (x ∷ xs) ≡ false
    go true t ih = let h' = rw t at h in absurd (cc (h'))
    go false t ih = let h' = rw t at h in or-false (stops_there identifier stops w x) (list_any (stops_there identifier stops w) xs) (none-stops-there identifier stops w x t) (ih h')

or-nil : (b : Bool) → not (b || false) ≡ not b
or-nil true = refl
or-nil false = refl

-- a want that stands stands on, where its stream isn't one that stops
streams-found : (identifier : List ℕ) (stops streams : List (List ℕ)) (s w made : ℕ) (xs : List Sub) → AllByRecursion (λ (x : Sub). Rises (λ (y : Want). y.number) 0 x.wants made) xs → w ≤ made → Apart w xs → look s (has_want_named w) xs ≡ true
    → look s (λ x. has_want_named w (streamed made identifier stops streams x)) xs ≡ not (list_any (stops_there identifier stops w) xs)
streams-found identifier stops streams s w made [] r l a h = absurd (cc (h))
streams-found identifier stops streams s w made (x ∷ xs) r l a h = go (x.number == s) refl (streams-found identifier stops streams s w made xs r.1 l a.1)
  where
    here : has_want_named w x ≡ true → (t : Bool) → bytes_eq x.identifier identifier ≡ t → has_want_named w (streamed made identifier stops streams x) ≡ not (stops_there identifier stops w x)
    here f true t = rw t (want-restreamed stops streams w made x.wants r.0 l f)
    here f false t = rw t f

    there : look s (has_want_named w) xs ≡ true → (t : Bool) → has_want_named w x ≡ t → has_want_named w x ≡ false
    there f true t = let none = a.0 t in let some = look-there s w xs f in absurd (cc (none, some))
    there f false t = t

    go : (n : Bool) → (x.number == s) ≡ n
        → (look s (has_want_named w) xs ≡ true → look s (λ x. has_want_named w (streamed made identifier stops streams x)) xs ≡ not (list_any (stops_there identifier stops w) xs))
        → look s (λ x. has_want_named w (streamed made identifier stops streams x)) (x ∷ xs) ≡ not (list_any (stops_there identifier stops w) (x ∷ xs))
    go true n ih =
        let f : has_want_named w x ≡ true = rw n at h in
        let none = all-stop-none identifier stops w xs (a.0 f) in
        rw (n, none) (here f (bytes_eq x.identifier identifier) refl ∙ sym (or-nil (stops_there identifier stops w x)))
    go false n ih =
        let f : look s (has_want_named w) xs ≡ true = rw n at h in
        let none = none-stops-there identifier stops w x (there f (has_want_named w x) refl) in
        rw (n, none) (ih f)

-- ---- each kind of piece

never-stopped : (identifier : List ℕ) (stops : List (List ℕ)) (p : Piece) (ss : List Subscription) → ((w : WantNo) → is_row_of w p ≡ false) → list_any (λ s. is_stopped_in identifier stops s p) ss ≡ false
never-stopped identifier stops p [] h = refl
never-stopped identifier stops p (s ∷ ss) h = or-false (is_stopped_in identifier stops s p) (list_any (λ s. is_stopped_in identifier stops s p) ss) (ap (λ b. has_identifier identifier s && b) (none s.streams) ∙ and-none (has_identifier identifier s)) (never-stopped identifier stops p ss h)
  where
    none : (es : List StreamEntry) → list_any (λ e. is_row_stopped stops e p) es ≡ false
    none [] = refl
    none (e ∷ es) = or-false (is_row_stopped stops e p) (list_any (λ e. is_row_stopped stops e p) es) (ap (λ b. among stops e.name && b) (h e.want) ∙ and-none (among stops e.name)) (none es)

never-removed : (identifier : List ℕ) (p : Piece) (ss : List Subscription) → ((s : SubNo) → is_piece_of s p ≡ false) → list_any (λ s. is_removed_with identifier s p) ss ≡ false
never-removed identifier p [] h = refl
never-removed identifier p (s ∷ ss) h = or-false (is_removed_with identifier s p) (list_any (λ s. is_removed_with identifier s p) ss) (ap (λ b. has_identifier identifier s && b) (h s.number) ∙ and-none (has_identifier identifier s)) (never-removed identifier p ss h)

-- a piece that every change leaves, but for the end
abbrev Stays : Piece → Type 0
Stays p = ((w : WantNo) → is_row_of w p ≡ false) × ((s : SubNo) → is_piece_of s p ≡ false)

stays-left : (d : Change) (ss : List Subscription) (p : Piece) → Stays p → (d ≡ change.Close → ⊥) → true ≡ not (ends d ss p)
stays-left change.Nothing ss p f n = refl
stays-left (change.Add identifier streams) ss p f n = refl
stays-left (change.Streams identifier stops streams) ss p f n = ap not (sym (never-stopped identifier stops p ss f.0))
stays-left (change.Remove identifier) ss p f n = ap not (sym (never-removed identifier p ss f.1))
stays-left change.Close ss p f n = absurd (n refl)

row-left : (marks : Marks) (n place : ℕ) (k : Conn) (d : Change) (sub : SubNo) (want : WantNo) (row : Row) → Valid n k → WantsApart (map (marked_sub marks) k.subs) → want.0 ≤ k.made → stands_want sub.0 want.0 k ≡ true → (d ≡ change.Close → ⊥)
    → stands_want sub.0 want.0 (changed d place k) ≡ not (ends d (map (marked_sub marks) k.subs) (piece.Row sub want row))
row-left marks n place k change.Nothing sub want row v a l h m = h
row-left marks n place k (change.Add identifier streams) sub want row v a l h m =
    let y : Sub = record { number = place; identifier = identifier; wants = wanted k.made streams; due = first_above k.made streams } in
    look-name sub.0 want.0 (k.subs ++ y ∷ []) ∙ look-push sub.0 (has_want_named want.0) k.subs (y ∷ []) (sym (look-name sub.0 want.0 k.subs) ∙ h)
row-left marks n place k (change.Streams identifier stops streams) sub want row v a l h m =
    look-name sub.0 want.0 (map (streamed k.made identifier stops streams) k.subs)
    ∙ (look-map sub.0 (has_want_named want.0) (streamed k.made identifier stops streams) k.subs (streamed-number k.made identifier stops streams)
    ∙ (streams-found identifier stops streams sub.0 want.0 k.made k.subs v.wants l (apart-from marks want k.subs a) (sym (look-name sub.0 want.0 k.subs) ∙ h) ∙ ap not (sym (same k.subs))))
  where
    same : (xs : List Sub) → list_any (λ s. is_stopped_in identifier stops s (piece.Row sub want row)) (map (marked_sub marks) xs) ≡ list_any (stops_there identifier stops want.0) xs
    same [] = refl
    same (x ∷ xs) = rw (any-map (marked_want marks) (λ e. is_row_stopped stops e (piece.Row sub want row)) x.wants, same xs) refl
row-left marks n place k (change.Remove identifier) sub want row v a l h m =
    look-name sub.0 want.0 (filter (λ x. not (bytes_eq x.identifier identifier)) k.subs)
    ∙ (look-ended (λ (x : Sub). bytes_eq x.identifier identifier) (has_want_named want.0) sub.0 0 n k.subs v.subs (sym (look-name sub.0 want.0 k.subs) ∙ h)
    ∙ ap not (sym (any-map (marked_sub marks) (λ s. is_removed_with identifier s (piece.Row sub want row)) k.subs)))
row-left marks n place k change.Close sub want row v a l h m = absurd (m refl)

confirm-left : (marks : Marks) (n place : ℕ) (k : Conn) (d : Change) (sub : SubNo) → Valid n k → stands_sub sub.0 k ≡ true → (d ≡ change.Close → ⊥)
    → stands_sub sub.0 (changed d place k) ≡ not (ends d (map (marked_sub marks) k.subs) (piece.Confirm sub))
confirm-left marks n place k change.Nothing sub v h m = h
confirm-left marks n place k (change.Add identifier streams) sub v h m =
    let y : Sub = record { number = place; identifier = identifier; wants = wanted k.made streams; due = first_above k.made streams } in
    look-number sub.0 (k.subs ++ y ∷ []) ∙ look-push sub.0 (λ x. true) k.subs (y ∷ []) (sym (look-number sub.0 k.subs) ∙ h)
confirm-left marks n place k (change.Streams identifier stops streams) sub v h m =
    look-number sub.0 (map (streamed k.made identifier stops streams) k.subs)
    ∙ (look-map sub.0 (λ x. true) (streamed k.made identifier stops streams) k.subs (streamed-number k.made identifier stops streams)
    ∙ ((sym (look-number sub.0 k.subs) ∙ h) ∙ ap not (sym (never-stopped identifier stops (piece.Confirm sub) (map (marked_sub marks) k.subs) (λ w. refl)))))
confirm-left marks n place k (change.Remove identifier) sub v h m =
    look-number sub.0 (filter (λ x. not (bytes_eq x.identifier identifier)) k.subs)
    ∙ (look-ended (λ (x : Sub). bytes_eq x.identifier identifier) (λ x. true) sub.0 0 n k.subs v.subs (sym (look-number sub.0 k.subs) ∙ h)
    ∙ ap not (sym (any-map (marked_sub marks) (λ s. is_removed_with identifier s (piece.Confirm sub)) k.subs)))
confirm-left marks n place k change.Close sub v h m = absurd (m refl)

piece-left : (marks : Marks) (n place : ℕ) (k : Conn) (d : Change) (p : Piece) → Valid n k → WantsApart (map (marked_sub marks) k.subs) → Known k.made n p → still k p ≡ true → (d ≡ change.Close → ⊥)
    → still (changed d place k) p ≡ not (ends d (map (marked_sub marks) k.subs) p)
piece-left marks n place k d (piece.Cmd read) v a l h m = stays-left d (map (marked_sub marks) k.subs) (piece.Cmd read) ((λ w. refl), (λ s. refl)) m
piece-left marks n place k d (piece.Row sub want row) v a l h m = row-left marks n place k d sub want row v a l h m
piece-left marks n place k d (piece.Confirm sub) v a l h m = confirm-left marks n place k d sub v h m
piece-left marks n place k d (piece.Remote reconnect) v a l h m = stays-left d (map (marked_sub marks) k.subs) (piece.Remote reconnect) ((λ w. refl), (λ s. refl)) m
piece-left marks n place k d piece.Gone v a l h m = stays-left d (map (marked_sub marks) k.subs) piece.Gone ((λ w. refl), (λ s. refl)) m
piece-left marks n place k d piece.Restart v a l h m = stays-left d (map (marked_sub marks) k.subs) piece.Restart ((λ w. refl), (λ s. refl)) m

-- ---- all that waits

-- the piece stands, and the numbers that it names were given
abbrev pub Stands : ℕ → Conn → Placed → Type 0
Stands n k q = (still k q.piece ≡ true) × Known k.made n q.piece

pub change-leaves : (marks : Marks) (n place : ℕ) (k : Conn) (d : Change) (ps : List Placed) → Valid n k → WantsApart (map (marked_sub marks) k.subs) → (d ≡ change.Close → ⊥) → AllByRecursion (Stands n k) ps
    → left d (map (marked_sub marks) k.subs) ps ≡ filter (λ p. still (changed d place k) p.piece) ps
change-leaves marks n place k d [] v a m h = refl
change-leaves marks n place k d (p ∷ ps) v a m h = rw (piece-left marks n place k d p.piece v a h.0.1 h.0.0 m, change-leaves marks n place k d ps v a m h.1) refl
