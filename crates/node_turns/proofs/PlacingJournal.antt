-- What a legal journal says of the wants that a turn takes: none of them has a mark, and what their connection then holds.
use Rattle.std.proofs.Common.{ℕ, suc, ◌≡◌, ◌<◌, ◌≤◌, ◌==◌, ◌&&◌, ◌||◌, Bool, true, false, cond, not, List, [], ◌∷◌, ◌++◌, map, length, drop, Option, Some, None}
use Rattle.std.proofs.Common.{refl, ap, sym, subst, ◌∙◌, arith, bytes_eq, is_some, leb, ltb}
use Rattle.std.specs.Prelude.{option_map}
use Rattle.std.specs.List.{AllByRecursion}
use Rattle.std.proofs.lemmas.Bool.Decides.{nat_tests}
use Rattle.cable_base.specs.declared.numbers.RowId.{RowId}
use Rattle.cable_base.proofs.Rises.{Rises}
use Rattle.stream_set.specs.Streams.{has_name, has_want}
use Rattle.stream_set.specs.Streams as streams
use Rattle.cable_model.specs.declared.journals.ReadNote.{ReadNote}
use Rattle.cable_model.specs.declared.plans.Change.{Change}
use Rattle.cable_model.specs.declared.plans.Change.TheVariants as change
use Rattle.cable_model.specs.Connection.{Want, Sub, Conn, among, changed}
use Rattle.cable_model.specs.Legal.{Legal}
use Rattle.cable_model.specs.Pieces.{Seat, seat, waiting}
use Rattle.cable_model.specs.Plans.{names_of}
use Rattle.cable_model.specs.Possible.{has_job, is_empty, can_take}
use Rattle.cable_model.specs.Steps.{Step}
use Rattle.cable_model.specs.Wants.{Mark, marks, mark_of, marked, turn_mark, user_of, made, at_ask}
use Rattle.cable_model.proofs.Stored.{HasPlan, has-plan}
use Rattle.conn_core.specs.Marked.{row_id, Marks, marked_want, marked_sub}
use Rattle.conn_core.specs.Subscriptions.{AreDifferent}
use Rattle.node_seats.specs.declared.turning.Wanted.{Wanted}
use Rattle.node_turns.specs.Wished.{wants_of, taken_count, found_made}
use Rattle.node_turns.proofs.WantsCounted.{legal-at_ask, userless-wants, wants-length}
use Rattle.node_turns.proofs.DistinctNames.{AllNamed, distinct}
use Rattle.node_turns.proofs.PlacingSubs.{Sits, FreeAmong, Free}
use Rattle.node_turns.proofs.WantsNumbered.{Numbered, valid-legal, made-numbered}
use Rattle.node_turns.proofs.PlacingWalk.{own_after}
use Rattle.cable_model.proofs.Entries.{only-puts}
use Rattle.node_turns.proofs.TurnsSeen.{above-none, seens}

-- ---- marks

-- a want that no turn took has no mark
pub unmarked-from : (c w : ℕ) (past : List Step) → Legal past → taken_count (marks c past) ≤ w → mark_of w (marks c past) ≡ None
unmarked-from c w past l h = above-none (taken_count (marks c past)) w (marks c past) (seens c past l) h

-- ---- the connection's own mark

own-stays : (mark : RowId) (n : ℕ) (ws : List Wanted) (own : Option ℕ) → (n == 0) ≡ false → Numbered n ws → own_after mark ws own ≡ own
own-stays mark n [] own f h = refl
own-stays mark n (w ∷ ws) own f h =
    ap (λ b. own_after mark ws (cond b (Some mark.0) own)) (h.1 ∙ f) ∙ own-stays mark (suc n) ws own (grind (arith, nat_tests)) h.2

own-placed : (mark : RowId) (n : ℕ) (ws : List Wanted) (own : Option ℕ) → n ≡ 0 → (0 < length ws) → Numbered n ws → own_after mark ws own ≡ Some mark.0
own-placed mark n [] own z some h = absurd (omega arith)
own-placed mark n (w ∷ ws) own z some h =
    let t : (n == 0) ≡ true = grind (arith, nat_tests) in
    ap (λ b. own_after mark ws (cond b (Some mark.0) own)) (h.1 ∙ t) ∙ own-stays mark (suc n) ws (Some mark.0) (grind (arith, nat_tests)) h.2

pub own-unplaced : (c : ℕ) (past : List Step) → taken_count (marks c past) ≡ 0 → mark_of 0 (marks c past) ≡ None
own-unplaced c past z = go (marks c past) z
  where
    go : (ms : List Mark) → taken_count ms ≡ 0 → mark_of 0 ms ≡ None
    go [] z = refl
    go (t ∷ []) z = absurd (omega (arith, z))
    go (t ∷ u ∷ ms) z = absurd (never (u ∷ ms) (λ e. cc (e)) z)
      where
        never : (xs : List Mark) → (xs ≡ [] → ⊥) → taken_count xs ≡ 0 → ⊥
        never [] n e = n refl
        never (x ∷ []) n e = omega (arith, e)
        never (x ∷ y ∷ ys) n e = never (y ∷ ys) (λ q. cc (q)) e

first-seen : (t : Mark) (ms : List Mark) → mark_of 0 (t ∷ ms) ≡ Some t.last
first-seen t ms = let b : leb 0 t.seen ≡ true = grind (arith, nat_tests) in rw b refl

-- the turn's walk gives it the mark that the turn gives it
pub own-is : (c : ℕ) (note : ReadNote) (past : List Step) → Legal past → note.failed ≡ false
    → own_after note.last (found_made c past) (mark_of 0 (marks c past)) ≡ mark_of 0 (marks c past ++ turn_mark c note past)
own-is c note past l f = go (marks c past) refl
  where
    numbered : Numbered (taken_count (marks c past)) (found_made c past)
    numbered = made-numbered c past l

    later : (t : Mark) (ms : List Mark) → (taken_count (t ∷ ms) == 0) ≡ false
    later t [] = grind (arith, nat_tests)
    later t (u ∷ ms) = later u ms

    first : (u : Option (List ℕ)) → user_of c (at_ask past) ≡ u → marks c past ≡ []
        → own_after note.last (found_made c past) None ≡ mark_of 0 (turn_mark c note past)
    first None u e =
        let none : wants_of c (at_ask past) ≡ [] = userless-wants c (at_ask past) (legal-at_ask past l) u in
        rw (e, none, u) refl
    first (Some x) u e =
        let many : length (wants_of c (at_ask past)) ≡ suc (made c (at_ask past)) = wants-length c x (at_ask past) (legal-at_ask past l) u in
        let count : taken_count (marks c past) ≡ 0 = ap taken_count e in
        let whole : found_made c past ≡ wants_of c (at_ask past) =
        ap (λ ms. drop (taken_count ms) (wants_of c (at_ask past))) e ∙ all-of (wants_of c (at_ask past)) in
        let some : 0 < length (found_made c past) = subst (λ ws. 0 < length ws) (sym whole) (omega (arith, many)) in
        let given : mark_of 0 (turn_mark c note past) ≡ Some note.last.0 =
        ap (λ o. mark_of 0 (marked o (made c (at_ask past)) note)) u
        ∙ (ap (λ b. mark_of 0 (cond b [] (record { seen = made c (at_ask past); last = note.last.0 } ∷ []))) f
        ∙ first-seen (record { seen = made c (at_ask past); last = note.last.0 }) []) in
        own-placed note.last (taken_count (marks c past)) (found_made c past) None count some numbered ∙ sym given
      where
        all-of : (ws : List Wanted) → drop 0 ws ≡ ws
        all-of [] = refl
        all-of (w ∷ ws) = refl

    go : (ms : List Mark) → marks c past ≡ ms
        → own_after note.last (found_made c past) (mark_of 0 (marks c past)) ≡ mark_of 0 (marks c past ++ turn_mark c note past)
    go [] e =
        ap (λ ms. own_after note.last (found_made c past) (mark_of 0 ms)) e
        ∙ (first (user_of c (at_ask past)) refl e ∙ ap (λ ms. mark_of 0 (ms ++ turn_mark c note past)) (sym e))
    go (t ∷ ms) e =
        own-stays note.last (taken_count (marks c past)) (found_made c past) (mark_of 0 (marks c past)) (ap (λ xs. taken_count xs == 0) e ∙ later t ms) numbered
        ∙ (ap (mark_of 0) e
        ∙ (first-seen t ms ∙ (sym (first-seen t (ms ++ turn_mark c note past)) ∙ ap (λ xs. mark_of 0 (xs ++ turn_mark c note past)) (sym e))))

-- ---- the subscriptions

named-among : (marks : Marks) (name : List ℕ) (ws : List Want) → has_name name (map (marked_want marks) ws) ≡ among (names_of ws) name
named-among marks name [] = refl
named-among marks name (w ∷ ws) = ap (λ b. bytes_eq w.name name || b) (named-among marks name ws)

wanted-high : (marks : Marks) (n b : ℕ) (ws : List Want) (e : ℕ) → Rises (λ (w : Want). w.number) b ws e → n ≤ b
    → has_want (record { 0 = n }) (map (marked_want marks) ws) ≡ false
wanted-high marks n b [] e r l = refl
wanted-high marks n b (w ∷ ws) e r l =
    let f : (w.number == n) ≡ false = (let low = r.0 in grind (arith, nat_tests)) in
    rw f (wanted-high marks n w.number ws e r.1 (let low = r.0 in omega (arith, low, l)))

marked-apart : (marks : Marks) (b : ℕ) (ws : List Want) (e : ℕ) → Rises (λ (w : Want). w.number) b ws e → AreDifferent (names_of ws)
    → streams.AreApart (map (marked_want marks) ws)
marked-apart marks b [] e r d = tt
marked-apart marks b (w ∷ ws) e r d =
    (named-among marks w.name ws ∙ d.0, wanted-high marks w.number w.number ws e r.1 (omega arith), marked-apart marks w.number ws e r.1 d.1)

marked-sits : (marks : Marks) (b : ℕ) (ss : List Sub) (e made : ℕ) → Rises (λ (s : Sub). s.number) b ss e
    → AllByRecursion (λ (s : Sub). Rises (λ (w : Want). w.number) 0 s.wants made) ss → AllNamed ss → Sits b (map (marked_sub marks) ss)
marked-sits marks b [] e made r v d = tt
marked-sits marks b (s ∷ ss) e made r v d = (r.0, marked-apart marks 0 s.wants made v.0 d.0, marked-sits marks s.number ss e made r.1 v.1 d.1)

free-wants : (marks : Marks) (n : ℕ) → ((w : ℕ) → n ≤ w → marks w ≡ None) → (ws : List Want) → FreeAmong n (map (marked_want marks) ws)
free-wants marks n h [] = tt
free-wants marks n h (w ∷ ws) = (λ l. ap (option_map row_id) (h w.number l), free-wants marks n h ws)

free-subs : (marks : Marks) (n : ℕ) → ((w : ℕ) → n ≤ w → marks w ≡ None) → (ss : List Sub) → Free n (map (marked_sub marks) ss)
free-subs marks n h [] = tt
free-subs marks n h (s ∷ ss) = (free-wants marks n h s.wants, free-subs marks n h ss)

pub subs-sit : (c : ℕ) (marks : Marks) (past : List Step) → Legal past → Sits 0 (map (marked_sub marks) (seat c past).conn.subs)
subs-sit c marks past l =
    let v = valid-legal c past l in
    marked-sits marks 0 (seat c past).conn.subs (seat c past).done (seat c past).conn.made v.subs v.wants (distinct c past l).names

pub subs-free : (c : ℕ) (past : List Step) → Legal past
    → Free (taken_count (marks c past)) (map (marked_sub (λ w. mark_of w (marks c past))) (seat c past).conn.subs)
subs-free c past l = free-subs (λ w. mark_of w (marks c past)) (taken_count (marks c past)) (λ w h. unmarked-from c w past l h) (seat c past).conn.subs

-- ---- a connection that is over

-- it has no subscriptions, and no job
abbrev Shut : Seat → Type 0
Shut s = s.conn.over ≡ true → (s.conn.subs ≡ []) × (has_job s ≡ false)

changed-over : (x : Change) (place : ℕ) (k : Conn) → k.over ≡ false → (changed x place k).over ≡ true → (changed x place k).subs ≡ []
changed-over change.Close place k f t = refl
changed-over _ place k f t = absurd (cc (f, t))

live-open : (u : Bool) (over job empty : Bool) → (u && not over && not job && not empty) ≡ true → over ≡ false
live-open u over job empty t = grind arith

pub shut : (c : ℕ) (past : List Step) → Legal past → Shut (seat c past)
shut c [] l = λ t. absurd (cc (t))
shut c (Step.Take d ∷ past) l = go (d == c) refl (shut c past l.1)
  where
    go : (b : Bool) → (d == c) ≡ b → Shut (seat c past) → Shut (seat c (Step.Take d ∷ past))
    go false b ih = rw b ih
    go true b ih =
        let e : d ≡ c = grind (arith, nat_tests) in
        let can : can_take c past ≡ true = subst (λ x. can_take x past ≡ true) e l.0 in
        let unshut = live-open (is_some (user_of c past)) (seat c past).conn.over (has_job (seat c past)) (is_empty (waiting (seat c past))) can in
        rw b (λ t. absurd (cc (t, unshut)))
shut c (Step.Finish d puts plan ∷ past) l = go (d == c) refl (shut c past l.1)
  where
    found : HasPlan l.0.0.callbacks d past plan
    found = has-plan l.0.0.callbacks d past plan l.0.0.planned

    go : (b : Bool) → (d == c) ≡ b → Shut (seat c past) → Shut (seat c (Step.Finish d puts plan ∷ past))
    go false b ih = rw b ih
    go true b ih =
        let e : d ≡ c = grind (arith, nat_tests) in
        let out : has_job (seat c past) ≡ true = subst (λ x. has_job (seat x past) ≡ true) e found.out in
        let none : ltb (seat c past).taken (seat c past).taken ≡ false = grind (arith, nat_tests) in
        rw b (λ t. (changed-over plan.change (seat c past).taken (seat c past).conn (before (seat c past).conn.over refl out ih) t, none))
      where
        before : (o : Bool) → (seat c past).conn.over ≡ o → has_job (seat c past) ≡ true → Shut (seat c past) → (seat c past).conn.over ≡ false
        before true o out ih = let none = (ih o).1 in absurd (cc (out, none))
        before false o out ih = o
shut c (e ∷ past) l =
    let put = only-puts c e past refl in
    subst Shut (sym put.1) (shut c past l.1)
