-- The ready connections go on being those of which a piece can be taken, and are served in order.
use Rattle.std.proofs.Common.{◌≡◌, ℕ, ◌==◌, ◌&&◌, ◌||◌, Bool, true, false, cond, not, List, [], ◌∷◌, ◌++◌, filter, Option, Some, None, refl, sym, ap, subst, ◌∙◌, inl, inr}
use Rattle.std.specs.Prelude.{slice_get, is_some, MatchOption}
use Rattle.std.specs.Ordering.{nat_cmp}
use Rattle.std.specs.BTreeMap.{is_at}
use Rattle.std.proofs.lemmas.Bool.{cases_eq, eq-eqb}
use Rattle.std.specs.List.{AllByRecursion}
use Rattle.cable_base.specs.declared.numbers.ConnNo.{ConnNo}
use Rattle.cable_base.specs.declared.numbers.RowId.{RowId}
use Rattle.cable_base.proofs.Filters.{filter-same}
use Rattle.cable_model.specs.declared.pieces.Piece.{Piece}
use Rattle.cable_model.specs.declared.pieces.Piece.TheVariants as piece
use Rattle.cable_model.specs.declared.plans.Change.{Change}
use Rattle.cable_model.specs.Journal.{Kept, past_of}
use Rattle.cable_model.specs.Pieces.{Placed}
use Rattle.cable_model.specs.Possible.{can_take, is_empty}
use Rattle.cable_model.specs.Steps.{Step}
use Rattle.conn_seat.specs.Seats.{Seated, Becomes, may_take_now, with_piece, with_taken}
use Rattle.conn_seat.specs.Turns.{with_pieces}
use Rattle.node_seats.specs.Outboxes.{OutboxesState}
use Rattle.node_seats.specs.declared.turning.Delivery.{Delivery}
use Rattle.node_seats.specs.declared.turning.Wanted.{Wanted}
use Rattle.node_seats.specs.AreSeats.{AreSeats, IsOpened}
use Rattle.node_seats.specs.Numbers.{Numbers, Opened, Moves, Lives, Prepares, Finished, Restarts, Stops, opened_at, seat_at, seat_in, may_take_in, may_take_at, receiving_among, is_receiving_in}
use Rattle.node_seats.specs.Turned.{TurnsOne, Roomier, Delivers, Places, errand_in, pieces_for}
use Rattle.node_seats.proofs.Entries.{live}
use Rattle.node_seats.proofs.Lookups.{at-is, found-there, found-elsewhere, new-there, new-elsewhere}
use Rattle.node_seats.proofs.Onward.{entries}
use Rattle.poll_turn.specs.Turns.{CursorState}
use Rattle.run_queue.specs.ReadyLists.{has_number}
use Rattle.subscriber_map.specs.HoldMaps.{HoldMap}
use Rattle.node_core.specs.Nodes.{NodeState, Stands, AreReady, GoesOn, ForgetsNone, Logs, ReadsSame, TakesNone}
use Rattle.node_core.specs.Nodes as nodes
use Rattle.node_core.specs.Opening.{OpensAs}
use Rattle.node_core.specs.Serving.{Refreshes, conns_of}
use Rattle.node_core.proofs.Logging.{logs-none}
use Rattle.node_core.proofs.Refreshing.{filter-among, has-first, has-one, looks-none}
use Rattle.node_core.proofs.TakingJobs.{errand-if, errand-is, takes-first}
use Rattle.node_core.proofs.Telling.{worked}

-- ---- what the journal says

told-in : (o : Option Seated) → is_some (errand_in o) ≡ may_take_in o
told-in None = refl
told-in (Some s) = errand-if s

module _ {past : List Step} {v : Numbers} {outs : OutboxesState} {k : CursorState} {holds : HoldMap} {ws : List Wanted} {taken : ℕ} (h : Stands past v outs k holds ws taken) where
  -- a piece may be taken exactly where one can be
  pub may-is : (c : ℕ) → may_take_at c v ≡ can_take c past
  may-is c = sym (told-in (seat_at c v)) ∙ errand-is c past v (worked past h.legal) h.numbers

  pub ready-is : (ready : List ConnNo) → AreReady v ready → (c : ConnNo) → has_number c ready ≡ can_take c.0 past
  ready-is ready are c = are c ∙ may-is c.0

  -- the first of the ready ones, if one is ready
  pub first-ready : (ready : List ConnNo) (o : Option ConnNo) → AreReady v ready → o ≡ slice_get ready 0
      → MatchOption o ((c : ℕ) → can_take c past ≡ false) (λ (c : ConnNo). can_take c.0 past ≡ true)
  first-ready ready o are is =
      subst (λ (x : Option ConnNo). MatchOption x ((c : ℕ) → can_take c past ≡ false) (λ (c : ConnNo). can_take c.0 past ≡ true)) (sym is) (by-list ready are)
    where
      by-list : (ns : List ConnNo) → AreReady v ns → MatchOption (slice_get ns 0) ((c : ℕ) → can_take c past ≡ false) (λ (c : ConnNo). can_take c.0 past ≡ true)
      by-list [] are = λ c. sym (ready-is [] are (record { 0 = c }))
      by-list (n ∷ ns) are = sym (ready-is (n ∷ ns) are n) ∙ has-first n ns

-- ---- what was looked at

-- of those that weren't looked at a piece may be taken where one could be before
abbrev pub Alike : List ConnNo → Numbers → Numbers → Type 0
Alike looked v new = (c : ConnNo) → has_number c looked ≡ false → may_take_at c.0 new ≡ may_take_at c.0 v

module _ (v new : Numbers) (looked was mid now : List ConnNo) (alike : Alike looked v new) (are : AreReady v was) (same : mid ≡ was) (look : Refreshes new looked mid now) where
  look-now : Refreshes new looked was now
  look-now = subst (λ (ns : List ConnNo). Refreshes new looked ns now) same look

  pub still-ready : AreReady new now
  still-ready c = look-now.ready c ∙ by-test (has_number c looked) refl
    where
      by-test : (b : Bool) → has_number c looked ≡ b → cond b (may_take_at c.0 new) (has_number c was) ≡ may_take_at c.0 new
      by-test true e = refl
      by-test false e = are c ∙ sym (alike c e)

  -- those that were ready and stay it
  kept-ready : (c : ConnNo) → has_number c was ≡ true → cond (has_number c looked) (may_take_at c.0 new) true ≡ may_take_at c.0 new
  kept-ready c there = by-test (has_number c looked) refl
    where
      by-test : (b : Bool) → has_number c looked ≡ b → cond b (may_take_at c.0 new) true ≡ may_take_at c.0 new
      by-test true e = refl
      by-test false e = sym (alike c e ∙ sym (are c) ∙ there)

  pub in-order : (past : List Step) → ((c : ℕ) → may_take_at c new ≡ can_take c past)
      → (more : List ConnNo) × (now ≡ filter (λ (c : ConnNo). can_take c.0 past) was ++ more)
  in-order past may = (
    look-now.order.0,
    look-now.order.1
        ∙ ap (λ (ns : List ConnNo). ns ++ look-now.order.0)
        (filter-among (λ (c : ConnNo). cond (has_number c looked) (may_take_at c.0 new) true) (λ (c : ConnNo). may_take_at c.0 new) was kept-ready
        ∙ filter-same (λ (c : ConnNo). may_take_at c.0 new) (λ (c : ConnNo). can_take c.0 past) was (λ c. may c.0)),
  )

-- where none was looked at, none changed
pub still-so : (v new : Numbers) (was now : List ConnNo) → ((c : ℕ) → may_take_at c new ≡ may_take_at c v) → AreReady v was → now ≡ was → AreReady new now
still-so v new was now alike are same = still-ready v new [] was was now (λ c e. alike c.0) are refl (looks-none new was now same)

module _ {v : Numbers} {outs : OutboxesState} {k : CursorState} {holds : HoldMap} {ws : List Wanted} {taken : ℕ} (old new : NodeState) where
  -- an entry was made, and these were looked at
  pub goes-on : (before : Numbers) (looked mid : List ConnNo) → Stands (nodes.past new) v outs k holds ws taken → TakesNone old new → ForgetsNone old new
      → Alike looked before v → AreReady before old.ready
      → mid ≡ old.ready → Refreshes v looked mid new.ready → Logs old new → GoesOn old new
  goes-on before looked mid h none unforgotten alike are same look logged =
      record {
        logged = logged;
        taken = none;
        forgotten = unforgotten;
        served = in-order before v looked old.ready mid new.ready alike are same look (nodes.past new) (may-is h);
      }

  -- nothing happened
  pub goes-nowhere : Stands (nodes.past old) v outs k holds ws taken → AreReady v old.ready → ReadsSame old new → GoesOn old new
  goes-nowhere h are same =
      record {
        logged = logs-none old new same.kept same.stored;
        taken = same.taken;
        forgotten = same.forgotten;
        served = in-order v v [] old.ready old.ready new.ready (λ c e. refl) are refl (looks-none v old.ready new.ready same.ready) (nodes.past new)
            (λ c. may-is h c ∙ ap (λ (k : Kept). can_take c (past_of k)) (sym same.kept));
      }

-- ---- which calls change of which connections a piece may be taken

abbrev may_in : Option Opened → Bool
may_in o = may_take_in (seat_in o)

-- calls on one connection change it of that one alone
pub alike-moved : (conn : ConnNo) (By : Opened → Opened → Type 0) (v new : Numbers) → Moves conn.0 By v new → Alike (conn ∷ []) v new
alike-moved conn By v new m = λ c e. ap may_in (ap (opened_at c.0) m.now ∙ found-elsewhere conn.0 c.0 m.became v (apart c e))
  where
    apart : (c : ConnNo) → has_number c (conn ∷ []) ≡ false → conn.0 ≡ c.0 → ⊥
    apart c e same = let f : true ≡ false = sym (eq-eqb conn.0 c.0 same) ∙ sym (has-one c conn) ∙ e in cc

pub becomes-may : (s t : Seated) → Becomes s t → may_take_now t ≡ may_take_now s
becomes-may s t b = ap may_take_now b.now

-- calls that leave what a take sees change it of none
pub alike-lives : (By : Seated → Seated → Type 0) (n : ℕ) (v new : Numbers) → ((s t : Seated) → By s t → may_take_now t ≡ may_take_now s)
    → Moves n (Lives By) v new → (c : ℕ) → may_take_at c new ≡ may_take_at c v
alike-lives By n v new same m c =
    let l = live By n v new m in
    elim (cases_eq n c) [
      | inl e ↦ subst (λ (x : ℕ). may_take_at x new ≡ may_take_at x v) e
          (ap may_in (ap (opened_at n) l.now ∙ found-there n (Opened.Live l.new_seat) (Opened.Live l.old_seat) v l.found)
          ∙ same l.old_seat l.new_seat l.moved_by ∙ sym (ap may_in l.found))
      | inr apart ↦ ap may_in (ap (opened_at c) l.now ∙ found-elsewhere n c (Opened.Live l.new_seat) v apart)
    ]

pub alike-room : (n : ℕ) (v new : Numbers) → Moves n (Lives Becomes) v new → (c : ℕ) → may_take_at c new ≡ may_take_at c v
alike-room n v new m c = alike-lives Becomes n v new becomes-may m c

-- room for a plan is made, and then it is finished
pub alike-finished : (conn : ConnNo) (change : Change) (v mid new : Numbers) → Moves conn.0 (Lives (Prepares change)) v mid
    → Moves conn.0 (Finished change) mid new → Alike (conn ∷ []) v new
alike-finished conn change v mid new m n =
    λ c e. alike-moved conn (Finished change) mid new n c e ∙ alike-lives (Prepares change) conn.0 v mid (λ s t p. ap may_take_now p.now) m c.0

-- of one that opens none may be taken
pub alike-opened : (c : ℕ) (user : Option (List ℕ)) (v new : Numbers) → opened_at c v ≡ None → OpensAs c user v new → (d : ℕ)
    → may_take_at d new ≡ may_take_at d v
alike-opened c None v new free o d =
    elim (cases_eq c d) [
      | inl e ↦ subst (λ (x : ℕ). may_take_at x new ≡ may_take_at x v) e (ap may_in (ap (opened_at c) o ∙ new-there c Opened.Over v) ∙ sym (ap may_in free))
      | inr apart ↦ ap may_in (ap (opened_at d) o ∙ new-elsewhere c d Opened.Over v apart)
    ]
alike-opened c (Some user) v new free o d =
    elim (cases_eq c d) [
      | inl e ↦ subst (λ (x : ℕ). may_take_at x new ≡ may_take_at x v) e
          (ap may_in (ap (opened_at c) o.2 ∙ new-there c (Opened.Live o.0) v) ∙ ap may_take_now o.1.now ∙ sym (ap may_in free))
      | inr apart ↦ ap may_in (ap (opened_at d) o.2 ∙ new-elsewhere c d (Opened.Live o.0) v apart)
    ]

-- behind a take a job is out
pub taken-out : (n : ℕ) (v new : Numbers) → Moves n (Lives (λ s t. Becomes (with_taken s) t)) v new → may_take_at n v ≡ true → may_take_at n new ≡ false
taken-out n v new m may =
    let l = live (λ s t. Becomes (with_taken s) t) n v new m in
    let first = takes-first l.old_seat (sym (ap may_in l.found) ∙ may) in
    ap may_in (ap (opened_at n) l.now ∙ found-there n (Opened.Live l.new_seat) (Opened.Live l.old_seat) v l.found)
    ∙ becomes-may (with_taken l.old_seat) l.new_seat l.moved_by
    ∙ ap (λ (o : Option Placed). not (is_some o) && (not (with_taken l.old_seat).over && not (is_empty (with_taken l.old_seat).waiting))) first.1.job

-- ---- a stop

stopped-one : (c : ℕ) (past : List Step) (k o : Opened) → is_receiving_in k ≡ false → IsOpened c past k → Restarts k o → may_in (Some o) ≡ may_in (Some k)
stopped-one c past Opened.Over o shut h r = ap (λ (x : Opened). may_in (Some x)) r
stopped-one c past (Opened.Live s) o shut h r =
    let closing : s.closing ≡ true = closes s.over s.closing h.1 shut in
    ap (λ (x : Opened). may_in (Some x)) r.2 ∙ becomes-may (with_piece piece.Restart s) r.0 r.1 ∙ ap may_take_now (passed s.closing closing)
  where
    closes : (a b : Bool) → a ≡ false → (not a && not b) ≡ false → b ≡ true
    closes true b e f = absurd cc
    closes false true e f = refl
    closes false false e f = absurd cc

    passed : (b : Bool) → s.closing ≡ true → with_piece piece.Restart s ≡ s
    passed b e = rw e refl

-- of those that don't receive a stop changes none
pub alike-stopped : (past : List Step) (v new : Numbers) → AreSeats past v → Stops v new → Alike (receiving_among v) v new
alike-stopped past v new a stopped = λ c e. by-list c v new (entries past v a) stopped e
  where
    by-list : (c : ConnNo) (v new : Numbers) → AllByRecursion (λ (e : ℕ × Opened). IsOpened e.0 past e.1) v → Stops v new
        → has_number c (receiving_among v) ≡ false → may_take_at c.0 new ≡ may_take_at c.0 v
    by-list c [] new all s e = ap (may_take_at c.0) s
    by-list c (x ∷ xs) new all s e =
        ap (may_take_at c.0) s.4 ∙ by-test (is_at (nat_cmp c.0) x.0) refl (is_receiving_in x.1) refl e (by-list c xs s.1 all.1 s.3)
      where
        by-test : (b : Bool) → is_at (nat_cmp c.0) x.0 ≡ b → (r : Bool) → is_receiving_in x.1 ≡ r
            → has_number c (cond r (record { 0 = x.0 } ∷ receiving_among xs) (receiving_among xs)) ≡ false
            → (has_number c (receiving_among xs) ≡ false → may_take_at c.0 s.1 ≡ may_take_at c.0 xs)
            → may_in (cond (is_at (nat_cmp c.0) x.0) (Some s.0) (opened_at c.0 s.1)) ≡ may_in (cond (is_at (nat_cmp c.0) x.0) (Some x.1) (opened_at c.0 xs))
        by-test true at true r e ih = let f : true ≡ false = sym (ap (λ b. b || has_number c (receiving_among xs)) (sym (at-is c.0 x.0) ∙ at)) ∙ e in absurd cc
        by-test true at false r e ih = rw at (stopped-one x.0 past x.1 s.0 r all.0 s.2)
        by-test false at true r e ih = rw at (ih (sym (ap (λ b. b || has_number c (receiving_among xs)) (sym (at-is c.0 x.0) ∙ at)) ∙ e))
        by-test false at false r e ih = rw at (ih e)

-- ---- a turn

turned-one : (By : Seated → Seated → Type 0) (o p : Option Opened) → ((s t : Seated) → By s t → may_take_now t ≡ may_take_now s) → TurnsOne By o p
    → may_in p ≡ may_in o
turned-one By None p same t = ap may_in t
turned-one By (Some Opened.Over) p same t = ap may_in t
turned-one By (Some (Opened.Live s)) p same t = ap may_in t.2 ∙ same s t.0 t.1

pieces-none : (c : ConnNo) (ds : List Delivery) → has_number c (conns_of ds) ≡ false → pieces_for c.0 ds ≡ []
pieces-none c [] e = refl
pieces-none c (d ∷ ds) e = by-test (d.conn.0 == c.0) refl e (pieces-none c ds)
  where
    by-test : (b : Bool) → (d.conn.0 == c.0) ≡ b → (b || has_number c (conns_of ds)) ≡ false → (has_number c (conns_of ds) ≡ false → pieces_for c.0 ds ≡ [])
        → pieces_for c.0 (d ∷ ds) ≡ []
    by-test true is e ih = absurd cc
    by-test false is e ih = rw is (ih e)

pub alike-roomier : (v new : Numbers) → Roomier v new → (c : ℕ) → may_take_at c new ≡ may_take_at c v
alike-roomier v new r c = turned-one (λ s t. Becomes s t) (opened_at c v) (opened_at c new) becomes-may (r.each c)

-- a turn changes it of those alone that it brings pieces for
pub alike-turned : (mark : RowId) (ws : List Wanted) (ds : List Delivery) (v v1 v2 v3 : Numbers) → Roomier v v1 → Places mark ws v1 v2 → Delivers ds v2 v3
    → Alike (conns_of ds) v v3
alike-turned mark ws ds v v1 v2 v3 room places puts = λ c e.
    turned-one (λ s t. Becomes (with_pieces (pieces_for c.0 ds) s) t) (opened_at c.0 v2) (opened_at c.0 v3)
    (λ s t b. becomes-may s t (subst (λ (ps : List Piece). Becomes (with_pieces ps s) t) (pieces-none c ds e) b)) (puts.each c.0)
    ∙ turned-one _ (opened_at c.0 v1) (opened_at c.0 v2) (λ s t b. ap may_take_now b) (places.each c.0)
    ∙ alike-roomier v v1 room c.0
