-- A world that follows a history shows what the history leaves, and follows each history for which it stands.
use Rattle.std.proofs.Common.{◌≡◌, ℕ, ℤ, Bool, true, false, cond, not, ◌&&◌, List, [], ◌∷◌, ◌++◌, length, drop, Option, Some, None, option_map, is_none, refl, sym, ap, subst, ◌∙◌}
use Rattle.std.specs.List.{All}
use Rattle.std.proofs.Math.Seq.{drop-length}
use Rattle.std.proofs.lemmas.List.Elements.{All-nil}
use Rattle.std.specs.Prelude.{Result, Ok, Err, IfOk, is_err}
use Rattle.cable_base.specs.Memory.{next_count}
use Rattle.cable_base.specs.declared.faults.OutOfMemory.{OutOfMemory}
use Rattle.cable_base.specs.declared.numbers.RowId.{RowId}
use Rattle.cable_base.specs.declared.rows.Row.{Row}
use Rattle.channel_book.specs.Shapes.{Declared}
use Rattle.cable_model.specs.declared.events.Event.{Event}
use Rattle.cable_model.specs.declared.journals.ReadNote.{ReadNote}
use Rattle.cable_model.specs.declared.lines.Line.{Line}
use Rattle.cable_model.specs.declared.plans.Plan.{Plan}
use Rattle.cable_model.specs.History.{Rules, World, start, run, happen, caught, can_read, hashes_of, home_of, is_idle, is_possible}
use Rattle.cable_model.specs.Pieces.{seat}
use Rattle.cable_model.specs.Possible.{has_job, is_out, job_plan, last_turn, planned}
use Rattle.cable_model.specs.Script.{rules_of}
use Rattle.cable_model.specs.Stands.{Asks, AskedTurn, CaughtTurn, IsGone, Shown, Shows, Stands, caught_turn}
use Rattle.cable_model.specs.Steps.{Step}
use Rattle.cable_model.specs.Table.{contains, read_of}
use Rattle.cable_model.specs.Transcript.{queued, said}
use Rattle.cable_model.specs.Wants.{lower, user_of}
use Rattle.cable_model.specs.Window.{job}
use Rattle.node_core.specs.Nodes.{past, taken_out}
use Rattle.poll_turn.specs.Notes.{note_in}
use Rattle.node_world.specs.declared.outstanding.OutWork.{OutWork}
use Rattle.node_world.specs.declared.outstanding.TurnOut.{TurnOut}
use Rattle.node_world.specs.declared.outstanding.TurnOut.TheVariants as turn_out
use Rattle.node_world.specs.declared.parts.Opened.{Opened}
use Rattle.node_world.specs.declared.parts.Post.{Post}
use Rattle.node_world.specs.declared.saying.Said.{Said}
use Rattle.node_world.specs.Draining.{left_on}
use Rattle.node_world.specs.Parts.{Held, FollowsSome, FollowsWorld, IsConnIn, IsPostIn, IsTurnIn, IsWorkAt, conn_at, post_at}
use Rattle.node_world.specs.Steps.{StepsIn, keeper_calls, calls_keeper}
use Rattle.node_world.specs.Worlds.{IsStep, StandsFor, WorldState, after, asked_in, asked_turn, caught_in, caught_of_turn, journal_in, left_at, left_in, plan_in, plan_of_work, puts_in, puts_of_work, shown}
use Rattle.node_world.proofs.Following.{post-stays, run-append, sound-now}
use Rattle.node_world.proofs.FollowingTable.{conn-stays}
use Rattle.node_world.proofs.WorksStay.{no-plan}

-- ---- nodes and their turns

shows-journal : (r : Rules) (w : World) (n : ℕ) (o : Option Post) → IsPostIn r w n o → journal_in o ≡ w.nodes n
shows-journal r w n None h = sym h
shows-journal r w n (Some p) h = h.0.journal

-- what is out and unread
out-unread : (w : World) (n : ℕ) (out : Bool) (found : Option ReadNote) → is_out (w.nodes n) ≡ out → caught w n ≡ found → can_read w n ≡ (out && is_none found)
out-unread w n out found o c = ap (λ b. b && is_none (caught w n)) o ∙ ap (λ (x : Option ReadNote). out && is_none x) c

-- no turn is out of which a note could be caught
none-caught : (w : World) (n : ℕ) → is_out (w.nodes n) ≡ false → caught w n ≡ None
none-caught w n o = ap (λ b. cond b (read_of n (last_turn (w.nodes n)) w.table) None) o

none-unread : (w : World) (n : ℕ) → is_out (w.nodes n) ≡ false → can_read w n ≡ false
none-unread w n o = ap (λ b. b && is_none (caught w n)) o

not-out : (r : Rules) (w : World) (n : ℕ) → IsPostIn r w n None → is_out (w.nodes n) ≡ false
not-out r w n h = ap is_out h

shows-asked : (r : Rules) (w : World) (n : ℕ) (o : Option Post) → IsPostIn r w n o → Asks (asked_in o) (can_read w n) (w.nodes n) (hashes_of r.hash (w.nodes n))
shows-asked r w n None h = none-unread w n (not-out r w n h)
shows-asked r w n (Some p) h = by-turn p.turn h.1
  where
    by-turn : (t : TurnOut) → IsTurnIn r w n t → Asks (asked_turn t) (can_read w n) (w.nodes n) (hashes_of r.hash (w.nodes n))
    by-turn turn_out.None k = none-unread w n k
    by-turn (turn_out.Asked t) k = (out-unread w n true None k.out k.unread, record { turn = k.number; lower = k.lower_is; hashes = k.asks })
    by-turn (turn_out.Read t) k = out-unread w n true (Some (note_in t.caught)) k.out k.note

shows-caught : (r : Rules) (w : World) (n : ℕ) (o : Option Post) → IsPostIn r w n o → caught_in o ≡ option_map (caught_turn (w.nodes n)) (caught w n)
shows-caught r w n None h = sym (ap (option_map (caught_turn (w.nodes n))) (none-caught w n (not-out r w n h)))
shows-caught r w n (Some p) h = by-turn p.turn h.1
  where
    by-turn : (t : TurnOut) → IsTurnIn r w n t → caught_of_turn t ≡ option_map (caught_turn (w.nodes n)) (caught w n)
    by-turn turn_out.None k = sym (ap (option_map (caught_turn (w.nodes n))) (none-caught w n k))
    by-turn (turn_out.Asked t) k = sym (ap (option_map (caught_turn (w.nodes n))) k.unread)
    by-turn (turn_out.Read t) k =
        ap (λ (turn : ℕ). let c : CaughtTurn = record { turn = turn; note = note_in t.caught } in Some c) k.number
        ∙ sym (ap (option_map (caught_turn (w.nodes n))) k.note)

-- ---- connections

shows-home : (r : Rules) (w : World) (c : ℕ) (o : Option Opened) → IsConnIn r w c o → option_map (λ (k : Opened). k.node.0) o ≡ w.home c
shows-home r w c None h = sym h.0
shows-home r w c (Some o) h = sym h.0

all-drained : (r : Rules) (w : World) (n c : ℕ) (o : Option Post) → IsPostIn r w n o → left_at c o ≡ []
all-drained r w n c None h = refl
all-drained r w n c (Some p) h =
    ap (λ k. drop k (queued c (past p.node))) (h.0.drained c ∙ ap (λ (steps : List Step). length (queued c steps)) (sym h.0.journal))
    ∙ drop-length (queued c (past p.node))

shows-left : (r : Rules) (h : Held) (w : World) (c : ℕ) → FollowsWorld r h w → (o : Option Opened) → left_in h c o ≡ []
shows-left r h w c f None = refl
shows-left r h w c f (Some o) = all-drained r w o.node.0 c (post_at o.node.0 h.posts) (f.posts o.node.0)

idle-plan : (r : Rules) (c : ℕ) (steps : List Step) → has_job (seat c steps) ≡ false → job_plan r.callbacks c steps ≡ None
idle-plan r c steps e = ap (λ b. cond b (planned r.callbacks (user_of c steps) (seat c steps).conn (job (seat c steps))) None) e

shows-plan : (r : Rules) (h : Held) (w : World) (c : ℕ) → FollowsWorld r h w → (o : Option Opened) → IsConnIn r w c o → plan_in o ≡ job_plan r.callbacks c (w.nodes (home_of w c))
shows-plan r h w c f None k = sym (no-plan r.callbacks c (w.nodes (home_of w c)) ((sound-now r h w f).closed c k.0 (home_of w c)))
shows-plan r h w c f (Some o) k =
    by-work o.work k.1 ∙ sym (ap (λ x. job_plan r.callbacks c (w.nodes x)) home)
  where
    home : home_of w c ≡ o.node.0
    home = let e = k.0 in rw e refl

    by-work : (x : Option OutWork) → IsWorkAt r.callbacks o.node.0 c (w.nodes o.node.0) (w.puts c) x → plan_of_work x ≡ job_plan r.callbacks c (w.nodes o.node.0)
    by-work None i = sym (idle-plan r c (w.nodes o.node.0) i.0)
    by-work (Some x) i = sym i.plan

shows-puts : (r : Rules) (w : World) (c : ℕ) (o : Option Opened) → IsConnIn r w c o → puts_in o ≡ w.puts c
shows-puts r w c None k = sym k.1
shows-puts r w c (Some o) k = by-work o.work k.1
  where
    by-work : (x : Option OutWork) → IsWorkAt r.callbacks o.node.0 c (w.nodes o.node.0) (w.puts c) x → puts_of_work x ≡ w.puts c
    by-work None i = sym i.1
    by-work (Some x) i = i.puts_are

-- ---- all of it

pub shows-followed : (r : Rules) (h : Held) (w : World) → FollowsWorld r h w → Shows r w (shown h)
shows-followed r h w f = record {
  nodes = λ n. shows-journal r w n (post_at n h.posts) (f.posts n);
  home = λ c. shows-home r w c (conn_at c h.conns) (f.conns c);
  forgotten = All-nil (IsGone w);
  left = λ c. shows-left r h w c f (conn_at c h.conns);
  plan = λ c. shows-plan r h w c f (conn_at c h.conns) (f.conns c);
  puts = λ c. shows-puts r w c (conn_at c h.conns) (f.conns c);
  asked = λ n. shows-asked r w n (post_at n h.posts) (f.posts n);
  read = λ n. shows-caught r w n (post_at n h.posts) (f.posts n);
  rows = f.table.shows.rows_are;
  last = f.table.shows.last_is;
  failing = f.table.failing_is;
}

-- ---- another history that is shown

same-note : (p q : List Step) (x y : Option ReadNote) → option_map (caught_turn p) x ≡ option_map (caught_turn q) y → x ≡ y
same-note p q None None e = refl
same-note p q None (Some y) e = absurd cc
same-note p q (Some x) None e = absurd cc
same-note p q (Some x) (Some y) e =
    let same : caught_turn p x ≡ caught_turn q y = cc (e) in
    ap (λ (k : CaughtTurn). Some k.note) same

pub follows-shown : (r : Rules) (h : Held) (w : World) → FollowsWorld r h w → (events : List Event) → Stands r events (shown h) → FollowsWorld r h (run r start events)
follows-shown r h w f events s = record {
  events = events;
  ran = refl;
  posts = λ n. post-stays r w now n (post_at n h.posts) (nodes n) (notes n) (f.posts n);
  conns = λ c. conn-stays r w now c (conn_at c h.conns) (sym (s.home c) ∙ own.home c) nodes (sym (s.puts c) ∙ own.puts c) (f.conns c);
  table = record { shows = record { rows_are = s.rows; last_is = s.last }; unplanned = f.table.unplanned; failing_is = s.failing };
}
  where
    now : World
    now = run r start events

    own : Shows r w (shown h)
    own = shows-followed r h w f

    nodes : (n : ℕ) → now.nodes n ≡ w.nodes n
    nodes n = sym (s.nodes n) ∙ own.nodes n

    notes : (n : ℕ) → caught now n ≡ caught w n
    notes n = same-note (now.nodes n) (w.nodes n) (caught now n) (caught w n) (sym (s.read n) ∙ own.read n)

-- ---- a step

pub step-for : (e : Event) (old new : WorldState) (s : Said) → FollowsSome (rules_of old.book) old.holds → StepsIn (rules_of old.book) e old.holds s new.holds → new.book ≡ old.book → IsStep e old s new
step-for e old new s some steps book = record {
  idle = λ events st. steps.idle (after old events) (followed events st);
  lines = λ events st. steps.lines (after old events) (followed events st);
  stands = λ events st.
      let r = rules_of old.book in
      subst (λ (b : Declared). Stands (rules_of b) (events ++ e ∷ []) (shown new.holds)) (sym book)
      (subst (λ (x : World). Shows r x (shown new.holds)) (sym (run-append r start events (e ∷ [])))
      (shows-followed r new.holds (happen r (after old events) e) (steps.follows (after old events) (followed events st))));
  calls = λ events st. steps.calls (after old events) (followed events st);
  others = steps.others;
}
  where
    followed : (events : List Event) → StandsFor old events → FollowsWorld (rules_of old.book) old.holds (after old events)
    followed events st = follows-shown (rules_of old.book) old.holds some.0 some.1 events st

pub follows-on : (r : Rules) (e : Event) (h h' : Held) (s : Said) → FollowsSome r h → StepsIn r e h s h' → FollowsSome r h'
follows-on r e h h' s some steps = (happen r some.0 e, steps.follows some.0 some.1)

-- a step that wants no memory leaves what follows a history
pub unspent-follows : (r : Rules) (e : Event) (h h' : Held) (x : Result Said OutOfMemory) → IfOk x (λ s. StepsIn r e h s h') → FollowsSome r h → is_err x ≡ false → FollowsSome r h'
unspent-follows r e h h' (Ok s) steps some well = follows-on r e h h' s some steps
unspent-follows r e h h' (Err f) steps some well = absurd cc

pub stepped-for : (e : Event) (old new : WorldState) (x : Result Said OutOfMemory) → IfOk x (λ s. StepsIn (rules_of old.book) e old.holds s new.holds) → FollowsSome (rules_of old.book) old.holds → new.book ≡ old.book
    → IfOk x (λ s. IsStep e old s new)
stepped-for e old new (Ok s) steps some book = step-for e old new s some steps book
stepped-for e old new (Err f) steps some book = tt
