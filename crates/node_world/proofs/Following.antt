-- Each step of a world is the model's: what it says, and the world that it goes on to follow.
use Rattle.std.proofs.Common.{◌≡◌, ℕ, ◌==◌, Bool, true, false, cond, ◌&&◌, List, [], ◌∷◌, ◌++◌, ℤ, length, map, Option, Some, None, option_map, refl, sym, ap, subst, ◌∙◌, arith}
use Rattle.std.specs.BTreeMap.{BTreeMap, WritesThrough, get_by, is_at}
use Rattle.std.specs.Prelude.{IsSome}
use Rattle.std.specs.Ordering.{nat_cmp}
use Rattle.std.proofs.lemmas.Bool.Decides.{nat_tests}
use Rattle.cable_base.specs.Memory.{next_count}
use Rattle.cable_model.specs.declared.events.Event.{Event}
use Rattle.cable_model.specs.Journal.{Kept, past_of}
use Rattle.cable_model.specs.Legal.{Legal}
use Rattle.cable_model.specs.Steps.{Step}
use Rattle.cable_model.specs.Table.{contains, read_of}
use Rattle.cable_model.specs.Wants.{at_ask, lower, user_of}
use Rattle.cable_model.specs.Possible.{is_out, last_turn}
use Rattle.cable_model.specs.History.{Rules, World, start, run, at_home, home_of, logged, is_possible, happened, caught, held_names}
use Rattle.cable_model.specs.HistoryLaws.{planner_of}
use Rattle.cable_model.specs.Plans.{AlwaysAnswer}
use Rattle.cable_model.specs.Promise.{AllWorked}
use Rattle.cable_model.specs.Transcript.{lines_of, queued}
use Rattle.cable_model.proofs.JobsStay.{keeps_job}
use Rattle.cable_model.proofs.NodeSound.{plans-for}
use Rattle.cable_model.proofs.Restricting.{legal_restrictions}
use Rattle.cable_model.proofs.Sound.{Sound, start-sound, run-sound}
use Rattle.node_core.specs.Nodes.{NodeState, TakesNone, past}
use Rattle.table_core.specs.Memory.{MemRows}
use Rattle.table_core.specs.Tables.{TableState}
use Rattle.node_world.specs.declared.outstanding.TurnOut.{TurnOut}
use Rattle.node_world.specs.declared.outstanding.TurnOut.TheVariants as turn_out
use Rattle.node_world.specs.declared.parts.Opened.{Opened}
use Rattle.node_world.specs.declared.parts.Post.{Post}
use Rattle.node_world.specs.declared.saying.Said.{Said}
use Rattle.node_world.specs.Parts.{Held, IsNodeOf, IsPostIn, IsConnIn, IsWorkAt, IsTurnIn, IsTableOf, post_at, conn_at, FollowsWorld}
use Rattle.node_world.specs.Steps.{StepsIn, NodeStays, calls_node, calls_keeper, keeper_calls, idle_said}
use Rattle.node_world.proofs.WorksStay.{work-stays}

-- ---- steps in general

pub run-append : (r : Rules) (w : World) (es fs : List Event) → run r w (es ++ fs) ≡ run r (run r w es) fs
run-append r w [] fs = refl
run-append r w (e ∷ es) fs = run-append r (cond (is_possible r w e) (happened r w e) w) es fs

not-called : (b : Bool) (n : ℕ) → cond (b && false) (next_count n) n ≡ n
not-called true n = refl
not-called false n = refl

-- an idle event leaves the table
pub idle_steps : (r : Rules) (e : Event) (h h' : Held) → ((w : World) → FollowsWorld r h w → is_possible r w e ≡ false) → ((w : World) → FollowsWorld r h w → FollowsWorld r h' w)
    → h'.table ≡ h.table → ((n : ℕ) → calls_node h n e ≡ false → NodeStays h h' n) → StepsIn r e h idle_said h'
idle_steps r e h h' never stays table others = record {
  idle = λ w f. rw (never w f) refl;
  lines = λ w f. rw (never w f) refl;
  follows = λ w f. rw (never w f) (stays w f);
  calls = λ w f.
      ap (λ (t : TableState MemRows). t.keeper.failures.planned.calls) table
      ∙ sym (ap (λ b. cond (calls_keeper e && b) (next_count (keeper_calls h)) (keeper_calls h)) (never w f) ∙ not-called (calls_keeper e) (keeper_calls h));
  others = others;
}

-- a possible one
pub possible_steps : (r : Rules) (e : Event) (h h' : Held) (s : Said) → ((w : World) → FollowsWorld r h w → is_possible r w e ≡ true) → s.idle ≡ false
    → ((w : World) → FollowsWorld r h w → s.lines ≡ lines_of r w e) → ((w : World) → FollowsWorld r h w → is_possible r w e ≡ true → FollowsWorld r h' (happened r w e))
    → keeper_calls h' ≡ cond (calls_keeper e) (next_count (keeper_calls h)) (keeper_calls h) → ((n : ℕ) → calls_node h n e ≡ false → NodeStays h h' n) → StepsIn r e h s h'
possible_steps r e h h' s always busy lines follows calls others = record {
  idle = λ w f. rw (always w f) busy;
  lines = λ w f. rw (always w f) (lines w f);
  follows = λ w f. rw (always w f) (follows w f (always w f));
  calls = λ w f. calls ∙ sym (ap (λ b. cond (calls_keeper e && b) (next_count (keeper_calls h)) (keeper_calls h)) (always w f) ∙ ap (λ b. cond b (next_count (keeper_calls h)) (keeper_calls h)) (with-true (calls_keeper e)));
  others = others;
}
  where
    with-true : (b : Bool) → (b && true) ≡ b
    with-true true = refl
    with-true false = refl

-- the table was not called
pub same-calls : (h h' : Held) → h'.table ≡ h.table → keeper_calls h' ≡ keeper_calls h
same-calls h h' table = ap (λ (t : TableState MemRows). t.keeper.failures.planned.calls) table

-- what a world that is followed becomes
pub record Comes (r : Rules) (h' : Held) (now : World) : Type 0 where
  pub posts : (n : ℕ) → IsPostIn r now n (post_at n h'.posts)
  pub conns : (c : ℕ) → IsConnIn r now c (conn_at c h'.conns)
  pub table : IsTableOf h'.table now.table now.failing

pub comes : (r : Rules) (h h' : Held) (w now : World) (e : Event) → FollowsWorld r h w → is_possible r w e ≡ true → happened r w e ≡ now → Comes r h' now → FollowsWorld r h' (happened r w e)
comes r h h' w now e f may is k =
    subst (FollowsWorld r h') (sym is)
    (record {
      events = f.events ++ e ∷ [];
      ran = sym is ∙ sym (ap (λ b. cond b (happened r w e) w) may) ∙ ap (λ (x : World). run r x (e ∷ [])) f.ran ∙ sym (run-append r start f.events (e ∷ []));
      posts = k.posts;
      conns = k.conns;
      table = k.table;
    })

-- ---- what is known of a world that is followed

pub sound-now : (r : Rules) (h : Held) (w : World) → FollowsWorld r h w → Sound r w
sound-now r h w f = subst (Sound r) (sym f.ran) (run-sound r start f.events (start-sound r))

pub legal-now : (r : Rules) → AlwaysAnswer r.callbacks → (h : Held) (w : World) → FollowsWorld r h w → (n : ℕ) → Legal (w.nodes n)
legal-now r a h w f n = subst (λ (x : World). Legal (x.nodes n)) (sym f.ran) ((legal_restrictions r a f.events).nodes n)

pub worked-now : (r : Rules) (h : Held) (w : World) → FollowsWorld r h w → (n c : ℕ) → AllWorked (planner_of r.callbacks (user_of c (w.nodes n))) c (w.nodes n)
worked-now r h w f n c = ((sound-now r h w f).nodes n).worked c (planner_of r.callbacks (user_of c (w.nodes n))) (plans-for r.callbacks (user_of c (w.nodes n)))

pub post-of : (r : Rules) (h : Held) (w : World) (n : ℕ) (o : Option Post) → FollowsWorld r h w → post_at n h.posts ≡ o → IsPostIn r w n o
post-of r h w n o f at = subst (IsPostIn r w n) at (f.posts n)

pub conn-of : (r : Rules) (h : Held) (w : World) (c : ℕ) (o : Option Opened) → FollowsWorld r h w → conn_at c h.conns ≡ o → IsConnIn r w c o
conn-of r h w c o f at = subst (IsConnIn r w c) at (f.conns c)

pub node-of : (r : Rules) (h : Held) (w : World) (n : ℕ) (p : Post) → FollowsWorld r h w → post_at n h.posts ≡ Some p → IsNodeOf n p.node (w.nodes n)
node-of r h w n p f at = (post-of r h w n (Some p) f at).0

pub turn-of : (r : Rules) (h : Held) (w : World) (n : ℕ) (p : Post) → FollowsWorld r h w → post_at n h.posts ≡ Some p → IsTurnIn r w n p.turn
turn-of r h w n p f at = (post-of r h w n (Some p) f at).1

pub unbooted : (r : Rules) (h : Held) (w : World) (n : ℕ) → FollowsWorld r h w → post_at n h.posts ≡ None → w.nodes n ≡ []
unbooted r h w n f at = post-of r h w n None f at

-- ---- where a connection was opened

pub at-none : (w : World) (c : ℕ) (test : List Step → Bool) → w.home c ≡ None → at_home w c test ≡ false
at-none w c test e = rw (e, at_home) refl

pub at-some : (w : World) (c n : ℕ) (test : List Step → Bool) → w.home c ≡ Some n → at_home w c test ≡ test (w.nodes n)
at-some w c n test e = rw (e, at_home) refl

-- no test holds of a number that was not opened
pub never-home : (r : Rules) (h : Held) (w : World) (c : ℕ) (test : List Step → Bool) → FollowsWorld r h w → conn_at c h.conns ≡ None → at_home w c test ≡ false
never-home r h w c test f at = at-none w c test (conn-of r h w c None f at).0

-- a test of one that was opened is made on its node
pub tested-home : (r : Rules) (h : Held) (w : World) (c : ℕ) (o : Opened) (test : List Step → Bool) → FollowsWorld r h w → conn_at c h.conns ≡ Some o → at_home w c test ≡ test (w.nodes o.node.0)
tested-home r h w c o test f at = at-some w c o.node.0 test (conn-of r h w c (Some o) f at).0

pub home-is : (r : Rules) (h : Held) (w : World) (c : ℕ) (o : Opened) → FollowsWorld r h w → conn_at c h.conns ≡ Some o → home_of w c ≡ o.node.0
home-is r h w c o f at = let e = (conn-of r h w c (Some o) f at).0 in rw e refl

-- ---- numbers

pub is-same : (m n : ℕ) → (m == n) ≡ true → m ≡ n
is-same m n e = grind (arith, nat_tests)

pub is-self : (n : ℕ) → (n == n) ≡ true
is-self n = grind (arith, nat_tests)

pub hits : (n m : ℕ) → (m == n) ≡ true → is_at (nat_cmp n) m ≡ true
hits n m e = grind (arith, nat_tests)

pub misses : (n m : ℕ) → (m == n) ≡ false → is_at (nat_cmp n) m ≡ false
misses n m e = grind (arith, nat_tests)

pub turned : (n m : ℕ) → (m == n) ≡ false → (n == m) ≡ false
turned n m e = grind (arith, nat_tests)

-- ---- the turn

-- what is known of the turn of a node is the same
pub record SameTurn (w now : World) (n : ℕ) : Type 0 where
  pub out : is_out (now.nodes n) ≡ is_out (w.nodes n)
  pub last : last_turn (now.nodes n) ≡ last_turn (w.nodes n)
  pub low : lower (now.nodes n) ≡ lower (w.nodes n)
  pub asked : at_ask (now.nodes n) ≡ at_ask (w.nodes n)
  pub note_is : caught now n ≡ caught w n

pub turn-stays : (r : Rules) (w now : World) (n : ℕ) (t : TurnOut) → SameTurn w now n → IsTurnIn r w n t → IsTurnIn r now n t
turn-stays r w now n turn_out.None s h = s.out ∙ h
turn-stays r w now n (turn_out.Asked t) s h = record {
  out = s.out ∙ h.out;
  unread = s.note_is ∙ h.unread;
  node = h.node;
  number = h.number ∙ sym s.last;
  lower_is = h.lower_is ∙ sym s.low;
  asks = λ x. h.asks x ∙ sym (ap (λ (p : List Step). contains (hashes_at r p) x) s.asked);
}
  where
    hashes_at : Rules → List Step → List ℤ
    hashes_at r p = map r.hash (held_names p)
turn-stays r w now n (turn_out.Read k) s h = record {
  out = s.out ∙ h.out;
  note = s.note_is ∙ h.note;
  node = h.node;
  number = h.number ∙ sym s.last;
  lower_is = h.lower_is ∙ sym s.low;
}

-- ---- nodes

-- a node with an entry more, from which nothing was taken out, and on whose connections nothing was queued
pub entered : (n : ℕ) (k k' : NodeState) (e : Step) (steps : List Step) → k'.no ≡ k.no → past k' ≡ e ∷ past k → TakesNone k k' → ((c : ℕ) → queued c (e ∷ steps) ≡ queued c steps) → IsNodeOf n k steps
    → IsNodeOf n k' (e ∷ steps)
entered n k k' e steps same_no grown takes quiet is = record {
  number = ap (λ x. x.0) same_no ∙ is.number;
  journal = grown ∙ ap (λ (p : List Step). e ∷ p) is.journal;
  booted = refl;
  drained = λ c. takes c ∙ is.drained c ∙ ap (λ ls. length ls) (sym (quiet c));
}

-- a node to which nothing happened
pub node-unmoved : (n : ℕ) (k k' : NodeState) (steps : List Step) → k'.no ≡ k.no → past k' ≡ past k → TakesNone k k' → IsNodeOf n k steps → IsNodeOf n k' steps
node-unmoved n k k' steps same_no same takes is = record {
  number = ap (λ x. x.0) same_no ∙ is.number;
  journal = same ∙ is.journal;
  booted = is.booted;
  drained = λ c. takes c ∙ is.drained c;
}

pub node-same : (n : ℕ) (k k' : NodeState) (steps : List Step) → k'.no ≡ k.no → k'.kept ≡ k.kept → TakesNone k k' → IsNodeOf n k steps → IsNodeOf n k' steps
node-same n k k' steps same_no kept takes is = node-unmoved n k k' steps same_no (ap (λ (x : Kept). past_of x) kept) takes is

-- ---- posts

-- the post of the node n was p and is p', and the others are as they were
pub record PostMoves (n : ℕ) (p p' : Post) (old new : List (ℕ × Post)) : Type 0 where
  pub was : post_at n old ≡ Some p
  pub now : (m : ℕ) → post_at m new ≡ cond (is_at (nat_cmp n) m) (Some p') (post_at m old)

-- so is one that was written through a look-up
pub post-written : (n : ℕ) (p p' : Post) (m m' : BTreeMap ℕ Post) → Some p ≡ get_by (nat_cmp n) m → WritesThrough nat_cmp (nat_cmp n) m p' m' → PostMoves n p p' m.entries m'.entries
post-written n p p' m m' found through = record { was = sym found; now = (through.3 (subst (λ (o : Option Post). IsSome o) found refl)).0 }

pub post-now : (n : ℕ) (p p' : Post) (old new : List (ℕ × Post)) → PostMoves n p p' old new → post_at n new ≡ Some p'
post-now n p p' old new k = k.now n ∙ ap (λ b. cond b (Some p') (post_at n old)) (hits n n (is-self n))

pub post-other : (n m : ℕ) (p p' : Post) (old new : List (ℕ × Post)) → PostMoves n p p' old new → (m == n) ≡ false → post_at m new ≡ post_at m old
post-other n m p p' old new k e = k.now m ∙ ap (λ b. cond b (Some p') (post_at m old)) (misses n m e)

-- the nodes that an event doesn't call are as they were
pub others-as : (n : ℕ) (p p' : Post) (h h' : Held) → PostMoves n p p' h.posts h'.posts → (m : ℕ) → (n == m) ≡ false → NodeStays h h' m
others-as n p p' h h' k m e = ap (λ o. option_map (λ (x : Post). x.node) o) (post-other n m p p' h.posts h'.posts k (turned m n e))

pub all-stay : (h h' : Held) → h'.posts ≡ h.posts → (n : ℕ) → NodeStays h h' n
all-stay h h' same n = ap (λ (ps : List (ℕ × Post)). option_map (λ (x : Post). x.node) (post_at n ps)) same

-- a post of which nothing changed in the world
pub post-stays : (r : Rules) (w now : World) (n : ℕ) (o : Option Post) → now.nodes n ≡ w.nodes n → caught now n ≡ caught w n → IsPostIn r w n o → IsPostIn r now n o
post-stays r w now n None same note_is h = same ∙ h
post-stays r w now n (Some p) same note_is h = (
  subst (IsNodeOf n p.node) (sym same) h.0,
  turn-stays r w now n p.turn (record { out = ap is_out same; last = ap last_turn same; low = ap lower same; asked = ap at_ask same; note_is = note_is }) h.1,
)

-- the posts where one of them changed
pub posts-move : (r : Rules) (h h' : Held) (w now : World) (n : ℕ) (p p' : Post) → FollowsWorld r h w → PostMoves n p p' h.posts h'.posts → IsPostIn r now n (Some p')
    → ((m : ℕ) → (m == n) ≡ false → now.nodes m ≡ w.nodes m) → ((m : ℕ) → (m == n) ≡ false → caught now m ≡ caught w m) → (m : ℕ) → IsPostIn r now m (post_at m h'.posts)
posts-move r h h' w now n p p' f k own nodes notes m = by-test (m == n) refl
  where
    by-test : (b : Bool) → (m == n) ≡ b → IsPostIn r now m (post_at m h'.posts)
    by-test true e =
        let same = is-same m n e in
        subst (λ x. IsPostIn r now x (post_at x h'.posts)) (sym same) (subst (IsPostIn r now n) (sym (post-now n p p' h.posts h'.posts k)) own)
    by-test false e = subst (IsPostIn r now m) (sym (post-other n m p p' h.posts h'.posts k e)) (post-stays r w now m (post_at m h.posts) (nodes m e) (notes m e) (f.posts m))

-- ---- connections

-- c was o and is o', and the others are as they were
pub record ConnMoves (c : ℕ) (o o' : Opened) (old new : List (ℕ × Opened)) : Type 0 where
  pub was : conn_at c old ≡ Some o
  pub now : (d : ℕ) → conn_at d new ≡ cond (is_at (nat_cmp c) d) (Some o') (conn_at d old)

-- so is one that was written through a look-up
pub conn-written : (c : ℕ) (o o' : Opened) (m m' : BTreeMap ℕ Opened) → Some o ≡ get_by (nat_cmp c) m → WritesThrough nat_cmp (nat_cmp c) m o' m' → ConnMoves c o o' m.entries m'.entries
conn-written c o o' m m' found through = record { was = sym found; now = (through.3 (subst (λ (x : Option Opened). IsSome x) found refl)).0 }

-- a connection behind an entry of the node n that leaves its job
pub conn-entered : (r : Rules) (h : Held) (w : World) (n : ℕ) (e : Step) → FollowsWorld r h w → (c : ℕ) → keeps_job c e ≡ true → (o : Option Opened) → IsConnIn r w c o → IsConnIn r (logged w n e) c o
conn-entered r h w n e f c keeps None k = k
conn-entered r h w n e f c keeps (Some o) k = (k.0, by-test (o.node.0 == n) refl)
  where
    by-test : (b : Bool) → (o.node.0 == n) ≡ b → IsWorkAt r.callbacks o.node.0 c (cond (o.node.0 == n) (e ∷ w.nodes n) (w.nodes o.node.0)) (w.puts c) o.work
    by-test true is =
        let same = is-same o.node.0 n is in
        subst (λ (p : List Step). IsWorkAt r.callbacks o.node.0 c p (w.puts c) o.work) (sym (ap (λ b. cond b (e ∷ w.nodes n) (w.nodes o.node.0)) is))
        (work-stays (planner_of r.callbacks (user_of c (w.nodes n))) r.callbacks o.node.0 c e (w.nodes n) (w.puts c) o.work (worked-now r h w f n c) keeps
        (subst (λ m. IsWorkAt r.callbacks o.node.0 c (w.nodes m) (w.puts c) o.work) same k.1))
    by-test false is = subst (λ (p : List Step). IsWorkAt r.callbacks o.node.0 c p (w.puts c) o.work) (sym (ap (λ b. cond b (e ∷ w.nodes n) (w.nodes o.node.0)) is)) k.1

-- the connections where one of them changed
pub conns-move : (r : Rules) (h h' : Held) (now : World) (c : ℕ) (o' : Opened) → ((d : ℕ) → conn_at d h'.conns ≡ cond (is_at (nat_cmp c) d) (Some o') (conn_at d h.conns))
    → IsConnIn r now c (Some o') → ((d : ℕ) → (d == c) ≡ false → IsConnIn r now d (conn_at d h.conns)) → (d : ℕ) → IsConnIn r now d (conn_at d h'.conns)
conns-move r h h' now c o' moves own others d = by-test (d == c) refl
  where
    by-test : (b : Bool) → (d == c) ≡ b → IsConnIn r now d (conn_at d h'.conns)
    by-test true e =
        let here : conn_at d h'.conns ≡ Some o' = moves d ∙ ap (λ b. cond b (Some o') (conn_at d h.conns)) (hits c d e) in
        subst (IsConnIn r now d) (sym here) (subst (λ x. IsConnIn r now x (Some o')) (sym (is-same d c e)) own)
    by-test false e =
        let there : conn_at d h'.conns ≡ conn_at d h.conns = moves d ∙ ap (λ b. cond b (Some o') (conn_at d h.conns)) (misses c d e) in
        subst (IsConnIn r now d) (sym there) (others d e)

-- ---- entries

-- the journals of the other nodes
pub other-nodes : (w : World) (n m : ℕ) (e : Step) → (m == n) ≡ false → (logged w n e).nodes m ≡ w.nodes m
other-nodes w n m e is = ap (λ b. cond b (e ∷ w.nodes n) (w.nodes m)) is

pub own-node : (w : World) (n : ℕ) (e : Step) → (logged w n e).nodes n ≡ e ∷ w.nodes n
own-node w n e = ap (λ b. cond b (e ∷ w.nodes n) (w.nodes n)) (is-self n)

-- .. and what their turns caught
pub other-notes : (w : World) (n m : ℕ) (e : Step) → (m == n) ≡ false → caught (logged w n e) m ≡ caught w m
other-notes w n m e is = ap (λ (p : List Step). cond (is_out p) (read_of m (last_turn p) w.table) None) (other-nodes w n m e is)

-- the node n of a world with an entry more, and its turn, where that looks at the node's journal alone
pub post-entered : (r : Rules) (w : World) (n : ℕ) (e : Step) (p : Post) → IsNodeOf n p.node (e ∷ w.nodes n) → IsTurnIn r (logged w n e) n p.turn → IsPostIn r (logged w n e) n (Some p)
post-entered r w n e p node turn = (subst (IsNodeOf n p.node) (sym (own-node w n e)) node, turn)

-- the turn behind an entry that is of no turn
pub turn-entered : (r : Rules) (w : World) (n : ℕ) (e : Step) (t : TurnOut) → is_out (e ∷ w.nodes n) ≡ is_out (w.nodes n) → last_turn (e ∷ w.nodes n) ≡ last_turn (w.nodes n)
    → lower (e ∷ w.nodes n) ≡ lower (w.nodes n) → at_ask (e ∷ w.nodes n) ≡ at_ask (w.nodes n) → IsTurnIn r w n t → IsTurnIn r (logged w n e) n t
turn-entered r w n e t out last low asked h =
    let own = own-node w n e in
    turn-stays r w (logged w n e) n t
    (record {
      out = ap is_out own ∙ out;
      last = ap last_turn own ∙ last;
      low = ap lower own ∙ low;
      asked = ap at_ask own ∙ asked;
      note_is =
          ap (λ (p : List Step). cond (is_out p) (read_of n (last_turn p) w.table) None) own
          ∙ ap (λ b. cond b (read_of n (last_turn (e ∷ w.nodes n)) w.table) None) out
          ∙ ap (λ k. cond (is_out (w.nodes n)) (read_of n k w.table) None) last;
    })
    h

-- an entry of the node n that opens nothing, and is no Take or Finish
pub one-entry : (r : Rules) (h h' : Held) (w : World) (n : ℕ) (e : Step) (p p' : Post) → FollowsWorld r h w → PostMoves n p p' h.posts h'.posts → h'.conns ≡ h.conns → h'.table ≡ h.table
    → IsNodeOf n p'.node (e ∷ w.nodes n) → IsTurnIn r (logged w n e) n p'.turn → ((c : ℕ) → keeps_job c e ≡ true) → Comes r h' (logged w n e)
one-entry r h h' w n e p p' f moves conns table node turn keeps = record {
  posts = posts-move r h h' w (logged w n e) n p p' f moves (post-entered r w n e p' node turn) (λ m is. other-nodes w n m e is) (λ m is. other-notes w n m e is);
  conns = λ c. subst (λ (os : List (ℕ × Opened)). IsConnIn r (logged w n e) c (conn_at c os)) (sym conns) (conn-entered r h w n e f c (keeps c) (conn_at c h.conns) (f.conns c));
  table = subst (λ (t : TableState MemRows). IsTableOf t w.table w.failing) (sym table) f.table;
}

-- ---- nothing happened

-- a world that is held as before but for a post to whose node nothing happened
pub follows-same : (r : Rules) (h h' : Held) (w : World) (n : ℕ) (p p' : Post) → FollowsWorld r h w → PostMoves n p p' h.posts h'.posts → h'.conns ≡ h.conns → h'.table ≡ h.table → IsNodeOf n p'.node (w.nodes n)
    → p'.turn ≡ p.turn → FollowsWorld r h' w
follows-same r h h' w n p p' f moves conns table node turn = record {
  events = f.events;
  ran = f.ran;
  posts = posts-move r h h' w w n p p' f moves (node, subst (IsTurnIn r w n) (sym turn) (turn-of r h w n p f moves.was)) (λ m is. refl) (λ m is. refl);
  conns = λ c. subst (λ (os : List (ℕ × Opened)). IsConnIn r w c (conn_at c os)) (sym conns) (f.conns c);
  table = subst (λ (t : TableState MemRows). IsTableOf t w.table w.failing) (sym table) f.table;
}

-- .. or with all of it as before
pub follows-as : (r : Rules) (h h' : Held) (w : World) → FollowsWorld r h w → ((n : ℕ) → post_at n h'.posts ≡ post_at n h.posts) → ((c : ℕ) → conn_at c h'.conns ≡ conn_at c h.conns) → h'.table ≡ h.table
    → FollowsWorld r h' w
follows-as r h h' w f posts conns table = record {
  events = f.events;
  ran = f.ran;
  posts = λ n. subst (IsPostIn r w n) (sym (posts n)) (f.posts n);
  conns = λ c. subst (IsConnIn r w c) (sym (conns c)) (f.conns c);
  table = subst (λ (t : TableState MemRows). IsTableOf t w.table w.failing) (sym table) f.table;
}
