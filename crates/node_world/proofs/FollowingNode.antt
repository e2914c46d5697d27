-- A stop and the going of a client are the model's. What is queued on one connection is taken out whole.
use Rattle.std.proofs.Common.{◌≡◌, ℕ, ◌==◌, Bool, true, false, List, [], ◌∷◌, ◌++◌, ◌≤◌, length, length-append, drop, Some, None, option_map, refl, sym, ap, subst, ◌∙◌, arith}
use Rattle.std.proofs.Math.Seq.{drop-append_seam}
use Rattle.std.proofs.lemmas.Bool.Decides.{nat_tests}
use Rattle.cable_base.specs.declared.numbers.ConnNo.{ConnNo}
use Rattle.cable_base.specs.declared.numbers.NodeNo.{NodeNo}
use Rattle.cable_model.specs.declared.events.Event.{Event}
use Rattle.cable_model.specs.declared.events.Event.TheVariants as event
use Rattle.cable_model.specs.declared.lines.Line.{Line}
use Rattle.cable_model.specs.Journal.{Kept, past_of}
use Rattle.cable_model.specs.Steps.{Step}
use Rattle.cable_model.specs.Possible.{is_receiving, can_drop}
use Rattle.cable_model.specs.History.{Rules, World, logged, at_home, is_possible}
use Rattle.cable_model.specs.Transcript.{queued}
use Rattle.node_core.specs.Nodes.{NodeState, TakesNone, past, taken_out}
use Rattle.node_world.specs.declared.outstanding.TurnOut.{TurnOut}
use Rattle.node_world.specs.declared.parts.Opened.{Opened}
use Rattle.node_world.specs.declared.parts.Post.{Post}
use Rattle.node_world.specs.Draining.{left_on}
use Rattle.node_world.specs.Parts.{Held, IsNodeOf, IsTurnIn, FollowsWorld, post_at, conn_at}
use Rattle.node_world.specs.Steps.{StepsIn, is_on, idle_said, silent_said}
use Rattle.node_world.proofs.Following.{idle_steps, possible_steps, same-calls, comes, node-of, turn-of, unbooted, tested-home, home-is, entered, node-same, PostMoves, others-as, turn-entered, one-entry, follows-same, follows-as}

-- ---- an event whose number or node isn't there

-- what is held is as it was
pub record SameHeld (h h' : Held) : Type 0 where
  pub posts : (n : ℕ) → post_at n h'.posts ≡ post_at n h.posts
  pub conns : (c : ℕ) → conn_at c h'.conns ≡ conn_at c h.conns
  pub table : h'.table ≡ h.table

pub same-self : (h : Held) → SameHeld h h
same-self h = record { posts = λ n. refl; conns = λ c. refl; table = refl }

pub nothing_steps : (r : Rules) (e : Event) (h h' : Held) → SameHeld h h' → ((w : World) → FollowsWorld r h w → is_possible r w e ≡ false) → StepsIn r e h idle_said h'
nothing_steps r e h h' same never =
    idle_steps r e h h' never (λ w f. follows-as r h h' w f same.posts same.conns same.table) same.table
    (λ n called. ap (option_map (λ (p : Post). p.node)) (same.posts n))

-- a test of a journal on which nothing was opened, on the node of a connection
pub unbooted-home : (r : Rules) (h : Held) (w : World) (c : ℕ) (o : Opened) (test : List Step → Bool) → FollowsWorld r h w → conn_at c h.conns ≡ Some o → post_at o.node.0 h.posts ≡ None → test [] ≡ false
    → at_home w c test ≡ false
unbooted-home r h w c o test f at none shut = tested-home r h w c o test f at ∙ ap test (unbooted r h w o.node.0 f none) ∙ shut

-- the nodes that an event of a connection doesn't call
pub off-node : (c n : ℕ) (o : Opened) (h : Held) → conn_at c h.conns ≡ Some o → is_on n (conn_at c h.conns) ≡ false → (o.node.0 == n) ≡ false
off-node c n o h at off = sym (ap (is_on n) at) ∙ off

-- ---- a stop

pub stop_steps : (r : Rules) (h h' : Held) (node : NodeNo) (p p' : Post) → PostMoves node.0 p p' h.posts h'.posts → h'.conns ≡ h.conns → h'.table ≡ h.table → p'.node.no ≡ p.node.no
    → past p'.node ≡ Step.Stop ∷ past p.node → TakesNone p.node p'.node → p'.turn ≡ p.turn → StepsIn r (event.Stop node) h silent_said h'
stop_steps r h h' node p p' moves conns table same_no grown takes turn =
    possible_steps r (event.Stop node) h h' silent_said (λ w f. (node-of r h w node.0 p f moves.was).booted) refl (λ w f. refl)
    (λ w f may. comes r h h' w (logged w node.0 Step.Stop) (event.Stop node) f may refl
    (one-entry r h h' w node.0 Step.Stop p p' f moves conns table (entered node.0 p.node p'.node Step.Stop (w.nodes node.0) same_no grown takes (λ c. refl) (node-of r h w node.0 p f moves.was))
    (turn-entered r w node.0 Step.Stop p'.turn refl refl refl refl (subst (λ (t : TurnOut). IsTurnIn r w node.0 t) (sym turn) (turn-of r h w node.0 p f moves.was))) (λ c. refl)))
    (same-calls h h' table) (λ n e. others-as node.0 p p' h h' moves n e)

-- ---- a client that goes

pub receives-home : (r : Rules) (h : Held) (w : World) (c : ℕ) (o : Opened) → FollowsWorld r h w → conn_at c h.conns ≡ Some o → at_home w c (is_receiving c) ≡ is_receiving c (w.nodes o.node.0)
receives-home r h w c o f at = tested-home r h w c o (is_receiving c) f at

receives-in : (c n : ℕ) (k : NodeState) (steps : List Step) (b : Bool) → IsNodeOf n k steps → b ≡ can_drop c (past k) → b ≡ is_receiving c steps
receives-in c n k steps b is e = e ∙ ap (is_receiving c) is.journal

pub drop_idle : (r : Rules) (h h' : Held) (c : ConnNo) (o : Opened) (p p' : Post) → conn_at c.0 h.conns ≡ Some o → PostMoves o.node.0 p p' h.posts h'.posts → h'.conns ≡ h.conns → h'.table ≡ h.table → p'.node.no ≡ p.node.no
    → p'.node.kept ≡ p.node.kept → TakesNone p.node p'.node → p'.turn ≡ p.turn → false ≡ can_drop c.0 (past p.node) → StepsIn r (event.Drop c) h idle_said h'
drop_idle r h h' c o p p' at moves conns table same_no kept takes turn shut =
    idle_steps r (event.Drop c) h h' (λ w f. receives-home r h w c.0 o f at ∙ sym (receives-in c.0 o.node.0 p.node (w.nodes o.node.0) false (node-of r h w o.node.0 p f moves.was) shut))
    (λ w f. follows-same r h h' w o.node.0 p p' f moves conns table (node-same o.node.0 p.node p'.node (w.nodes o.node.0) same_no kept takes (node-of r h w o.node.0 p f moves.was)) turn)
    table (λ n off. others-as o.node.0 p p' h h' moves n (off-node c.0 n o h at off))

pub drop_steps : (r : Rules) (h h' : Held) (c : ConnNo) (o : Opened) (p p' : Post) → conn_at c.0 h.conns ≡ Some o → PostMoves o.node.0 p p' h.posts h'.posts → h'.conns ≡ h.conns → h'.table ≡ h.table → p'.node.no ≡ p.node.no
    → past p'.node ≡ Step.Drop c.0 ∷ past p.node → TakesNone p.node p'.node → p'.turn ≡ p.turn → true ≡ can_drop c.0 (past p.node) → StepsIn r (event.Drop c) h silent_said h'
drop_steps r h h' c o p p' at moves conns table same_no grown takes turn open_is =
    possible_steps r (event.Drop c) h h' silent_said (λ w f. receives-home r h w c.0 o f at ∙ sym (receives-in c.0 o.node.0 p.node (w.nodes o.node.0) true (node-of r h w o.node.0 p f moves.was) open_is)) refl (λ w f. refl)
    (λ w f may. comes r h h' w (logged w o.node.0 (Step.Drop c.0)) (event.Drop c) f may (ap (λ k. logged w k (Step.Drop c.0)) (home-is r h w c.0 o f at))
    (one-entry r h h' w o.node.0 (Step.Drop c.0) p p' f moves conns table
    (entered o.node.0 p.node p'.node (Step.Drop c.0) (w.nodes o.node.0) same_no grown takes (λ d. refl) (node-of r h w o.node.0 p f moves.was))
    (turn-entered r w o.node.0 (Step.Drop c.0) p'.turn refl refl refl refl (subst (λ (t : TurnOut). IsTurnIn r w o.node.0 t) (sym turn) (turn-of r h w o.node.0 p f moves.was))) (λ d. refl)))
    (same-calls h h' table) (λ n off. others-as o.node.0 p p' h h' moves n (off-node c.0 n o h at off))

-- ---- what is queued on one connection

-- an entry that queues these lines on c, all of which were taken out
pub drained-entry : (x : ℕ) (n m n' : NodeState) (e : Step) (c : ℕ) (steps : List Step) → m.no ≡ n.no → past m ≡ e ∷ past n → TakesNone n m → n'.kept ≡ m.kept → n'.no ≡ m.no → taken_out c n' ≡ length (queued c (past m))
    → ((d : ℕ) → (d == c) ≡ false → taken_out d n' ≡ taken_out d m) → ((d : ℕ) → (c == d) ≡ false → queued d (e ∷ steps) ≡ queued d steps) → IsNodeOf x n steps → IsNodeOf x n' (e ∷ steps)
drained-entry x n m n' e c steps same_no grown takes kept no_now taken others quiet is = record {
  number = ap (λ y. y.0) (no_now ∙ same_no) ∙ is.number;
  journal = ap (λ (k : Kept). past_of k) kept ∙ now;
  booted = refl;
  drained = λ d. by-test d (c == d) refl;
}
  where
    now : past m ≡ e ∷ steps
    now = grown ∙ ap (λ (p : List Step). e ∷ p) is.journal

    by-test : (d : ℕ) (b : Bool) → (c == d) ≡ b → taken_out d n' ≡ length (queued d (e ∷ steps))
    by-test d true b =
        let same : c ≡ d = grind (arith, nat_tests) in
        subst (λ k. taken_out k n' ≡ length (queued k (e ∷ steps))) same (taken ∙ ap (λ (p : List Step). length (queued c p)) now)
    by-test d false b =
        let other : (d == c) ≡ false = grind (arith, nat_tests) in
        others d other ∙ takes d ∙ is.drained d ∙ ap (λ ls. length ls) (sym (quiet d b))

-- those lines are what was left there
pub left-lines : (x : ℕ) (n m : NodeState) (e : Step) (c : ℕ) (steps : List Step) (lines : List Line) → past m ≡ e ∷ past n → TakesNone n m → queued c (e ∷ steps) ≡ queued c steps ++ lines → IsNodeOf x n steps
    → left_on m c ≡ lines
left-lines x n m e c steps lines grown takes told is =
    ap (λ (p : List Step). drop (taken_out c m) (queued c p)) (grown ∙ ap (λ (p : List Step). e ∷ p) is.journal)
    ∙ ap (λ k. drop k (queued c (e ∷ steps))) (takes c ∙ is.drained c)
    ∙ ap (λ ls. drop (length (queued c steps)) ls) told
    ∙ drop-append_seam (queued c steps) lines

-- at most all were taken out
pub taken-within : (x : ℕ) (n m : NodeState) (e : Step) (c : ℕ) (steps : List Step) (lines : List Line) → past m ≡ e ∷ past n → TakesNone n m → queued c (e ∷ steps) ≡ queued c steps ++ lines → IsNodeOf x n steps
    → taken_out c m ≤ length (queued c (past m))
taken-within x n m e c steps lines grown takes told is =
    subst (λ (p : List Step). taken_out c m ≤ length (queued c p)) (sym (grown ∙ ap (λ (p : List Step). e ∷ p) is.journal))
    (subst (λ k. k ≤ length (queued c (e ∷ steps))) (sym (takes c ∙ is.drained c))
    (subst (λ (ls : List Line). length (queued c steps) ≤ length ls) (sym told) (omega (arith, length-append (queued c steps) lines))))
