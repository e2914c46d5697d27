-- The opens of a world are the model's.
use Rattle.std.proofs.Common.{◌≡◌, ◌≤◌, ℕ, ◌==◌, Bool, true, false, cond, not, ◌&&◌, List, [], ◌∷◌, ◌++◌, length, Option, Some, None, Ok, Err, refl, sym, ap, subst, ◌∙◌, arith}
use Rattle.std.specs.Prelude.{is_none, is_some, ltb}
use Rattle.std.specs.BTreeMap.{is_at}
use Rattle.std.specs.Ordering.{nat_cmp}
use Rattle.std.proofs.lemmas.Bool.Decides.{nat_tests}
use Rattle.cable_base.specs.declared.numbers.ConnNo.{ConnNo}
use Rattle.cable_base.specs.declared.numbers.NodeNo.{NodeNo}
use Rattle.cable_model.specs.declared.events.Event.TheVariants as event
use Rattle.cable_model.specs.Limits.{most_connections}
use Rattle.cable_model.specs.Pieces.{seat}
use Rattle.cable_model.specs.Plans.{AlwaysAnswer}
use Rattle.cable_model.specs.Steps.{Step}
use Rattle.cable_model.specs.Possible.{has_job, is_opened, live_count, can_open}
use Rattle.cable_model.specs.History.{Rules, World, logged, with_home, is_possible}
use Rattle.cable_model.specs.Transcript.{conn_line, greeting, queued}
use Rattle.cable_model.specs.Wants.{user_of}
use Rattle.cable_model.proofs.JobsStay.{userless-seat}
use Rattle.node_core.specs.declared.opening.OpenFault.{OpenFault}
use Rattle.node_core.specs.declared.opening.OpenFault.TheVariants as fault
use Rattle.node_core.specs.Opening.{open_fault, RefusesOpen}
use Rattle.node_core.specs.Nodes.{NodeState, ReadsSame, TakesNone, past, taken_out}
use Rattle.table_core.specs.Memory.{MemRows}
use Rattle.table_core.specs.Tables.{TableState}
use Rattle.node_world.specs.declared.outstanding.TurnOut.{TurnOut}
use Rattle.node_world.specs.declared.parts.Opened.{Opened}
use Rattle.node_world.specs.declared.parts.Post.{Post}
use Rattle.node_world.specs.declared.saying.Said.{Said}
use Rattle.node_world.specs.Draining.{left_on}
use Rattle.node_world.specs.Parts.{Held, IsNodeOf, IsConnIn, IsPostIn, IsTurnIn, IsTableOf, FollowsWorld, FollowsSome, post_at, conn_at}
use Rattle.node_world.specs.Steps.{StepsIn, idle_said}
use Rattle.node_world.proofs.Following.{idle_steps, possible_steps, same-calls, comes, sound-now, legal-now, conn-of, node-of, turn-of, is-self, turned, node-same, turn-stays, PostMoves, others-as, posts-move, conn-entered, conns-move, other-nodes, own-node, other-notes, post-entered, turn-entered, follows-same}
use Rattle.node_world.proofs.FollowingNode.{drained-entry, left-lines, taken-within}

-- ---- the cause for which it isn't opened

pub open-done : {A : Type 0} (x : A) (o : Option OpenFault) → RefusesOpen o (Ok x) → o ≡ None
open-done x None h = refl
open-done x (Some f) h = absurd cc

pub open-refused : (A : Type 0) (e : OpenFault) (o : Option OpenFault) → (e ≡ fault.OutOfMemory → ⊥) → RefusesOpen {A = A} o (Err e) → o ≡ Some e
open-refused A e None other h = absurd (other h)
open-refused A e (Some f) other h = cc

abbrev why : (used room : Bool) → Option OpenFault
why used room = cond used (Some fault.Used) (cond room None (Some fault.Full))

record Free (used room : Bool) : Type 0 where
  pub unused : used ≡ false
  pub room_is : room ≡ true

free-at : (u l : Bool) → why u l ≡ None → Free u l
free-at false true e = record { unused = refl; room_is = refl }
free-at true l e = absurd cc
free-at false false e = absurd cc

-- no number is opened where there is a cause
refused-at : (u l : Bool) (f : OpenFault) → why u l ≡ Some f → (not u && l) ≡ false
refused-at true l f e = refl
refused-at false false f e = refl
refused-at false true f e = absurd cc

-- ---- a number that was opened nowhere

pub unopened : (o : Option Opened) → is_some o ≡ false → o ≡ None
unopened None e = refl
unopened (Some o) e = absurd cc

-- ---- the test of one that may be opened

may-open : (r : Rules) (h : Held) (w : World) (node : NodeNo) (c : ConnNo) (token : List ℕ) (k : NodeState) → FollowsWorld r h w → conn_at c.0 h.conns ≡ None → IsNodeOf node.0 k (w.nodes node.0)
    → is_possible r w (event.Open node c token) ≡ (not (is_opened c.0 (w.nodes node.0)) && ltb (live_count (w.nodes node.0)) most_connections)
may-open r h w node c token k f free is =
    ap (λ (o : Option ℕ). is_none o && can_open c.0 (w.nodes node.0)) (conn-of r h w c.0 None f free).0
    ∙ ap (λ b. b && not (is_opened c.0 (w.nodes node.0)) && ltb (live_count (w.nodes node.0)) most_connections) is.booted

fault-now : (c n : ℕ) (k : NodeState) (steps : List Step) (o : Option OpenFault) → IsNodeOf n k steps → open_fault c (past k) ≡ o → why (is_opened c steps) (ltb (live_count steps) most_connections) ≡ o
fault-now c n k steps o is e = ap (open_fault c) (sym is.journal) ∙ e

pub open_idle : (r : Rules) (h h' : Held) (node : NodeNo) (c : ConnNo) (token : List ℕ) (p p' : Post) (e : OpenFault) → conn_at c.0 h.conns ≡ None → PostMoves node.0 p p' h.posts h'.posts → h'.conns ≡ h.conns → h'.table ≡ h.table
    → p'.turn ≡ p.turn → p'.node.no ≡ p.node.no → ReadsSame p.node p'.node → open_fault c.0 (past p.node) ≡ Some e → StepsIn r (event.Open node c token) h idle_said h'
open_idle r h h' node c token p p' e free moves conns table turn same_no same cause =
    idle_steps r (event.Open node c token) h h'
    (λ w f. may-open r h w node c token p.node f free (node-of r h w node.0 p f moves.was)
    ∙ refused-at _ _ e (fault-now c.0 node.0 p.node (w.nodes node.0) (Some e) (node-of r h w node.0 p f moves.was) cause))
    (λ w f. follows-same r h h' w node.0 p p' f moves conns table (node-same node.0 p.node p'.node (w.nodes node.0) same_no same.kept same.taken (node-of r h w node.0 p f moves.was)) turn)
    table (λ n off. others-as node.0 p p' h h' moves n off)

-- ---- what is queued

told-there : (c : ℕ) (token : List ℕ) (user : Option (List ℕ)) (steps : List Step) → queued c (Step.Open c token user ∷ steps) ≡ queued c steps ++ conn_line c (greeting user) ∷ []
told-there c token user steps = let t : (c == c) ≡ true = grind (arith, nat_tests) in rw t refl

told-elsewhere : (c d : ℕ) (token : List ℕ) (user : Option (List ℕ)) (steps : List Step) → (c == d) ≡ false → queued d (Step.Open c token user ∷ steps) ≡ queued d steps
told-elsewhere c d token user steps e = rw e refl

pub open-within : (r : Rules) (h : Held) → FollowsSome r h → (n c : ℕ) (token : List ℕ) (user : Option (List ℕ)) (p : Post) (m : NodeState) → post_at n h.posts ≡ Some p → past m ≡ Step.Open c token user ∷ past p.node
    → TakesNone p.node m → taken_out c m ≤ length (queued c (past m))
open-within r h stands n c token user p m at grown takes =
    let w = stands.0 in
    taken-within n p.node m (Step.Open c token user) c (w.nodes n) (conn_line c (greeting user) ∷ []) grown takes (told-there c token user (w.nodes n)) (node-of r h w n p stands.1 at)

-- ---- an open

-- another connection stays where it is
rehomed : (r : Rules) (w : World) (c n d : ℕ) → (d == c) ≡ false → (o : Option Opened) → IsConnIn r w d o → IsConnIn r (with_home w c n) d o
rehomed r w c n d e None k = (ap (λ b. cond b (Some n) (w.home d)) e ∙ k.0, k.1)
rehomed r w c n d e (Some o) k = (ap (λ b. cond b (Some n) (w.home d)) e ∙ k.0, k.1)

-- a connection of which nothing is out
abbrev pub fresh : NodeNo → Opened
fresh node = record { node = node; work = None }

module _ (r : Rules) (h h' : Held) (node : NodeNo) (c : ConnNo) (token : List ℕ) (p p' : Post) (m : NodeState) (s : Said) (answers : AlwaysAnswer r.callbacks) (free : conn_at c.0 h.conns ≡ None)
    (moves : PostMoves node.0 p p' h.posts h'.posts) (conns : (d : ℕ) → conn_at d h'.conns ≡ cond (is_at (nat_cmp c.0) d) (Some (fresh node)) (conn_at d h.conns)) (table : h'.table ≡ h.table) (turn : p'.turn ≡ p.turn)
    (same_no : m.no ≡ p.node.no) (cause : open_fault c.0 (past p.node) ≡ None) (grown : past m ≡ Step.Open c.0 token (r.callbacks.identify token) ∷ past p.node) (takes : TakesNone p.node m) where
  abbrev entry : Step
  entry = Step.Open c.0 token (r.callbacks.identify token)

  abbrev now : World → World
  now w = with_home (logged w node.0 entry) c.0 node.0

  is-node : (w : World) → FollowsWorld r h w → IsNodeOf node.0 p.node (w.nodes node.0)
  is-node w f = node-of r h w node.0 p f moves.was

  may : (w : World) → FollowsWorld r h w → Free (is_opened c.0 (w.nodes node.0)) (ltb (live_count (w.nodes node.0)) most_connections)
  may w f = free-at _ _ (fault-now c.0 node.0 p.node (w.nodes node.0) None (is-node w f) cause)

  can : (w : World) → FollowsWorld r h w → is_possible r w (event.Open node c token) ≡ true
  can w f =
      may-open r h w node c token p.node f free (is-node w f)
      ∙ ap (λ b. not b && ltb (live_count (w.nodes node.0)) most_connections) (may w f).unused
      ∙ (may w f).room_is

  -- nothing is out of a connection that was opened nowhere
  jobless : (w : World) → FollowsWorld r h w → has_job (seat c.0 ((now w).nodes node.0)) ≡ false
  jobless w f =
      let user : user_of c.0 (w.nodes node.0) ≡ None = (sound-now r h w f).closed c.0 (conn-of r h w c.0 None f free).0 node.0 in
      ap (λ (q : List Step). has_job (seat c.0 q)) (own-node w node.0 entry)
      ∙ ap has_job (userless-seat c.0 (w.nodes node.0) (legal-now r answers h w f node.0) user)

  conns-now : (w : World) → FollowsWorld r h w → (d : ℕ) → IsConnIn r (now w) d (conn_at d h'.conns)
  conns-now w f =
      conns-move r h h' (now w) c.0 (fresh node) conns
      (ap (λ b. cond b (Some node.0) (w.home c.0)) (is-self c.0), (jobless w f, (conn-of r h w c.0 None f free).1))
      (λ d e. rehomed r (logged w node.0 entry) c.0 node.0 d e (conn_at d h.conns) (conn-entered r h w node.0 entry f d (ap not (turned c.0 d e)) (conn_at d h.conns) (f.conns d)))

  post-now : (w : World) → FollowsWorld r h w → IsNodeOf node.0 p'.node (entry ∷ w.nodes node.0) → IsPostIn r (now w) node.0 (Some p')
  post-now w f is =
      let own = subst (λ (t : TurnOut). IsTurnIn r w node.0 t) (sym turn) (turn-of r h w node.0 p f moves.was) in
      let stays = turn-entered r w node.0 entry p'.turn refl refl refl refl own in (
        (post-entered r w node.0 entry p' is stays).0,
        turn-stays r (logged w node.0 entry) (now w) node.0 p'.turn (record { out = refl; last = refl; low = refl; asked = refl; note_is = refl }) stays,
      )

  pub open_steps : p'.node.kept ≡ m.kept → p'.node.no ≡ m.no → taken_out c.0 p'.node ≡ length (queued c.0 (past m)) → ((d : ℕ) → (d == c.0) ≡ false → taken_out d p'.node ≡ taken_out d m)
      → s ≡ record { idle = false; lines = left_on m c.0 } → StepsIn r (event.Open node c token) h s h'
  open_steps kept no_now taken others is =
      possible_steps r (event.Open node c token) h h' s can (ap (λ (x : Said). x.idle) is)
      (λ w f. ap (λ (x : Said). x.lines) is
      ∙ left-lines node.0 p.node m entry c.0 (w.nodes node.0) (conn_line c.0 (greeting (r.callbacks.identify token)) ∷ []) grown takes (told-there c.0 token (r.callbacks.identify token) (w.nodes node.0)) (is-node w f))
      (λ w f possible. comes r h h' w (now w) (event.Open node c token) f possible refl
      (record {
        posts = posts-move r h h' w (now w) node.0 p p' f moves
            (post-now w f (drained-entry node.0 p.node m p'.node entry c.0 (w.nodes node.0) same_no grown takes kept no_now taken others
            (λ d x. told-elsewhere c.0 d token (r.callbacks.identify token) (w.nodes node.0) x) (is-node w f)))
            (λ n e. other-nodes w node.0 n entry e) (λ n e. other-notes w node.0 n entry e);
        conns = conns-now w f;
        table = subst (λ (t : TableState MemRows). IsTableOf t w.table w.failing) (sym table) f.table;
      }))
      (same-calls h h' table) (λ n off. others-as node.0 p p' h h' moves n off)
