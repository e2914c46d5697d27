-- A client's texts are the model's.
use Rattle.std.proofs.Common.{◌≡◌, ℕ, Bool, true, false, cond, not, ◌&&◌, List, [], ◌∷◌, Option, Some, None, Ok, Err, refl, sym, ap, subst, ◌∙◌}
use Rattle.cable_base.specs.declared.numbers.ConnNo.{ConnNo}
use Rattle.cable_model.specs.declared.events.Event.TheVariants as event
use Rattle.cable_model.specs.declared.notes.Note.TheVariants as note
use Rattle.cable_model.specs.Steps.{Step}
use Rattle.cable_model.specs.Pieces.{seat, closing}
use Rattle.cable_model.specs.Possible.{is_live, is_receiving, is_too_long, is_busy}
use Rattle.cable_model.specs.History.{Rules, World, logged, home_of, arrive, happened}
use Rattle.cable_model.specs.Transcript.{lines_of, arrival_lines, conn_note}
use Rattle.node_core.specs.declared.arriving.ArriveFault.{ArriveFault}
use Rattle.node_core.specs.declared.arriving.ArriveFault.TheVariants as fault
use Rattle.node_core.specs.Arriving.{text_fault, RefusesText}
use Rattle.node_core.specs.Nodes.{NodeState, ReadsSame, TakesNone, past}
use Rattle.node_world.specs.declared.outstanding.TurnOut.{TurnOut}
use Rattle.node_world.specs.declared.parts.Opened.{Opened}
use Rattle.node_world.specs.declared.parts.Post.{Post}
use Rattle.node_world.specs.declared.saying.Said.{Said}
use Rattle.node_world.specs.Parts.{Held, IsNodeOf, IsTurnIn, FollowsWorld, conn_at}
use Rattle.node_world.specs.Steps.{StepsIn, NodeStays, calls_node, idle_said, silent_said}
use Rattle.node_world.proofs.Following.{idle_steps, possible_steps, same-calls, comes, node-of, turn-of, home-is, entered, node-same, PostMoves, others-as, turn-entered, one-entry, follows-same}
use Rattle.node_world.proofs.FollowingNode.{receives-home, off-node}

-- ---- the cause for which a text isn't put

pub text-put : {A : Type 0} (x : A) (o : Option ArriveFault) → RefusesText o (Ok x) → o ≡ None
text-put x None h = refl
text-put x (Some f) h = absurd cc

pub text-refused : (A : Type 0) (e : ArriveFault) (o : Option ArriveFault) → (e ≡ fault.OutOfMemory → ⊥) → RefusesText {A = A} o (Err e) → o ≡ Some e
text-refused A e None other h = absurd (other h)
text-refused A e (Some f) other h = cc

abbrev why : (live shut long busy : Bool) → Option ArriveFault
why live shut long busy = cond live (cond shut (Some fault.Shut) (cond long (Some fault.TooLong) (cond busy (Some fault.Busy) None))) (Some fault.Unknown)

record Free (live shut long busy : Bool) : Type 0 where
  pub receives : (live && not shut) ≡ true
  pub short : long ≡ false
  pub few : busy ≡ false

free-at : (a b l u : Bool) → why a b l u ≡ None → Free a b l u
free-at true false false false e = record { receives = refl; short = refl; few = refl }
free-at false b l u e = absurd cc
free-at true true l u e = absurd cc
free-at true false true u e = absurd cc
free-at true false false true e = absurd cc

record Long (live shut long : Bool) : Type 0 where
  pub receives : (live && not shut) ≡ true
  pub long_is : long ≡ true

long-at : (a b l u : Bool) → why a b l u ≡ Some fault.TooLong → Long a b l
long-at true false true u e = record { receives = refl; long_is = refl }
long-at false b l u e = absurd cc
long-at true true l u e = absurd cc
long-at true false false true e = absurd cc
long-at true false false false e = absurd cc

record Busy (live shut long busy : Bool) : Type 0 where
  pub receives : (live && not shut) ≡ true
  pub short : long ≡ false
  pub busy_is : busy ≡ true

busy-at : (a b l u : Bool) → why a b l u ≡ Some fault.Busy → Busy a b l u
busy-at true false false true e = record { receives = refl; short = refl; busy_is = refl }
busy-at false b l u e = absurd cc
busy-at true true l u e = absurd cc
busy-at true false true u e = absurd cc
busy-at true false false false e = absurd cc

-- no text arrives where a cause is that it isn't received
shut-at : (a b l u : Bool) (f : ArriveFault) → why a b l u ≡ Some f → (f ≡ fault.TooLong → ⊥) → (f ≡ fault.Busy → ⊥) → (a && not b) ≡ false
shut-at false b l u f e long busy = refl
shut-at true true l u f e long busy = refl
shut-at true false true u f e long busy = absurd (long (let x : f ≡ fault.TooLong = cc in x))
shut-at true false false true f e long busy = absurd (busy (let x : f ≡ fault.Busy = cc in x))
shut-at true false false false f e long busy = absurd cc

fault-now : (c n : ℕ) (text : List ℕ) (k : NodeState) (steps : List Step) (o : Option ArriveFault) → IsNodeOf n k steps → text_fault c text (past k) ≡ o
    → why (is_live c steps) (closing (seat c steps).pieces) (is_too_long text) (is_busy c steps) ≡ o
fault-now c n text k steps o is e = ap (text_fault c text) (sym is.journal) ∙ e

-- ---- what the event says and does

putting : (r : Rules) (w : World) (c : ConnNo) (n : ℕ) (text : List ℕ) (receives long busy : Bool) → home_of w c.0 ≡ n → is_receiving c.0 (w.nodes n) ≡ receives → is_too_long text ≡ long → is_busy c.0 (w.nodes n) ≡ busy
    → happened r w (event.In c text) ≡ cond (receives && not long && not busy) (logged w n (Step.In c.0 text)) w
putting r w c n text receives long busy home a l u =
    ap (λ m. arrive w m c.0 text) home
    ∙ ap (λ b. cond (b && not (is_too_long text) && not (is_busy c.0 (w.nodes n))) (logged w n (Step.In c.0 text)) w) a
    ∙ ap (λ b. cond (receives && not b && not (is_busy c.0 (w.nodes n))) (logged w n (Step.In c.0 text)) w) l
    ∙ ap (λ b. cond (receives && not long && not b) (logged w n (Step.In c.0 text)) w) u

telling : (r : Rules) (w : World) (c : ConnNo) (n : ℕ) (text : List ℕ) (long busy : Bool) → home_of w c.0 ≡ n → is_too_long text ≡ long → is_busy c.0 (w.nodes n) ≡ busy
    → lines_of r w (event.In c text) ≡ cond long (conn_note c.0 note.TooLong ∷ []) (cond busy (conn_note c.0 note.Busy ∷ []) [])
telling r w c n text long busy home l u =
    ap (λ m. arrival_lines c.0 text (w.nodes m)) home
    ∙ ap (λ b. cond b (conn_note c.0 note.TooLong ∷ []) (cond (is_busy c.0 (w.nodes n)) (conn_note c.0 note.Busy ∷ []) [])) l
    ∙ ap (λ b. cond long (conn_note c.0 note.TooLong ∷ []) (cond b (conn_note c.0 note.Busy ∷ []) [])) u

-- ---- a text that comes to the node of its connection

module _ (r : Rules) (h h' : Held) (c : ConnNo) (text : List ℕ) (o : Opened) (p p' : Post) (at : conn_at c.0 h.conns ≡ Some o) (moves : PostMoves o.node.0 p p' h.posts h'.posts) (conns : h'.conns ≡ h.conns)
    (table : h'.table ≡ h.table) (turn : p'.turn ≡ p.turn) (same_no : p'.node.no ≡ p.node.no) where
  is-node : (w : World) → FollowsWorld r h w → IsNodeOf o.node.0 p.node (w.nodes o.node.0)
  is-node w f = node-of r h w o.node.0 p f moves.was

  home : (w : World) → FollowsWorld r h w → home_of w c.0 ≡ o.node.0
  home w f = home-is r h w c.0 o f at

  elsewhere : (n : ℕ) → calls_node h n (event.In c text) ≡ false → NodeStays h h' n
  elsewhere n off = others-as o.node.0 p p' h h' moves n (off-node c.0 n o h at off)

  stays : (w : World) → FollowsWorld r h w → ReadsSame p.node p'.node → FollowsWorld r h' w
  stays w f same = follows-same r h h' w o.node.0 p p' f moves conns table (node-same o.node.0 p.node p'.node (w.nodes o.node.0) same_no same.kept same.taken (is-node w f)) turn

  pub arrive_steps : past p'.node ≡ Step.In c.0 text ∷ past p.node → TakesNone p.node p'.node → text_fault c.0 text (past p.node) ≡ None → StepsIn r (event.In c text) h silent_said h'
  arrive_steps grown takes none =
      possible_steps r (event.In c text) h h' silent_said (λ w f. receives-home r h w c.0 o f at ∙ (free w f).receives) refl
      (λ w f. sym (telling r w c o.node.0 text false false (home w f) (free w f).short (free w f).few))
      (λ w f may. comes r h h' w (logged w o.node.0 (Step.In c.0 text)) (event.In c text) f may
      (putting r w c o.node.0 text true false false (home w f) (free w f).receives (free w f).short (free w f).few)
      (one-entry r h h' w o.node.0 (Step.In c.0 text) p p' f moves conns table (entered o.node.0 p.node p'.node (Step.In c.0 text) (w.nodes o.node.0) same_no grown takes (λ d. refl) (is-node w f))
      (turn-entered r w o.node.0 (Step.In c.0 text) p'.turn refl refl refl refl (subst (λ (t : TurnOut). IsTurnIn r w o.node.0 t) (sym turn) (turn-of r h w o.node.0 p f moves.was))) (λ d. refl)))
      (same-calls h h' table) elsewhere
    where
      free : (w : World) → FollowsWorld r h w → Free (is_live c.0 (w.nodes o.node.0)) (closing (seat c.0 (w.nodes o.node.0)).pieces) (is_too_long text) (is_busy c.0 (w.nodes o.node.0))
      free w f = free-at _ _ _ _ (fault-now c.0 o.node.0 text p.node (w.nodes o.node.0) None (is-node w f) none)

  -- one that isn't received is idle
  pub arrive_idle : (e : ArriveFault) → (e ≡ fault.TooLong → ⊥) → (e ≡ fault.Busy → ⊥) → ReadsSame p.node p'.node → text_fault c.0 text (past p.node) ≡ Some e → StepsIn r (event.In c text) h idle_said h'
  arrive_idle e long busy same cause =
      idle_steps r (event.In c text) h h'
      (λ w f. receives-home r h w c.0 o f at ∙ shut-at _ _ _ _ e (fault-now c.0 o.node.0 text p.node (w.nodes o.node.0) (Some e) (is-node w f) cause) long busy)
      (λ w f. stays w f same) table elsewhere

  -- one that is noted leaves all as it was
  noted : (s : Said) (long busy : World → Bool) → ReadsSame p.node p'.node → s.idle ≡ false → ((w : World) → FollowsWorld r h w → is_receiving c.0 (w.nodes o.node.0) ≡ true)
      → ((w : World) → FollowsWorld r h w → is_too_long text ≡ long w) → ((w : World) → FollowsWorld r h w → is_busy c.0 (w.nodes o.node.0) ≡ busy w)
      → ((w : World) → FollowsWorld r h w → (not (long w) && not (busy w)) ≡ false)
      → ((w : World) → FollowsWorld r h w → s.lines ≡ cond (long w) (conn_note c.0 note.TooLong ∷ []) (cond (busy w) (conn_note c.0 note.Busy ∷ []) [])) → StepsIn r (event.In c text) h s h'
  noted s long busy same busy_said receives long_is busy_is unput lines =
      possible_steps r (event.In c text) h h' s (λ w f. receives-home r h w c.0 o f at ∙ receives w f) busy_said
      (λ w f. lines w f ∙ sym (telling r w c o.node.0 text (long w) (busy w) (home w f) (long_is w f) (busy_is w f)))
      (λ w f may. subst (FollowsWorld r h')
      (sym (putting r w c o.node.0 text true (long w) (busy w) (home w f) (receives w f) (long_is w f) (busy_is w f) ∙ ap (λ b. cond b (logged w o.node.0 (Step.In c.0 text)) w) (unput w f)))
      (stays w f same))
      (same-calls h h' table) elsewhere

  pub arrive_too_long : (s : Said) → ReadsSame p.node p'.node → text_fault c.0 text (past p.node) ≡ Some fault.TooLong → s ≡ record { idle = false; lines = conn_note c.0 note.TooLong ∷ [] } → StepsIn r (event.In c text) h s h'
  arrive_too_long s same cause is =
      noted s (λ w. true) (λ w. is_busy c.0 (w.nodes o.node.0)) same (ap (λ (x : Said). x.idle) is) (λ w f. (found w f).receives) (λ w f. (found w f).long_is) (λ w f. refl) (λ w f. refl)
      (λ w f. ap (λ (x : Said). x.lines) is)
    where
      found : (w : World) → FollowsWorld r h w → Long (is_live c.0 (w.nodes o.node.0)) (closing (seat c.0 (w.nodes o.node.0)).pieces) (is_too_long text)
      found w f = long-at _ _ _ (is_busy c.0 (w.nodes o.node.0)) (fault-now c.0 o.node.0 text p.node (w.nodes o.node.0) (Some fault.TooLong) (is-node w f) cause)

  pub arrive_busy : (s : Said) → ReadsSame p.node p'.node → text_fault c.0 text (past p.node) ≡ Some fault.Busy → s ≡ record { idle = false; lines = conn_note c.0 note.Busy ∷ [] } → StepsIn r (event.In c text) h s h'
  arrive_busy s same cause is =
      noted s (λ w. false) (λ w. true) same (ap (λ (x : Said). x.idle) is) (λ w f. (found w f).receives) (λ w f. (found w f).short) (λ w f. (found w f).busy_is) (λ w f. refl)
      (λ w f. ap (λ (x : Said). x.lines) is)
    where
      found : (w : World) → FollowsWorld r h w → Busy (is_live c.0 (w.nodes o.node.0)) (closing (seat c.0 (w.nodes o.node.0)).pieces) (is_too_long text) (is_busy c.0 (w.nodes o.node.0))
      found w f = busy-at _ _ _ _ (fault-now c.0 o.node.0 text p.node (w.nodes o.node.0) (Some fault.Busy) (is-node w f) cause)
