-- The turns of a node are the model's: its asks, reads and delivers.
use Rattle.std.proofs.Common.{◌≡◌, ℕ, ℤ, suc, ◌==◌, ◌&&◌, Bool, true, false, not, cond, List, [], ◌∷◌, Option, Some, None, refl, sym, ap, subst, ◌∙◌, arith, is_some, is_none, ltb, map}
use Rattle.std.proofs.lemmas.Bool.Decides.{nat_tests}
use Rattle.cable_base.specs.Hash.{channel_hash_of}
use Rattle.cable_base.specs.declared.numbers.NodeNo.{NodeNo}
use Rattle.cable_base.specs.declared.numbers.RowId.{RowId}
use Rattle.cable_base.specs.declared.rows.Row.{Row}
use Rattle.cable_base.proofs.Filters.{filter-same}
use Rattle.channel_book.specs.Shapes.{Declared}
use Rattle.cable_model.specs.declared.events.Event.TheVariants as event
use Rattle.cable_model.specs.declared.journals.ReadNote.{ReadNote}
use Rattle.cable_model.specs.declared.lines.Line.TheVariants as line
use Rattle.cable_model.specs.declared.notes.Note.TheVariants as note
use Rattle.cable_model.specs.Limits.{page_rows}
use Rattle.cable_model.specs.Possible.{is_booted, is_out, last_turn}
use Rattle.cable_model.specs.Script.{rules_of}
use Rattle.cable_model.specs.Steps.{Step}
use Rattle.cable_model.specs.Table.{TableStep, contains, last_id, missed_note, note_of, note_with, present, read_of, upto_of}
use Rattle.cable_model.specs.Wants.{lower}
use Rattle.cable_model.specs.History.{Rules, World, caught, deliver, hashes_of, held_names, logged, stored, turn_note}
use Rattle.node_core.specs.Nodes.{NodeState, TakesNone, past}
use Rattle.node_core.specs.Turned.{IsNextTurn, is_expected}
use Rattle.poll_turn.specs.Notes.{note_in}
use Rattle.poll_turn.specs.Turns.{TurnState}
use Rattle.table_core.specs.Keepers.{CallsOnce, KeeperFailures}
use Rattle.table_core.specs.Memory.{MemRows}
use Rattle.table_core.specs.Shown.{Shows}
use Rattle.table_core.specs.Tables.{IsCaughtOf, TableState, read_note}
use Rattle.table_core.proofs.Following.{reads_follow}
use Rattle.node_world.specs.declared.outstanding.OutCaught.{OutCaught}
use Rattle.node_world.specs.declared.outstanding.OutTurn.{OutTurn}
use Rattle.node_world.specs.declared.outstanding.TurnOut.{TurnOut}
use Rattle.node_world.specs.declared.outstanding.TurnOut.TheVariants as turn_out
use Rattle.node_world.specs.declared.parts.Post.{Post}
use Rattle.node_world.specs.declared.saying.Said.{Said}
use Rattle.node_world.specs.Parts.{Held, IsNodeOf, IsAskedIn, IsReadIn, IsTurnIn, FollowsWorld, FollowsSome, post_at}
use Rattle.node_world.specs.Steps.{StepsIn, silent_said, read_said}
use Rattle.node_world.proofs.Following.{possible_steps, same-calls, comes, sound-now, node-of, turn-of, is-self, turned, entered, PostMoves, others-as, posts-move, own-node, one-entry}
use Rattle.node_world.proofs.FollowingTable.{Calls, store-steps, was_refused, went_well, with-posts, node-kept}

-- ---- an ask

pub not-true : (b : Bool) → not b ≡ true → b ≡ false
not-true true h = absurd (cc (h))
not-true false h = refl

free : (a b : Bool) → a ≡ true → b ≡ false → (a && not b) ≡ true
free a b p q = rw (p, q) refl

-- the turn behind an Ask
asked : (book : Declared) (h : Held) (w : World) (n : ℕ) (k : NodeState) (t : OutTurn) → IsNextTurn t.turn k → IsNodeOf n k (w.nodes n) → FollowsWorld (rules_of book) h w
    → IsAskedIn (rules_of book) (logged w n (Step.Ask (suc (last_turn (w.nodes n))))) n t.turn
asked book h w n k t next is f =
    let own = own-node w n (Step.Ask (suc (last_turn (w.nodes n)))) in
    record {
      out = ap is_out own;
      unread =
          ap (λ (p : List Step). cond (is_out p) (read_of n (last_turn p) w.table) None) own
          ∙ ((sound-now (rules_of book) h w f).nodes n).unread (suc (last_turn (w.nodes n))) (omega arith);
      node = ap (λ (m : NodeNo). m.0) next.node ∙ is.number;
      number = next.number ∙ ap (λ (p : List Step). suc (last_turn p)) is.journal ∙ sym (ap last_turn own);
      lower_is = next.lower_is ∙ ap lower is.journal ∙ sym (ap lower own);
      asks = λ x. next.asks x ∙ ap (λ (p : List Step). contains (map channel_hash_of (held_names p)) x) is.journal ∙ sym (ap (λ (p : List Step). contains (hashes_of channel_hash_of p) x) own);
    }

pub ask_steps : (book : Declared) (h h' : Held) (node : NodeNo) (p p' : Post) (t : OutTurn) → PostMoves node.0 p p' h.posts h'.posts → h'.conns ≡ h.conns → h'.table ≡ h.table → p'.node.no ≡ p.node.no
    → past p'.node ≡ Step.Ask (suc (last_turn (past p.node))) ∷ past p.node → TakesNone p.node p'.node → is_out (past p.node) ≡ false → IsNextTurn t.turn p.node → p'.turn ≡ turn_out.Asked t
    → StepsIn (rules_of book) (event.Ask node) h silent_said h'
ask_steps book h h' node p p' t moves conns table same_no grown takes out next turn =
    possible_steps (rules_of book) (event.Ask node) h h' silent_said
    (λ w f. let k = node-of (rules_of book) h w node.0 p f moves.was in free (is_booted (w.nodes node.0)) (is_out (w.nodes node.0)) k.booted (ap is_out (sym k.journal) ∙ out))
    refl (λ w f. refl)
    (λ w f may. let k = node-of (rules_of book) h w node.0 p f moves.was in
    comes (rules_of book) h h' w (logged w node.0 (Step.Ask (suc (last_turn (w.nodes node.0))))) (event.Ask node) f may refl
    (one-entry (rules_of book) h h' w node.0 (Step.Ask (suc (last_turn (w.nodes node.0)))) p p' f moves conns table
    (entered node.0 p.node p'.node (Step.Ask (suc (last_turn (w.nodes node.0)))) (w.nodes node.0) same_no (grown ∙ ap (λ (x : List Step). Step.Ask (suc (last_turn x)) ∷ past p.node) k.journal) takes (λ c. refl) k)
    (subst (λ (x : TurnOut). IsTurnIn (rules_of book) (logged w node.0 (Step.Ask (suc (last_turn (w.nodes node.0))))) node.0 x) (sym turn) (asked book h w node.0 p.node t next k f))
    (λ c. refl)))
    (same-calls h h' table) (λ n off. others-as node.0 p p' h h' moves n off)

-- ---- a read

-- a note looks at its hashes only by what is among them
same-note : (hash : List ℕ → ℤ) (page low : ℕ) (hs ks : List ℤ) (table : List TableStep) → ((x : ℤ) → contains hs x ≡ contains ks x) → note_of hash page low hs table ≡ note_of hash page low ks table
same-note hash page low hs ks table e =
    ap (λ (rows : List Row). note_with low (last_id table) (upto_of page (last_id table) rows) rows)
    (filter-same (λ x. ltb low x.id.0 && contains hs (hash x.channel)) (λ x. ltb low x.id.0 && contains ks (hash x.channel)) (present table) (λ x. ap (λ b. ltb low x.id.0 && b) (e (hash x.channel))))

read_busy : (missed : Bool) → (read_said missed).idle ≡ false
read_busy true = refl
read_busy false = refl

read_lines : (missed : Bool) → (read_said missed).lines ≡ cond missed (line.Note None note.StoreRefused ∷ []) []
read_lines true = refl
read_lines false = refl

-- what a read found, or that it was missed
pub record IsRead (h : Held) (t : OutTurn) (k : OutCaught) : Type 0 where
  pub caught_of : IsCaughtOf t.turn k.caught
  pub found : k.caught.is_missed ≡ false → note_in k.caught ≡ read_note t.turn.lower.0 h.table.last.0 t.turn.hashes h.table.keeper.rows
  pub missed : k.caught.is_missed ≡ true → note_in k.caught ≡ missed_note t.turn.lower.0

pub as-read : (h : Held) (t : OutTurn) (k : OutCaught) (x : TurnState) → x ≡ t.turn → IsCaughtOf x k.caught → (k.caught.is_missed ≡ false → note_in k.caught ≡ read_note x.lower.0 h.table.last.0 x.hashes h.table.keeper.rows)
    → (k.caught.is_missed ≡ true → note_in k.caught ≡ missed_note x.lower.0) → IsRead h t k
as-read h t k x e caught_of found missed = record {
  caught_of = subst (λ (y : TurnState). IsCaughtOf y k.caught) e caught_of;
  found = λ b. found b ∙ ap (λ (y : TurnState). read_note y.lower.0 h.table.last.0 y.hashes h.table.keeper.rows) e;
  missed = λ b. missed b ∙ ap (λ (y : TurnState). missed_note y.lower.0) e;
}

-- its call failed where it was missed
pub read_calls : {a a' n n' : ℕ} (f f' : KeeperFailures) (missed : Bool) → CallsOnce (missed ≡ false) (missed ≡ true) (record { faults = a; calls = n; failures = Some f }) (record { faults = a'; calls = n'; failures = Some f' }) → Calls f f' missed
read_calls f f' true c = was_refused f f' c refl
read_calls f f' false c = went_well f f' c (λ e. cc (e))

-- it is the note of the model's turn
note-is : (book : Declared) (h : Held) (n : ℕ) (t : OutTurn) (k : OutCaught) (w : World) → IsRead h t k → IsAskedIn (rules_of book) w n t.turn → Shows h.table.keeper.rows h.table.last.0 w.table
    → w.failing ≡ k.caught.is_missed → turn_note (rules_of book) w n ≡ note_in k.caught
note-is book h n t k w is a shows fails = go k.caught.is_missed refl
  where
    go : (b : Bool) → k.caught.is_missed ≡ b → turn_note (rules_of book) w n ≡ note_in k.caught
    go true e =
        ap (λ b. cond b (missed_note (lower (w.nodes n))) (note_of channel_hash_of page_rows (lower (w.nodes n)) (hashes_of channel_hash_of (w.nodes n)) w.table)) (fails ∙ e)
        ∙ sym (is.missed e ∙ ap missed_note a.lower_is)
    go false e =
        ap (λ b. cond b (missed_note (lower (w.nodes n))) (note_of channel_hash_of page_rows (lower (w.nodes n)) (hashes_of channel_hash_of (w.nodes n)) w.table)) (fails ∙ e)
        ∙ sym
        (is.found e ∙ (reads_follow h.table.keeper.rows h.table.last.0 w.table shows 0 0 t.turn.lower.0 t.turn.hashes).note
        ∙ ap (λ (m : ℕ). note_of channel_hash_of page_rows m t.turn.hashes w.table) a.lower_is
        ∙ same-note channel_hash_of page_rows (lower (w.nodes n)) t.turn.hashes (hashes_of channel_hash_of (w.nodes n)) w.table a.asks)

-- the entry of a Read of the node's turn
abbrev read-entry : Declared → ℕ → World → TableStep
read-entry book n w = TableStep.Read n (last_turn (w.nodes n)) (turn_note (rules_of book) w n) (hashes_of channel_hash_of (w.nodes n))

turn-read : (book : Declared) (n : ℕ) (t : OutTurn) (k : OutCaught) (w : World) → IsAskedIn (rules_of book) w n t.turn → IsCaughtOf t.turn k.caught → turn_note (rules_of book) w n ≡ note_in k.caught
    → IsReadIn (stored w (read-entry book n w)) n k.caught
turn-read book n t k w a caught_of same =
    let both : ((n == n) && (last_turn (w.nodes n) == last_turn (w.nodes n))) ≡ true = ap (λ b. b && (last_turn (w.nodes n) == last_turn (w.nodes n))) (is-self n) ∙ is-self (last_turn (w.nodes n)) in
    record {
      out = a.out;
      note =
          ap (λ b. cond b (read_of n (last_turn (w.nodes n)) (read-entry book n w ∷ w.table)) None) a.out
          ∙ ap (λ b. cond b (Some (turn_note (rules_of book) w n)) (read_of n (last_turn (w.nodes n)) w.table)) both
          ∙ ap (λ (x : ReadNote). Some x) same;
      node = ap (λ (m : NodeNo). m.0) caught_of.node ∙ a.node;
      number = caught_of.number ∙ a.number;
      lower_is = ap (λ (m : RowId). m.0) caught_of.lower ∙ a.lower_is;
    }

-- a Read of one node leaves what the turns of the others caught
other-caught : (book : Declared) (n m : ℕ) (w : World) → (m == n) ≡ false → caught (stored w (read-entry book n w)) m ≡ caught w m
other-caught book n m w e =
    ap (λ b. cond (is_out (w.nodes m)) (cond (b && (last_turn (w.nodes n) == last_turn (w.nodes m))) (Some (turn_note (rules_of book) w n)) (read_of m (last_turn (w.nodes m)) w.table)) None) (turned n m e)

module _ (book : Declared) (h : Held) (posts : List (ℕ × Post)) (table : TableState MemRows) (node : NodeNo) (p p' : Post) (t : OutTurn) (k : OutCaught) (moves : PostMoves node.0 p p' h.posts posts) (was : p.turn ≡ turn_out.Asked t) where
  asked-in : (w : World) → FollowsWorld (rules_of book) h w → IsAskedIn (rules_of book) w node.0 t.turn
  asked-in w f = subst (λ (x : TurnOut). IsTurnIn (rules_of book) w node.0 x) was (turn-of (rules_of book) h w node.0 p f moves.was)

  pub read_steps : (s : Said) → p'.node ≡ p.node → p'.turn ≡ turn_out.Read k → IsRead h t k → table.keeper.rows ≡ h.table.keeper.rows → table.last ≡ h.table.last
      → Calls h.table.keeper.failures table.keeper.failures k.caught.is_missed → s ≡ read_said k.caught.is_missed → StepsIn (rules_of book) (event.Read node) h s (with-posts h posts table)
  read_steps s same_node turn is rows last call says =
      store-steps (rules_of book) h table k.caught.is_missed call (event.Read node) posts s (read-entry book node.0) refl
      (λ w f. ap (λ (o : Option ReadNote). is_out (w.nodes node.0) && is_none o) (asked-in w f).unread ∙ ap (λ b. b && true) (asked-in w f).out)
      (λ w. refl)
      (ap (λ (x : Said). x.idle) says ∙ read_busy k.caught.is_missed)
      (λ w f fails. ap (λ (x : Said). x.lines) says ∙ read_lines k.caught.is_missed ∙ ap (λ b. cond b (line.Note None note.StoreRefused ∷ []) []) (sym fails))
      (λ w f fails. posts-move (rules_of book) h (with-posts h posts table) w (stored w (read-entry book node.0 w)) node.0 p p' f moves (
        subst (λ (x : NodeState). IsNodeOf node.0 x (w.nodes node.0)) (sym same_node) (node-of (rules_of book) h w node.0 p f moves.was),
        subst (λ (x : TurnOut). IsTurnIn (rules_of book) (stored w (read-entry book node.0 w)) node.0 x) (sym turn)
            (turn-read book node.0 t k w (asked-in w f) is.caught_of (note-is book h node.0 t k w is (asked-in w f) f.table.shows fails)),
      )
      (λ m e. refl) (λ m e. other-caught book node.0 m w e))
      (λ w f fails. record { rows_are = rows ∙ f.table.shows.rows_are; last_is = ap (λ (m : RowId). m.0) last ∙ f.table.shows.last_is })
      (λ m off. node-kept node.0 m p p' h (with-posts h posts table) moves same_node)

-- ---- a deliver

-- what was read is expected
pub expects : (r : Rules) (h : Held) (n : ℕ) (p : Post) (k : OutCaught) → post_at n h.posts ≡ Some p → p.turn ≡ turn_out.Read k → FollowsSome r h → is_expected k.caught p.node ≡ true
expects r h n p k at turn (w, f) =
    let m = node-of r h w n p f at in
    let a : IsReadIn w n k.caught = subst (λ (x : TurnOut). IsTurnIn r w n x) turn (turn-of r h w n p f at) in
    all-true (is_out (past p.node)) (k.caught.node.0 == p.node.no.0) (k.caught.number == last_turn (past p.node)) (k.caught.lower.0 == lower (past p.node))
    (ap is_out m.journal ∙ a.out)
    (same-number k.caught.node.0 p.node.no.0 (a.node ∙ sym m.number))
    (same-number k.caught.number (last_turn (past p.node)) (a.number ∙ sym (ap last_turn m.journal)))
    (same-number k.caught.lower.0 (lower (past p.node)) (a.lower_is ∙ sym (ap lower m.journal)))
  where
    same-number : (x y : ℕ) → x ≡ y → (x == y) ≡ true
    same-number x y e = grind (arith, nat_tests)

    all-true : (x y z v : Bool) → x ≡ true → y ≡ true → z ≡ true → v ≡ true → (x && (y && (z && v))) ≡ true
    all-true x y z v p q s u = rw (p, q, s, u) refl

-- the entry of a Deliver of the node's turn
abbrev deliver-entry : ℕ → OutCaught → World → Step
deliver-entry n k w = Step.Deliver (last_turn (w.nodes n)) (note_in k.caught)

pub deliver_steps : (r : Rules) (h h' : Held) (node : NodeNo) (p p' : Post) (k : OutCaught) → PostMoves node.0 p p' h.posts h'.posts → h'.conns ≡ h.conns → h'.table ≡ h.table → p.turn ≡ turn_out.Read k
    → p'.turn ≡ turn_out.None → p'.node.no ≡ p.node.no → past p'.node ≡ Step.Deliver k.caught.number (note_in k.caught) ∷ past p.node → TakesNone p.node p'.node
    → StepsIn r (event.Deliver node) h silent_said h'
deliver_steps r h h' node p p' k moves conns table was turn same_no grown takes =
    possible_steps r (event.Deliver node) h h' silent_said (λ w f. ap (λ (o : Option ReadNote). is_some o) (read-in w f).note) refl (λ w f. refl)
    (λ w f may. comes r h h' w (logged w node.0 (deliver-entry node.0 k w)) (event.Deliver node) f may (ap (deliver w node.0) (read-in w f).note)
    (one-entry r h h' w node.0 (deliver-entry node.0 k w) p p' f moves conns table
    (entered node.0 p.node p'.node (deliver-entry node.0 k w) (w.nodes node.0) same_no (grown ∙ ap (λ (m : ℕ). Step.Deliver m (note_in k.caught) ∷ past p.node) (read-in w f).number) takes (λ c. refl) (node-of r h w node.0 p f moves.was))
    (subst (λ (x : TurnOut). IsTurnIn r (logged w node.0 (deliver-entry node.0 k w)) node.0 x) (sym turn) (ap is_out (own-node w node.0 (deliver-entry node.0 k w))))
    (λ c. refl)))
    (same-calls h h' table) (λ n off. others-as node.0 p p' h h' moves n off)
  where
    read-in : (w : World) → FollowsWorld r h w → IsReadIn w node.0 k.caught
    read-in w f = subst (λ (x : TurnOut). IsTurnIn r w node.0 x) was (turn-of r h w node.0 p f moves.was)
