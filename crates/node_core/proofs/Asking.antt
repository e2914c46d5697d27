-- A node that asks a turn, and one whose turn was missed, go on standing for their journals.
use Rattle.std.proofs.Common.{◌≡◌, ◌≢◌, ◌+◌, ◌==◌, ℕ, ℤ, Bool, true, false, not, ◌&&◌, List, [], ◌∷◌, map, length, Option, Some, None, refl, sym, ap, subst, ◌∙◌, arith, inr}
use Rattle.std.specs.Prelude.{cond, MatchOption}
use Rattle.std.specs.FinMap as maps
use Rattle.std.specs.Ordering.{int_eq}
use Rattle.std.specs.List.{All}
use Rattle.std.specs.List.Sorted.{IsPermutation}
use Rattle.std.proofs.lemmas.Bool.Decides.{nat_tests}
use Rattle.std.proofs.lemmas.List.Sorted.{list_any-IsPermutation}
use Rattle.cable_base.specs.Hash.{channel_hash_of}
use Rattle.cable_base.specs.declared.numbers.NodeNo.{NodeNo}
use Rattle.cable_base.specs.declared.numbers.RowId.{RowId}
use Rattle.cable_model.specs.Possible.{is_booted, is_out, last_turn}
use Rattle.cable_model.specs.Steps.{Step}
use Rattle.cable_model.specs.Wants.{lower}
use Rattle.node_turns.proofs.HeldNames.{names-held}
use Rattle.node_turns.proofs.HoldsStaying.{held-missed, held-steady}
use Rattle.node_seats.specs.Outboxes.{OutboxesState, forgotten_at}
use Rattle.node_seats.specs.declared.turning.Wanted.{Wanted}
use Rattle.node_seats.specs.Numbers.{Numbers}
use Rattle.node_seats.proofs.Delivering.{turn-missed}
use Rattle.node_seats.proofs.Onward.{onward}
use Rattle.poll_turn.specs.Turns.{CaughtState, CursorState, TurnState, AreMessages, IsTurnOut, lower_after}
use Rattle.subscriber_map.specs.HoldMaps.{HoldMap, holds_at}
use Rattle.node_turns.proofs.Wishing.{wished-ask, wished-missed}
use Rattle.node_core.specs.Journals.{JournalState}
use Rattle.node_core.specs.Nodes.{NodeState, Stands, HasTurnRoom, IsAt, past}
use Rattle.node_core.specs.Turned.{IsNextTurn, is_expected}
use Rattle.poll_turn.specs.Notes.{note_in}
use Rattle.node_core.proofs.Queueing.{quiet}

-- ---- an ask

-- the cursor asked the next turn of this node
pub record Asks (number : NodeNo) (hashes : List ℤ) (old : CursorState) (o : Option TurnState) (new : CursorState) : Type 0 where
  pub turn : o ≡ Some (record { node = number; number = old.turns + 1; lower = old.lower; hashes = hashes })
  pub now : new ≡ record { lower = old.lower; turns = old.turns + 1; is_out = true }

pub asked : (number : NodeNo) (hashes : List ℤ) (old new : CursorState) (o : Option TurnState) → old.is_out ≡ false
    → MatchOption o ((old.is_out ≡ true) × (new ≡ old)) (λ turn. (old.is_out ≡ false)
    × (turn ≡ record { node = number; number = old.turns + 1; lower = old.lower; hashes = hashes })
    × (new ≡ record { lower = old.lower; turns = old.turns + 1; is_out = true }))
    → Asks number hashes old o new
asked number hashes old new None unasked m = absurd (let t = m.0 in cc (t, unasked))
asked number hashes old new (Some t) unasked m = record { turn = ap Some m.1; now = m.2 }

-- no turn is out, so that one may be asked
pub may-ask : (b o : Bool) → b ≡ true → o ≡ false → (b && not o) ≡ true
may-ask true false b o = refl
may-ask true true b o = absurd cc
may-ask false o b e = absurd cc

module _ {past : List Step} {v : Numbers} {outs : OutboxesState} {k : CursorState} {holds : HoldMap} {ws : List Wanted} {taken : ℕ} where
  pub asks : (turn : ℕ) (new : CursorState) → Stands past v outs k holds ws taken → k.is_out ≡ false → turn ≡ k.turns + 1
      → new ≡ record { lower = k.lower; turns = turn; is_out = true } → Stands (Step.Ask turn ∷ past) v outs new holds ws (length ws)
  asks turn new h unasked next now =
      record {
        booted = refl;
        legal = ((may-ask (is_booted past) (is_out past) h.booted (sym h.listens.out ∙ unasked), inr (next ∙ (let t = h.listens.turns in omega (arith, t)))), h.legal);
        messages = h.messages;
        numbers = onward past (Step.Ask turn ∷ past) v refl (λ c. record { user = refl; seated = refl; marked = refl }) h.numbers;
        queues = λ c. quiet c past (Step.Ask turn ∷ past) outs refl (h.queues c);
        listens = record { lower_is = ap (λ (x : CursorState). x.lower.0) now ∙ h.listens.lower_is; turns = ap (λ (x : CursorState). x.turns) now; out = ap (λ (x : CursorState). x.is_out) now };
        held = held-steady (Step.Ask turn) past holds refl h.held;
        wished = wished-ask turn past (λ c. forgotten_at c outs) ws taken h.wished;
      }

-- the turn that was asked is the next one
pub next-turn : (n : NodeState) (v : Numbers) (k : CursorState) (holds : HoldMap) (ws : List Wanted) (taken : ℕ) (hashes : List ℤ) (o : Option TurnState) (t : TurnState)
    → Stands (past n) v n.outs k holds ws taken → IsPermutation hashes (map channel_hash_of (maps.keys holds)) → All (λ name. holds_at holds name ≢ []) (maps.keys holds)
    → o ≡ Some (record { node = n.no; number = k.turns + 1; lower = k.lower; hashes = hashes })
    → o ≡ Some t → IsNextTurn t n
next-turn n v k holds ws taken hashes o t h hashed keyed is this =
    let same : Some (record { node = n.no; number = k.turns + 1; lower = k.lower; hashes = hashes }) ≡ Some t = sym is ∙ this in
    let e : (record { node = n.no; number = k.turns + 1; lower = k.lower; hashes = hashes }) ≡ t = cc same in
    subst (λ (x : TurnState). IsNextTurn x n) e
    (record {
      node = refl;
      number = let t = h.listens.turns in omega (arith, t);
      lower_is = h.listens.lower_is;
      asks = λ x. list_any-IsPermutation (λ y. int_eq y x) hashes (map channel_hash_of (maps.keys holds)) hashed ∙ names-held channel_hash_of (past n) holds x h.legal h.held keyed;
    })

-- ---- what a turn caught

-- what was caught is expected: of this turn, which is out
pub record Expected (caught : CaughtState) (at : NodeNo) (past : List Step) : Type 0 where
  pub out : is_out past ≡ true
  pub node : (caught.node.0 == at.0) ≡ true
  pub number : caught.number ≡ last_turn past
  pub lower_is : caught.lower.0 ≡ lower past

pub expected : (caught : CaughtState) (n : NodeState) → is_expected caught n ≡ true → Expected caught n.no (past n)
expected caught n e = by-tests (is_out (past n)) refl (caught.node.0 == n.no.0) refl (caught.number == last_turn (past n)) refl (caught.lower.0 == lower (past n)) refl e
  where
    by-tests : (a : Bool) → is_out (past n) ≡ a → (b : Bool) → (caught.node.0 == n.no.0) ≡ b → (c : Bool) → (caught.number == last_turn (past n)) ≡ c
        → (d : Bool) → (caught.lower.0 == lower (past n)) ≡ d → (a && (b && (c && d))) ≡ true → Expected caught n.no (past n)
    by-tests true a true b true c true d e = record { out = a; node = b; number = grind (arith, nat_tests); lower_is = grind (arith, nat_tests) }
    by-tests false a b is_b c is_c d is_d e = absurd cc
    by-tests true a false b c is_c d is_d e = absurd cc
    by-tests true a true b false c d is_d e = absurd cc
    by-tests true a true b true c false d e = absurd cc

-- so it is of the turn that the cursor has out
pub turn-out : (caught : CaughtState) (k : CursorState) (node : NodeNo) (past : List Step) → IsAt past k → Expected caught node past → IsTurnOut k caught
turn-out caught k node past at x =
    record {
      out = at.out ∙ x.out;
      number = x.number ∙ sym at.turns;
      lower = same-row caught.lower k.lower (x.lower_is ∙ sym at.lower_is);
    }
  where
    same-row : (a b : RowId) → a.0 ≡ b.0 → a ≡ b
    same-row a b e = ap (λ (n : ℕ). (record { 0 = n })) e

-- once no turn is out, no room for its Deliver is needed
pub no-room : (past : List Step) (j : JournalState) → is_out past ≡ false → HasTurnRoom past j
no-room past j over = record { room = λ o. absurd (cc (over, o)) }

module _ {past : List Step} {v : Numbers} {outs : OutboxesState} {k : CursorState} {holds : HoldMap} {ws : List Wanted} {taken : ℕ} where
  -- a missed turn moves nothing
  pub misses : (caught : CaughtState) (node : NodeNo) (new : CursorState) → Stands past v outs k holds ws taken → Expected caught node past → caught.is_missed ≡ true → AreMessages caught.rows
      → new ≡ record { lower = lower_after caught; turns = k.turns; is_out = false } → Stands (Step.Deliver caught.number (note_in caught) ∷ past) v outs new holds ws 0
  misses caught node new h x missed messages now =
      record {
        booted = refl;
        legal = ((x.out, x.number, x.lower_is), h.legal);
        messages = (messages, h.messages);
        numbers = turn-missed caught.number (note_in caught) past v missed h.numbers;
        queues = λ c. quiet c past (Step.Deliver caught.number (note_in caught) ∷ past) outs refl (h.queues c);
        listens = record {
          lower_is =
              ap (λ (y : CursorState). y.lower.0) now
              ∙ (ap (λ b. (cond b caught.lower caught.upto).0) missed
              ∙ (x.lower_is ∙ sym (ap (λ b. cond b (lower past) caught.upto.0) missed)));
          turns = ap (λ (y : CursorState). y.turns) now ∙ h.listens.turns;
          out = ap (λ (y : CursorState). y.is_out) now;
        };
        held = held-missed caught.number (note_in caught) past holds missed h.held;
        wished = wished-missed caught.number (note_in caught) past (λ c. forgotten_at c outs) ws taken missed h.wished;
      }
