-- What a node keeps goes on standing for its journal, entry by entry. Here are the entries that queue nothing, and room that is made.
use Rattle.std.proofs.Common.{◌≡◌, ◌≤◌, ◌+◌, ℕ, true, false, List, [], ◌∷◌, Some, None, length, take, refl, sym, subst, ◌∙◌, arith}
use Rattle.std.specs.FinMap as maps
use Rattle.cable_base.specs.declared.numbers.RowId.{RowId}
use Rattle.cable_json.specs.Commands.{command_of}
use Rattle.cable_model.specs.declared.pieces.Piece.TheVariants as piece
use Rattle.cable_model.specs.Journal.{Kept, past_of}
use Rattle.cable_model.specs.Legal.{LegalStep}
use Rattle.cable_model.specs.Possible.{can_drop, is_out, is_over, last_turn, can_take}
use Rattle.cable_model.specs.Steps.{Step}
use Rattle.cable_model.specs.Wants.{lower}
use Rattle.conn_seat.specs.Seats.{Seated, Becomes, with_piece, with_taken, may_take_now}
use Rattle.node_turns.specs.Held.{is_steady}
use Rattle.node_seats.specs.Outboxes.{OutboxesState, Forgets, WidensAll, forgotten_at, queue_at, taken_at}
use Rattle.node_seats.specs.declared.turning.Wanted.{Wanted}
use Rattle.node_seats.specs.Numbers.{Numbers, Opened, Moves, Lives, Stops, opened_at}
use Rattle.node_seats.specs.AreSeats.{AreSeats}
use Rattle.node_seats.proofs.Onward.{onward}
use Rattle.node_seats.proofs.Counting.{none-yet}
use Rattle.node_seats.proofs.Entries.{texts, drops, rooms, takes}
use Rattle.node_seats.proofs.Opening.{stops}
use Rattle.poll_turn.specs.Turns.{CursorState}
use Rattle.subscriber_map.specs.HoldMaps.{HoldMap}
use Rattle.node_turns.specs.Wants.{wanted_but}
use Rattle.node_turns.specs.Wished.{is_plain}
use Rattle.node_core.specs.Arriving.{text_fault}
use Rattle.node_core.specs.Journals.{JournalState}
use Rattle.node_core.specs.Nodes.{Stands, IsQueued, AreQueued, HasTurnRoom, BringsMessages}
use Rattle.node_turns.proofs.HoldsStaying.{held-boot, held-steady}
use Rattle.node_turns.proofs.Wishing.{wished-as, wished-boot, wished-forgotten, wished-plain}
use Rattle.node_core.proofs.Queueing.{quiet, roomier, unmoved}
use Rattle.node_core.proofs.Telling.{worked, can-put}

pub boots : (last : RowId) (outs : OutboxesState) → ((c : ℕ) → (queue_at c outs ≡ []) × (taken_at c outs ≡ 0))
    → ((c : ℕ) → forgotten_at c outs ≡ false)
    → Stands (Step.Boot last.0 ∷ []) [] outs (record { lower = last; turns = 0; is_out = false }) maps.empty [] 0
boots last outs none unforgotten =
    record {
      booted = refl;
      legal = (refl, tt);
      messages = tt;
      numbers = onward [] (Step.Boot last.0 ∷ []) [] refl (λ c. record { user = refl; seated = refl; marked = refl }) none-yet;
      queues = λ c. record { within = let t = (none c).1 in omega (arith, t); left = let q = (none c).0 in let t = (none c).1 in rw (q, t) refl };
      listens = record { lower_is = refl; turns = refl; out = refl };
      held = held-boot last.0;
      wished = wished-as (Step.Boot last.0 ∷ []) (λ _. false) (λ c. forgotten_at c outs) [] 0 unforgotten (wished-boot last.0);
    }

-- while an entry is not of a turn the listener stays
pub record IsQuiet (e : Step) (past : List Step) : Type 0 where
  pub steady : is_steady e ≡ true
  pub plain : is_plain e ≡ true
  pub lower_is : lower (e ∷ past) ≡ lower past
  pub turns : last_turn (e ∷ past) ≡ last_turn past
  pub out : is_out (e ∷ past) ≡ is_out past
  pub messages : BringsMessages past → BringsMessages (e ∷ past)

module _ {past : List Step} {v : Numbers} {outs : OutboxesState} {k : CursorState} {holds : HoldMap} {ws : List Wanted} {taken : ℕ} where
  -- other things are queued, and the journal is the same
  pub queues-now : (new : OutboxesState) → Stands past v outs k holds ws taken → AreQueued past new
      → ((c : ℕ) → forgotten_at c new ≡ forgotten_at c outs) → Stands past v new k holds ws taken
  queues-now new h queues forgot =
      record {
        booted = h.booted;
        legal = h.legal;
        messages = h.messages;
        numbers = h.numbers;
        queues = queues;
        listens = h.listens;
        held = h.held;
        wished = wished-as past (λ c. forgotten_at c outs) (λ c. forgotten_at c new) ws taken forgot h.wished;
      }

  -- one that is over is forgotten, and its wants are dropped
  pub forgets : (c : ℕ) (new : OutboxesState) → Stands past v outs k holds ws taken → is_over c past ≡ true → Forgets c outs new
      → Stands past v new k holds (wanted_but c ws) (length (wanted_but c (take taken ws)))
  forgets c new h over f =
      record {
        booted = h.booted;
        legal = h.legal;
        messages = h.messages;
        numbers = h.numbers;
        queues = unmoved past outs new h.queues f.queue f.taken;
        listens = h.listens;
        held = h.held;
        wished = wished-forgotten c past (λ d. forgotten_at d outs) (λ d. forgotten_at d new) ws taken over f.forgotten f.others h.wished;
      }

  -- room that was made
  pub room-out : (new : OutboxesState) → Stands past v outs k holds ws taken → WidensAll outs new → Stands past v new k holds ws taken
  room-out new h r = queues-now new h (roomier past outs new h.queues r) r.forgotten

  pub room-in : (c : ℕ) (new : Numbers) → Stands past v outs k holds ws taken → Moves c (Lives Becomes) v new → Stands past new outs k holds ws taken
  room-in c new h m =
      record {
        booted = h.booted;
        legal = h.legal;
        messages = h.messages;
        numbers = rooms c past v new h.numbers m;
        queues = h.queues;
        listens = h.listens;
        held = h.held;
        wished = h.wished;
      }

  -- an entry that makes no want, ends no hold, and is none of a turn
  pub onto : (e : Step) (new : Numbers) (said : OutboxesState) → IsQuiet e past → Stands past v outs k holds ws taken → LegalStep e past → AreSeats (e ∷ past) new
      → ((c : ℕ) → IsQueued c (e ∷ past) said) → ((c : ℕ) → forgotten_at c said ≡ forgotten_at c outs)
      → Stands (e ∷ past) new said k holds ws taken
  onto e new said q h may numbers queues forgot =
      record {
        booted = refl;
        legal = (may, h.legal);
        messages = q.messages h.messages;
        numbers = numbers;
        queues = queues;
        listens = record { lower_is = h.listens.lower_is ∙ sym q.lower_is; turns = h.listens.turns ∙ sym q.turns; out = h.listens.out ∙ sym q.out };
        held = held-steady e past holds q.steady h.held;
        wished = wished-plain e past (λ c. forgotten_at c said) ws taken q.plain
            (wished-as past (λ c. forgotten_at c outs) (λ c. forgotten_at c said) ws taken forgot h.wished);
      }

  pub goes : (c : ℕ) (new : Numbers) → Stands past v outs k holds ws taken → can_drop c past ≡ true
      → Moves c (Lives (λ s t. Becomes (with_piece piece.Gone s) t)) v new → Stands (Step.Drop c ∷ past) new outs k holds ws taken
  goes c new h may m =
      onto (Step.Drop c) new outs (record { steady = refl; plain = refl; lower_is = refl; turns = refl; out = refl; messages = λ b. b }) h may
      (drops c past v new (worked past h.legal) h.numbers m)
      (λ d. quiet d past (Step.Drop c ∷ past) outs refl (h.queues d)) (λ d. refl)

  pub arrives : (c : ℕ) (text : List ℕ) (new : Numbers) → Stands past v outs k holds ws taken → text_fault c text past ≡ None
      → Moves c (Lives (λ s t. Becomes (with_piece (piece.Cmd (command_of text)) s) t)) v new → Stands (Step.In c text ∷ past) new outs k holds ws taken
  arrives c text new h none m =
      onto (Step.In c text) new outs (record { steady = refl; plain = refl; lower_is = refl; turns = refl; out = refl; messages = λ b. b }) h (can-put c text past none)
      (texts c text past v new (worked past h.legal) h.numbers m)
      (λ d. quiet d past (Step.In c text ∷ past) outs refl (h.queues d)) (λ d. refl)

  pub restarts : (new : Numbers) → Stands past v outs k holds ws taken → Stops v new → Stands (Step.Stop ∷ past) new outs k holds ws taken
  restarts new h stopped =
      onto Step.Stop new outs (record { steady = refl; plain = refl; lower_is = refl; turns = refl; out = refl; messages = λ b. b }) h h.booted
      (stops past v new (worked past h.legal) h.numbers stopped)
      (λ d. quiet d past (Step.Stop ∷ past) outs refl (h.queues d)) (λ d. refl)

  pub takes-one : (c : ℕ) (new : Numbers) → Stands past v outs k holds ws taken → can_take c past ≡ true
      → Moves c (Lives (λ s t. Becomes (with_taken s) t)) v new → ((s : Seated) → opened_at c v ≡ Some (Opened.Live s) → may_take_now s ≡ true)
      → Stands (Step.Take c ∷ past) new outs k holds ws taken
  takes-one c new h may m is =
      onto (Step.Take c) new outs (record { steady = refl; plain = refl; lower_is = refl; turns = refl; out = refl; messages = λ b. b }) h may
      (takes c past v new (worked past h.legal) h.numbers m is)
      (λ d. quiet d past (Step.Take c ∷ past) outs refl (h.queues d)) (λ d. refl)

-- ---- the room for the Deliver of a turn that is out

-- more room, and the same journal
pub room-stays : (j new : JournalState) → HasTurnRoom (past_of j.kept) j → new.kept ≡ j.kept → j.spare ≤ new.spare → HasTurnRoom (past_of new.kept) new
room-stays j new h kept stays = subst (λ (k : Kept). HasTurnRoom (past_of k) new) (sym kept) (record { room = λ o. (let a = h.room o in omega arith) })

-- an entry takes one of the two that there was room for
pub room-left : (past : List Step) (j new : JournalState) → 2 ≤ j.spare → j.spare ≤ new.spare + 1 → HasTurnRoom past new
room-left past j new room spare = record { room = λ o. omega arith }

-- no turn is out on a node that booted
pub no-turn : (past : List Step) (last : ℕ) (j : JournalState) → past ≡ Step.Boot last ∷ [] → HasTurnRoom past j
no-turn past last j booted = rw booted (record { room = λ o. absurd cc })
