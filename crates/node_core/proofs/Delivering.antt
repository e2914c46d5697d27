-- A node that delivers what a turn found goes on standing for its journal.
use Rattle.std.proofs.Common.{◌≡◌, ℕ, true, false, cond, List, ◌∷◌, ◌++◌, drop, take, Some, refl, sym, ap, ◌∙◌}
use Rattle.cable_base.specs.declared.numbers.NodeNo.{NodeNo}
use Rattle.cable_model.specs.declared.journals.ReadNote.{ReadNote}
use Rattle.cable_model.specs.declared.pieces.Piece.{Piece}
use Rattle.cable_model.specs.Pieces.{seat, deliver_puts, rows_puts}
use Rattle.cable_model.specs.Possible.{is_out}
use Rattle.cable_model.specs.Steps.{Step}
use Rattle.cable_model.specs.Wants.{lower, marks, turn_mark, user_of}
use Rattle.conn_seat.specs.Seats.{Seated, Becomes}
use Rattle.conn_seat.specs.Turns.{with_turn}
use Rattle.node_turns.specs.Holding.{placings_of, rows_bring, with_placings}
use Rattle.node_turns.proofs.RowsBring.{brings-rows}
use Rattle.node_turns.proofs.PlacingTurn.{places-held}
use Rattle.node_seats.specs.Outboxes.{OutboxesState, forgotten_at}
use Rattle.node_seats.specs.declared.turning.Delivery.{Delivery}
use Rattle.node_seats.specs.declared.turning.Wanted.{Wanted}
use Rattle.node_seats.specs.Numbers.{Numbers, Opened, opened_at}
use Rattle.node_seats.specs.Turned.{Turns, Roomier, Delivers, Places, pieces_for}
use Rattle.poll_turn.specs.Turns.{CaughtState, CursorState, AreMessages, lower_after}
use Rattle.subscriber_map.specs.HoldMaps.{HoldMap}
use Rattle.node_turns.specs.Wants.{confirms_of}
use Rattle.node_seats.proofs.Composing.{pieces-for-more}
use Rattle.node_seats.proofs.Delivering.{turn-calls, turn-found, turn-rooms}
use Rattle.node_turns.proofs.Confirmed.{turn-confirms}
use Rattle.node_turns.proofs.MarksPlaced.{turn-places}
use Rattle.node_turns.proofs.Wishing.{wished-found}
use Rattle.node_core.specs.Nodes.{Stands}
use Rattle.poll_turn.specs.Notes.{note_in}
use Rattle.node_core.proofs.Asking.{Expected}
use Rattle.node_core.proofs.Queueing.{quiet}
use Rattle.node_core.proofs.Telling.{worked}

module _ {past : List Step} {v : Numbers} {outs : OutboxesState} {k : CursorState} {holds : HoldMap} {ws : List Wanted} {taken : ℕ} where
  pub roomy : (new : Numbers) → Stands past v outs k holds ws taken → Roomier v new → Stands past new outs k holds ws taken
  roomy new h r =
      record { booted = h.booted; legal = h.legal; messages = h.messages; numbers = turn-rooms past v new h.numbers r; queues = h.queues; listens = h.listens; held = h.held; wished = h.wished }

  -- what the turn brings for a live connection is what the journal says
  puts-are : (c : ℕ) (note : ReadNote) (s : Seated) (ds : List Delivery) → Stands past v outs k holds ws taken → is_out past ≡ true → note.failed ≡ false
      → ds ≡ rows_bring holds note.rows ++ confirms_of v (take taken ws) → opened_at c v ≡ Some (Opened.Live s)
      → pieces_for c ds ≡ deliver_puts (user_of c past) (marks c past) (turn_mark c note past) (seat c past).conn.subs note.rows
  puts-are c note s ds h out found is at =
      let live = h.numbers.each c (Opened.Live s) at in
      let shut : (seat c past).conn.over ≡ false = sym live.0.shows.conn.over ∙ live.1 in
      ap (pieces_for c) is
      ∙ (pieces-for-more c (rows_bring holds note.rows) (confirms_of v (take taken ws))
      ∙ (ap (λ (ps : List Piece). ps ++ pieces_for c (confirms_of v (take taken ws))) (brings-rows c note.rows past holds h.legal h.held shut)
      ∙ ap (λ (ps : List Piece). rows_puts (user_of c past) (marks c past) (seat c past).conn.subs note.rows ++ ps) (turn-confirms c note past v s (λ d. forgotten_at d outs) ws taken h.legal out found h.numbers h.wished at)))

  turns-all : (note : ReadNote) (v1 v2 v3 : Numbers) (ds : List Delivery) → Stands past v outs k holds ws taken → is_out past ≡ true → note.failed ≡ false
      → ds ≡ rows_bring holds note.rows ++ confirms_of v (take taken ws) → Roomier v v1 → Places note.last (take taken ws) v1 v2 → Delivers ds v2 v3
      → Turns (λ c s t. Becomes (with_turn (turn_mark c note past) (deliver_puts (user_of c past) (marks c past) (turn_mark c note past) (seat c past).conn.subs note.rows) s) t) v v3
  turns-all note v1 v2 v3 ds h out found is room places puts =
      turn-calls (λ c. turn_mark c note past) (λ c. deliver_puts (user_of c past) (marks c past) (turn_mark c note past) (seat c past).conn.subs note.rows) note.last (take taken ws) ds v v1 v2 v3
      (λ c s at. turn-places c note past s (λ d. forgotten_at d outs) ws taken h.legal out found (h.numbers.each c (Opened.Live s) at).0 h.wished)
      (λ c s at. puts-are c note s ds h out found is at)
      room places puts

  pub delivers : (caught : CaughtState) (node : NodeNo) (v1 v2 v3 : Numbers) (ds : List Delivery) (new : CursorState) → Stands past v outs k holds ws taken
      → Expected caught node past → caught.is_missed ≡ false → AreMessages caught.rows
      → ds ≡ rows_bring holds caught.rows ++ confirms_of v (take taken ws) → Roomier v v1 → Places caught.last (take taken ws) v1 v2 → Delivers ds v2 v3
      → new ≡ record { lower = lower_after caught; turns = k.turns; is_out = false }
      → Stands (Step.Deliver caught.number (note_in caught) ∷ past) v3 outs new (with_placings (placings_of v caught.last (take taken ws)) holds) (drop taken ws) 0
  delivers caught node v1 v2 v3 ds new h x found messages is room places puts now =
      record {
        booted = refl;
        legal = ((x.out, x.number, x.lower_is), h.legal);
        messages = (messages, h.messages);
        numbers = turn-found caught.number (note_in caught) past v v3 (worked past h.legal) h.numbers found (turns-all (note_in caught) v1 v2 v3 ds h x.out found is room places puts);
        queues = λ c. quiet c past (Step.Deliver caught.number (note_in caught) ∷ past) outs refl (h.queues c);
        listens = record {
          lower_is =
              ap (λ (y : CursorState). y.lower.0) now
              ∙ (ap (λ b. (cond b caught.lower caught.upto).0) found
              ∙ sym (ap (λ b. cond b (lower past) caught.upto.0) found));
          turns = ap (λ (y : CursorState). y.turns) now ∙ h.listens.turns;
          out = ap (λ (y : CursorState). y.is_out) now;
        };
        held = places-held caught.number (note_in caught) past v (λ d. forgotten_at d outs) ws taken holds h.legal x.out found h.numbers h.wished h.held;
        wished = wished-found caught.number (note_in caught) past (λ d. forgotten_at d outs) ws taken h.legal x.out found h.wished;
      }
