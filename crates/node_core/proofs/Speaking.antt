-- What a node keeps goes on standing for its journal, entry by entry. Here are a Beat and an Open, which queue texts.
use Rattle.std.proofs.Common.{◌≡◌, ◌≤◌, ℕ, ◌==◌, Bool, true, false, cond, List, [], ◌∷◌, ◌++◌, map, Option, Some, None, refl, sym, ap, subst, ◌∙◌}
use Rattle.std.specs.Prelude.{ltb}
use Rattle.std.specs.List.{list_any, IsDistinct}
use Rattle.std.specs.Map.{keys_of}
use Rattle.std.specs.Ordering.{nat_cmp, eq_by_cmp}
use Rattle.std.proofs.lemmas.Map.Keys.{IsDistinct-from_sorted}
use Rattle.cable_base.specs.declared.numbers.ConnNo.{ConnNo}
use Rattle.cable_model.specs.declared.lines.Line.{Line}
use Rattle.cable_model.specs.Legal.{Legal}
use Rattle.cable_model.specs.Limits.{most_connections}
use Rattle.cable_model.specs.Possible.{opened, is_opened, is_receiving, live_count, can_open}
use Rattle.cable_model.specs.Steps.{Step}
use Rattle.cable_model.specs.Transcript.{queued, ping_line, conn_line, greeting}
use Rattle.conn_seat.specs.declared.outs.Out.TheVariants as out
use Rattle.node_seats.specs.Outboxes.{OutboxesState, Queues, CanQueue, room_at, forgotten_at}
use Rattle.node_seats.specs.declared.turning.Wanted.{Wanted}
use Rattle.node_seats.specs.Numbers.{Numbers, Rising, receiving_among}
use Rattle.node_seats.specs.AreSeats.{AreSeats}
use Rattle.node_seats.proofs.Onward.{onward}
use Rattle.node_seats.proofs.Counting.{receiving-all}
use Rattle.node_seats.proofs.Opening.{opened-with, refused}
use Rattle.poll_turn.specs.Turns.{CursorState}
use Rattle.subscriber_map.specs.HoldMaps.{HoldMap}
use Rattle.node_turns.specs.Wished.{own_wanted}
use Rattle.node_core.specs.Nodes.{Stands, ping_of}
use Rattle.node_core.specs.Opening.{OpensAs}
use Rattle.node_turns.proofs.HoldsStaying.{held-open}
use Rattle.node_turns.proofs.Wishing.{wished-as, wished-open}
use Rattle.node_core.proofs.Pinging.{pinged, ping-room}
use Rattle.node_core.proofs.Queueing.{says, lines_on}
use Rattle.node_core.proofs.Standing.{onto}
use Rattle.node_core.proofs.Telling.{worked, receiving-opened}

-- ---- a beat

distinct : (past : List Step) (v : Numbers) → AreSeats past v → IsDistinct (eq_by_cmp nat_cmp) (opened past)
distinct past v a = subst (λ (ks : List ℕ). IsDistinct (eq_by_cmp nat_cmp) ks) a.numbers (IsDistinct-from_sorted nat_cmp (keys_of v) a.rising)

with-ping : (b : Bool) (ls : List Line) (l : Line) → cond b (ls ++ l ∷ []) ls ≡ ls ++ cond b (l ∷ []) []
with-ping true ls l = refl
with-ping false [] l = refl
with-ping false (x ∷ ls) l = ap (λ (ms : List Line). x ∷ ms) (with-ping false ls l)

greeted : (c d : ℕ) (ls : List Line) (text : List ℕ)
    → cond (c == d) (ls ++ conn_line d text ∷ []) ls ≡ ls ++ lines_on d (record { conn = record { 0 = c }; out = out.Text text } ∷ [])
greeted c d ls text = by-test (c == d) refl
  where
    by-test : (b : Bool) → (c == d) ≡ b
        → cond b (ls ++ conn_line d text ∷ []) ls ≡ ls ++ lines_on d (record { conn = record { 0 = c }; out = out.Text text } ∷ [])
    by-test true e = rw e refl
    by-test false e = rw e (with-ping false ls (conn_line d text))

opens-as : (c : ℕ) (token : List ℕ) (user : Option (List ℕ)) (past : List Step) (v new : Numbers) → AreSeats past v → is_opened c past ≡ false
    → OpensAs c user v new → Rising new
    → AreSeats (Step.Open c token user ∷ past) new
opens-as c token None past v new a free now rising = refused c token past v new a free now rising
opens-as c token (Some user) past v new a free s rising = opened-with c token user past v new s.0 a free s.1 s.2 rising

module _ {past : List Step} {v : Numbers} {outs : OutboxesState} {k : CursorState} {holds : HoldMap} {ws : List Wanted} {taken : ℕ} where
  -- where there is room for one more on each, there is room for the pings
  pub beat-room : (now : ℕ) (roomy : OutboxesState) → Stands past v outs k holds ws taken
      → ((c : ℕ) → list_any (λ (d : ConnNo). d.0 == c) (receiving_among v) ≡ true → 1 ≤ room_at c roomy)
      → CanQueue (map (ping_of now) (receiving_among v)) roomy
  beat-room now roomy h enough c =
      ping-room now c (λ d. is_receiving d past) (opened past) (receiving_among v) (room_at c roomy)
      (distinct past v h.numbers) (receiving-all past v (worked past h.legal) h.numbers) (receiving-opened c past) (enough c)

  pub beats : (now : ℕ) (new : OutboxesState) → Stands past v outs k holds ws taken → Queues (map (ping_of now) (receiving_among v)) outs new
      → Stands (Step.Beat now ∷ past) v new k holds ws taken
  beats now new h q =
      onto (Step.Beat now) v new (record { steady = refl; plain = refl; lower_is = refl; turns = refl; out = refl; messages = λ b. b }) h h.booted
      (onward past (Step.Beat now ∷ past) v refl (λ c. record { user = refl; seated = refl; marked = refl }) h.numbers)
      (λ c. says c past (Step.Beat now ∷ past) outs new (map (ping_of now) (receiving_among v)) (h.queues c) q
      (with-ping (is_receiving c past) (queued c past) (ping_line now c)
      ∙ ap (λ (ls : List Line). queued c past ++ ls)
      (sym (pinged now c (λ d. is_receiving d past) (opened past) (receiving_among v) (distinct past v h.numbers)
      (receiving-all past v (worked past h.legal) h.numbers) (receiving-opened c past)))))
      q.forgotten

  -- ---- an open

  pub opens : (c : ConnNo) (token : List ℕ) (user : Option (List ℕ)) (new : Numbers) (said : OutboxesState) → Stands past v outs k holds ws taken
      → is_opened c.0 past ≡ false → ltb (live_count past) most_connections ≡ true → OpensAs c.0 user v new → Rising new
      → Queues (record { conn = c; out = out.Text (greeting user) } ∷ []) outs said
      → Stands (Step.Open c.0 token user ∷ past) new said k holds (ws ++ own_wanted c.0 user) taken
  opens c token user new said h free room now rising q =
      let may : can_open c.0 past ≡ true = rw (h.booted, free, room) refl in
      let legal : Legal (Step.Open c.0 token user ∷ past) = (may, h.legal) in
      record {
        booted = refl;
        legal = legal;
        messages = h.messages;
        numbers = opens-as c.0 token user past v new h.numbers free now rising;
        queues =
            λ d. says d past (Step.Open c.0 token user ∷ past) outs said (record { conn = c; out = out.Text (greeting user) } ∷ []) (h.queues d) q
            (greeted c.0 d (queued d past) (greeting user));
        listens = record { lower_is = h.listens.lower_is; turns = h.listens.turns; out = h.listens.out };
        held = held-open c.0 token user past holds legal h.held;
        wished = wished-open c.0 token user past (λ d. forgotten_at d said) ws taken legal
            (wished-as past (λ d. forgotten_at d outs) (λ d. forgotten_at d said) ws taken q.forgotten h.wished);
      }

module _ {past : List Step} {v : Numbers} {outs : OutboxesState} {k : CursorState} {holds : HoldMap} {ws : List Wanted} {taken : ℕ} where
  -- the same, where the journal and the wants are told by equations
  pub opens-to : (c : ConnNo) (token : List ℕ) (told user : Option (List ℕ)) (now : List Step) (new : Numbers)
      (said : OutboxesState) (mid more : List Wanted) (left : ℕ) → Stands past v outs k holds ws taken
      → is_opened c.0 past ≡ false → ltb (live_count past) most_connections ≡ true → OpensAs c.0 user v new → Rising new
      → Queues (record { conn = c; out = out.Text (greeting user) } ∷ []) outs said
      → now ≡ Step.Open c.0 token user ∷ past → told ≡ user → mid ≡ ws → more ≡ mid ++ own_wanted c.0 told → left ≡ taken
      → Stands now new said k holds more left
  opens-to c token told user now new said mid more left h free room opened rising q grown u m wanted same =
      rw (grown, wanted, u, m, same) (opens c token user new said h free room opened rising q)
