-- That there is room for what is to be queued, where it was made.
use Rattle.std.proofs.Common.{◌≡◌, ◌≤◌, ◌==◌, ◌||◌, ℕ, Bool, true, false, cond, List, [], ◌∷◌, length, map, filter, refl, ap, ◌∙◌, arith}
use Rattle.std.specs.List.{list_any}
use Rattle.cable_base.specs.declared.numbers.ConnNo.{ConnNo}
use Rattle.node_seats.specs.declared.queues.Queued.{Queued}
use Rattle.node_seats.specs.Outboxes.{OutboxesState, CanQueue, is_on, outs_for, room_at}

abbrev conn_of : Queued → ConnNo
conn_of q = q.conn

-- how often a number stands there
abbrev pub times : ℕ → List ConnNo → ℕ
times c conns = length (filter (λ (d : ConnNo). d.0 == c) conns)

outs-times : (c : ℕ) (qs : List Queued) → length (outs_for c qs) ≡ times c (map conn_of qs)
outs-times c [] = refl
outs-times c (q ∷ qs) = by-test (q.conn.0 == c) (outs-times c qs)
  where
    by-test : (b : Bool) → length (outs_for c qs) ≡ times c (map conn_of qs)
        → length (map (λ (x : Queued). x.out) (cond b (q ∷ filter (is_on c) qs) (filter (is_on c) qs)))
        ≡ length (cond b (q.conn ∷ filter (λ (d : ConnNo). d.0 == c) (map conn_of qs)) (filter (λ (d : ConnNo). d.0 == c) (map conn_of qs)))
    by-test true ih = omega (arith, ih)
    by-test false ih = ih

none-times : (c : ℕ) (conns : List ConnNo) → list_any (λ (d : ConnNo). d.0 == c) conns ≡ false → times c conns ≡ 0
none-times c [] none = refl
none-times c (d ∷ ds) none = by-test (d.0 == c) (none-times c ds) none
  where
    by-test : (b : Bool) → (list_any (λ (x : ConnNo). x.0 == c) ds ≡ false → times c ds ≡ 0) → (b || list_any (λ (x : ConnNo). x.0 == c) ds) ≡ false
        → length (cond b (d ∷ filter (λ (x : ConnNo). x.0 == c) ds) (filter (λ (x : ConnNo). x.0 == c) ds)) ≡ 0
    by-test true ih none = absurd cc
    by-test false ih none = ih none

-- one on each of these connections, which differ
pub room_each : (conns : List ConnNo) (qs : List Queued) (v : OutboxesState) → map (λ (q : Queued). q.conn) qs ≡ conns → ((c : ℕ) → times c conns ≤ 1)
    → ((c : ℕ) → list_any (λ (d : ConnNo). d.0 == c) conns ≡ true → 1 ≤ room_at c v) → CanQueue qs v
room_each conns qs v same once room c = by-any (list_any (λ (d : ConnNo). d.0 == c) conns) refl
  where
    sum : length (outs_for c qs) ≡ times c conns
    sum = outs-times c qs ∙ ap (times c) same

    by-any : (b : Bool) → list_any (λ (d : ConnNo). d.0 == c) conns ≡ b → length (outs_for c qs) ≤ room_at c v
    by-any true found = omega (arith, sum, once c, room c found)
    by-any false none = omega (arith, sum, none-times c conns none)
