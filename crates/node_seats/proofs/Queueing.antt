-- What is queued one after the other.
use Rattle.std.proofs.Common.{◌≡◌, ◌≤◌, ◌==◌, ℕ, Bool, true, false, cond, List, [], ◌∷◌, ◌++◌, length, map, filter, refl, sym, ap, ◌∙◌, arith, append_assoc}
use Rattle.std.proofs.lemmas.Bool.Decides.{nat_tests}
use Rattle.std.proofs.lemmas.List.{length-append}
use Rattle.node_seats.specs.declared.queues.Queued.{Queued}
use Rattle.node_seats.specs.Outboxes.{OutboxesState, CanQueue, Queues, Spends, is_on, outs_for, queue_at, room_at}

pub same-number : (a b : ℕ) → (a == b) ≡ true → a ≡ b
same-number a b e = grind (arith, nat_tests)

pub self : (c : ℕ) → (c == c) ≡ true
self c = grind (arith, nat_tests)

pub turned : (a b : ℕ) → (a == b) ≡ false → (b == a) ≡ false
turned a b e = grind (arith, nat_tests)

pub outs-on : (c : ℕ) (q : Queued) (qs : List Queued) → (q.conn.0 == c) ≡ true → outs_for c (q ∷ qs) ≡ q.out ∷ outs_for c qs
outs-on c q qs e = ap (λ b. map (λ (x : Queued). x.out) (cond b (q ∷ filter (is_on c) qs) (filter (is_on c) qs))) e

pub outs-off : (c : ℕ) (q : Queued) (qs : List Queued) → (q.conn.0 == c) ≡ false → outs_for c (q ∷ qs) ≡ outs_for c qs
outs-off c q qs e = ap (λ b. map (λ (x : Queued). x.out) (cond b (q ∷ filter (is_on c) qs) (filter (is_on c) qs))) e

-- the first of them, and the others
outs-more : (c : ℕ) (q : Queued) (qs : List Queued) → outs_for c (q ∷ qs) ≡ outs_for c (q ∷ []) ++ outs_for c qs
outs-more c q qs = by-test (q.conn.0 == c)
  where
    by-test : (b : Bool) → map (λ (x : Queued). x.out) (cond b (q ∷ filter (is_on c) qs) (filter (is_on c) qs)) ≡ map (λ (x : Queued). x.out) (cond b (q ∷ []) []) ++ outs_for c qs
    by-test true = refl
    by-test false = refl

pub room-first : (q : Queued) (qs : List Queued) (v : OutboxesState) → CanQueue (q ∷ qs) v → 1 ≤ room_at q.conn.0 v
room-first q qs v h =
    let l : length (outs_for q.conn.0 (q ∷ qs)) ≡ length (q.out ∷ outs_for q.conn.0 qs) = ap length (outs-on q.conn.0 q qs (self q.conn.0)) in
    let r = h q.conn.0 in
    omega (arith, l, r)

-- there is room for the others still
pub room-rest : (q : Queued) (qs : List Queued) (v new : OutboxesState) → Spends (q ∷ []) v new → CanQueue (q ∷ qs) v → CanQueue qs new
room-rest q qs v new s h c =
    let l = ap length (outs-more c q qs) ∙ length-append (outs_for c (q ∷ [])) (outs_for c qs) in
    let r = h c in
    let left = s c in
    omega (arith, l, r, left)

-- what is queued, and what is to be
pub queue-rest : (q : Queued) (qs : List Queued) (v new : OutboxesState) → Queues (q ∷ []) v new → (c : ℕ) → queue_at c new ++ outs_for c qs ≡ queue_at c v ++ outs_for c (q ∷ qs)
queue-rest q qs v new p c =
    ap (λ os. os ++ outs_for c qs) (p.queue c) ∙ append_assoc (queue_at c v) (outs_for c (q ∷ [])) (outs_for c qs) ∙ ap (λ os. queue_at c v ++ os) (sym (outs-more c q qs))
