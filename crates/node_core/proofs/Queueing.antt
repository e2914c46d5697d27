-- What is queued goes on being what the journal says.
use Rattle.std.proofs.Common.{◌≡◌, ◌≤◌, ℕ, List, ◌++◌, map, drop, length, sym, ap, subst, ◌∙◌, arith}
use Rattle.std.proofs.lemmas.List.{map-append, drop-append-le, length-append}
use Rattle.cable_model.specs.declared.lines.Line.{Line}
use Rattle.cable_model.specs.Steps.{Step}
use Rattle.cable_model.specs.Transcript.{queued}
use Rattle.node_seats.specs.declared.queues.Queued.{Queued}
use Rattle.node_seats.specs.Outboxes.{OutboxesState, WidensAll, Queues, queue_at, taken_at, outs_for}
use Rattle.node_core.specs.Nodes.{IsQueued, AreQueued, line_on}

-- the lines that these are on c
abbrev pub lines_on : ℕ → List Queued → List Line
lines_on c qs = map (line_on c) (outs_for c qs)

-- the entry queues nothing on c
pub quiet : (c : ℕ) (past now : List Step) (outs : OutboxesState) → queued c now ≡ queued c past → IsQueued c past outs → IsQueued c now outs
quiet c past now outs same h =
    record {
      within = subst (λ (ls : List Line). taken_at c outs ≤ length ls) (sym same) h.within;
      left = h.left ∙ ap (drop (taken_at c outs)) (sym same);
    }

-- the same is queued, and as many were taken out
pub unmoved : (past : List Step) (v new : OutboxesState) → AreQueued past v → ((c : ℕ) → queue_at c new ≡ queue_at c v)
    → ((c : ℕ) → taken_at c new ≡ taken_at c v) → AreQueued past new
unmoved past v new h queue taken c =
    record {
      within = subst (λ (n : ℕ). n ≤ length (queued c past)) (sym (taken c)) (h c).within;
      left = ap (map (line_on c)) (queue c) ∙ (h c).left ∙ ap (λ (n : ℕ). drop n (queued c past)) (sym (taken c));
    }

-- room that is made plays no part
pub roomier : (past : List Step) (v new : OutboxesState) → AreQueued past v → WidensAll v new → AreQueued past new
roomier past v new h r = unmoved past v new h r.queue r.taken

-- the entry queues these behind the others
pub says : (c : ℕ) (past now : List Step) (v new : OutboxesState) (more : List Queued) → IsQueued c past v → Queues more v new
    → queued c now ≡ queued c past ++ lines_on c more → IsQueued c now new
says c past now v new more h q is =
    record {
      within = subst (λ (ls : List Line). taken_at c new ≤ length ls) (sym is)
          (subst (λ (n : ℕ). n ≤ length (queued c past ++ lines_on c more)) (sym (q.taken c))
          (omega (arith, length-append (queued c past) (lines_on c more), h.within)));
      left = ap (map (line_on c)) (q.queue c)
          ∙ map-append (line_on c) (queue_at c v) (outs_for c more)
          ∙ ap (λ (ls : List Line). ls ++ lines_on c more) h.left
          ∙ sym (drop-append-le (taken_at c v) (queued c past) (lines_on c more) h.within)
          ∙ ap (λ (n : ℕ). drop n (queued c past ++ lines_on c more)) (sym (q.taken c))
          ∙ ap (drop (taken_at c new)) (sym is);
    }
