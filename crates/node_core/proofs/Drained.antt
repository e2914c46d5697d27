-- A connection of which all that was queued was taken out.
use Rattle.std.proofs.Common.{◌≡◌, ◌≤◌, ◌&&◌, ℕ, Bool, true, false, not, List, [], ◌∷◌, map, length, leb, refl, sym, ap, ◌∙◌}
use Rattle.std.proofs.lemmas.Bool.{and_parts, leb-true, le-leb}
use Rattle.std.proofs.lemmas.List.{drop_all}
use Rattle.cable_model.specs.Possible.{is_over}
use Rattle.cable_model.specs.Steps.{Step}
use Rattle.cable_model.specs.Transcript.{queued}
use Rattle.node_seats.specs.Outboxes.{OutboxesState, forgotten_at, queue_at, taken_at}
use Rattle.node_core.specs.Nodes.{AreQueued, IsQueued, line_on}
use Rattle.node_core.proofs.TakingOut.{none-behind}

none-mapped : {A B : Type 0} (f : A → B) (xs : List A) → map f xs ≡ [] → xs ≡ []
none-mapped f [] e = refl
none-mapped f (x ∷ xs) e = absurd cc

none-left : (c : ℕ) (past : List Step) (outs : OutboxesState) → IsQueued c past outs → length (queued c past) ≤ taken_at c outs → queue_at c outs ≡ []
none-left c past outs h all = none-mapped (line_on c) (queue_at c outs) (h.left ∙ drop_all (taken_at c outs) (queued c past) all)

-- nothing is queued exactly where all was taken out
pub drained : (c : ℕ) (past : List Step) (outs : OutboxesState) → IsQueued c past outs → (b : Bool) → (b ≡ true → queue_at c outs ≡ [])
    → (b ≡ false → queue_at c outs ≡ [] → ⊥)
    → b ≡ leb (length (queued c past)) (taken_at c outs)
drained c past outs h true none some = sym (le-leb _ _ (none-behind (taken_at c outs) (queued c past) (sym (ap (map (line_on c)) (none refl)) ∙ h.left)))
drained c past outs h false none some = by-test (leb (length (queued c past)) (taken_at c outs)) refl
  where
    by-test : (b : Bool) → leb (length (queued c past)) (taken_at c outs) ≡ b → false ≡ leb (length (queued c past)) (taken_at c outs)
    by-test true all = absurd (some refl (none-left c past outs h (leb-true _ _ all)))
    by-test false left = sym left

-- ---- one that can be forgotten

module _ (c : ℕ) (past : List Step) (outs : OutboxesState) (may : (is_over c past && (not (forgotten_at c outs) && leb (length (queued c past)) (taken_at c outs))) ≡ true) where
  pub over-now : is_over c past ≡ true
  over-now = (and_parts _ _ may).0

  all-taken : length (queued c past) ≤ taken_at c outs
  all-taken = leb-true _ _ (and_parts _ _ (and_parts _ _ may).1).1

  pub nothing-queued : AreQueued past outs → queue_at c outs ≡ []
  nothing-queued h = none-left c past outs (h c) all-taken
