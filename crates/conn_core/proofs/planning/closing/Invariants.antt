use Rattle.std.proofs.Common.{◌≡◌, ℕ, List, Result, map, take}
use Rattle.std.specs.List.{AllByRecursion, flat_map}
use Rattle.channel_book.specs.declared.answers.Answer.{Answer}
use Rattle.channel_book.specs.declared.answers.CallFault.{CallFault}
use Rattle.cable_model.specs.Plans.{IsAnswer, kept_casts, cast_notes, casts_left, notes_left}
use Rattle.conn_core.specs.Payloads.{AreCommittable}
use Rattle.conn_core.proofs.planning.closing.Given as goal

-- what the subscriptions so far left
abbrev pub invariant-loop-identifier : goal.invariant-loop-identifier
invariant-loop-identifier g l =
    let left : List ℕ → Result Answer CallFault = (g.C.Callbacks.answers l.callbacks).unsubscribed l.user in
    let so_far : List (List ℕ) = take l.identifier-index l.identifiers in
    record {
      kept : l.walked.kept ≡ kept_casts (flat_map casts_left (map left so_far));
      notes : l.walked.notes ≡ cast_notes (flat_map casts_left (map left so_far));
      rows : AreCommittable l.walked.kept;
      answered : AllByRecursion (λ (identifier : List ℕ). IsAnswer (left identifier)) so_far;
      faults : l.walked.faults ≡ flat_map notes_left (map left so_far);
    }
