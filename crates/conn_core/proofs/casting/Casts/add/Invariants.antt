use Rattle.std.proofs.Common.{◌≡◌, ◌++◌}
use Rattle.std.specs.Vec.Iter.{into_iter_items}
use Rattle.cable_model.specs.Plans.{kept_casts, cast_notes}
use Rattle.conn_core.proofs.casting.Casts.add.Given as goal

-- those so far, and those of the rest
abbrev pub invariant-loop-cast : goal.invariant-loop-cast
invariant-loop-cast l =
    record {
      kept : l.self.kept ++ kept_casts (into_iter_items l.cast-iterator) ≡ l.fn.self.kept ++ kept_casts l.fn.casts;
      notes : l.self.notes ++ cast_notes (into_iter_items l.cast-iterator) ≡ l.fn.self.notes ++ cast_notes l.fn.casts;
      faults : l.self.faults ≡ l.fn.self.faults;
    }
