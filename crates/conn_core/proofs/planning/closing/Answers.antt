use Rattle.cable_model.specs.Plans.{IsAnswer}
use Rattle.conn_core.proofs.Broadcasts.{kept-more, notes-more, faults-more, more_committable}
use Rattle.conn_core.proofs.Answered.{answered-more}
use Rattle.conn_core.proofs.planning.closing.Goals as goal

pub loop-identifier-preserved : goal.loop-identifier-preserved
loop-identifier-preserved g c =
    let left = (g.C.Callbacks.answers c.args.callbacks.now).unsubscribed c.args.user.now in
    let before = c.loop-identifier.invariant in
    let now = c.in_ok-leave.ensures in
    record {
      kept = kept-more left _ _ c.identifier-item.result _ _ c.loop-identifier-test.true c.identifier-item.is
          before.kept (rw (← c.as_str.ensures) now.kept);
      notes = notes-more left _ _ c.identifier-item.result _ _ c.loop-identifier-test.true c.identifier-item.is
          before.notes (rw (← c.as_str.ensures) now.notes);
      answered = answered-more (λ identifier. IsAnswer (left identifier)) _ _ c.identifier-item.result c.loop-identifier-test.true c.identifier-item.is
          before.answered (rw (← c.as_str.ensures) now.answered);
      rows = more_committable _ _ _ before.rows now.kept now.rows;
      faults = faults-more left _ _ c.identifier-item.result _ _ c.loop-identifier-test.true c.identifier-item.is
          before.faults (rw (← c.as_str.ensures) now.faults);
    }
