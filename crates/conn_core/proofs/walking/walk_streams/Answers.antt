use Rattle.conn_core.proofs.Known.{wanted-step, notes-step, length-step}
use Rattle.conn_core.proofs.walking.walk_streams.Goals as goal

pub loop-name-preserved : goal.loop-name-preserved
loop-name-preserved c =
    record {
      wanted = wanted-step _ _ _ _ _ _ c.name-item.result c.loop-name-test.true c.name-item.is c.in_ok-step.ensures.wanted c.loop-name.invariant.wanted;
      notes = notes-step _ _ _ _ _ _ _ _ c.name-item.result c.loop-name-test.true c.name-item.is c.in_ok-step.ensures.wanted c.in_ok-step.ensures.notes c.loop-name.invariant.notes;
      few = length-step _ _ _ _ c.name-item.result c.in_ok-step.ensures.wanted c.loop-name.invariant.few;
    }
