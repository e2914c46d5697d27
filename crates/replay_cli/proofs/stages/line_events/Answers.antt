use Rattle.std.proofs.Common.{List, sym, subst}
use Rattle.std.specs.List.{All}
use Rattle.cable_model.specs.declared.statuses.Status.{Status}
use Rattle.cable_model.specs.declared.events.Event.{Event}
use Rattle.node_world.specs.Steps.{IsPlayed}
use Rattle.replay_cli.specs.Stages.{IsBroken}
use Rattle.replay_cli.proofs.FurtherLines.{broken_is}
use Rattle.replay_cli.proofs.LinesPlayed.{line_each}
use Rattle.replay_cli.proofs.stages.line_events.Goals as goal

pub returns-in_ok-expand-in-Ok-clause-reads : goal.returns-in_ok-expand-in-Ok-clause-reads
returns-in_ok-expand-in-Ok-clause-reads c =
    let line = c.args.line.now in
    let v = c.in-Ok.verb in
    let spells = (c.lines_are_read.ensures.read line v).0 c.in-Ok.ensures in
    let are = c.in_ok-expand-in-Ok.ensures in
    record {
      verb = v;
      is_line = record { utf8 = spells.0; short = c.requires.short; one = c.requires.one };
      spells = spells.1;
      are = are;
      played = subst (λ (es : List Event). All IsPlayed es) (sym are) (line_each c.squeezing_keeps_the_value.ensures.squeezed v line spells.1);
    }

pub returns-in-Err-clause-refuses : goal.returns-in-Err-clause-refuses
returns-in-Err-clause-refuses c =
    let line = c.args.line.now in
    subst (λ (s : Status). IsBroken c.args.number line s) (sym c.refusal.ensures)
    (broken_is c.args.number c.in-Err.fault line (λ f e. (c.lines_have_their_first_fault.ensures line f).0 e) c.in-Err.ensures)
