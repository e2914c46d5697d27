use Rattle.std.proofs.Common.{◌∙◌}
use Rattle.std.proofs.lemmas.Result.{err_from_is_err_and}
use Rattle.replay_cli.specs.Outputs.{Writing}
use Rattle.replay_cli.proofs.MadeOutcomes.{sink_failed, wanted_memory, wrote_all, wrote_nothing}
use Rattle.replay_cli.proofs.made.replay_made.Goals as goal

pub returns-in_err-run-clause-made : goal.returns-in_err-run-clause-made
returns-in_err-run-clause-made g c =
    let p = err_from_is_err_and c.from_residual.result c.from_residual.ensures.1 in
    rw (p.1, p.2) (wrote_nothing c.args.seed c.args.count (g.K.Sink.taken c.args.sink.now) (g.K.Sink.faults c.args.sink.now))

pub returns-in_err-text-clause-made : goal.returns-in_err-text-clause-made
returns-in_err-text-clause-made g c =
    let p = err_from_is_err_and c.from_residual-in_err-text.result c.from_residual-in_err-text.ensures.1 in
    rw (p.1, p.2) (wrote_nothing c.args.seed c.args.count (g.K.Sink.taken c.args.sink.now) (g.K.Sink.faults c.args.sink.now))

pub returns-in-Ok-clause-made : goal.returns-in-Ok-clause-made
returns-in-Ok-clause-made g c =
    let bytes = c.as_bytes.ensures.value ∙ c.as_str.ensures.value ∙ c.in_ok-text.ensures in
    let sink : Writing = record { taken = g.K.Sink.taken c.args.sink.now; taken_behind = g.K.Sink.taken c.write_all.new.sink; faults = g.K.Sink.faults c.args.sink.now; faults_behind = g.K.Sink.faults c.write_all.new.sink } in
    wrote_all c.args.seed c.args.count c.in_ok-run.run'.world c.in_ok-run.run'.tally sink c.in_ok-run.ensures (rw bytes at c.in-Ok.ensures.wrote)

pub returns-in-Err-Failed-clause-made : goal.returns-in-Err-Failed-clause-made
returns-in-Err-Failed-clause-made g c =
    let bytes = c.as_bytes.ensures.value ∙ c.as_str.ensures.value ∙ c.in_ok-text.ensures in
    let sink : Writing = record { taken = g.K.Sink.taken c.args.sink.now; taken_behind = g.K.Sink.taken c.write_all.new.sink; faults = g.K.Sink.faults c.args.sink.now; faults_behind = g.K.Sink.faults c.write_all.new.sink } in
    sink_failed c.args.seed c.args.count c.in_ok-run.run'.world c.in_ok-run.run'.tally sink c.in_ok-run.ensures (rw (c.in-Err-Failed.field-0-is, bytes) at c.in-Err-Failed.ensures.wrote)

pub returns-clause-made : goal.returns-clause-made
returns-clause-made g c =
    let bytes = c.as_bytes.ensures.value ∙ c.as_str.ensures.value ∙ c.in_ok-text.ensures in
    let sink : Writing = record { taken = g.K.Sink.taken c.args.sink.now; taken_behind = g.K.Sink.taken c.write_all.new.sink; faults = g.K.Sink.faults c.args.sink.now; faults_behind = g.K.Sink.faults c.write_all.new.sink } in
    wanted_memory c.args.seed c.args.count c.in_ok-run.run'.world c.in_ok-run.run'.tally sink c.in_ok-run.ensures (rw (c.in-Err-OutOfMemory.field-0-is, bytes) at c.in-Err-OutOfMemory.ensures.wrote)
