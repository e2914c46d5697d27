use Rattle.std.proofs.Common.{[], Some, map, string_bytes, refl, sym, ap, ◌∙◌}
use Rattle.replay_cli.proofs.Asked.{asked_count}
use Rattle.replay_cli.proofs.Complete.{complete_read, read_usage}
use Rattle.replay_cli.proofs.MadeOutcomes.{made_told}
use Rattle.replay_cli.proofs.replays.replay.Goals as goal

pub replay_made-requires : goal.replay_made-requires
replay_made-requires g c = asked_count (map string_bytes c.args.words.now) c.in-Some-Make.seed c.in-Some-Make.count (sym c.in-Some-Make.ensures ∙ ap Some c.in-Some-Make.field-0-is)

pub returns-in-Some-Read-clause-usage : goal.returns-in-Some-Read-clause-usage
returns-in-Some-Read-clause-usage g c = read_usage _ c.in-Some-Read.mode c.replay_read.result _ (sym c.in-Some-Read.ensures ∙ ap Some c.in-Some-Read.field-0-is) (c.replay_read.ensures [])

pub returns-in-Some-Read-clause-complete : goal.returns-in-Some-Read-clause-complete
returns-in-Some-Read-clause-complete g c =
    let one = c.first_breaks_are_one.ensures in
    complete_read one.stays one.scripts one.status c.in-Some-Read.mode c.replay_read.result _ (sym c.in-Some-Read.ensures ∙ ap Some c.in-Some-Read.field-0-is) (c.replay_read.ensures _)

pub returns-in-Ok-clause-outcome : goal.returns-in-Ok-clause-outcome
returns-in-Ok-clause-outcome g c =
    made_told c.windows_of_histories.ensures _ c.in-Some-Make.seed c.in-Some-Make.count _ c.in-Ok.run' (sym c.in-Some-Make.ensures ∙ ap Some c.in-Some-Make.field-0-is)
    (record { left = refl; ends = refl; faults = refl }) refl c.in-Ok.ensures.made
