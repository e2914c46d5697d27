-- What running the made script of a seed came to.
use Rattle.std.proofs.Common.{◌≡◌, refl, ℕ, List, [], ◌++◌, Option, None, Some, Ok, Err, subst, sym, append-nil}
use Rattle.cable_model.specs.declared.events.Event.{Event}
use Rattle.cable_model.specs.History.{Rules}
use Rattle.cable_model.specs.HistoryLaws.{HistoryWindows}
use Rattle.cable_model.specs.Script.{rules_of}
use Rattle.replay_cli.specs.declared.modes.Order.{Order}
use Rattle.replay_cli.specs.declared.modes.Order.TheVariants as order
use Rattle.std.specs.Io.KnownBytes.{Appends}
use Rattle.cable_base.specs.declared.faults.Trouble.TheVariants as trouble
use Rattle.cable_model.specs.declared.statuses.Status.TheVariants as status
use Rattle.node_world.specs.Worlds.{WorldState}
use Rattle.replay_cli.specs.declared.modes.Mode.TheVariants as mode
use Rattle.replay_cli.specs.declared.running.Tally.{Tally}
use Rattle.replay_cli.specs.Made.{drawn, generator, made_script, opening}
use Rattle.replay_cli.specs.MadeRuns.{HasRun}
use Rattle.replay_cli.specs.Modes.{made_output, tail_lines}
use Rattle.replay_cli.specs.Outputs.{Writing, Writes}
use Rattle.replay_cli.specs.Inputs.{WasNotRead}
use Rattle.replay_cli.specs.Replay.{Call, MadeDoes, OutcomeFor}
use Rattle.replay_cli.proofs.MadeBook.{any_made}

Appends-none : (o : Option (List ℕ)) → Appends o o []
Appends-none None = tt
Appends-none (Some bytes) = sym (append-nil bytes)

-- memory was wanted before anything was written
pub wrote_nothing : (seed count : ℕ) (taken : Option (List ℕ)) (faults : ℕ) → MadeDoes seed count (record { taken = taken; taken_behind = taken; faults = faults; faults_behind = faults }) (Err status.OutOfMemory)
wrote_nothing seed count taken faults =
    let made = any_made seed count in
    (made.0, [], (made.1, Appends-none taken, (made_output made.0, refl)))

-- the end line and the totals line of what was run are those of the script
output_is : (seed count : ℕ) (w : WorldState) (t : Tally) → HasRun (opening ++ drawn count 1 (generator seed)) w t → tail_lines mode.Totals t.events t.idle t.totals ≡ made_output (made_script seed count w.book)
output_is seed count w t h = rw (h.counts.counted, h.counts.idle, h.counts.totals) refl

pub wrote_all : (seed count : ℕ) (w : WorldState) (t : Tally) (sink : Writing) → HasRun (opening ++ drawn count 1 (generator seed)) w t → Writes sink (tail_lines mode.Totals t.events t.idle t.totals) (Ok (tt {0})) → MadeDoes seed count sink (Ok w)
wrote_all seed count w t sink h p =
    let made = made_script seed count w.book in
    (made, (record { declares = h.declares; made = refl }, subst (λ (bytes : List ℕ). Writes sink bytes (Ok (tt {0}))) (output_is seed count w t h) p, record { book = refl; stands = h.stands }))

pub sink_failed : (seed count : ℕ) (w : WorldState) (t : Tally) (sink : Writing) → HasRun (opening ++ drawn count 1 (generator seed)) w t → Writes sink (tail_lines mode.Totals t.events t.idle t.totals) (Err trouble.Failed) → MadeDoes seed count sink (Err status.WriteFault)
sink_failed seed count w t sink h p =
    let q = subst (λ (bytes : List ℕ). Writes sink bytes (Err trouble.Failed)) (output_is seed count w t h) p in
    (made_script seed count w.book, q.0, (record { declares = h.declares; made = refl }, q.1, q.2, q.3))

pub wanted_memory : (seed count : ℕ) (w : WorldState) (t : Tally) (sink : Writing) → HasRun (opening ++ drawn count 1 (generator seed)) w t → Writes sink (tail_lines mode.Totals t.events t.idle t.totals) (Err trouble.OutOfMemory) → MadeDoes seed count sink (Err status.OutOfMemory)
wanted_memory seed count w t sink h p =
    let q = subst (λ (bytes : List ℕ). Writes sink bytes (Err trouble.OutOfMemory)) (output_is seed count w t h) p in
    (made_script seed count w.book, q.0, (record { declares = h.declares; made = refl }, q.1, q.2))

-- the world of a made script that was run is handed out, where the source wasn't asked
pub made_told : ((r : Rules) (events : List Event) → HistoryWindows r events) → (o : Option Order) (seed count : ℕ) (c : Call) (w : WorldState) → o ≡ Some (order.Make seed count)
    → WasNotRead c.source → c.world ≡ Some w → MadeDoes seed count c.sink (Ok w) → OutcomeFor o status.Ok c
made_told law o seed count c w e n is d = rw e (d.0, (d.1.0, n, d.1.1, (w, (is, d.1.2)), λ worked rest same. law (rules_of d.0.book) worked))
