-- What every history keeps.
use Rattle.std.proofs.Common.{◌≡◌, ◌&&◌, List, ap, subst, ◌∙◌}
use Rattle.cable_base.specs.declared.rows.Row.{Row}
use Rattle.cable_base.proofs.Filters.{filter-same}
use Rattle.cable_model.specs.declared.events.Event.{Event}
use Rattle.cable_model.specs.Wants.{user_of}
use Rattle.cable_model.specs.Pieces.{below}
use Rattle.cable_model.specs.Window.{window, in_window, found_at, first_reach}
use Rattle.cable_model.specs.Table.{commits, reads_of, last_id}
use Rattle.cable_model.specs.History.{Rules, start, run}
use Rattle.cable_model.specs.Promise.{Windows}
use Rattle.cable_model.specs.HistoryLaws.{planner_of, is_after_read, untrimmed, hold_window, HistoryWindows}
use Rattle.cable_model.proofs.Asking.{unasked, same-window}
use Rattle.cable_laws.proofs.Windows.{windows}
use Rattle.cable_laws.proofs.Placing.{mark-placed}
use Rattle.cable_model.proofs.NodeSound.{plans-for}
use Rattle.cable_model.proofs.Sound.{start-sound, run-sound}

pub history_windows : (r : Rules) (events : List Event) → HistoryWindows r events
history_windows r events n c s w =
    let world = run r start events in
    let past = world.nodes n in
    let pl = planner_of r.callbacks (user_of c past) in
    let reads = reads_of r.hash n world.table in
    let sound = run-sound r start events (start-sound r) in
    let node = sound.nodes n in
    let works = node.worked c pl (plans-for r.callbacks (user_of c past)) in
    let kept = windows pl reads (commits world.table) (last_id world.table) c s w past sound.rises works node.linked in
    let without_hashes : window pl reads c s w past (commits world.table) ≡ window pl (unasked reads) c s w past (commits world.table) =
    same-window pl reads (commits world.table) c s w past works (node.asks c) in
    let in_words : window pl (unasked reads) c s w past (commits world.table) ≡ hold_window r world n c s w =
    filter-same
    (in_window pl (unasked reads) c s w past)
    (λ row. is_after_read n world.table c w past row && found_at pl (untrimmed n world.table) c s w row (first_reach c w row.id.0 past))
    (commits world.table)
    (λ (row : Row). ap (λ o. below o row.id.0 && found_at pl (untrimmed n world.table) c s w row (first_reach c w row.id.0 past)) (mark-placed n world.table c w past node.lasts)) in
    subst (λ rows. Windows pl rows c s w past) (without_hashes ∙ in_words) kept
