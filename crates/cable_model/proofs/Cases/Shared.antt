-- Several nodes and connections over one table.
use Rattle.std.proofs.Common.{◌≡◌, refl, List, [], ◌∷◌, ◌++◌}
use Rattle.std.specs.Prelude.{codes}
use Rattle.cable_model.specs.declared.events.Event.{Event}
use Rattle.cable_model.specs.Limits.{page_rows}
use Rattle.cable_model.specs.Transcript.{transcript}
use Rattle.cable_model.proofs.Cases.{texts, rules, boot, opens, subscribes, work, drops, casts, trims, poll, beats, held, wel, ok, say, to7, to8, lines, done_ids, window_ids}

-- row 1 is trimmed before the second node reads it
abbrev two_nodes_one_table_events : List Event
two_nodes_one_table_events = boot 1 ++ boot 2 ++ opens 1 7 (codes "u") ++ opens 2 8 (codes "v") ++ subscribes 7 (codes "C") ++ subscribes 8 (codes "C") ++ work 7 ++ work 8 ++ poll 1 ++ poll 2 ++ work 7 ++ work 8 ++ casts 0 (codes "r") (codes "1") ++ poll 1 ++ work 7 ++ casts 5000 (codes "r") (codes "2") ++ trims 5000 1000 100 ++ poll 2 ++ work 8 ++ work 8

pub two_nodes_one_table : transcript (rules page_rows) two_nodes_one_table_events ≡ lines (to7 wel ∷ to8 wel ∷ to7 (ok (codes "C")) ∷ to8 (ok (codes "C")) ∷ codes "- row 1" ∷ to7 (say (codes "C") (codes "1")) ∷ codes "- row 2" ∷ codes "- trimmed 1" ∷ to8 (say (codes "C") (codes "2")) ∷ codes "end events=35 idle=2" ∷ [])
unfolding texts
two_nodes_one_table = refl

pub two_nodes_one_table_done : done_ids page_rows 1 1 two_nodes_one_table_events ≡ 1 ∷ []
unfolding texts
two_nodes_one_table_done = refl

-- row 2 is exactly as old as the retention at the first trim, and row 3 is the newest at the second
abbrev trim_keeps_the_edge_and_the_newest_events : List Event
trim_keeps_the_edge_and_the_newest_events = held ++ casts 1000 (codes "r") (codes "1") ++ casts 2000 (codes "r") (codes "2") ++ casts 3000 (codes "r") (codes "3") ++ trims 3000 1000 100 ++ poll 1 ++ work 7 ++ work 7 ++ work 7 ++ trims 9000 1000 100

pub trim_keeps_the_edge_and_the_newest : transcript (rules page_rows) trim_keeps_the_edge_and_the_newest_events ≡ lines (to7 wel ∷ to7 (ok (codes "C")) ∷ codes "- row 1" ∷ codes "- row 2" ∷ codes "- row 3" ∷ codes "- trimmed 1" ∷ to7 (say (codes "C") (codes "2")) ∷ to7 (say (codes "C") (codes "3")) ∷ codes "- trimmed 1" ∷ codes "end events=24 idle=2" ∷ [])
unfolding texts
trim_keeps_the_edge_and_the_newest = refl

pub trim_keeps_the_edge_and_the_newest_window : window_ids page_rows 1 1 trim_keeps_the_edge_and_the_newest_events ≡ 2 ∷ 3 ∷ []
unfolding texts
trim_keeps_the_edge_and_the_newest_window = refl

-- a closing connection gets no ping
abbrev beat_pings_by_rising_number_events : List Event
beat_pings_by_rising_number_events = boot 1 ++ opens 1 8 (codes "v") ++ opens 1 7 (codes "u") ++ beats 1 3999 ++ drops 8 ++ beats 1 4000

pub beat_pings_by_rising_number : transcript (rules page_rows) beat_pings_by_rising_number_events ≡ lines (to8 wel ∷ to7 wel ∷ to7 (codes "{\"type\":\"ping\",\"message\":3}") ∷ to8 (codes "{\"type\":\"ping\",\"message\":3}") ∷ to7 (codes "{\"type\":\"ping\",\"message\":4}") ∷ codes "end events=6 idle=0" ∷ [])
unfolding texts
beat_pings_by_rising_number = refl
