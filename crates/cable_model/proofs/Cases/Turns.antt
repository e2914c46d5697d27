-- A turn of the listener: which rows are behind its read, and which hold gets them.
use Rattle.std.proofs.Common.{◌≡◌, refl, List, [], ◌∷◌, ◌++◌}
use Rattle.std.specs.Prelude.{codes, Some}
use Rattle.cable_model.specs.declared.events.Event.{Event}
use Rattle.cable_model.specs.Limits.{page_rows}
use Rattle.cable_model.specs.Wants.{marks, mark_of}
use Rattle.cable_model.specs.Transcript.{transcript}
use Rattle.cable_model.proofs.Cases.{texts, rules, boot, opens, subscribes, work, casts, asks, reads, delivers, poll, faults, asked, held, wel, ok, say, to7, lines, done_ids, window_ids, end}

-- the row is committed between the Read and the Deliver of the turn that places the hold
abbrev row_behind_the_read_is_delivered_events : List Event
row_behind_the_read_is_delivered_events = asked ++ asks 1 ++ reads 1 ++ casts 5 (codes "r") (codes "9") ++ delivers 1 ++ poll 1 ++ work 7 ++ work 7

pub row_behind_the_read_is_delivered : transcript (rules page_rows) row_behind_the_read_is_delivered_events ≡ lines (to7 wel ∷ codes "- row 1" ∷ to7 (ok (codes "C")) ∷ to7 (say (codes "C") (codes "9")) ∷ codes "end events=16 idle=0" ∷ [])
unfolding texts
row_behind_the_read_is_delivered = refl

pub row_behind_the_read_is_delivered_done : done_ids page_rows 1 1 row_behind_the_read_is_delivered_events ≡ 1 ∷ []
unfolding texts
row_behind_the_read_is_delivered_done = refl

pub row_behind_the_read_is_delivered_window : window_ids page_rows 1 1 row_behind_the_read_is_delivered_events ≡ 1 ∷ []
unfolding texts
row_behind_the_read_is_delivered_window = refl

-- it is committed between the Ask and the Read
abbrev row_before_the_read_is_not_events : List Event
row_before_the_read_is_not_events = asked ++ asks 1 ++ casts 5 (codes "r") (codes "9") ++ reads 1 ++ delivers 1 ++ poll 1 ++ work 7 ++ work 7

pub row_before_the_read_is_not : transcript (rules page_rows) row_before_the_read_is_not_events ≡ lines (to7 wel ∷ codes "- row 1" ∷ to7 (ok (codes "C")) ∷ codes "end events=16 idle=2" ∷ [])
unfolding texts
row_before_the_read_is_not = refl

pub row_before_the_read_is_not_done : done_ids page_rows 1 1 row_before_the_read_is_not_events ≡ []
unfolding texts
row_before_the_read_is_not_done = refl

pub row_before_the_read_is_not_window : window_ids page_rows 1 1 row_before_the_read_is_not_events ≡ []
unfolding texts
row_before_the_read_is_not_window = refl

-- a turn whose Read failed is missed: the next one begins where it began
abbrev failed_read_moves_nothing_events : List Event
failed_read_moves_nothing_events = held ++ casts 5 (codes "r") (codes "9") ++ faults ++ poll 1 ++ poll 1 ++ work 7

pub failed_read_moves_nothing : transcript (rules page_rows) failed_read_moves_nothing_events ≡ lines (to7 wel ∷ to7 (ok (codes "C")) ∷ codes "- row 1" ∷ codes "- ! store-refused" ∷ to7 (say (codes "C") (codes "9")) ∷ codes "end events=20 idle=0" ∷ [])
unfolding texts
failed_read_moves_nothing = refl

pub failed_read_moves_nothing_window : window_ids page_rows 1 1 failed_read_moves_nothing_events ≡ 1 ∷ []
unfolding texts
failed_read_moves_nothing_window = refl

-- a missed turn places no hold and confirms nothing: the next one takes the want, with its own mark
abbrev missed_turn_places_nothing_events : List Event
missed_turn_places_nothing_events = asked ++ faults ++ poll 1 ++ casts 5 (codes "r") (codes "9") ++ poll 1 ++ work 7 ++ poll 1 ++ work 7

pub missed_turn_places_nothing : transcript (rules page_rows) missed_turn_places_nothing_events ≡ lines (to7 wel ∷ codes "- ! store-refused" ∷ codes "- row 1" ∷ to7 (ok (codes "C")) ∷ codes "end events=20 idle=2" ∷ [])
unfolding texts
missed_turn_places_nothing = refl

pub missed_turn_places_nothing_mark : mark_of 1 (marks 7 ((end page_rows missed_turn_places_nothing_events).nodes 1)) ≡ Some 1
unfolding texts
missed_turn_places_nothing_mark = refl

-- a want that is made behind the Ask of a turn isn't taken by it
abbrev want_behind_the_ask_waits_events : List Event
want_behind_the_ask_waits_events =
    boot 1 ++ opens 1 7 (codes "u") ++ asks 1 ++ subscribes 7 (codes "C") ++ work 7 ++ reads 1 ++ delivers 1 ++ work 7
    ++ casts 5 (codes "r") (codes "9") ++ poll 1 ++ work 7

pub want_behind_the_ask_waits : transcript (rules page_rows) want_behind_the_ask_waits_events ≡ lines (to7 wel ∷ codes "- row 1" ∷ to7 (ok (codes "C")) ∷ codes "end events=16 idle=2" ∷ [])
unfolding texts
want_behind_the_ask_waits = refl

-- with pages of two rows. The hold on the stream a has the mark 4 although its turn reached only 2, so row 4 is not in its window
abbrev mark_is_the_last_id_of_the_read_events : List Event
mark_is_the_last_id_of_the_read_events = held ++ casts 5 (codes "r") (codes "9") ++ casts 5 (codes "r") (codes "9") ++ casts 5 (codes "r") (codes "9") ++ casts 5 (codes "a") (codes "8") ++ subscribes 7 (codes "D") ++ work 7 ++ poll 1 ++ poll 1 ++ casts 5 (codes "a") (codes "7") ++ poll 1 ++ work 7 ++ work 7 ++ work 7 ++ work 7 ++ work 7

pub mark_is_the_last_id_of_the_read : transcript (rules 2) mark_is_the_last_id_of_the_read_events ≡ lines (to7 wel ∷ to7 (ok (codes "C")) ∷ codes "- row 1" ∷ codes "- row 2" ∷ codes "- row 3" ∷ codes "- row 4" ∷ codes "- row 5" ∷ to7 (say (codes "C") (codes "9")) ∷ to7 (say (codes "C") (codes "9")) ∷ to7 (ok (codes "D")) ∷ to7 (say (codes "C") (codes "9")) ∷ to7 (say (codes "D") (codes "7")) ∷ codes "end events=37 idle=0" ∷ [])
unfolding texts
mark_is_the_last_id_of_the_read = refl

pub mark_is_the_last_id_of_the_read_first : done_ids 2 1 1 mark_is_the_last_id_of_the_read_events ≡ 1 ∷ 2 ∷ 3 ∷ []
unfolding texts
mark_is_the_last_id_of_the_read_first = refl

pub mark_is_the_last_id_of_the_read_second : done_ids 2 3 2 mark_is_the_last_id_of_the_read_events ≡ 5 ∷ []
unfolding texts
mark_is_the_last_id_of_the_read_second = refl

pub mark_is_the_last_id_of_the_read_window : window_ids 2 3 2 mark_is_the_last_id_of_the_read_events ≡ 5 ∷ []
unfolding texts
mark_is_the_last_id_of_the_read_window = refl

pub mark_is_the_last_id_of_the_read_mark : mark_of 2 (marks 7 ((end 2 mark_is_the_last_id_of_the_read_events).nodes 1)) ≡ Some 4
unfolding texts
mark_is_the_last_id_of_the_read_mark = refl

-- one subscription with two streams gets the rows of both by rising id
abbrev rows_of_two_streams_come_by_id_events : List Event
rows_of_two_streams_come_by_id_events = boot 1 ++ opens 1 7 (codes "u") ++ subscribes 7 (codes "D") ++ work 7 ++ poll 1 ++ work 7 ++ casts 1 (codes "b") (codes "1") ++ casts 2 (codes "a") (codes "2") ++ poll 1 ++ work 7 ++ work 7

pub rows_of_two_streams_come_by_id : transcript (rules page_rows) rows_of_two_streams_come_by_id_events ≡ lines (to7 wel ∷ to7 (ok (codes "D")) ∷ codes "- row 1" ∷ codes "- row 2" ∷ to7 (say (codes "D") (codes "1")) ∷ to7 (say (codes "D") (codes "2")) ∷ codes "end events=19 idle=0" ∷ [])
unfolding texts
rows_of_two_streams_come_by_id = refl

pub rows_of_two_streams_come_by_id_first : window_ids page_rows 1 1 rows_of_two_streams_come_by_id_events ≡ 2 ∷ []
unfolding texts
rows_of_two_streams_come_by_id_first = refl

pub rows_of_two_streams_come_by_id_second : window_ids page_rows 1 2 rows_of_two_streams_come_by_id_events ≡ 1 ∷ []
unfolding texts
rows_of_two_streams_come_by_id_second = refl
