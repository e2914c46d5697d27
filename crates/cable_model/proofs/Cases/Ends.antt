-- How a stream, a subscription and a connection end.
use Rattle.std.proofs.Common.{◌≡◌, refl, List, [], ◌∷◌, ◌++◌}
use Rattle.std.specs.Prelude.{codes, length}
use Rattle.cable_model.specs.declared.events.Event.{Event}
use Rattle.cable_model.specs.Limits.{page_rows}
use Rattle.cable_model.specs.Pieces.{seat, waiting}
use Rattle.cable_model.specs.Transcript.{transcript}
use Rattle.cable_model.proofs.Cases.{texts, rules, boot, opens, subscribes, unsubscribes, messages, takes, puts, finishes, work, stops, casts, poll, asked, held, wel, ok, say, to7, lines, done_ids, window_ids, end}

-- the row was put behind the unsubscribe: it waits until that is worked, and is struck then
abbrev unsubscribe_strikes_the_waiting_row_events : List Event
unsubscribe_strikes_the_waiting_row_events = held ++ unsubscribes 7 (codes "C") ++ casts 5 (codes "r") (codes "9") ++ poll 1 ++ work 7 ++ work 7

pub unsubscribe_strikes_the_waiting_row : transcript (rules page_rows) unsubscribe_strikes_the_waiting_row_events ≡ lines (to7 wel ∷ to7 (ok (codes "C")) ∷ codes "- row 1" ∷ codes "end events=19 idle=2" ∷ [])
unfolding texts
unsubscribe_strikes_the_waiting_row = refl

abbrev before : List Event
before = held ++ unsubscribes 7 (codes "C") ++ casts 5 (codes "r") (codes "9") ++ poll 1

pub two_wait : length (waiting (seat 7 ((end page_rows before).nodes 1))) ≡ 2
unfolding texts
two_wait = refl

pub none_waits : waiting (seat 7 ((end page_rows (before ++ work 7)).nodes 1)) ≡ []
unfolding texts
none_waits = refl

pub unsubscribe_strikes_the_waiting_row_window : window_ids page_rows 1 1 unsubscribe_strikes_the_waiting_row_events ≡ []
unfolding texts
unsubscribe_strikes_the_waiting_row_window = refl

-- a new subscription with the same identifier is another one, which gets no row of the first
abbrev resubscribe_is_another_subscription_events : List Event
resubscribe_is_another_subscription_events = held ++ unsubscribes 7 (codes "C") ++ casts 5 (codes "r") (codes "8") ++ poll 1 ++ subscribes 7 (codes "C") ++ work 7 ++ work 7 ++ poll 1 ++ work 7 ++ casts 6 (codes "r") (codes "9") ++ poll 1 ++ work 7

pub resubscribe_is_another_subscription : transcript (rules page_rows) resubscribe_is_another_subscription_events ≡ lines (to7 wel ∷ to7 (ok (codes "C")) ∷ codes "- row 1" ∷ to7 (ok (codes "C")) ∷ codes "- row 2" ∷ to7 (say (codes "C") (codes "9")) ∷ codes "end events=31 idle=0" ∷ [])
unfolding texts
resubscribe_is_another_subscription = refl

pub resubscribe_is_another_subscription_first : done_ids page_rows 1 1 resubscribe_is_another_subscription_events ≡ []
unfolding texts
resubscribe_is_another_subscription_first = refl

pub resubscribe_is_another_subscription_second : done_ids page_rows 5 2 resubscribe_is_another_subscription_events ≡ 2 ∷ []
unfolding texts
resubscribe_is_another_subscription_second = refl

pub resubscribe_is_another_subscription_first_window : window_ids page_rows 1 1 resubscribe_is_another_subscription_events ≡ []
unfolding texts
resubscribe_is_another_subscription_first_window = refl

pub resubscribe_is_another_subscription_second_window : window_ids page_rows 5 2 resubscribe_is_another_subscription_events ≡ 2 ∷ []
unfolding texts
resubscribe_is_another_subscription_second_window = refl

-- an action stopped the stream before its turn, and the confirmation comes all the same
abbrev stopped_before_its_turn_still_confirms_events : List Event
stopped_before_its_turn_still_confirms_events = asked ++ messages 7 (codes "C") (codes "1") ++ work 7 ++ poll 1 ++ work 7 ++ casts 5 (codes "r") (codes "9") ++ poll 1 ++ work 7

pub stopped_before_its_turn_still_confirms : transcript (rules page_rows) stopped_before_its_turn_still_confirms_events ≡ lines (to7 wel ∷ to7 (ok (codes "C")) ∷ codes "- row 1" ∷ codes "end events=19 idle=2" ∷ [])
unfolding texts
stopped_before_its_turn_still_confirms = refl

-- a row on the own stream closes the connection behind the row before it: the row behind it is never worked, and the last row is cast by the callback
abbrev remote_disconnect_ends_and_casts_events : List Event
remote_disconnect_ends_and_casts_events = boot 1 ++ opens 1 7 (codes "u") ++ subscribes 7 (codes "K") ++ work 7 ++ poll 1 ++ work 7 ++ casts 1 (codes "k") (codes "1") ++ casts 2 (codes "action_cable/u") (codes "{\"type\":\"disconnect\"}") ++ casts 3 (codes "k") (codes "2") ++ poll 1 ++ work 7 ++ takes 7 ++ puts 7 4 ++ finishes 7 ++ work 7

pub remote_disconnect_ends_and_casts : transcript (rules page_rows) remote_disconnect_ends_and_casts_events ≡ lines (to7 wel ∷ to7 (ok (codes "K")) ∷ codes "- row 1" ∷ codes "- row 2" ∷ codes "- row 3" ∷ to7 (say (codes "K") (codes "1")) ∷ codes "- row 4" ∷ to7 (codes "{\"type\":\"disconnect\",\"reason\":\"remote\",\"reconnect\":true}") ∷ codes "end events=23 idle=2" ∷ [])
unfolding texts
remote_disconnect_ends_and_casts = refl

-- a text that arrives on a closing connection is idle
abbrev stop_says_server_restart_events : List Event
stop_says_server_restart_events = boot 1 ++ opens 1 7 (codes "u") ++ subscribes 7 (codes "P") ++ work 7 ++ stops 1 ++ subscribes 7 (codes "P") ++ work 7

pub stop_says_server_restart : transcript (rules page_rows) stop_says_server_restart_events ≡ lines (to7 wel ∷ to7 (ok (codes "P")) ∷ to7 (codes "{\"type\":\"disconnect\",\"reason\":\"server_restart\",\"reconnect\":true}") ∷ codes "end events=9 idle=1" ∷ [])
unfolding texts
stop_says_server_restart = refl

-- a connection without a user is over at once
abbrev unknown_token_is_unauthorized_events : List Event
unknown_token_is_unauthorized_events = boot 1 ++ opens 1 7 (codes "t") ++ subscribes 7 (codes "P")

pub unknown_token_is_unauthorized : transcript (rules page_rows) unknown_token_is_unauthorized_events ≡ lines (to7 (codes "{\"type\":\"disconnect\",\"reason\":\"unauthorized\",\"reconnect\":false}") ∷ codes "end events=3 idle=1" ∷ [])
unfolding texts
unknown_token_is_unauthorized = refl
