-- Commands, and what their callbacks cast.
use Rattle.std.proofs.Common.{◌≡◌, refl, List, [], ◌∷◌, ◌++◌}
use Rattle.std.specs.Prelude.{codes}
use Rattle.cable_model.specs.declared.events.Event.{Event}
use Rattle.cable_model.specs.Limits.{page_rows}
use Rattle.cable_model.specs.Transcript.{transcript}
use Rattle.cable_model.proofs.Cases.{texts, rules, boot, opens, sends, subscribes, messages, takes, puts, finishes, work, poll, faults, held, wel, ok, no_to, say, to7, lines}

-- a commit that failed counts as done
abbrev failed_put_is_noted_events : List Event
failed_put_is_noted_events = held ++ messages 7 (codes "C") (codes "2") ++ takes 7 ++ faults ++ puts 7 6 ++ finishes 7

pub failed_put_is_noted : transcript (rules page_rows) failed_put_is_noted_events ≡ lines (to7 wel ∷ to7 (ok (codes "C")) ∷ codes "7 ! store-refused" ∷ codes "end events=15 idle=0" ∷ [])
unfolding texts
failed_put_is_noted = refl

-- the action casts to the stream that the subscription holds, and an unknown action is noted
abbrev cast_of_an_action_is_a_row_events : List Event
cast_of_an_action_is_a_row_events = held ++ messages 7 (codes "C") (codes "2") ++ takes 7 ++ puts 7 5 ++ finishes 7 ++ poll 1 ++ work 7 ++ messages 7 (codes "C") (codes "5") ++ work 7

pub cast_of_an_action_is_a_row : transcript (rules page_rows) cast_of_an_action_is_a_row_events ≡ lines (to7 wel ∷ to7 (ok (codes "C")) ∷ codes "- row 1" ∷ to7 (say (codes "C") (codes "2")) ∷ codes "7 ! unknown-action" ∷ codes "end events=22 idle=0" ∷ [])
unfolding texts
cast_of_an_action_is_a_row = refl

-- the dropped cast leaves no Put to do
abbrev reserved_cast_is_dropped_events : List Event
reserved_cast_is_dropped_events = boot 1 ++ opens 1 7 (codes "u") ++ subscribes 7 (codes "P") ++ work 7 ++ messages 7 (codes "P") (codes "4") ++ takes 7 ++ puts 7 0 ++ finishes 7

pub reserved_cast_is_dropped : transcript (rules page_rows) reserved_cast_is_dropped_events ≡ lines (to7 wel ∷ to7 (ok (codes "P")) ∷ codes "7 ! reserved-cast" ∷ codes "end events=9 idle=1" ∷ [])
unfolding texts
reserved_cast_is_dropped = refl

-- a bad stream rejects the subscription, and is noted
abbrev reserved_stream_rejects_events : List Event
reserved_stream_rejects_events = boot 1 ++ opens 1 7 (codes "u") ++ subscribes 7 (codes "X") ++ work 7

pub reserved_stream_rejects : transcript (rules page_rows) reserved_stream_rejects_events ≡ lines (to7 wel ∷ to7 (no_to (codes "X")) ∷ codes "7 ! reserved-stream" ∷ codes "end events=5 idle=0" ∷ [])
unfolding texts
reserved_stream_rejects = refl

-- an answer that rejects is noted by nothing
abbrev rejected_subscription_events : List Event
rejected_subscription_events = boot 1 ++ opens 1 7 (codes "u") ++ subscribes 7 (codes "Y") ++ work 7

pub rejected_subscription : transcript (rules page_rows) rejected_subscription_events ≡ lines (to7 wel ∷ to7 (no_to (codes "Y")) ∷ codes "end events=5 idle=0" ∷ [])
unfolding texts
rejected_subscription = refl

-- an identifier that is subscribed is passed over
abbrev second_subscribe_is_silent_events : List Event
second_subscribe_is_silent_events = boot 1 ++ opens 1 7 (codes "u") ++ subscribes 7 (codes "P") ++ subscribes 7 (codes "P") ++ work 7 ++ work 7

pub second_subscribe_is_silent : transcript (rules page_rows) second_subscribe_is_silent_events ≡ lines (to7 wel ∷ to7 (ok (codes "P")) ∷ codes "end events=8 idle=0" ∷ [])
unfolding texts
second_subscribe_is_silent = refl

-- what a callback says is said to the client alone, and a message to what is not subscribed is noted
abbrev says_are_messages_events : List Event
says_are_messages_events = boot 1 ++ opens 1 7 (codes "u") ++ subscribes 7 (codes "P") ++ work 7 ++ messages 7 (codes "P") (codes "3") ++ work 7 ++ messages 7 (codes "C") (codes "3") ++ work 7

pub says_are_messages : transcript (rules page_rows) says_are_messages_events ≡ lines (to7 wel ∷ to7 (ok (codes "P")) ∷ to7 (say (codes "P") (codes "3")) ∷ codes "7 ! unknown-subscription" ∷ codes "end events=11 idle=0" ∷ [])
unfolding texts
says_are_messages = refl

-- each fault of a command has its note
abbrev faulty_commands_are_noted_events : List Event
faulty_commands_are_noted_events = boot 1 ++ opens 1 7 (codes "u") ++ sends 7 (codes "x") ++ sends 7 (codes "{}") ++ work 7 ++ work 7

pub faulty_commands_are_noted : transcript (rules page_rows) faulty_commands_are_noted_events ≡ lines (to7 wel ∷ codes "7 ! bad-json" ∷ codes "7 ! unknown-command" ∷ codes "end events=8 idle=0" ∷ [])
unfolding texts
faulty_commands_are_noted = refl
