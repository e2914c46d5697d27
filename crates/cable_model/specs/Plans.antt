-- How a piece is worked: first what it needs from its connection (its task), then what the rules make of that with the answers of the
-- callbacks (its plan). Within a plan the notes of streams come first, then those of casts, then those of faults of `unsubscribed`.
use Rattle.std.specs.Prelude.{◌≡◌, ⊤, ℕ, Bool, true, false, cond, not, ◌&&◌, ◌||◌, List, [], ◌∷◌, ◌++◌, map, length, filter, filter_map, flat_map}
use Rattle.std.specs.Prelude.{find, Option, None, Some, is_none, option_to_list, Result, Ok, Err, bytes_eq, ◌==◌, ltb, leb}
use Rattle.std.specs.List.{AllByRecursion}
use Rattle.cable_base.specs.Names.{is_reserved}
use Rattle.cable_json.specs.Texts.{confirm_text, reject_text, message_text, disconnect_text}
use Rattle.cable_json.specs.declared.reasons.Reason.TheVariants as reason
use Rattle.cable_json.specs.declared.commands.Command.TheVariants as command
use Rattle.cable_json.specs.declared.commands.CommandFault.{CommandFault}
use Rattle.cable_json.specs.declared.commands.CommandFault.TheVariants as command_fault
use Rattle.channel_book.specs.declared.answers.Answer.{Answer}
use Rattle.channel_book.specs.declared.answers.Cast.{Cast}
use Rattle.channel_book.specs.declared.answers.CallFault.{CallFault}
use Rattle.channel_book.specs.declared.answers.CallFault.TheVariants as call_fault
pub use Rattle.channel_book.specs.Callbacks.{Callbacks}
use Rattle.cable_model.specs.declared.notes.Note.{Note}
use Rattle.cable_model.specs.declared.notes.Note.TheVariants as note
use Rattle.cable_model.specs.declared.pieces.Piece.{Piece}
use Rattle.cable_model.specs.declared.pieces.Piece.TheVariants as piece
use Rattle.cable_model.specs.declared.plans.Closing.{Closing}
use Rattle.cable_model.specs.declared.plans.Closing.TheVariants as closing
use Rattle.cable_model.specs.declared.plans.Task.{Task}
use Rattle.cable_model.specs.declared.plans.Task.TheVariants as task
use Rattle.cable_model.specs.declared.plans.Plan.{Plan}
use Rattle.cable_model.specs.declared.plans.Change.TheVariants as change
use Rattle.cable_model.specs.Limits.{most_name, most_payload, most_streams, most_subscriptions}
use Rattle.cable_model.specs.Connection.{Want, Sub, Conn, Planner, among}

-- ---- the task of a piece

abbrev pub sub_named : List ℕ → Conn → Option Sub
sub_named identifier k = find (λ s. bytes_eq s.identifier identifier) k.subs

abbrev pub sub_numbered : ℕ → Conn → Option Sub
sub_numbered n k = find (λ s. s.number == n) k.subs

abbrev pub names_of : List Want → List (List ℕ)
names_of wants = map (λ w. w.name) wants

-- a faulty command is noted. A piece never holds want of memory
abbrev pub fault_task : CommandFault → Task
fault_task command_fault.BadJson = task.Note note.BadJson
fault_task command_fault.UnknownCommand = task.Note note.UnknownCommand
fault_task command_fault.NoIdentifier = task.Note note.NoIdentifier
fault_task command_fault.BadData = task.Note note.BadData
fault_task command_fault.OutOfMemory = task.Nothing

-- an identifier that is subscribed is passed over in silence
abbrev pub subscribe_task : List ℕ → (standing : ℕ) → Option Sub → Task
subscribe_task identifier standing (Some s) = task.Nothing
subscribe_task identifier standing None = cond (leb most_subscriptions standing) (task.Note note.TooManySubscriptions) (task.Subscribe identifier)

abbrev pub unsubscribe_task : List ℕ → Option Sub → Task
unsubscribe_task identifier (Some s) = task.Unsubscribe identifier
unsubscribe_task identifier None = task.Note note.UnknownSubscription

abbrev pub perform_task : (identifier payload : List ℕ) → Option Sub → Task
perform_task identifier payload (Some s) = task.Perform identifier payload (names_of s.wants)
perform_task identifier payload None = task.Note note.UnknownSubscription

abbrev pub row_task : (payload : List ℕ) → Option Sub → Task
row_task payload (Some s) = task.Row s.identifier payload
row_task payload None = task.Nothing

abbrev pub confirm_task : Option Sub → Task
confirm_task (Some s) = task.Confirm s.identifier
confirm_task None = task.Nothing

abbrev pub close_task : Closing → Conn → Task
close_task how k = task.Close how (map (λ s. s.identifier) k.subs)

-- what a piece needs from the connection as it stands after all pieces before it
abbrev pub task_of : Conn → Piece → Task
task_of k (piece.Cmd (Err fault)) = fault_task fault
task_of k (piece.Cmd (Ok (command.Subscribe identifier))) = subscribe_task identifier (length k.subs) (sub_named identifier k)
task_of k (piece.Cmd (Ok (command.Unsubscribe identifier))) = unsubscribe_task identifier (sub_named identifier k)
task_of k (piece.Cmd (Ok (command.Message identifier payload))) = perform_task identifier payload (sub_named identifier k)
task_of k (piece.Row sub want row) = row_task row.payload (sub_numbered sub.0 k)
task_of k (piece.Confirm sub) = confirm_task (sub_numbered sub.0 k)
task_of k (piece.Remote reconnect) = close_task (closing.Remote reconnect) k
task_of k piece.Gone = close_task closing.Gone k
task_of k piece.Restart = close_task closing.Restart k

-- ---- streams that a callback asks for

-- why a stream is bad, where these are the subscription's streams and the good ones before it. The three rules are tried in this order
abbrev pub stream_note : List (List ℕ) → List ℕ → Option Note
stream_note known name =
    cond (is_reserved name) (Some note.ReservedStream)
    (cond (ltb most_name (length name)) (Some note.NameTooLong)
    (cond (not (among known name) && leb most_streams (length known)) (Some note.TooManyStreams) None))

-- the stream, where it is good and isn't there yet
abbrev pub new_stream : List (List ℕ) → List ℕ → List (List ℕ)
new_stream known name = cond (is_none (stream_note known name) && not (among known name)) (name ∷ []) []

-- the streams that become new wants, in order
abbrev pub new_streams : List (List ℕ) → List (List ℕ) → List (List ℕ)
new_streams known [] = []
new_streams known (name ∷ names) = new_stream known name ++ new_streams (known ++ new_stream known name) names

-- the notes of the bad ones, in order
abbrev pub stream_notes : List (List ℕ) → List (List ℕ) → List Note
stream_notes known [] = []
stream_notes known (name ∷ names) = option_to_list (stream_note known name) ++ stream_notes (known ++ new_stream known name) names

-- ---- broadcasts of a callback

-- why a broadcast is dropped. The three rules are tried in this order
abbrev pub cast_note : Cast → Option Note
cast_note cast =
    cond (is_reserved cast.channel) (Some note.ReservedCast)
    (cond (ltb most_name (length cast.channel)) (Some note.NameTooLong)
    (cond (ltb most_payload (length cast.payload)) (Some note.PayloadTooLong) None))

abbrev pub kept_casts : List Cast → List Cast
kept_casts casts = filter (λ c. is_none (cast_note c)) casts

abbrev pub cast_notes : List Cast → List Note
cast_notes casts = filter_map cast_note casts

-- ---- the plan of a task

-- the note of a callback's fault. Want of memory is no answer of a callback
abbrev pub fault_notes : CallFault → List Note
fault_notes call_fault.BadIdentifier = note.BadIdentifier ∷ []
fault_notes call_fault.UnknownChannel = note.UnknownChannel ∷ []
fault_notes call_fault.BadData = note.DataNoObject ∷ []
fault_notes call_fault.UnknownAction = note.UnknownAction ∷ []
fault_notes call_fault.OutOfMemory = []

abbrev pub noted : List Note → Plan
noted notes = record { texts = []; notes = notes; casts = []; change = change.Nothing }

abbrev pub said_only : List (List ℕ) → Plan
said_only texts = record { texts = texts; notes = []; casts = []; change = change.Nothing }

-- what is said to the client alone, as messages
abbrev pub says : (identifier : List ℕ) → Answer → List (List ℕ)
says identifier answer = map (message_text identifier) answer.says

-- from an answer of `unsubscribed` only the casts are used, and a fault of it gives its note
abbrev pub casts_left : Result Answer CallFault → List Cast
casts_left (Ok answer) = answer.casts
casts_left (Err fault) = []

abbrev pub notes_left : Result Answer CallFault → List Note
notes_left (Ok answer) = []
notes_left (Err fault) = fault_notes fault

-- a rejected subscription: `unsubscribed` is called, the says are said, and then the rejection. `why` is the note of its first bad stream, if
-- that was the cause
abbrev pub rejection : List Note → (identifier : List ℕ) → Answer → Result Answer CallFault → Plan
rejection why identifier answer left =
    record {
      texts = says identifier answer ++ reject_text identifier ∷ [];
      notes = why ++ cast_notes (answer.casts ++ casts_left left) ++ notes_left left;
      casts = kept_casts (answer.casts ++ casts_left left);
      change = change.Nothing;
    }

-- without streams the confirmation follows at once, and otherwise when they are held
abbrev pub confirmation : (identifier : List ℕ) → List (List ℕ) → List (List ℕ)
confirmation identifier [] = confirm_text identifier ∷ []
confirmation identifier (_ ∷ _) = []

abbrev pub acceptance : (identifier : List ℕ) → Answer → Plan
acceptance identifier answer =
    record {
      texts = says identifier answer ++ confirmation identifier answer.streams;
      notes = cast_notes answer.casts;
      casts = kept_casts answer.casts;
      change = change.Add identifier (new_streams [] answer.streams);
    }

-- the first bad stream rejects
abbrev pub unless_bad : List Note → (identifier : List ℕ) → Answer → Result Answer CallFault → Plan
unless_bad [] identifier answer left = acceptance identifier answer
unless_bad (why ∷ _) identifier answer left = rejection (why ∷ []) identifier answer left

-- what `subscribed` answered, and what `unsubscribed` would answer. A subscription that was rejected by its answer gives no note of a stream
abbrev pub subscribe_plan : (identifier : List ℕ) → Result Answer CallFault → Result Answer CallFault → Plan
subscribe_plan identifier (Err fault) left = noted (fault_notes fault)
subscribe_plan identifier (Ok answer) left =
    cond answer.rejected (rejection [] identifier answer left) (unless_bad (stream_notes [] answer.streams) identifier answer left)

-- the subscription ends without a reply
abbrev pub unsubscribe_plan : (identifier : List ℕ) → Result Answer CallFault → Plan
unsubscribe_plan identifier left =
    record { texts = []; notes = cast_notes (casts_left left) ++ notes_left left; casts = kept_casts (casts_left left); change = change.Remove identifier }

-- the streams that are left once the stops have ended
abbrev pub unstopped : (stops streams : List (List ℕ)) → List (List ℕ)
unstopped stops streams = filter (λ name. not (among stops name)) streams

-- the stops end first, then the streams are wanted, a bad one being passed over with its note, then the says are said
abbrev pub perform_plan : (identifier : List ℕ) → (streams : List (List ℕ)) → Result Answer CallFault → Plan
perform_plan identifier streams (Err fault) = noted (fault_notes fault)
perform_plan identifier streams (Ok answer) =
    record {
      texts = says identifier answer;
      notes = stream_notes (unstopped answer.stops streams) answer.streams ++ cast_notes answer.casts;
      casts = kept_casts answer.casts;
      change = change.Streams identifier answer.stops (new_streams (unstopped answer.stops streams) answer.streams);
    }

-- what is said at the end
abbrev pub last_words : Closing → List (List ℕ)
last_words closing.Gone = []
last_words closing.Restart = disconnect_text reason.ServerRestart true ∷ []
last_words (closing.Remote reconnect) = disconnect_text reason.Remote reconnect ∷ []

-- each subscription is left, in the order in which they were made, and all end
abbrev pub close_plan : Closing → List (Result Answer CallFault) → Plan
close_plan how lefts =
    record {
      texts = last_words how;
      notes = cast_notes (flat_map casts_left lefts) ++ flat_map notes_left lefts;
      casts = kept_casts (flat_map casts_left lefts);
      change = change.Close;
    }

-- the plan of a task of this user
abbrev pub plan_for : Callbacks → (user : List ℕ) → Task → Plan
plan_for c user task.Nothing = noted []
plan_for c user (task.Note why) = noted (why ∷ [])
plan_for c user (task.Subscribe identifier) = subscribe_plan identifier (c.subscribed user identifier) (c.unsubscribed user identifier)
plan_for c user (task.Unsubscribe identifier) = unsubscribe_plan identifier (c.unsubscribed user identifier)
plan_for c user (task.Perform identifier payload streams) = perform_plan identifier streams (c.perform user identifier payload)
plan_for c user (task.Row identifier payload) = said_only (message_text identifier payload ∷ [])
plan_for c user (task.Confirm identifier) = said_only (confirm_text identifier ∷ [])
plan_for c user (task.Close how identifiers) = close_plan how (map (c.unsubscribed user) identifiers)

-- the plan of a piece of this user on a connection
abbrev pub plan_of : Callbacks → (user : List ℕ) → Conn → Piece → Plan
plan_of c user k p = plan_for c user (task_of k p)

-- ---- answers

-- the callback answered. Want of memory is no answer of a callback
abbrev pub IsAnswer : Result Answer CallFault → Type 0
IsAnswer answer = ¬ (answer ≡ Err call_fault.OutOfMemory)

-- these callbacks always answer
pub record AlwaysAnswer (c : Callbacks) : Type 0 where
  pub subscribed : (user identifier : List ℕ) → IsAnswer (c.subscribed user identifier)
  pub unsubscribed : (user identifier : List ℕ) → IsAnswer (c.unsubscribed user identifier)
  pub perform : (user identifier payload : List ℕ) → IsAnswer (c.perform user identifier payload)

-- the subscription is rejected, by the answer itself or for a bad stream
abbrev pub is_rejection : Result Answer CallFault → Bool
is_rejection (Err fault) = false
is_rejection (Ok answer) = answer.rejected || ltb 0 (length (stream_notes [] answer.streams))

-- the callbacks answered all that the plan of a task is made of. `unsubscribed` is asked for a new subscription only where that is rejected
abbrev pub IsAnswered : Callbacks → (user : List ℕ) → Task → Type 0
IsAnswered c user task.Nothing = ⊤
IsAnswered c user (task.Note why) = ⊤
IsAnswered c user (task.Subscribe identifier) =
    IsAnswer (c.subscribed user identifier) × (is_rejection (c.subscribed user identifier) ≡ true → IsAnswer (c.unsubscribed user identifier))
IsAnswered c user (task.Unsubscribe identifier) = IsAnswer (c.unsubscribed user identifier)
IsAnswered c user (task.Perform identifier payload streams) = IsAnswer (c.perform user identifier payload)
IsAnswered c user (task.Row identifier payload) = ⊤
IsAnswered c user (task.Confirm identifier) = ⊤
IsAnswered c user (task.Close how identifiers) = AllByRecursion (λ (identifier : List ℕ). IsAnswer (c.unsubscribed user identifier)) identifiers

-- the planner of a history: what the callbacks make of a command
abbrev pub planner : Callbacks → (user : List ℕ) → Planner
planner c user place k read = (plan_of c user k (piece.Cmd read)).change
