-- A confirmation is said by a Subscribe that wants no stream and by a confirmation, and by no other piece.
use Rattle.std.proofs.Common.{ℕ, ◌≡◌, true, false, cond, ◌⊎◌, List, [], ◌∷◌, ◌++◌, map, Some, None, Option, Result, Ok, Err, refl, ap, sym, subst, ◌∙◌, inl, inr, length, leb}
use Rattle.cable_base.specs.declared.numbers.SubNo.{SubNo}
use Rattle.cable_json.specs.Texts.{confirm_text, reject_text}
use Rattle.cable_json.specs.declared.commands.Command.TheVariants as command
use Rattle.cable_json.specs.declared.commands.CommandFault.{CommandFault}
use Rattle.cable_json.specs.declared.commands.CommandFault.TheVariants as command_fault
use Rattle.cable_json.specs.declared.reasons.Reason.TheVariants as reason
use Rattle.channel_book.specs.declared.answers.Answer.{Answer}
use Rattle.channel_book.specs.declared.answers.CallFault.{CallFault}
use Rattle.cable_model.specs.declared.events.Event.{Event}
use Rattle.cable_model.specs.declared.notes.Note.{Note}
use Rattle.cable_model.specs.declared.notes.Note.TheVariants as note
use Rattle.cable_model.specs.declared.pieces.Piece.{Piece}
use Rattle.cable_model.specs.declared.pieces.Piece.TheVariants as piece
use Rattle.cable_model.specs.declared.plans.Change.TheVariants as change
use Rattle.cable_model.specs.declared.plans.Closing.{Closing}
use Rattle.cable_model.specs.declared.plans.Closing.TheVariants as closing
use Rattle.cable_model.specs.declared.plans.Plan.{Plan}
use Rattle.cable_model.specs.declared.plans.Task.{Task}
use Rattle.cable_model.specs.declared.plans.Task.TheVariants as task
use Rattle.cable_model.specs.Connection.{Sub, Conn}
use Rattle.cable_model.specs.Limits.{most_subscriptions}
use Rattle.cable_model.specs.Pieces.{seat}
use Rattle.cable_model.specs.Plans.{Callbacks, acceptance, close_plan, confirmation, fault_task, new_streams, perform_plan, perform_task, plan_for, rejection, row_task, says, stream_notes, sub_named, sub_numbered, subscribe_plan, subscribe_task, task_of, unless_bad, unsubscribe_task}
use Rattle.cable_model.specs.History.{Rules}
use Rattle.cable_model.specs.HistoryLaws.{is_said}
use Rattle.cable_model.specs.Window.{finished}
use Rattle.cable_model.proofs.Jobs.{job-piece}
use Rattle.cable_model.proofs.Working.{working}
use Rattle.cable_laws.specs.Said.{ComesOfConfirmation, ConfirmationsComeOfConfirmations, StandsUnder}
use Rattle.cable_laws.proofs.Finishes.{history-finishes, plan-of-job, found-stands}
use Rattle.cable_laws.proofs.TextsApart.{confirm-same, disconnect-apart, reject-apart, said-alone, said-behind, said-none}

-- ---- tasks

-- where the plan says the confirmation of j, it subscribes j without a stream
abbrev Subscribes : List ℕ → Plan → Type 0
Subscribes j plan = is_said (confirm_text j) plan.texts ≡ true → plan.change ≡ change.Add j []

accepted : (j identifier : List ℕ) (answer : Answer) → Subscribes j (acceptance identifier answer)
accepted j identifier answer h = go answer.streams refl
  where
    go : (streams : List (List ℕ)) → answer.streams ≡ streams → change.Add identifier (new_streams [] answer.streams) ≡ change.Add j []
    go [] e =
        let h' : is_said (confirm_text j) (says identifier answer ++ confirm_text identifier ∷ []) ≡ true =
        ap (λ streams. is_said (confirm_text j) (says identifier answer ++ confirmation identifier streams)) (sym e) ∙ h in
        let same = confirm-same identifier j (said-alone (confirm_text j) (confirm_text identifier) (said-behind identifier j answer.says (confirm_text identifier ∷ []) h')) in
        ap (λ streams. change.Add identifier (new_streams [] streams)) e ∙ ap (λ i. change.Add i []) same
    go (s ∷ ss) e =
        let h' : is_said (confirm_text j) (says identifier answer ++ []) ≡ true =
        ap (λ streams. is_said (confirm_text j) (says identifier answer ++ confirmation identifier streams)) (sym e) ∙ h in
        let none = said-behind identifier j answer.says [] h' in
        absurd (cc (none))

rejected : (j : List ℕ) (why : List Note) (identifier : List ℕ) (answer : Answer) (left : Result Answer CallFault) → Subscribes j (rejection why identifier answer left)
rejected j why identifier answer left h =
    absurd (reject-apart identifier j (said-alone (confirm_text j) (reject_text identifier) (said-behind identifier j answer.says (reject_text identifier ∷ []) h)))

unless_bad-subscribes : (j : List ℕ) (notes : List Note) (identifier : List ℕ) (answer : Answer) (left : Result Answer CallFault) → Subscribes j (unless_bad notes identifier answer left)
unless_bad-subscribes j [] identifier answer left = accepted j identifier answer
unless_bad-subscribes j (why ∷ more) identifier answer left = rejected j (why ∷ []) identifier answer left

subscribed : (j identifier : List ℕ) (answered left : Result Answer CallFault) → Subscribes j (subscribe_plan identifier answered left)
subscribed j identifier (Err fault) left = λ h. absurd (cc (h))
subscribed j identifier (Ok answer) left =
    elim answer.rejected as (λ b. Subscribes j (cond b (rejection [] identifier answer left) (unless_bad (stream_notes [] answer.streams) identifier answer left))) [
      | true ↦ rejected j [] identifier answer left
      | false ↦ unless_bad-subscribes j (stream_notes [] answer.streams) identifier answer left
    ]

performed : (j identifier : List ℕ) (streams : List (List ℕ)) (answered : Result Answer CallFault) → is_said (confirm_text j) (perform_plan identifier streams answered).texts ≡ true → ⊥
performed j identifier streams (Err fault) h = absurd (cc (h))
performed j identifier streams (Ok answer) h = said-none identifier j answer.says h

closed : (j : List ℕ) (how : Closing) (lefts : List (Result Answer CallFault)) → is_said (confirm_text j) (close_plan how lefts).texts ≡ true → ⊥
closed j closing.Gone lefts h = absurd (cc (h))
closed j closing.Restart lefts h = disconnect-apart reason.ServerRestart true j (said-alone _ _ h)
closed j (closing.Remote reconnect) lefts h = disconnect-apart reason.Remote reconnect j (said-alone _ _ h)

task-says : (c : Callbacks) (user j : List ℕ) (t : Task) → is_said (confirm_text j) (plan_for c user t).texts ≡ true → ((plan_for c user t).change ≡ change.Add j []) ⊎ (t ≡ task.Confirm j)
task-says c user j (task.Subscribe identifier) h = inl (subscribed j identifier (c.subscribed user identifier) (c.unsubscribed user identifier) h)
task-says c user j (task.Perform identifier payload streams) h = absurd (performed j identifier streams (c.perform user identifier payload) h)
task-says c user j (task.Row identifier payload) h = absurd (said-none identifier j (payload ∷ []) h)
task-says c user j (task.Confirm identifier) h = inr (ap task.Confirm (confirm-same identifier j (said-alone (confirm_text j) (confirm_text identifier) h)))
task-says c user j (task.Close how identifiers) h = absurd (closed j how (map (c.unsubscribed user) identifiers) h)
task-says c user j _ h = absurd (cc (h))

-- ---- pieces

-- the task is no confirmation
abbrev Confirmless : Task → Type 0
Confirmless t = (j : List ℕ) → t ≡ task.Confirm j → ⊥

fault-confirmless : (fault : CommandFault) → Confirmless (fault_task fault)
fault-confirmless command_fault.BadJson j h = absurd (cc (h))
fault-confirmless _ j h = absurd (cc (h))

subscribe-confirmless : (identifier : List ℕ) (standing : ℕ) (o : Option Sub) → Confirmless (subscribe_task identifier standing o)
subscribe-confirmless identifier standing (Some s) = λ j h. absurd (cc (h))
subscribe-confirmless identifier standing None =
    elim (leb most_subscriptions standing) as (λ b. Confirmless (cond b (task.Note note.TooManySubscriptions) (task.Subscribe identifier))) [ true ↦ λ j h. absurd (cc (h)) | false ↦ λ j h. absurd (cc (h)) ]

unsubscribe-confirmless : (identifier : List ℕ) (o : Option Sub) → Confirmless (unsubscribe_task identifier o)
unsubscribe-confirmless identifier (Some s) j h = absurd (cc (h))
unsubscribe-confirmless identifier None j h = absurd (cc (h))

perform-confirmless : (identifier payload : List ℕ) (o : Option Sub) → Confirmless (perform_task identifier payload o)
perform-confirmless identifier payload (Some s) j h = absurd (cc (h))
perform-confirmless identifier payload None j h = absurd (cc (h))

row-confirmless : (payload : List ℕ) (o : Option Sub) → Confirmless (row_task payload o)
row-confirmless payload (Some s) j h = absurd (cc (h))
row-confirmless payload None j h = absurd (cc (h))

-- only a confirmation gives it, of a subscription that stands under the identifier
abbrev Confirms : List ℕ → Conn → Piece → Type 0
Confirms j k p = (sub : SubNo) × (p ≡ piece.Confirm sub) × StandsUnder sub.0 j k

piece-confirms : (j : List ℕ) (k : Conn) (p : Piece) → task_of k p ≡ task.Confirm j → Confirms j k p
piece-confirms j k (piece.Cmd (Err fault)) h = absurd (fault-confirmless fault j h)
piece-confirms j k (piece.Cmd (Ok (command.Subscribe identifier))) h = absurd (subscribe-confirmless identifier (length k.subs) (sub_named identifier k) j h)
piece-confirms j k (piece.Cmd (Ok (command.Unsubscribe identifier))) h = absurd (unsubscribe-confirmless identifier (sub_named identifier k) j h)
piece-confirms j k (piece.Cmd (Ok (command.Message identifier payload))) h = absurd (perform-confirmless identifier payload (sub_named identifier k) j h)
piece-confirms j k (piece.Row sub want row) h = absurd (row-confirmless row.payload (sub_numbered sub.0 k) j h)
piece-confirms j k (piece.Confirm sub) h = go (sub_numbered sub.0 k) refl
  where
    go : (o : Option Sub) → sub_numbered sub.0 k ≡ o → Confirms j k (piece.Confirm sub)
    go None e = let h' = rw e at h in absurd (cc (h'))
    go (Some x) e =
        let h' : task.Confirm x.identifier ≡ task.Confirm j = rw e at h in
        let same : x.identifier ≡ j = cc (h') in
        (sub, refl, subst (λ i. StandsUnder sub.0 i k) same (found-stands sub.0 k x e))
piece-confirms j k _ h = absurd (cc (h))

-- ---- over a history

pub confirmations-come : (r : Rules) (events : List Event) → ConfirmationsComeOfConfirmations r events
confirmations-come r events n c f j h =
    let x = history-finishes r events n c f in
    let s = seat c f.past in
    let p = job-piece x.pl s (λ sub want. finished c sub want f.past) (working x.pl c f.past x.works) x.out in
    let planned = plan-of-job r.callbacks c f.past f.plan p.piece x.planned p.is in
    let h' = ap (λ (plan : Plan). is_said (confirm_text j) plan.texts) planned.1 ∙ h in
    elim (task-says r.callbacks planned.0 j (task_of s.conn p.piece) h') as (λ _. ComesOfConfirmation c j f.plan f.past) [
      | inl adds ↦ inl (sym (ap (λ (plan : Plan). plan.change) planned.1) ∙ adds)
      | inr is ↦ let q = piece-confirms j s.conn p.piece is in inr (q.0, p.is ∙ ap Some q.1, q.2)
    ]
