-- A Subscribe that makes a want doesn't say its confirmation.
use Rattle.std.proofs.Common.{ℕ, ◌≡◌, Bool, true, false, cond, List, [], ◌∷◌, ◌++◌, map, Some, None, Option, Result, Ok, Err, refl, ap, sym, subst, ◌∙◌, bytes_eq, codes, append_assoc, get_or, arith}
use Rattle.std.proofs.lemmas.List.{append-nil, append_cancel_left}
use Rattle.std.proofs.lemmas.Bool.{false_from_ne_true}
use Rattle.std.proofs.lemmas.Slice.Eq.{bytes_eq-Decides}
use Rattle.json.specs.Print.{quoted}
use Rattle.cable_json.specs.Texts.{confirm_text, message_text}
use Rattle.channel_book.specs.declared.answers.Answer.{Answer}
use Rattle.channel_book.specs.declared.answers.CallFault.{CallFault}
use Rattle.cable_model.specs.declared.notes.Note.{Note}
use Rattle.cable_model.specs.declared.plans.Plan.{Plan}
use Rattle.cable_model.specs.declared.plans.Task.{Task}
use Rattle.cable_model.specs.declared.plans.Task.TheVariants as task
use Rattle.cable_model.specs.declared.pieces.Piece.{Piece}
use Rattle.cable_model.specs.Steps.{Step}
use Rattle.cable_model.specs.Plans.{Callbacks, plan_for, plan_of, task_of, says, confirmation, stream_notes, unless_bad, rejection, acceptance, subscribe_plan, perform_plan}
use Rattle.cable_model.specs.Wants.{user_of}
use Rattle.cable_model.specs.Pieces.{seat}
use Rattle.cable_model.specs.Possible.{has_job, job_plan}
use Rattle.cable_model.specs.Window.{job}
use Rattle.cable_model.specs.HistoryLaws.{is_said, WaitsForConfirm}

-- two texts that begin alike and go on otherwise
parted : (front middle payload last other : List ℕ) → (middle ++ (payload ++ last) ≡ other → ⊥) → bytes_eq (front ++ middle ++ payload ++ last) (front ++ other) ≡ false
parted front middle payload last other differ =
    false_from_ne_true (bytes_eq (front ++ middle ++ payload ++ last) (front ++ other)) (λ h.
    differ (append_cancel_left front (middle ++ (payload ++ last)) other
    (sym (append_assoc (front ++ middle) payload last ∙ append_assoc front middle (payload ++ last)) ∙ (bytes_eq-Decides (front ++ middle ++ payload ++ last) (front ++ other)).0 h)))

-- a message isn't the confirmation
message-apart : (identifier payload : List ℕ) → bytes_eq (message_text identifier payload) (confirm_text identifier) ≡ false
message-apart identifier payload =
    parted (codes "{\"identifier\":" ++ quoted identifier) (codes ",\"message\":") payload (codes "}") (codes ",\"type\":\"confirm_subscription\"}")
    (λ h. let third : 109 ≡ 116 = ap (λ xs. get_or xs 2 0) h in omega arith)

messages-apart : (identifier : List ℕ) (payloads : List (List ℕ)) → is_said (confirm_text identifier) (map (message_text identifier) payloads) ≡ false
messages-apart identifier [] = refl
messages-apart identifier (p ∷ ps) = rw (message-apart identifier p) (messages-apart identifier ps)

-- a callback that asks for no stream makes no want
accepted-waits : (subscribed : List ℕ) (answer : Answer) → WaitsForConfirm (acceptance subscribed answer)
accepted-waits subscribed answer identifier name names h = go answer.streams refl
  where
    same : subscribed ≡ identifier
    same = cc (h)

    go : (streams : List (List ℕ)) → answer.streams ≡ streams → is_said (confirm_text identifier) (says subscribed answer ++ confirmation subscribed answer.streams) ≡ false
    go [] e = let h' = rw e at h in absurd (cc (h'))
    go (s ∷ ss) e = rw (e, append-nil (says subscribed answer), ← same) (messages-apart subscribed answer.says)

unless_bad-waits : (notes : List Note) (subscribed : List ℕ) (answer : Answer) (left : Result Answer CallFault) → WaitsForConfirm (unless_bad notes subscribed answer left)
unless_bad-waits [] subscribed answer left = accepted-waits subscribed answer
unless_bad-waits (why ∷ more) subscribed answer left = λ identifier name names h. absurd (cc (h))

subscribe-waits : (subscribed : List ℕ) (answered left : Result Answer CallFault) → WaitsForConfirm (subscribe_plan subscribed answered left)
subscribe-waits subscribed (Err fault) left = λ identifier name names h. absurd (cc (h))
subscribe-waits subscribed (Ok answer) left =
    elim answer.rejected as (λ b. WaitsForConfirm (cond b (rejection [] subscribed answer left) (unless_bad (stream_notes [] answer.streams) subscribed answer left))) [
      | true ↦ λ identifier name names h. absurd (cc (h))
      | false ↦ unless_bad-waits (stream_notes [] answer.streams) subscribed answer left
    ]

perform-waits : (performed : List ℕ) (streams : List (List ℕ)) (answered : Result Answer CallFault) → WaitsForConfirm (perform_plan performed streams answered)
perform-waits performed streams (Err fault) = λ identifier name names h. absurd (cc (h))
perform-waits performed streams (Ok answer) = λ identifier name names h. absurd (cc (h))

task-waits : (c : Callbacks) (user : List ℕ) (t : Task) → WaitsForConfirm (plan_for c user t)
task-waits c user (task.Subscribe subscribed) = subscribe-waits subscribed (c.subscribed user subscribed) (c.unsubscribed user subscribed)
task-waits c user (task.Perform performed payload streams) = perform-waits performed streams (c.perform user performed payload)
task-waits c user _ = λ identifier name names h. absurd (cc (h))

-- the plan of a job that is out
pub job-waits : (r : Callbacks) (c : ℕ) (past : List Step) (plan : Plan) → job_plan r c past ≡ Some plan → WaitsForConfirm plan
job-waits r c past plan e = go (has_job (seat c past)) refl (user_of c past) refl (job (seat c past)) refl
  where
    go : (b : Bool) → has_job (seat c past) ≡ b → (o : Option (List ℕ)) → user_of c past ≡ o → (j : Option Piece) → job (seat c past) ≡ j → WaitsForConfirm plan
    go false b o o' j j' = let e' = rw b at e in absurd (cc (e'))
    go true b None o j j' = let e' = rw (b, o) at e in absurd (cc (e'))
    go true b (Some user) o None j = let e' = rw (b, o, j) at e in absurd (cc (e'))
    go true b (Some user) o (Some p) j =
        let e' = rw (b, o, j) at e in
        let is : plan_of r user (seat c past).conn p ≡ plan = cc (e') in
        subst WaitsForConfirm is (task-waits r user (task_of (seat c past).conn p))
