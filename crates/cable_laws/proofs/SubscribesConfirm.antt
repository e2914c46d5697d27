-- A Subscribe that subscribes and wants no stream says the confirmation.
use Rattle.std.proofs.Common.{ℕ, ◌≡◌, Bool, true, false, cond, List, [], ◌∷◌, ◌++◌, Some, None, Option, Result, Ok, Err, refl, ap, ◌∙◌, bytes_eq}
use Rattle.std.proofs.lemmas.Slice.Eq.{bytes_eq-Decides}
use Rattle.cable_json.specs.Texts.{confirm_text}
use Rattle.channel_book.specs.declared.answers.Answer.{Answer}
use Rattle.channel_book.specs.declared.answers.CallFault.{CallFault}
use Rattle.cable_model.specs.declared.notes.Note.{Note}
use Rattle.cable_model.specs.declared.plans.Change.TheVariants as change
use Rattle.cable_model.specs.declared.plans.Plan.{Plan}
use Rattle.cable_model.specs.declared.plans.Task.{Task}
use Rattle.cable_model.specs.declared.plans.Task.TheVariants as task
use Rattle.cable_model.specs.Plans.{Callbacks, acceptance, confirmation, new_streams, perform_plan, plan_for, rejection, says, stream_note, stream_notes, subscribe_plan, unless_bad}
use Rattle.cable_model.specs.HistoryLaws.{is_said}

-- where the plan subscribes j without a stream, it says the confirmation of j
abbrev Tells : List ℕ → Plan → Type 0
Tells j plan = plan.change ≡ change.Add j [] → is_said (confirm_text j) plan.texts ≡ true

pub said-last : (text : List ℕ) (ts : List (List ℕ)) → is_said text (ts ++ text ∷ []) ≡ true
said-last text [] = rw ((bytes_eq-Decides text text).1 refl) refl
said-last text (t ∷ ts) = go (bytes_eq t text) refl (said-last text ts)
  where
    go : (b : Bool) → bytes_eq t text ≡ b → is_said text (ts ++ text ∷ []) ≡ true → is_said text (t ∷ (ts ++ text ∷ [])) ≡ true
    go true b ih = rw b refl
    go false b ih = rw b ih

-- a good stream is wanted, so that there are none
accepted : (j identifier : List ℕ) (answer : Answer) → stream_notes [] answer.streams ≡ [] → Tells j (acceptance identifier answer)
accepted j identifier answer good h = go answer.streams refl
  where
    same : identifier ≡ j
    same = cc (h)

    none : new_streams [] answer.streams ≡ []
    none = cc (h)

    go : (streams : List (List ℕ)) → answer.streams ≡ streams → is_said (confirm_text j) (says identifier answer ++ confirmation identifier answer.streams) ≡ true
    go [] e = rw e (ap (λ i. is_said (confirm_text j) (says identifier answer ++ confirm_text i ∷ [])) same ∙ said-last (confirm_text j) (says identifier answer))
    go (s ∷ ss) e = which (stream_note [] s) refl
      where
        which : (o : Option Note) → stream_note [] s ≡ o → is_said (confirm_text j) (says identifier answer ++ confirmation identifier answer.streams) ≡ true
        which (Some why) o = let good' = rw (e, o) at good in absurd (cc (good'))
        which None o = let none' = rw (e, o) at none in absurd (cc (none'))

unless_bad-tells : (j : List ℕ) (notes : List Note) (identifier : List ℕ) (answer : Answer) (left : Result Answer CallFault) → stream_notes [] answer.streams ≡ notes → Tells j (unless_bad notes identifier answer left)
unless_bad-tells j [] identifier answer left good = accepted j identifier answer good
unless_bad-tells j (why ∷ more) identifier answer left good = λ h. absurd (cc (h))

subscribe-tells : (j identifier : List ℕ) (answered left : Result Answer CallFault) → Tells j (subscribe_plan identifier answered left)
subscribe-tells j identifier (Err fault) left = λ h. absurd (cc (h))
subscribe-tells j identifier (Ok answer) left =
    elim answer.rejected as (λ b. Tells j (cond b (rejection [] identifier answer left) (unless_bad (stream_notes [] answer.streams) identifier answer left))) [
      | true ↦ λ h. absurd (cc (h))
      | false ↦ unless_bad-tells j (stream_notes [] answer.streams) identifier answer left refl
    ]

perform-tells : (j identifier : List ℕ) (streams : List (List ℕ)) (answered : Result Answer CallFault) → Tells j (perform_plan identifier streams answered)
perform-tells j identifier streams (Err fault) = λ h. absurd (cc (h))
perform-tells j identifier streams (Ok answer) = λ h. absurd (cc (h))

pub task-tells : (c : Callbacks) (user j : List ℕ) (t : Task) → Tells j (plan_for c user t)
task-tells c user j (task.Subscribe identifier) = subscribe-tells j identifier (c.subscribed user identifier) (c.unsubscribed user identifier)
task-tells c user j (task.Perform identifier payload streams) = perform-tells j identifier streams (c.perform user identifier payload)
task-tells c user j _ = λ h. absurd (cc (h))
