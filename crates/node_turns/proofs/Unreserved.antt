-- No want that stands has a reserved name: a plan passes the reserved streams of an answer over.
use Rattle.std.proofs.Common.{ℕ, ◌+◌, ◌≡◌, ◌==◌, ◌&&◌, Bool, true, false, cond, not, List, [], ◌∷◌, ◌++◌, map, refl, sym, subst, bytes_eq, is_none}
use Rattle.std.specs.Prelude.{⊤, Result, Ok, Err}
use Rattle.std.specs.List.{AllByRecursion}
use Rattle.cable_base.proofs.Each.{All-append, All-filter}
use Rattle.cable_base.specs.Names.{is_reserved}
use Rattle.channel_book.specs.declared.answers.Answer.{Answer}
use Rattle.channel_book.specs.declared.answers.CallFault.{CallFault}
use Rattle.cable_model.specs.declared.notes.Note.{Note}
use Rattle.cable_model.specs.declared.plans.Change.{Change}
use Rattle.cable_model.specs.declared.plans.Change.TheVariants as change
use Rattle.cable_model.specs.declared.plans.Plan.{Plan}
use Rattle.cable_model.specs.declared.plans.Task.{Task}
use Rattle.cable_model.specs.declared.plans.Task.TheVariants as task
use Rattle.cable_model.specs.Connection.{Want, Sub, Conn, wanted, among, without, streamed, changed}
use Rattle.cable_model.specs.Legal.{Legal}
use Rattle.cable_model.specs.Pieces.{seat, with_plan}
use Rattle.cable_model.specs.Plans.{Callbacks, stream_note, new_stream, new_streams, stream_notes, rejection, unless_bad, subscribe_plan, perform_plan}
use Rattle.cable_model.specs.Plans.{unstopped, plan_for, task_of}
use Rattle.cable_model.specs.Steps.{Step}
use Rattle.cable_model.proofs.Stored.{HasPlan, has-plan}
use Rattle.cable_model.proofs.Entries.{unfinished}

abbrev pub AllPlain : List (List ℕ) → Type 0
AllPlain names = AllByRecursion (λ (name : List ℕ). is_reserved name ≡ false) names

-- ---- what plans want

one-plain : (known : List (List ℕ)) (name : List ℕ) → AllPlain (new_stream known name)
one-plain known name = go (is_reserved name) refl
  where
    go : (b : Bool) → is_reserved name ≡ b → AllPlain (new_stream known name)
    go true b = rw b tt
    go false b = elim (is_none (stream_note known name) && not (among known name)) as (λ t. AllPlain (cond t (name ∷ []) [])) [ true ↦ (b, tt) | false ↦ tt ]

new-plain : (known names : List (List ℕ)) → AllPlain (new_streams known names)
new-plain known [] = tt
new-plain known (name ∷ names) =
    All-append (λ (n : List ℕ). is_reserved n ≡ false) (new_stream known name) (new_streams (known ++ new_stream known name) names) (one-plain known name)
    (new-plain (known ++ new_stream known name) names)

abbrev WantsPlain : Change → Type 0
WantsPlain change.Nothing = ⊤
WantsPlain (change.Add identifier streams) = AllPlain streams
WantsPlain (change.Streams identifier stops streams) = AllPlain streams
WantsPlain (change.Remove identifier) = ⊤
WantsPlain change.Close = ⊤

unless-plain : (why : List Note) (identifier : List ℕ) (answer : Answer) (left : Result Answer CallFault)
    → WantsPlain (unless_bad why identifier answer left).change
unless-plain [] identifier answer left = new-plain [] answer.streams
unless-plain (why ∷ more) identifier answer left = tt

subscribe-plain : (identifier : List ℕ) (said left : Result Answer CallFault) → WantsPlain (subscribe_plan identifier said left).change
subscribe-plain identifier (Err fault) left = tt
subscribe-plain identifier (Ok answer) left =
    elim answer.rejected as (λ b.
    WantsPlain (cond b (rejection [] identifier answer left) (unless_bad (stream_notes [] answer.streams) identifier answer left)).change) [
      | true ↦ tt
      | false ↦ unless-plain (stream_notes [] answer.streams) identifier answer left
    ]

perform-plain : (identifier : List ℕ) (streams : List (List ℕ)) (said : Result Answer CallFault) → WantsPlain (perform_plan identifier streams said).change
perform-plain identifier streams (Err fault) = tt
perform-plain identifier streams (Ok answer) = new-plain (unstopped answer.stops streams) answer.streams

plan-plain : (r : Callbacks) (user : List ℕ) (t : Task) → WantsPlain (plan_for r user t).change
plan-plain r user task.Nothing = tt
plan-plain r user (task.Note why) = tt
plan-plain r user (task.Subscribe identifier) = subscribe-plain identifier (r.subscribed user identifier) (r.unsubscribed user identifier)
plan-plain r user (task.Unsubscribe identifier) = tt
plan-plain r user (task.Perform identifier payload streams) = perform-plain identifier streams (r.perform user identifier payload)
plan-plain r user (task.Row identifier payload) = tt
plan-plain r user (task.Confirm identifier) = tt
plan-plain r user (task.Close how identifiers) = tt

-- ---- what stands

abbrev pub IsPlain : Want → Type 0
IsPlain w = is_reserved w.name ≡ false

abbrev pub ArePlain : List Sub → Type 0
ArePlain subs = AllByRecursion (λ (s : Sub). AllByRecursion IsPlain s.wants) subs

wanted-plain : (n : ℕ) (names : List (List ℕ)) → AllPlain names → AllByRecursion IsPlain (wanted n names)
wanted-plain n [] h = tt
wanted-plain n (name ∷ names) h = (h.0, wanted-plain (n + 1) names h.1)

streamed-plain : (n : ℕ) (identifier : List ℕ) (stops streams : List (List ℕ)) (s : Sub) → AllPlain streams → AllByRecursion IsPlain s.wants
    → AllByRecursion IsPlain (streamed n identifier stops streams s).wants
streamed-plain n identifier stops streams s p h =
    elim (bytes_eq s.identifier identifier) as (λ b. AllByRecursion IsPlain
    (cond b (record { number = s.number; identifier = s.identifier; wants = without stops s.wants ++ wanted n streams; due = s.due }) s).wants) [
      | true ↦ All-append IsPlain (without stops s.wants) (wanted n streams) (All-filter IsPlain (λ w. not (among stops w.name)) s.wants h)
          (wanted-plain n streams p)
      | false ↦ h
    ]

all-streamed : (n : ℕ) (identifier : List ℕ) (stops streams : List (List ℕ)) (subs : List Sub) → AllPlain streams → ArePlain subs
    → ArePlain (map (streamed n identifier stops streams) subs)
all-streamed n identifier stops streams [] p h = tt
all-streamed n identifier stops streams (s ∷ subs) p h = (streamed-plain n identifier stops streams s p h.0, all-streamed n identifier stops streams subs p h.1)

changed-plain : (ch : Change) (place : ℕ) (k : Conn) → WantsPlain ch → ArePlain k.subs → ArePlain (changed ch place k).subs
changed-plain change.Nothing place k p h = h
changed-plain (change.Add identifier streams) place k p h =
    All-append (λ (s : Sub). AllByRecursion IsPlain s.wants) k.subs _ h (wanted-plain k.made streams p, tt)
changed-plain (change.Streams identifier stops streams) place k p h = all-streamed k.made identifier stops streams k.subs p h
changed-plain (change.Remove identifier) place k p h =
    All-filter (λ (s : Sub). AllByRecursion IsPlain s.wants) (λ s. not (bytes_eq s.identifier identifier)) k.subs h
changed-plain change.Close place k p h = tt

-- no want that stands has a reserved name
pub unreserved : (c : ℕ) (past : List Step) → Legal past → ArePlain (seat c past).conn.subs
unreserved c [] l = tt
unreserved c (Step.Finish d puts plan ∷ past) l =
    let ih = unreserved c past l.1 in
    let found : HasPlan l.0.0.callbacks d past plan = has-plan l.0.0.callbacks d past plan l.0.0.planned in
    let plain : WantsPlain plan.change =
    subst (λ (p : Plan). WantsPlain p.change) (sym found.plan_is) (plan-plain l.0.0.callbacks found.user (task_of (seat d past).conn found.taken)) in
    elim (d == c) as (λ b. ArePlain (cond b (with_plan (seat c past) plan) (seat c past)).conn.subs)
    [ true ↦ changed-plain plan.change (seat c past).taken (seat c past).conn plain ih | false ↦ ih ]
unreserved c (e ∷ past) l = subst (λ (k : Conn). ArePlain k.subs) (sym (unfinished c e past refl).conn) (unreserved c past l.1)
