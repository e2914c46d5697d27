-- When a stored journal is legal: each entry is one that the rules allow at its place, for some answers of the callbacks.
use Rattle.std.specs.Prelude.{ℕ, suc, ◌≡◌, ◌==◌, ⊤, true, false, cond, ◌&&◌, ◌⊎◌, List, [], ◌∷◌, None, Some, length, ℤ}
use Rattle.cable_model.specs.declared.pieces.Piece.{Piece}
use Rattle.cable_model.specs.declared.plans.Plan.{Plan}
use Rattle.cable_model.specs.declared.plans.Change.TheVariants as change
use Rattle.cable_model.specs.Steps.{Step}
use Rattle.cable_model.specs.Connection.{Planner}
use Rattle.cable_model.specs.Wants.{lower, user_of}
use Rattle.cable_model.specs.Pieces.{seat}
use Rattle.cable_model.specs.Plans.{Callbacks, IsAnswered, task_of}
use Rattle.cable_model.specs.Possible.{can_open, can_put_command, can_drop, can_stop, can_take, can_ask, can_beat, is_out, last_turn, was_asked, job_plan}
use Rattle.cable_model.specs.Window.{job}
use Rattle.cable_model.specs.Table.{TableStep, last_id, trimmed, note_of, missed_note}

-- the callbacks answered all that the plan of the job that is out is made of
abbrev pub IsJobAnswered : Callbacks → ℕ → List Step → Type 0
IsJobAnswered r c past = (user : List ℕ) (p : Piece) → user_of c past ≡ Some user → job (seat c past) ≡ Some p → IsAnswered r user (task_of (seat c past).conn p)

-- the plan is what the rules make of the job that is out, for some answers of the callbacks. Want of memory is none
pub record IsPlanned (c : ℕ) (plan : Plan) (past : List Step) : Type 0 where
  pub callbacks : Callbacks
  pub planned : job_plan callbacks c past ≡ Some plan
  pub answered : IsJobAnswered callbacks c past

-- the turn has the next number. The first one of a log that was cut or reset may have any
abbrev pub FollowsTurn : ℕ → List Step → Type 0
FollowsTurn turn past = (was_asked past ≡ false) ⊎ (turn ≡ suc (last_turn past))

-- each Finish has one put for each cast of its plan, and each Deliver the number and the lower of the turn that is out
abbrev pub LegalStep : Step → List Step → Type 0
LegalStep (Step.Boot last) past = past ≡ []
LegalStep (Step.Open c token user) past = can_open c past ≡ true
LegalStep (Step.In c text) past = can_put_command c text past ≡ true
LegalStep (Step.Drop c) past = can_drop c past ≡ true
LegalStep Step.Stop past = can_stop past ≡ true
LegalStep (Step.Take c) past = can_take c past ≡ true
LegalStep (Step.Finish c puts plan) past = IsPlanned c plan past × (length puts ≡ length plan.casts)
LegalStep (Step.Ask turn) past = (can_ask past ≡ true) × FollowsTurn turn past
LegalStep (Step.Deliver turn note) past = (is_out past ≡ true) × (turn ≡ last_turn past) × (note.lower.0 ≡ lower past)
LegalStep (Step.Beat now) past = can_beat past ≡ true

-- a legal journal of a node
abbrev pub Legal : List Step → Type 0
Legal [] = ⊤
Legal (e ∷ past) = LegalStep e past × Legal past

-- the stored plans, by the places of their pieces, as a planner
abbrev pub stored_plans : ℕ → List Step → Planner
stored_plans c [] place k read = change.Nothing
stored_plans c (Step.Finish d puts plan ∷ past) place k read = cond ((d == c) && ((seat c past).taken == place)) plan.change (stored_plans c past place k read)
stored_plans c (_ ∷ past) place k read = stored_plans c past place k read

-- ids go on from the last one, counts are those of the rows taken, and a note is that of its Read, the lower being the note's own. An entry says itself whether it failed
abbrev pub LegalEntry : (hash : List ℕ → ℤ) → (page : ℕ) → TableStep → List TableStep → Type 0
LegalEntry hash page (TableStep.Boot node last) past = last ≡ last_id past
LegalEntry hash page (TableStep.Commit conn offer None) past = ⊤
LegalEntry hash page (TableStep.Commit conn offer (Some id)) past = id ≡ suc (last_id past)
LegalEntry hash page (TableStep.Trim now retention batch None) past = ⊤
LegalEntry hash page (TableStep.Trim now retention batch (Some taken)) past = taken ≡ length (trimmed now retention batch past)
LegalEntry hash page (TableStep.Read node turn note hashes) past = (note ≡ missed_note note.lower.0) ⊎ (note ≡ note_of hash page note.lower.0 hashes past)

-- a legal journal of the table
abbrev pub LegalTable : (hash : List ℕ → ℤ) → (page : ℕ) → List TableStep → Type 0
LegalTable hash page [] = ⊤
LegalTable hash page (t ∷ past) = LegalEntry hash page t past × LegalTable hash page past
