-- A row that is finished is said, and nothing else with it.
use Rattle.std.proofs.Common.{ℕ, ◌≡◌, ◌==◌, Bool, true, false, cond, List, [], ◌∷◌, ◌++◌, Some, None, Option, refl, ap, sym, subst, ◌∙◌, arith}
use Rattle.std.proofs.lemmas.Bool.Decides.{nat_tests}
use Rattle.cable_base.specs.declared.numbers.RowId.{RowId}
use Rattle.cable_base.specs.declared.numbers.SubNo.{SubNo}
use Rattle.cable_base.specs.declared.numbers.WantNo.{WantNo}
use Rattle.cable_base.specs.declared.rows.Row.{Row}
use Rattle.cable_json.specs.Texts.{message_text}
use Rattle.cable_model.specs.declared.events.Event.{Event}
use Rattle.cable_model.specs.declared.events.Event.TheVariants as event
use Rattle.cable_model.specs.declared.pieces.Piece.TheVariants as piece
use Rattle.cable_model.specs.declared.plans.Plan.{Plan}
use Rattle.cable_model.specs.Steps.{Step}
use Rattle.cable_model.specs.Connection.{still}
use Rattle.cable_model.specs.Pieces.{seat}
use Rattle.cable_model.specs.Plans.{Callbacks, plan_for, row_task, said_only}
use Rattle.cable_model.specs.Possible.{has_job, has_no_cast_left, job_plan, can_finish}
use Rattle.cable_model.specs.Window.{finished, job}
use Rattle.cable_model.specs.History.{Rules, start, run, home_of}
use Rattle.cable_model.specs.HistoryLaws.{planner_of}
use Rattle.cable_model.specs.Transcript.{finish_lines, lines_of, plan_lines, queued}
use Rattle.cable_model.specs.Wants.{user_of}
use Rattle.cable_model.proofs.Jobs.{job-piece}
use Rattle.cable_model.proofs.Restricting.{found-home}
use Rattle.cable_model.proofs.Working.{working}
use Rattle.cable_laws.specs.Said.{StandsUnder, SaysOnly, RowsAreSaid, EventsSayRows}
use Rattle.cable_laws.proofs.Growing.{run-planned}
use Rattle.cable_laws.proofs.Finishes.{Finishes, history-finishes, node-worked, plan-of-job, want-found, found-stands}

-- the plan of a row that is out says its payload to its subscription
record RowPlan (number : ℕ) (payload : List ℕ) (c : ℕ) (plan : Plan) (past : List Step) : Type 0 where
  identifier : List ℕ
  stands : StandsUnder number identifier (seat c past).conn
  is : said_only (message_text identifier payload ∷ []) ≡ plan

row-plan : (r : Callbacks) (c : ℕ) (plan : Plan) (past : List Step) → Finishes r c plan past → (sub : SubNo) (want : WantNo) (row : Row) → job (seat c past) ≡ Some (piece.Row sub want row)
    → RowPlan sub.0 row.payload c plan past
row-plan r c plan past f sub want row j =
    let k = (seat c past).conn in
    let p = job-piece f.pl (seat c past) (λ s w. finished c s w past) (working f.pl c past f.works) f.out in
    let same : p.piece ≡ piece.Row sub want row = cc (p.is, j) in
    let found = want-found sub.0 want.0 k.subs (subst (λ q. still k q ≡ true) same p.stands) in
    let planned = plan-of-job r c past plan (piece.Row sub want row) f.planned j in
    record { identifier = found.0.identifier; stands = found-stands sub.0 k found.0 found.1; is = ap (λ o. plan_for r planned.0 (row_task row.payload o)) (sym found.1) ∙ planned.1 }

says-only : (text : List ℕ) (plan : Plan) → said_only (text ∷ []) ≡ plan → SaysOnly text plan
says-only text plan e =
    record { texts = sym (ap (λ p. p.texts) e); notes = sym (ap (λ p. p.notes) e); casts = sym (ap (λ p. p.casts) e); change_is = sym (ap (λ p. p.change) e) }

queues-plan : (c : ℕ) (puts : List (Option RowId)) (plan : Plan) (past : List Step) → queued c (Step.Finish c puts plan ∷ past) ≡ queued c past ++ plan_lines c plan
queues-plan c puts plan past = let own : (c == c) ≡ true = grind (arith, nat_tests) in rw own refl

pub rows-said : (r : Rules) (events : List Event) → RowsAreSaid r events
rows-said r events n c f sub want row j =
    let p = row-plan r.callbacks c f.plan f.past (history-finishes r events n c f) sub want row j in
    let text = message_text p.identifier row.payload in
    record {
      identifier = p.identifier;
      stands = p.stands;
      says = says-only text f.plan p.is;
      queues = queues-plan c f.puts f.plan f.past ∙ ap (λ plan. queued c f.past ++ plan_lines c plan) (sym p.is);
    }

-- ---- the event

-- a job whose plan has no cast left is out
event-finishes : (r : Rules) (events : List Event) (n c : ℕ) (puts : List (Option RowId)) → has_no_cast_left puts (job_plan r.callbacks c ((run r start events).nodes n)) ≡ true
    → (plan : Plan) × Finishes r.callbacks c plan ((run r start events).nodes n)
event-finishes r events n c puts h = go (job_plan r.callbacks c past) refl
  where
    past : List Step
    past = (run r start events).nodes n

    out : (plan : Plan) → job_plan r.callbacks c past ≡ Some plan → (b : Bool) → has_job (seat c past) ≡ b → b ≡ true
    out plan e true b = refl
    out plan e false b = let e' = rw b at e in absurd (cc (e'))

    go : (o : Option Plan) → job_plan r.callbacks c past ≡ o → (plan : Plan) × Finishes r.callbacks c plan past
    go None e = let h' = rw e at h in absurd (cc (h'))
    go (Some plan) e =
        (plan, record { pl = planner_of r.callbacks (user_of c past); works = node-worked r events n c; out = out plan e (has_job (seat c past)) refl; planned = e; plans = run-planned r start events n tt })

pub events-say : (r : Rules) (events : List Event) → EventsSayRows r events
events-say r events before after conn split possible sub want row j =
    let world = run r start before in
    let n = home_of world conn.0 in
    let home = found-home world conn.0 (can_finish r.callbacks conn.0 (world.puts conn.0)) possible in
    let f = event-finishes r before n conn.0 (world.puts conn.0) home.passes in
    let p = row-plan r.callbacks conn.0 f.0 (world.nodes n) f.1 sub want row j in
    (p.identifier, p.stands, ap (λ b. cond b (lines_of r world (event.Finish conn)) []) possible ∙ ap (finish_lines conn.0) (f.1.planned ∙ ap Some (sym p.is)))
