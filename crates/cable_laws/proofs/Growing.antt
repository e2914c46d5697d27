-- What an event makes of a node's journal: it stays as it was, or gets one entry. A Finish has the plan of the job that is out.
use Rattle.std.proofs.Common.{ℕ, suc, ◌≡◌, ◌==◌, Bool, true, false, cond, ◌⊎◌, List, [], ◌∷◌, ◌++◌, Some, None, Option, refl, ap, sym, subst, arith, inl, inr}
use Rattle.std.proofs.lemmas.Bool.Decides.{nat_tests}
use Rattle.channel_book.specs.declared.answers.Cast.{Cast}
use Rattle.cable_model.specs.declared.events.Event.{Event}
use Rattle.cable_model.specs.declared.events.Event.TheVariants as event
use Rattle.cable_model.specs.declared.journals.ReadNote.{ReadNote}
use Rattle.cable_model.specs.declared.plans.Plan.{Plan}
use Rattle.cable_model.specs.Steps.{Step}
use Rattle.cable_model.specs.Plans.{Callbacks}
use Rattle.cable_model.specs.Possible.{job_plan, last_turn, can_put_command}
use Rattle.cable_model.specs.Table.{last_id}
use Rattle.cable_model.specs.History.{Rules, World, at_number, logged, home_of, next_cast, committed, caught, finish, deliver, arrive, is_possible, happened, happen, run}

abbrev pub IsPlannedStep : Callbacks → Step → List Step → Type 0
IsPlannedStep c (Step.Finish d puts plan) past = job_plan c d past ≡ Some plan
IsPlannedStep c _ past = Unit {0}

-- the plan of each Finish is that of the job that was out
abbrev pub AllPlanned : Callbacks → List Step → Type 0
AllPlanned c [] = Unit {0}
AllPlanned c (e ∷ past) = IsPlannedStep c e past × AllPlanned c past

abbrev pub Grown : Callbacks → (past now : List Step) → Type 0
Grown c past now = (now ≡ past) ⊎ ((e : Step) × (now ≡ e ∷ past) × IsPlannedStep c e past)

module _ (r : Rules) where
  logged-grown : (w : World) (n : ℕ) (e : Step) (m : ℕ) → IsPlannedStep r.callbacks e (w.nodes n) → Grown r.callbacks (w.nodes m) ((logged w n e).nodes m)
  logged-grown w n e m p = go (m == n) refl
    where
      go : (b : Bool) → (m == n) ≡ b → Grown r.callbacks (w.nodes m) (at_number n (e ∷ w.nodes n) w.nodes m)
      go true b = let x : n ≡ m = grind (arith, nat_tests) in inr (e, rw b (ap (λ k. e ∷ w.nodes k) x), subst (λ k. IsPlannedStep r.callbacks e (w.nodes k)) x p)
      go false b = inl (rw b refl)

  finish-grown : (w : World) (n c : ℕ) (o : Option Plan) (m : ℕ) → job_plan r.callbacks c (w.nodes n) ≡ o → Grown r.callbacks (w.nodes m) ((finish w n c o).nodes m)
  finish-grown w n c None m e = inl refl
  finish-grown w n c (Some plan) m e = logged-grown w n (Step.Finish c (w.puts c) plan) m e

  committed-grown : (w : World) (c at : ℕ) (o : Option Cast) (m : ℕ) → Grown r.callbacks (w.nodes m) ((committed w c at o).nodes m)
  committed-grown w c at None m = inl refl
  committed-grown w c at (Some cast) m = inl refl

  deliver-grown : (w : World) (n : ℕ) (o : Option ReadNote) (m : ℕ) → Grown r.callbacks (w.nodes m) ((deliver w n o).nodes m)
  deliver-grown w n None m = inl refl
  deliver-grown w n (Some note) m = logged-grown w n (Step.Deliver (last_turn (w.nodes n)) note) m tt

  arrive-grown : (w : World) (n c : ℕ) (text : List ℕ) (m : ℕ) → Grown r.callbacks (w.nodes m) ((arrive w n c text).nodes m)
  arrive-grown w n c text m =
      elim (can_put_command c text (w.nodes n)) as (λ b. Grown r.callbacks (w.nodes m) ((cond b (logged w n (Step.In c text)) w).nodes m)) [ true ↦ logged-grown w n (Step.In c text) m tt | false ↦ inl refl ]

  happened-grown : (w : World) (e : Event) (m : ℕ) → Grown r.callbacks (w.nodes m) ((happened r w e).nodes m)
  happened-grown w (event.Boot node) m = logged-grown w node.0 (Step.Boot (last_id w.table)) m tt
  happened-grown w (event.Open node conn token) m = logged-grown w node.0 (Step.Open conn.0 token (r.callbacks.identify token)) m tt
  happened-grown w (event.In conn text) m = arrive-grown w (home_of w conn.0) conn.0 text m
  happened-grown w (event.Drop conn) m = logged-grown w (home_of w conn.0) (Step.Drop conn.0) m tt
  happened-grown w (event.Stop node) m = logged-grown w node.0 Step.Stop m tt
  happened-grown w (event.Take conn) m = logged-grown w (home_of w conn.0) (Step.Take conn.0) m tt
  happened-grown w (event.Put conn at) m = committed-grown w conn.0 at.0 (next_cast (w.puts conn.0) (job_plan r.callbacks conn.0 (w.nodes (home_of w conn.0)))) m
  happened-grown w (event.Finish conn) m = finish-grown w (home_of w conn.0) conn.0 (job_plan r.callbacks conn.0 (w.nodes (home_of w conn.0))) m refl
  happened-grown w (event.Ask node) m = logged-grown w node.0 (Step.Ask (suc (last_turn (w.nodes node.0)))) m tt
  happened-grown w (event.Deliver node) m = deliver-grown w node.0 (caught w node.0) m
  happened-grown w (event.Beat node now) m = logged-grown w node.0 (Step.Beat now.0) m tt
  happened-grown w _ m = inl refl

  pub happen-grown : (w : World) (e : Event) (m : ℕ) → Grown r.callbacks (w.nodes m) ((happen r w e).nodes m)
  happen-grown w e m = elim (is_possible r w e) as (λ b. Grown r.callbacks (w.nodes m) ((cond b (happened r w e) w).nodes m)) [ true ↦ happened-grown w e m | false ↦ inl refl ]

  grown-planned : (past now : List Step) → Grown r.callbacks past now → AllPlanned r.callbacks past → AllPlanned r.callbacks now
  grown-planned past now (inl same) a = subst (AllPlanned r.callbacks) (sym same) a
  grown-planned past now (inr (e, is, p)) a = subst (AllPlanned r.callbacks) (sym is) (p, a)

  pub run-planned : (w : World) (es : List Event) (n : ℕ) → AllPlanned r.callbacks (w.nodes n) → AllPlanned r.callbacks ((run r w es).nodes n)
  run-planned w [] n a = a
  run-planned w (e ∷ es) n a = run-planned (happen r w e) es n (grown-planned (w.nodes n) ((happen r w e).nodes n) (happen-grown w e n) a)

  pub run-append : (w : World) (before after : List Event) → run r w (before ++ after) ≡ run r (run r w before) after
  run-append w [] after = refl
  run-append w (e ∷ before) after = run-append (happen r w e) before after
