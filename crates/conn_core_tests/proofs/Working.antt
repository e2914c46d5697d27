-- A subscribe can be worked by its own plan, with numbers above those that stand.
use Rattle.std.proofs.Common.{ℕ, ◌≡◌, Bool, true, false, ◌&&◌, List, [], ◌∷◌, map, refl, ap, subst, sym, ◌∙◌}
use Rattle.std.specs.List.{list_all}
use Rattle.std.proofs.lemmas.Bool.{ltb-true}
use Rattle.std.proofs.lemmas.List.Folds.{list_all-map}
use Rattle.cable_base.specs.declared.numbers.SubNo.{SubNo}
use Rattle.cable_base.specs.declared.numbers.WantNo.{WantNo}
use Rattle.stream_set.specs.declared.entries.StreamEntry.{StreamEntry}
use Rattle.cable_model.specs.declared.pieces.Piece.{Piece}
use Rattle.cable_model.specs.declared.plans.Plan.{Plan}
use Rattle.cable_model.specs.declared.plans.Task.{Task}
use Rattle.cable_model.specs.Plans.{Callbacks, plan_for, task_of}
use Rattle.cable_model.specs.Possible.{is_empty}
use Rattle.conn_core.specs.Subscriptions.{Subscription, WantsBelow}
use Rattle.conn_core.specs.Connections.{SubsBelow, AllWantsBelow}
use Rattle.conn_core.specs.Bare.{bare}
use Rattle.conn_core.proofs.PlansApply.{plan-applies}
use Rattle.conn_core_tests.specs.Worked.{AppliesAbove, is_bare_below}

pub plan-can : (r : Callbacks) (user : List ℕ) (subs : List Subscription) (p : Piece) (t : Task) (made : Plan)
    → t ≡ task_of (bare subs) p → made ≡ plan_for r user t → AppliesAbove made.change subs
plan-can r user subs p t made e f = subst (λ (x : Plan). AppliesAbove x.change subs) (sym (f ∙ ap (plan_for r user) e)) (plan-applies r user subs p)

first-true : (a b : Bool) → (a && b) ≡ true → a ≡ true
first-true true b e = refl
first-true false b e = absurd cc

second-true : (a b : Bool) → (a && b) ≡ true → b ≡ true
second-true true b e = e
second-true false b e = absurd cc

pub all-bare : {X : Type 0} (h : X → Subscription) (number : SubNo) (xs : List X) (subs : List Subscription) (b : Bool)
    → map h xs ≡ subs → b ≡ list_all (λ x. is_bare_below number (h x)) xs → b ≡ true → list_all (is_bare_below number) subs ≡ true
all-bare h number xs subs b e f n = subst (λ (ys : List Subscription). list_all (is_bare_below number) ys ≡ true) e (list_all-map (is_bare_below number) h xs ∙ sym f ∙ n)

none-below : (first : ℕ) (entries : List StreamEntry) → is_empty entries ≡ true → WantsBelow first entries
none-below first [] e = tt
none-below first (x ∷ entries) e = absurd cc

pub subs-below : (number : SubNo) (subs : List Subscription) → list_all (is_bare_below number) subs ≡ true → SubsBelow number subs
subs-below number [] e = tt
subs-below number (s ∷ subs) e =
    (ltb-true _ _ (first-true _ _ (first-true _ _ e)), subs-below number subs (second-true _ _ e))

pub wants-below : (number : SubNo) (first : WantNo) (subs : List Subscription) → list_all (is_bare_below number) subs ≡ true → AllWantsBelow first subs
wants-below number first [] e = tt
wants-below number first (s ∷ subs) e =
    (none-below _ _ (second-true _ _ (first-true _ _ e)), wants-below number first subs (second-true _ _ e))
