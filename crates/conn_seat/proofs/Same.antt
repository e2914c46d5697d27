-- When `==` of two tasks answers true.
use Rattle.std.proofs.Common.{ℕ, ◌≡◌, ◌==◌, true, false, List, refl, rules}
use Rattle.std.proofs.lemmas.Bool.{and_parts}
use Rattle.std.specs.Bool.{Decides}
use Rattle.std.specs.Cmp.Derive.{both_true}
use Rattle.std.specs.Cmp.Lexicographic.{pointwise, pointwise_decides, bytes_decides}
use Rattle.cable_model.specs.declared.plans.Closing.{Closing}
use Rattle.cable_model.specs.declared.plans.Task.{Task}
use Rattle.cable_model.specs.declared.plans.Task.TheVariants as task
use Rattle.cable_model.specs.contracts.plans.ClosingPartialEq.TheImpl as closing_test
use Rattle.cable_model.specs.contracts.plans.TaskPartialEq.TheImpl as test

texts_decide : (xs ys : List (List ℕ)) → Decides (pointwise (pointwise ◌==◌) xs ys) (xs ≡ ys)
texts_decide = pointwise_decides bytes_decides

closings_decide : (x y : Closing) → Decides (closing_test.ghosts.eq x y) (x ≡ y)
closings_decide x y = search rules

same_perform : (identifier payload : List ℕ) (streams : List (List ℕ)) (u : Task) → test.ghosts.eq (task.Perform identifier payload streams) u ≡ true
    → task.Perform identifier payload streams ≡ u
same_perform identifier payload streams task.Nothing e = absurd (let no_way : false ≡ true = e in cc)
same_perform identifier payload streams (task.Note note) e = absurd (let no_way : false ≡ true = e in cc)
same_perform identifier payload streams (task.Subscribe i) e = absurd (let no_way : false ≡ true = e in cc)
same_perform identifier payload streams (task.Unsubscribe i) e = absurd (let no_way : false ≡ true = e in cc)
same_perform identifier payload streams (task.Perform i p s) e =
    let all = and_parts (pointwise ◌==◌ identifier i) _ e in
    let behind = and_parts (pointwise ◌==◌ payload p) (pointwise (pointwise ◌==◌) streams s) all.1 in
    rw ((bytes_decides identifier i).0 all.0, (bytes_decides payload p).0 behind.0, (texts_decide streams s).0 behind.1) refl
same_perform identifier payload streams (task.Row i p) e = absurd (let no_way : false ≡ true = e in cc)
same_perform identifier payload streams (task.Confirm i) e = absurd (let no_way : false ≡ true = e in cc)
same_perform identifier payload streams (task.Close how is) e = absurd (let no_way : false ≡ true = e in cc)

same_close : (how : Closing) (identifiers : List (List ℕ)) (u : Task) → test.ghosts.eq (task.Close how identifiers) u ≡ true → task.Close how identifiers ≡ u
same_close how identifiers task.Nothing e = absurd (let no_way : false ≡ true = e in cc)
same_close how identifiers (task.Note note) e = absurd (let no_way : false ≡ true = e in cc)
same_close how identifiers (task.Subscribe i) e = absurd (let no_way : false ≡ true = e in cc)
same_close how identifiers (task.Unsubscribe i) e = absurd (let no_way : false ≡ true = e in cc)
same_close how identifiers (task.Perform i p s) e = absurd (let no_way : false ≡ true = e in cc)
same_close how identifiers (task.Row i p) e = absurd (let no_way : false ≡ true = e in cc)
same_close how identifiers (task.Confirm i) e = absurd (let no_way : false ≡ true = e in cc)
same_close how identifiers (task.Close other is) e =
    let all = and_parts (closing_test.ghosts.eq how other) (pointwise (pointwise ◌==◌) identifiers is) e in
    rw ((closings_decide how other).0 all.0, (texts_decide identifiers is).0 all.1) refl

pub same : (t u : Task) → test.ghosts.eq t u ≡ true → t ≡ u
same task.Nothing u e = search rules
same (task.Note note) u e = search rules
same (task.Subscribe i) u e = search rules
same (task.Unsubscribe i) u e = search rules
same (task.Perform i p s) u e = same_perform i p s u e
same (task.Row i p) u e = search rules
same (task.Confirm i) u e = search rules
same (task.Close how is) u e = same_close how is u e

pub itself : (t : Task) → test.ghosts.eq t t ≡ true
itself task.Nothing = refl
itself (task.Note note) = search rules
itself (task.Subscribe i) = (bytes_decides i i).1 refl
itself (task.Unsubscribe i) = (bytes_decides i i).1 refl
itself (task.Perform i p s) = both_true ((bytes_decides i i).1 refl) (both_true ((bytes_decides p p).1 refl) ((texts_decide s s).1 refl))
itself (task.Row i p) = both_true ((bytes_decides i i).1 refl) ((bytes_decides p p).1 refl)
itself (task.Confirm i) = (bytes_decides i i).1 refl
itself (task.Close how is) = both_true ((closings_decide how how).1 refl) ((texts_decide is is).1 refl)
