-- A piece that is taken next is the first one of the connection that is ready longest.
use Rattle.std.proofs.Common.{◌≡◌, cond, List, [], ◌∷◌, ◌++◌, filter, Option, Some, None, Result, Ok, Err, IfOk, refl, sym, ap, ◌∙◌}
use Rattle.std.specs.Prelude.{is_some, slice_get}
use Rattle.cable_base.specs.declared.numbers.ConnNo.{ConnNo}
use Rattle.cable_model.specs.Possible.{can_take}
use Rattle.cable_model.specs.Steps.{Step}
use Rattle.node_core.specs.Jobs.{JobState, IsJob}
use Rattle.node_core.specs.Nodes.{NodeState, GoesOn, past}
use Rattle.node_core.proofs.Logging.{logs-none}

pub takes-first-ready : {E : Type 0} (n m : NodeState) (conn : ConnNo) (r : Result (Option JobState) E) → Some conn ≡ slice_get n.ready 0
    → IfOk r (λ j. past m ≡ cond (is_some j) (Step.Take conn.0 ∷ past n) (past n)) → IfOk r (λ o. (j : JobState) → o ≡ Some j → (j.conn ≡ conn) × IsJob j m)
    → IfOk r (λ o. (j : JobState) → o ≡ Some j → (slice_get n.ready 0 ≡ Some j.conn) × (past m ≡ Step.Take j.conn.0 ∷ past n) × IsJob j m)
takes-first-ready n m conn (Err e) first grown job = tt
takes-first-ready n m conn (Ok o) first grown job = λ j is.
    let its = job j is in (
      sym first ∙ ap (λ (c : ConnNo). Some c) (sym its.0),
      grown ∙ ap (λ (x : Option JobState). cond (is_some x) (Step.Take conn.0 ∷ past n) (past n)) is ∙ ap (λ (c : ConnNo). Step.Take c.0 ∷ past n) (sym its.0),
      its.1,
    )

-- where none is ready, none becomes it
pub none-served : (n : NodeState) → None ≡ slice_get n.ready 0 → GoesOn n n
none-served n none = record { logged = logs-none n n refl refl; taken = λ c. refl; forgotten = λ c. refl; served = by-list n.ready none }
  where
    by-list : (ns : List ConnNo) → None ≡ slice_get ns 0 → (more : List ConnNo) × (ns ≡ filter (λ (c : ConnNo). can_take c.0 (past n)) ns ++ more)
    by-list [] e = ([], refl)
    by-list (x ∷ xs) e = let f : None ≡ Some x = e in absurd cc
