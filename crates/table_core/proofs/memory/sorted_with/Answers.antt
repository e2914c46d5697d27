use Rattle.std.proofs.Common.{◌≡◌, ◌<◌, ◌≤◌, ◌++◌, [], ◌∷◌, deque_len, length, rules, subst, sym}
use Rattle.std.specs.List.{AllByRecursion}
use Rattle.std.proofs.lemmas.List.Elements.{recursion_from_All}
use Rattle.cable_base.specs.declared.rows.Row.{Row}
use Rattle.table_core.specs.Inside.{IsSortedFrom, rows_of}
use Rattle.table_core.specs.declared.memory.Kept.{Kept}
use Rattle.table_core.proofs.Sorting.{sorted-anew, sorted-pushed}
use Rattle.table_core.proofs.memory.sorted_with.Goals as goal

pub returns-then-row-last : goal.returns-then-row-last
returns-then-row-last c k e =
    let below = recursion_from_All (λ r. r.id.0 < c.args.row.now.id.0) (rows_of c.args.rows.now.items) c.requires.above in
    let below' = subst (λ (r : Row). AllByRecursion (λ x. x.id.0 < r.id.0) (rows_of c.args.rows.now.items)) (sym e) below in
    subst (λ (r : Row). IsSortedFrom r.id.0 (c.args.rows.now.items ++ k ∷ [])) e (sorted-anew c.args.rows.now.items k below')

pub returns : goal.returns
returns c k e =
    let all : deque_len c.args.rows.now ≡ length c.args.rows.now.items = search rules in
    let later = subst (λ (r : Row). c.in-Some.last.now.row.created_at.0 ≤ r.created_at.0) (sym e) c.if-row-last.false in
    let later' = subst (λ (l : Kept). l.row.created_at.0 ≤ k.row.created_at.0) c.in-Some.ensures.lookup later in
    sorted-pushed c.args.sorted_from.0 (deque_len c.args.rows.now) c.args.rows.now.items k c.in-Some.last.now c.requires.sorted all (λ some. later')
