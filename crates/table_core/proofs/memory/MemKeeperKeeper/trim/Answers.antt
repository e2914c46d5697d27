use Rattle.std.proofs.Common.{◌∙◌, Some, ap, length}
use Rattle.table_core.specs.Keepers.{first_before, without}
use Rattle.table_core.specs.Inside.{is_taken, rows_of}
use Rattle.table_core.proofs.Sorting.{sorted-left}
use Rattle.table_core.proofs.Taking.{trimmed-rows, trimmed-kept, count-rows}
use Rattle.table_core.proofs.memory.MemKeeperKeeper.trim.Goals as goal

pub invariant_of-self : goal.invariant_of-self
invariant_of-self c = rw c.take_first.ensures.left (trimmed-kept c.args.before.0 c.args.below.0 c.args.limit c.self.inside.rows.items c.self.invariant.0, sorted-left c.self.inside.sorted_from.0 c.args.limit (is_taken c.args.before.0 c.args.below.0) c.self.inside.rows.items c.self.invariant.1)

pub returns-clause-ok : goal.returns-clause-ok
returns-clause-ok c =
    let same = ap (λ v. v.rows) c.self.view_is ∙ c.call.ensures.same in
    let left = ap rows_of c.take_first.ensures.left ∙ trimmed-rows c.args.before.0 c.args.below.0 c.args.limit c.self.inside.rows.items c.self.invariant.0 in
    ap Some (left ∙ ap (λ rows. without (first_before c.args.before.0 c.args.below.0 c.args.limit rows) rows) same)

pub returns-clause-count : goal.returns-clause-count
returns-clause-count c =
    let same = ap (λ v. v.rows) c.self.view_is ∙ c.call.ensures.same in
    c.take_first.ensures.count
    ∙ (count-rows c.args.before.0 c.args.below.0 c.args.limit c.self.inside.rows.items
    ∙ ap (λ rows. length (first_before c.args.before.0 c.args.below.0 c.args.limit rows)) same)
