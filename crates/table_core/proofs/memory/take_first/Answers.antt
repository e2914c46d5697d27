use Rattle.std.proofs.Common.{◌≡◌, ◌∙◌, ◌-◌, ◌+◌, ◌<◌, ap, arith, drop, get_or, length, rules, subst, suc, sym}
use Rattle.std.proofs.lemmas.List.Edits.{length-remove}
use Rattle.table_core.specs.Inside.{IsSortedFrom, is_taken}
use Rattle.table_core.proofs.Taking.{count-passed, count-taken, drop-removed, left-done, left-passed, left-taken}
use Rattle.table_core.proofs.Sorting.{sorted-next, stops-count, stops-left}
use Rattle.table_core.proofs.memory.take_first.Goals as goal

pub loop-taken-preserved-then-goes : goal.loop-taken-preserved-then-goes
loop-taken-preserved-then-goes c =
    let test = is_taken c.args.before.0 c.args.below.0 in
    let inside : c.loop-taken.at < length c.loop-taken.rows.items = search rules in
    let here : c.index-in-loop-taken.result.now ≡ get_or c.loop-taken.rows.items c.loop-taken.at c.index-in-loop-taken.result.now = search rules in
    let goes = sym c.goes.ensures ∙ c.if-goes.true in
    let n : c.args.limit - c.loop-taken.taken ≡ suc (c.args.limit - (c.loop-taken.taken + 1)) = omega arith in
    let shorter = length-remove c.loop-taken.rows.items c.loop-taken.at inside in
    let dropped = ap (drop c.loop-taken.at) c.take_at.ensures ∙ drop-removed test c.loop-taken.rows.items c.loop-taken.at inside in
    record {
      left = left-taken test c.loop-taken.rows.items c.take_at.new.rows.items c.loop-taken.at _ _ c.index-in-loop-taken.result.now inside here goes n c.take_at.ensures ∙ c.loop-taken.invariant.left;
      count = omega (arith, count-taken test c.loop-taken.rows.items c.take_at.new.rows.items c.loop-taken.at _ _ c.index-in-loop-taken.result.now inside here goes n c.take_at.ensures, c.loop-taken.invariant.count);
      within = rw c.take_at.ensures (omega arith);
      most = omega arith;
      sorted = subst (IsSortedFrom c.args.sorted_from.0) (sym dropped) (sorted-next c.args.sorted_from.0 c.loop-taken.at c.loop-taken.rows.items c.index-in-loop-taken.result.now inside here c.loop-taken.invariant.sorted);
    }

pub loop-taken-preserved : goal.loop-taken-preserved
loop-taken-preserved c =
    let test = is_taken c.args.before.0 c.args.below.0 in
    let inside : c.loop-taken.at < length c.loop-taken.rows.items = search rules in
    let here : c.index-in-loop-taken.result.now ≡ get_or c.loop-taken.rows.items c.loop-taken.at c.index-in-loop-taken.result.now = search rules in
    let stays = sym c.goes.ensures ∙ c.if-goes.false in
    let n : c.args.limit - c.loop-taken.taken ≡ suc (c.args.limit - (c.loop-taken.taken + 1)) = omega arith in
    let next : c.loop-taken.at + 1 ≡ suc c.loop-taken.at = omega arith in
    record {
      left = left-passed test c.loop-taken.rows.items c.loop-taken.at _ _ c.index-in-loop-taken.result.now inside here stays n ∙ c.loop-taken.invariant.left;
      count = omega (arith, count-passed test c.loop-taken.rows.items c.loop-taken.at (c.args.limit - c.loop-taken.taken) c.index-in-loop-taken.result.now inside here stays, c.loop-taken.invariant.count);
      within = omega arith;
      most = omega arith;
      sorted = rw next (sorted-next c.args.sorted_from.0 c.loop-taken.at c.loop-taken.rows.items c.index-in-loop-taken.result.now inside here c.loop-taken.invariant.sorted);
    }

pub returns-after-loop-taken-clause-left : goal.returns-after-loop-taken-clause-left
returns-after-loop-taken-clause-left c =
    sym (left-done (is_taken c.args.before.0 c.args.below.0) c.loop-taken.rows.items c.loop-taken.at (c.args.limit - c.loop-taken.taken) c.loop-taken.invariant.within (omega arith)) ∙ c.loop-taken.invariant.left

pub returns-then-ends_walk-clause-left : goal.returns-then-ends_walk-clause-left
returns-then-ends_walk-clause-left c =
    let inside : c.loop-taken.at < length c.loop-taken.rows.items = search rules in
    let here : c.index.result.now ≡ get_or c.loop-taken.rows.items c.loop-taken.at c.index.result.now = search rules in
    let ends = sym c.ends_walk.ensures ∙ c.if-ends_walk.true in
    sym (stops-left c.args.sorted_from.0 c.args.before.0 c.args.below.0 (c.args.limit - c.loop-taken.taken) c.loop-taken.at c.loop-taken.rows.items c.index.result.now inside here ends c.loop-taken.invariant.sorted)
    ∙ c.loop-taken.invariant.left

pub returns-then-ends_walk-clause-count : goal.returns-then-ends_walk-clause-count
returns-then-ends_walk-clause-count c =
    let inside : c.loop-taken.at < length c.loop-taken.rows.items = search rules in
    let here : c.index.result.now ≡ get_or c.loop-taken.rows.items c.loop-taken.at c.index.result.now = search rules in
    let ends = sym c.ends_walk.ensures ∙ c.if-ends_walk.true in
    let none = stops-count c.args.sorted_from.0 c.args.before.0 c.args.below.0 (c.args.limit - c.loop-taken.taken) c.loop-taken.at c.loop-taken.rows.items c.index.result.now inside here ends c.loop-taken.invariant.sorted in
    omega (arith, none, c.loop-taken.invariant.count)
