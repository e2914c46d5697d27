use Rattle.std.proofs.Common.{◌≡◌, ◌≤◌, ◌<◌, rules, refl, arith, sym, ◌∙◌}
use Rattle.std.proofs.lemmas.Fn.{filter_same}
use Rattle.run_queue.specs.Queued.{stamp_in, lives}
use Rattle.run_queue.proofs.Stale.{skip_all, skip_one, popped, stamped_rest}
use Rattle.run_queue.proofs.ready_lists.drop_stale.Goals as goal

pub returns-then-len-clause-skips : goal.returns-then-len-clause-skips
returns-then-len-clause-skips c =
    skip_all (stamp_in c.args.stamps.now.entries) c.args.queue.now.items c.retain.new.self.items (filter_same _ (lives (stamp_in c.args.stamps.now.entries)) _ (λ x b f' k. search rules) _ _ c.retain.ensures.filtered)

pub loop-queued-preserved : goal.loop-queued-preserved
loop-queued-preserved c =
    let is = popped c.loop-queued.queue.items c.pop_front.new.self.items c.in-Some.queued.now c.pop_front.result c.pop_front.ensures.items (λ d. c.pop_front.ensures.value d (c.in-Some.ensures.variant.0 refl)) c.in-Some.ensures.lookup in
    record {
      same = skip_one (stamp_in c.args.stamps.now.entries) c.loop-queued.queue.items c.pop_front.new.self.items c.in-Some.queued.now is (sym c.if-not-is_live.ensures) ∙ c.loop-queued.invariant.same;
      stamped = λ next h. stamped_rest c.loop-queued.queue.items c.pop_front.new.self.items c.in-Some.queued.now next is (c.loop-queued.invariant.stamped next h);
      len = omega (arith, c.pop_front.ensures.len, c.loop-queued.invariant.len);
      capacity = c.pop_front.ensures.capacity ∙ c.loop-queued.invariant.capacity;
    }
