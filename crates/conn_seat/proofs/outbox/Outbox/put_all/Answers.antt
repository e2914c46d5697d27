use Rattle.std.proofs.Common.{◌≡◌, ◌++◌, [], ◌∷◌, List, length, sym, ap, ◌∙◌, arith, append_assoc, append-nil, drop_of_length-le}
use Rattle.conn_seat.specs.declared.outs.Out.{Out}
use Rattle.conn_seat.proofs.outbox.Outbox.put_all.Goals as goal

pub put-requires : goal.put-requires
put-requires c = let steps = ap length c.in-Some.ensures.steps.0 in omega (arith, steps, c.loop-out.invariant.left)

pub loop-out-preserved : goal.loop-out-preserved
loop-out-preserved c =
    let out = c.in-Some.out in
    let rest : List Out = c.next.new.self.rest.items in
    let old = c.loop-out.self in
    let steps = c.in-Some.ensures.steps.0 in
    let one_less = ap length steps in
    record {
      left = omega (arith, one_less, c.loop-out.invariant.left, c.put.ensures.room);
      queued =
          ap (λ (os : List Out). os ++ rest) c.put.ensures.queued ∙ append_assoc old.queued (out ∷ []) rest
          ∙ ap (λ (os : List Out). old.queued ++ os) (sym steps) ∙ c.loop-out.invariant.queued;
      taken = c.put.ensures.taken ∙ c.loop-out.invariant.taken;
      spent = omega (arith, one_less, c.loop-out.invariant.spent, c.put.ensures.room);
      forgotten = c.put.ensures.forgotten ∙ c.loop-out.invariant.forgotten;
    }

pub returns : goal.returns
returns c =
    let rest = c.loop-out.out-iterator.rest in
    let none : rest.items ≡ [] = drop_of_length-le rest.items {i = 0} (omega (arith, c.in-None.ensures.steps.0)) in
    let last = c.loop-out.self in
    let none_left = ap length none in
    record {
      queued = sym (append-nil last.queued) ∙ ap (λ (os : List Out). last.queued ++ os) (sym none) ∙ c.loop-out.invariant.queued;
      taken = c.loop-out.invariant.taken;
      room = omega (arith, none_left, c.loop-out.invariant.spent);
      forgotten = c.loop-out.invariant.forgotten;
    }
