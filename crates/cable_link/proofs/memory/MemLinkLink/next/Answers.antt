use Rattle.std.proofs.Common.{sym}
use Rattle.cable_link.proofs.Coming.{first_is_taken, gives_first, others_come}
use Rattle.cable_link.proofs.memory.MemLinkLink.next.Goals as goal

pub invariant_of-self-2 : goal.invariant_of-self-2
invariant_of-self-2 c = others_come c.in-Some.came _ (rw c.in-Some.ensures.items at c.self.invariant)

pub returns-clause-gives : goal.returns-clause-gives
returns-clause-gives c =
    let first = c.in-Some.ensures.items in
    let calm = sym c.if-next_fails.ensures.fails in
    rw (← c.self.view_is) (gives_first _ c.in-Some.came _ _ c.self.invariant first calm c.next_fails.ensures.counts)

pub returns-clause-comes : goal.returns-clause-comes
returns-clause-comes c =
    rw (← c.self.view_is, first_is_taken c.in-Some.came _ (rw c.in-Some.ensures.items at c.self.invariant)) c.in-Some.ensures.items
