use Rattle.std.proofs.Common.{◌≡◌, ◌∙◌, true, ap, sym, subst}
use Rattle.cable_model.specs.Journal.{past_of}
use Rattle.node_seats.proofs.Counting.{over-is}
use Rattle.node_seats.specs.Turned.{wanted_by}
use Rattle.node_turns.proofs.Wishing.{but-other, but-own}
use Rattle.node_core.specs.Forgetting.{may_forget}
use Rattle.node_core.specs.Nodes.{NodeState}
use Rattle.node_core.proofs.Drained.{nothing-queued, over-now}
use Rattle.node_core.proofs.Standing.{forgets, room-stays}
use Rattle.node_core.proofs.nodes.Node.forget.Goals as goal

pub forget-requires-clause-over : goal.forget-requires-clause-over
forget-requires-clause-over c =
    let may = subst (λ (n : NodeState). may_forget c.args.conn.0 n ≡ true) (sym c.self.view_is) c.requires in
    over-is (past_of c.self.inside.journal.kept) c.self.inside.seats.entries c.args.conn.0 c.self.invariant.stands.numbers
    ∙ over-now c.args.conn.0 (past_of c.self.inside.journal.kept) c.self.inside.seats.outs may

pub forget-requires-clause-empty : goal.forget-requires-clause-empty
forget-requires-clause-empty c =
    let may = subst (λ (n : NodeState). may_forget c.args.conn.0 n ≡ true) (sym c.self.view_is) c.requires in
    nothing-queued c.args.conn.0 (past_of c.self.inside.journal.kept) c.self.inside.seats.outs may c.self.invariant.stands.queues

pub invariant_of-self : goal.invariant_of-self
invariant_of-self c =
    let may = subst (λ (n : NodeState). may_forget c.args.conn.0 n ≡ true) (sym c.self.view_is) c.requires in
    let over = over-now c.args.conn.0 (past_of c.self.inside.journal.kept) c.self.inside.seats.outs may in record {
      stands = rw (c.cut.ensures.kept, c.forget.ensures.entries, c.drop_those_of.ensures.wanted, c.drop_those_of.ensures.taken)
          (forgets c.args.conn.0 c.forget.new.self.outs c.self.invariant.stands over c.forget.ensures.forgets);
      turn_room = room-stays c.self.inside.journal c.cut.new.self c.self.invariant.turn_room c.cut.ensures.kept c.cut.ensures.spare;
      ready = rw c.forget.ensures.entries c.self.invariant.ready;
    }

pub returns-clause-wants : goal.returns-clause-wants
returns-clause-wants c =
    let conn = c.args.conn.0 in
    let wants = c.self.inside.wants.wanted in
    let left = c.drop_those_of.ensures.wanted in
    rw (← c.self.view_is)
    (record {
      none = ap (wanted_by conn) left ∙ but-own conn wants;
      others = λ d f. ap (wanted_by d) left ∙ but-other d conn wants f;
    })
