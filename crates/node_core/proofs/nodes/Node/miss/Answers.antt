use Rattle.std.proofs.Common.{rules, [], refl, ap}
use Rattle.cable_model.specs.Possible.{is_out}
use Rattle.node_core.specs.Nodes.{NodeState}
use Rattle.node_core.specs.contracts.nodes.Node.{the_view}
use Rattle.node_core.proofs.Asking.{expected, misses, no-room, turn-out}
use Rattle.node_core.proofs.Refreshing.{looks-none}
use Rattle.node_core.proofs.StayingReady.{goes-on}
use Rattle.node_core.proofs.Logging.{logs}
use Rattle.node_core.proofs.nodes.Node.miss.Goals as goal

pub close-requires : goal.close-requires
close-requires c =
    let self = c.self.inside in
    let n : NodeState = the_view self in
    let e = rw (← c.self.view_is) at c.requires.expected in
    turn-out c.args.caught c.self.inside.cursor _ _ c.self.invariant.stands.listens (expected c.args.caught n e)

pub invariant_of-self : goal.invariant_of-self
invariant_of-self c =
    let self = c.self.inside in
    let n : NodeState = the_view self in
    let e = rw (← c.self.view_is) at c.requires.expected in
    let x = expected c.args.caught n e in record {
      stands = rw (c.enter.ensures.entered, c.give_back.ensures.wanted, c.give_back.ensures.taken, c.number-turn.ensures, c.note_with-note.ensures)
          (misses c.args.caught _ c.close.new.self c.self.invariant.stands x c.requires.missed (search rules) c.close.ensures.closed);
      turn_room = no-room _ c.enter.new.self (ap is_out c.enter.ensures.entered);
      ready = c.self.invariant.ready;
    }

pub returns-clause-goes : goal.returns-clause-goes
returns-clause-goes c =
    rw (← c.self.view_is)
    (goes-on _ _ c.self.inside.seats.entries [] c.self.inside.ready.waiting (invariant_of-self c).stands (λ d. refl) (λ d. refl) (λ d e. refl)
    c.self.invariant.ready refl (looks-none _ _ _ refl)
    (logs _ _ _ _ _ _ refl refl c.enter.ensures.kept c.enter.ensures.stored))
