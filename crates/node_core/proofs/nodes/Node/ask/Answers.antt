use Rattle.std.proofs.Common.{rules, ◌≡◌, ◌+◌, ◌∙◌, ℕ, true, [], refl, sym, ap, subst}
use Rattle.poll_turn.specs.Turns.{CursorState}
use Rattle.node_core.specs.Nodes.{NodeState}
use Rattle.node_core.specs.contracts.nodes.Node.{the_view}
use Rattle.node_core.specs.Turned.{IsNextTurn}
use Rattle.node_core.proofs.Asking.{asked, asks, next-turn}
use Rattle.node_core.proofs.Refreshing.{looks-none}
use Rattle.node_core.proofs.Standing.{room-left}
use Rattle.node_core.proofs.StayingReady.{goes-nowhere, goes-on}
use Rattle.node_core.proofs.Logging.{logs}
use Rattle.node_core.proofs.nodes.Node.ask.Goals as goal

pub invariant_of-self-2 : goal.invariant_of-self-2
invariant_of-self-2 c =
    let k = c.self.inside.cursor in
    let unasked = sym c.is_out.ensures ∙ c.if-is_out.false in
    let now = asked c.self.inside.no c.in_ok-hashes.hashes.items k c.ask-turn.new.self c.ask-turn.result unasked c.ask-turn.ensures in
    let number : c.turns-number.result ≡ k.turns + 1 = c.turns-number.ensures ∙ ap (λ (x : CursorState). x.turns) now.now in record {
      stands = rw (c.enter.ensures.entered, c.in_ok-reserve.ensures.kept, c.take_all.ensures.wanted, c.take_all.ensures.taken)
          (asks c.turns-number.result c.ask-turn.new.self c.self.invariant.stands unasked number
          (now.now ∙ ap (λ (n : ℕ). record { lower = k.lower; turns = n; is_out = true }) (sym number)));
      turn_room =
          room-left _ c.reserve.new.self c.enter.new.self c.in_ok-reserve.ensures.room c.enter.ensures.spare;
      ready = c.self.invariant.ready;
    }

pub returns-clause-turn : goal.returns-clause-turn
returns-clause-turn c =
    let k = c.self.inside.cursor in
    let unasked = sym c.is_out.ensures ∙ c.if-is_out.false in
    let now = asked c.self.inside.no c.in_ok-hashes.hashes.items k c.ask-turn.new.self c.ask-turn.result unasked c.ask-turn.ensures in
    let self = c.self.inside in
    let n : NodeState = the_view self in
    λ t e. subst (λ (m : NodeState). IsNextTurn t m) c.self.view_is
    (next-turn n self.seats.entries k self.holders _ _ c.in_ok-hashes.hashes.items c.ask-turn.result t c.self.invariant.stands
    c.in_ok-hashes.ensures.hashes c.in_ok-hashes.ensures.held now.turn e)

pub returns-clause-goes : goal.returns-clause-goes
returns-clause-goes c =
    rw (← c.self.view_is)
    (goes-on _ _ c.self.inside.seats.entries [] c.self.inside.ready.waiting (invariant_of-self-2 c).stands (λ d. refl) (λ d. refl) (λ d e. refl)
    c.self.invariant.ready refl (looks-none _ _ _ refl)
    (logs _ _ _ _ _ _ c.in_ok-reserve.ensures.kept c.in_ok-reserve.ensures.stored c.enter.ensures.kept c.enter.ensures.stored))

pub returns-then-is_out-clause-goes : goal.returns-then-is_out-clause-goes
returns-then-is_out-clause-goes c = rw (← c.self.view_is) (goes-nowhere _ _ c.self.invariant.stands c.self.invariant.ready (search rules))

pub returns-then-turns-clause-goes : goal.returns-then-turns-clause-goes
returns-then-turns-clause-goes c = rw (← c.self.view_is) (goes-nowhere _ _ c.self.invariant.stands c.self.invariant.ready (search rules))

pub returns-in_err-hashes-clause-goes : goal.returns-in_err-hashes-clause-goes
returns-in_err-hashes-clause-goes c = rw (← c.self.view_is) (goes-nowhere _ _ c.self.invariant.stands c.self.invariant.ready (search rules))

pub returns-in_err-reserve-clause-goes : goal.returns-in_err-reserve-clause-goes
returns-in_err-reserve-clause-goes c = rw (← c.self.view_is) (goes-nowhere _ _ c.self.invariant.stands c.self.invariant.ready (search rules))
