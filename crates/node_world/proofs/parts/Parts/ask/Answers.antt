use Rattle.std.proofs.Common.{◌≡◌, ◌∷◌, true, cond, suc, is_some, refl, sym, ap, ◌∙◌}
use Rattle.cable_model.specs.Possible.{is_out, last_turn}
use Rattle.cable_model.specs.Steps.{Step}
use Rattle.node_core.specs.Nodes.{past}
use Rattle.node_world.specs.declared.outstanding.TurnOut.TheVariants as turn_out
use Rattle.node_world.specs.declared.parts.Post.{Post}
use Rattle.node_world.specs.Parts.{held}
use Rattle.node_world.proofs.FollowingTurns.{ask_steps, not-true}
use Rattle.node_world.proofs.Following.{post-written}
use Rattle.node_world.proofs.parts.Parts.ask.Goals as goal

pub returns-clause-steps : goal.returns-clause-steps
returns-clause-steps c =
    let p = c.in-Some.post.now in
    let p' : Post = record { node = c.ask.new.self; turn = turn_out.Asked (record { turn = c.in-Some-2.turn }) } in
    let moves = post-written c.args.node.0 p p' c.args.self.now.posts (c.get_mut.follows.lender p') c.in-Some.ensures.value (c.get_mut.follows.holds p') in
    let some : is_some c.in_ok-turn.field-0 ≡ true = ap is_some c.in-Some-2.is in
    let entered = c.in_ok-turn.ensures.ok ∙ ap (λ b. cond b (Step.Ask (suc (last_turn (past p.node))) ∷ past p.node) (past p.node)) some in
    let free = not-true (is_out (past p.node)) (sym c.in_ok-turn.ensures.answer ∙ some) in
    rw c.silent.ensures
    (ask_steps c.args.self.now.book (held c.args.self.now) _ c.args.node p p' (record { turn = c.in-Some-2.turn }) moves refl refl c.in_ok-turn.ensures.no entered c.in_ok-turn.ensures.goes.taken free
    (c.in_ok-turn.ensures.turn c.in-Some-2.turn c.in-Some-2.is) refl)
