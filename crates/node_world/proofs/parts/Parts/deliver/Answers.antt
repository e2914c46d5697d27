use Rattle.std.proofs.Common.{◌≡◌, ◌∷◌, true, refl, sym, subst}
use Rattle.cable_model.specs.Script.{rules_of}
use Rattle.cable_model.specs.Steps.{Step}
use Rattle.node_core.specs.Nodes.{past}
use Rattle.node_core.specs.Turned.{is_expected}
use Rattle.poll_turn.specs.Notes.{note_in}
use Rattle.poll_turn.specs.Turns.{CaughtState}
use Rattle.node_world.specs.declared.outstanding.TurnOut.TheVariants as turn_out
use Rattle.node_world.specs.declared.parts.Post.{Post}
use Rattle.node_world.specs.Parts.{held}
use Rattle.node_world.proofs.FollowingTurns.{expects, deliver_steps}
use Rattle.node_world.proofs.Following.{post-written}
use Rattle.node_world.proofs.parts.Parts.deliver.Goals as goal

pub deliver_counted-requires-clause-expected : goal.deliver_counted-requires-clause-expected
deliver_counted-requires-clause-expected c =
    subst (λ (k : CaughtState). is_expected k c.in-Some.post.now.node ≡ true) (sym c.into_caught.ensures)
    (expects (rules_of c.args.self.now.book) (held c.args.self.now) c.args.node.0 c.in-Some.post.now c.in-Read.out (sym c.in-Some.ensures.value) (sym c.in-Read.ensures.value) c.requires.stands)

pub returns-clause-steps : goal.returns-clause-steps
returns-clause-steps c =
    let p = c.in-Some.post.now in
    let p' : Post = record { node = c.deliver_counted.new.node; turn = turn_out.None } in
    let moves = post-written c.args.node.0 p p' c.args.self.now.posts (c.get_mut.follows.lender p') c.in-Some.ensures.value (c.get_mut.follows.holds p') in
    let grown = subst (λ (k : CaughtState). past p'.node ≡ Step.Deliver k.number (note_in k) ∷ past p.node) c.into_caught.ensures c.in_ok-deliver_counted.ensures.ok in
    rw (c.silent.ensures, c.replace.ensures.after)
    (deliver_steps (rules_of c.args.self.now.book) (held c.args.self.now) _ c.args.node p p' c.in-Read.out moves refl refl (sym c.in-Read.ensures.value) refl
    c.in_ok-deliver_counted.ensures.no grown c.in_ok-deliver_counted.ensures.taken)
