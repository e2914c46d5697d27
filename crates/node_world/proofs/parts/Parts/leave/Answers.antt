use Rattle.std.proofs.Common.{◌∙◌, cond, ◌∷◌, refl, sym, ap}
use Rattle.cable_model.specs.Script.{rules_of}
use Rattle.cable_model.specs.Steps.{Step}
use Rattle.node_core.specs.Nodes.{past}
use Rattle.node_world.specs.declared.parts.Post.{Post}
use Rattle.node_world.specs.Parts.{held}
use Rattle.node_world.proofs.Following.{post-written}
use Rattle.node_world.proofs.FollowingNode.{drop_idle, drop_steps}
use Rattle.node_world.proofs.parts.Parts.leave.Goals as goal

pub returns-then-not-branch-clause-steps : goal.returns-then-not-branch-clause-steps
returns-then-not-branch-clause-steps c =
    let e = c.in_ok-gone.ensures in
    let done = c.if-not-branch.true in
    let p = c.in-Some-get_mut.post.now in
    let p' : Post = record { node = c.gone.new.self; turn = p.turn } in
    rw c.idle-then-not-branch.ensures
    (drop_idle (rules_of c.args.self.now.book) (held c.args.self.now) _ c.args.conn c.in-Some.opened.now p p' (sym c.in-Some.ensures.value)
    (post-written c.in-Some.opened.now.node.0 p p' c.args.self.now.posts (c.get_mut.follows.lender p') c.in-Some-get_mut.ensures.value (c.get_mut.follows.holds p')) refl refl e.no (e.same done).kept e.goes.taken refl
    (sym done ∙ e.answer))

pub returns-clause-steps : goal.returns-clause-steps
returns-clause-steps c =
    let e = c.in_ok-gone.ensures in
    let done = c.if-not-branch.false in
    let p = c.in-Some-get_mut.post.now in
    let p' : Post = record { node = c.gone.new.self; turn = p.turn } in
    rw c.silent.ensures
    (drop_steps (rules_of c.args.self.now.book) (held c.args.self.now) _ c.args.conn c.in-Some.opened.now p p' (sym c.in-Some.ensures.value)
    (post-written c.in-Some.opened.now.node.0 p p' c.args.self.now.posts (c.get_mut.follows.lender p') c.in-Some-get_mut.ensures.value (c.get_mut.follows.holds p')) refl refl e.no
    (e.ok ∙ ap (λ b. cond b (Step.Drop c.args.conn.0 ∷ past p.node) (past p.node)) done) e.goes.taken refl (sym done ∙ e.answer))
