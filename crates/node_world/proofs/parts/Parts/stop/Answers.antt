use Rattle.std.proofs.Common.{refl}
use Rattle.cable_model.specs.Script.{rules_of}
use Rattle.node_world.specs.declared.parts.Post.{Post}
use Rattle.node_world.specs.Parts.{held}
use Rattle.node_world.proofs.Following.{post-written}
use Rattle.node_world.proofs.FollowingNode.{stop_steps}
use Rattle.node_world.proofs.parts.Parts.stop.Goals as goal

pub returns-clause-steps : goal.returns-clause-steps
returns-clause-steps c =
    let e = c.in_ok-stop.ensures in
    let p' : Post = record { node = c.stop.new.self; turn = c.in-Some.post.now.turn } in
    rw c.silent.ensures
    (stop_steps (rules_of c.args.self.now.book) (held c.args.self.now) _ c.args.node c.in-Some.post.now p'
    (post-written c.args.node.0 c.in-Some.post.now p' c.args.self.now.posts (c.get_mut.follows.lender p') c.in-Some.ensures.value (c.get_mut.follows.holds p')) refl refl e.no e.ok e.goes.taken refl)
