use Rattle.std.proofs.Common.{◌∙◌, cond, Some, ◌∷◌, refl, sym, ap}
use Rattle.std.specs.Prelude.{is_some}
use Rattle.cable_model.specs.Script.{rules_of}
use Rattle.cable_model.specs.Steps.{Step}
use Rattle.node_core.specs.Nodes.{past}
use Rattle.node_world.specs.declared.outstanding.OutWork.{OutWork}
use Rattle.node_world.specs.declared.parts.Post.{Post}
use Rattle.node_world.specs.Parts.{held}
use Rattle.node_world.proofs.Following.{post-written, conn-written}
use Rattle.node_world.proofs.FollowingJobs.{unwritten, with-work, take_idle, take_steps}
use Rattle.node_world.proofs.parts.Parts.take.Goals as goal

pub returns-clause-steps : goal.returns-clause-steps
returns-clause-steps c =
    let e = c.in_ok-job.ensures in
    let is = c.in-Some-2.is in
    let some = ap is_some is in
    let out = e.job c.in-Some-2.job is in
    let o = c.in-Some.opened.now in
    let k : OutWork = record { work = c.in-Ok.work } in
    let o' = with-work o (Some k) in
    let p = c.in-Some-get_mut.post.now in
    let p' : Post = record { node = c.take.new.self; turn = p.turn } in
    let moved = conn-written c.args.conn.0 o o' c.args.self.now.conns (c.get_mut.follows.lender o') c.in-Some.ensures.value (c.get_mut.follows.holds o') in
    rw c.silent.ensures
    (take_steps (rules_of c.args.self.now.book) (held c.args.self.now) _ c.args.conn o p p' c.in-Some-2.job k moved.was
    (post-written o.node.0 p p' c.args.self.now.posts (c.get_mut-2.follows.lender p') c.in-Some-get_mut.ensures.value (c.get_mut-2.follows.holds p')) moved.now refl e.no (sym e.answer ∙ some)
    (e.ok ∙ ap (λ b. cond b (Step.Take c.args.conn.0 ∷ past p.node) (past p.node)) some) out.0 out.1 c.in-Ok.ensures.ok e.goes.taken refl)

pub returns-in_default-2-clause-steps : goal.returns-in_default-2-clause-steps
returns-in_default-2-clause-steps c =
    let e = c.in_ok-job.ensures in
    let none = ap is_some c.in_default-2.is in
    let o = c.in-Some.opened.now in
    let p = c.in-Some-get_mut.post.now in
    let p' : Post = record { node = c.take.new.self; turn = p.turn } in
    let conns = unwritten c.args.conn.0 c.args.self.now.conns.entries (c.get_mut.follows.lender o).entries o o (c.get_mut.follows.holds o).0 (sym c.in-Some.ensures.value) refl in
    rw c.idle-in_default-2.ensures
    (take_idle (rules_of c.args.self.now.book) (held c.args.self.now) _ c.args.conn o p p' (sym c.in-Some.ensures.value)
    (post-written o.node.0 p p' c.args.self.now.posts (c.get_mut-2.follows.lender p') c.in-Some-get_mut.ensures.value (c.get_mut-2.follows.holds p')) conns refl e.no
    (e.ok ∙ ap (λ b. cond b (Step.Take c.args.conn.0 ∷ past p.node) (past p.node)) none) e.goes.taken refl (sym e.answer ∙ none))
