use Rattle.std.proofs.Common.{◌∙◌, ◌∷◌, Option, None, refl, sym, ap, subst}
use Rattle.std.specs.BTreeMap.{WritesThrough}
use Rattle.std.specs.Ordering.{nat_cmp}
use Rattle.cable_model.specs.Script.{rules_of}
use Rattle.cable_model.specs.Steps.{Step}
use Rattle.node_core.specs.Jobs.{WorkState}
use Rattle.node_core.specs.Nodes.{past}
use Rattle.node_world.specs.declared.outstanding.OutWork.{OutWork}
use Rattle.node_world.specs.declared.parts.Post.{Post}
use Rattle.node_world.specs.Parts.{held, is_left, post_at, conn_at}
use Rattle.node_world.proofs.Drained.{ok-both}
use Rattle.node_world.proofs.Following.{post-written, conn-written}
use Rattle.node_world.proofs.FollowingJobs.{unwritten, with-work, finish-within, finish_early, finish_steps}
use Rattle.node_world.proofs.parts.Parts.finish.Goals as goal

pub returns-then-has_cast_left-clause-steps : goal.returns-then-has_cast_left-clause-steps
returns-then-has_cast_left-clause-steps c =
    let o = c.in-Some.opened.now in
    let p = c.in-Some-get_mut.post.now in
    let found = sym c.in-Some.ensures.value in
    let booted = sym c.in-Some-get_mut.ensures.value in
    let conns = unwritten c.args.conn.0 c.args.self.now.conns.entries (c.get_mut.follows.lender o).entries o o (c.get_mut.follows.holds o).0 found refl in
    let posts = unwritten o.node.0 c.args.self.now.posts.entries (c.get_mut-2.follows.lender p).entries p p (c.get_mut-2.follows.holds p).0 booted refl in
    rw c.idle-then-has_cast_left.ensures
    (finish_early (rules_of c.args.self.now.book) (held c.args.self.now) _ c.args.conn o found (sym c.has_cast_left.ensures ∙ c.if-has_cast_left.true)
    (record { posts = λ n. ap (post_at n) posts; conns = λ d. ap (conn_at d) conns; table = refl }))

pub drain-requires : goal.drain-requires
drain-requires c =
    let e = c.in-Ok.ensures in
    let p = c.in-Some-get_mut.post.now in
    let grown = e.ok ∙ ap (λ (k : WorkState). Step.Finish k.conn.0 k.puts k.plan ∷ past p.node) c.into_work.ensures in
    finish-within (rules_of c.args.self.now.book) (held c.args.self.now) c.requires.stands c.args.conn.0 c.in-Some.opened.now p c.finish.new.self c.in-Some-take.out (sym c.in-Some.ensures.value)
    (sym c.in-Some-get_mut.ensures.value) (sym c.take.ensures.value ∙ c.in-Some-take.is) grown e.goes.taken

pub returns-in-Ok-clause-steps : goal.returns-in-Ok-clause-steps
returns-in-Ok-clause-steps c =
    let e = c.in-Ok.ensures in
    let d = c.drain.ensures in
    let o = c.in-Some.opened.now in
    let p = c.in-Some-get_mut.post.now in
    let p' : Post = record { node = c.drain.new.node; turn = p.turn } in
    let done = with-work o None in
    let found = sym c.take.ensures.value ∙ c.in-Some-take.is in
    let none = sym (ap is_left found) ∙ (sym c.has_cast_left.ensures ∙ c.if-has_cast_left.false) in
    let grown = e.ok ∙ ap (λ (k : WorkState). Step.Finish k.conn.0 k.puts k.plan ∷ past p.node) c.into_work.ensures in
    let through = subst (λ (k : Option OutWork). WritesThrough nat_cmp (nat_cmp c.args.conn.0) c.args.self.now.conns (with-work o k) (c.get_mut.follows.lender (with-work o c.take.new.self))) c.take.ensures.after
    (c.get_mut.follows.holds (with-work o c.take.new.self)) in
    let moved = conn-written c.args.conn.0 o done c.args.self.now.conns (c.get_mut.follows.lender (with-work o c.take.new.self)) c.in-Some.ensures.value through in
    ok-both c.drain.result _ _ _
    (λ said told taken. finish_steps (rules_of c.args.self.now.book) (held c.args.self.now) _ c.args.conn o p p' c.finish.new.self c.in-Some-take.out said moved.was
    (post-written o.node.0 p p' c.args.self.now.posts (c.get_mut-2.follows.lender p') c.in-Some-get_mut.ensures.value (c.get_mut-2.follows.holds p')) found none grown e.goes.taken
    moved.now refl e.no d.kept.0 d.kept.1 taken d.others refl told)
    d.lines d.taken
