use Rattle.std.proofs.Common.{◌∙◌, refl, sym}
use Rattle.cable_model.specs.Script.{rules_of}
use Rattle.cable_model.proofs.Answering.{books-answer}
use Rattle.node_core.specs.Opening.{open_fault}
use Rattle.node_core.specs.Nodes.{past}
use Rattle.node_world.specs.declared.parts.Post.{Post}
use Rattle.node_world.specs.Parts.{held, conn_at}
use Rattle.node_world.proofs.Drained.{ok-both}
use Rattle.node_world.proofs.Following.{post-written}
use Rattle.node_world.proofs.FollowingOpens.{unopened, open-done, open-refused, open_idle, open-within, open_steps}
use Rattle.node_world.proofs.parts.Parts.open.Goals as goal

pub drain-requires : goal.drain-requires
drain-requires c =
    let e = c.in-Ok.ensures in
    open-within (rules_of c.args.self.now.book) (held c.args.self.now) c.requires.stands c.args.node.0 c.args.conn.0 c.args.token.now _ c.in-Some.post.now c.open_conn.new.self (sym c.in-Some.ensures.value) e.ok e.goes.taken

pub returns-clause-steps : goal.returns-clause-steps
returns-clause-steps c =
    let e = c.in-Ok.ensures in
    let d = c.drain.ensures in
    let p = c.in-Some.post.now in
    let p' : Post = record { node = c.drain.new.node; turn = p.turn } in
    ok-both c.drain.result _ _ _
    (λ said told taken. open_steps (rules_of c.args.self.now.book) (held c.args.self.now) _ c.args.node c.args.conn c.args.token.now p p' c.open_conn.new.self said (books-answer c.args.self.now.book)
    (unopened (conn_at c.args.conn.0 c.args.self.now.conns.entries) (sym c.contains_key.ensures ∙ c.if-contains_key.false))
    (post-written c.args.node.0 p p' c.args.self.now.posts (c.get_mut.follows.lender p') c.in-Some.ensures.value (c.get_mut.follows.holds p')) c.in_ok-insert.ensures.updates.0 refl refl e.no
    (open-done c.in-Ok.field-0 (open_fault c.args.conn.0 (past p.node)) e.fault) e.ok e.goes.taken d.kept.0 d.kept.1 taken d.others told)
    d.lines d.taken

pub returns-in-Err-Used-clause-steps : goal.returns-in-Err-Used-clause-steps
returns-in-Err-Used-clause-steps c =
    let e = c.in-Err-Used.ensures in
    let is = c.in-Err-Used.field-0-is in
    let p = c.in-Some.post.now in
    let p' : Post = record { node = c.open_conn.new.self; turn = p.turn } in
    let cause = open-refused (Unit {0}) c.in-Err-Used.field-0 (open_fault c.args.conn.0 (past p.node)) (λ m. cc (m, is)) e.fault in
    rw c.idle-in-Err-Used.ensures
    (open_idle (rules_of c.args.self.now.book) (held c.args.self.now) _ c.args.node c.args.conn c.args.token.now p p' c.in-Err-Used.field-0
    (unopened (conn_at c.args.conn.0 c.args.self.now.conns.entries) (sym c.contains_key.ensures ∙ c.if-contains_key.false))
    (post-written c.args.node.0 p p' c.args.self.now.posts (c.get_mut.follows.lender p') c.in-Some.ensures.value (c.get_mut.follows.holds p')) refl refl refl e.no e.err cause)

pub returns-in-Err-Full-clause-steps : goal.returns-in-Err-Full-clause-steps
returns-in-Err-Full-clause-steps c =
    let e = c.in-Err-Full.ensures in
    let is = c.in-Err-Full.field-0-is in
    let p = c.in-Some.post.now in
    let p' : Post = record { node = c.open_conn.new.self; turn = p.turn } in
    let cause = open-refused (Unit {0}) c.in-Err-Full.field-0 (open_fault c.args.conn.0 (past p.node)) (λ m. cc (m, is)) e.fault in
    rw c.idle-in-Err-Full.ensures
    (open_idle (rules_of c.args.self.now.book) (held c.args.self.now) _ c.args.node c.args.conn c.args.token.now p p' c.in-Err-Full.field-0
    (unopened (conn_at c.args.conn.0 c.args.self.now.conns.entries) (sym c.contains_key.ensures ∙ c.if-contains_key.false))
    (post-written c.args.node.0 p p' c.args.self.now.posts (c.get_mut.follows.lender p') c.in-Some.ensures.value (c.get_mut.follows.holds p')) refl refl refl e.no e.err cause)
