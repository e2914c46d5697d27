use Rattle.std.proofs.Common.{◌≡◌, refl, sym, ap, ◌∙◌, Option, Some, arith}
use Rattle.std.proofs.lemmas.Result.{IfOk-weaker}
use Rattle.cable_model.specs.Script.{rules_of}
use Rattle.node_core.specs.declared.arriving.ArriveFault.{ArriveFault}
use Rattle.node_core.specs.declared.arriving.ArriveFault.TheVariants as fault
use Rattle.node_core.specs.Arriving.{text_fault}
use Rattle.node_core.specs.Nodes.{past}
use Rattle.node_world.specs.declared.parts.Post.{Post}
use Rattle.node_world.specs.Parts.{held}
use Rattle.node_world.proofs.Following.{post-written}
use Rattle.node_world.proofs.FollowingTexts.{text-put, text-refused, arrive_steps, arrive_idle, arrive_too_long, arrive_busy}
use Rattle.node_world.proofs.parts.Parts.arrive.Goals as goal

pub returns-in-Ok-clause-steps : goal.returns-in-Ok-clause-steps
returns-in-Ok-clause-steps c =
    let e = c.in-Ok.ensures in
    let p = c.in-Some-get_mut.post.now in
    let p' : Post = record { node = c.arrive.new.self; turn = p.turn } in
    rw c.silent.ensures
    (arrive_steps (rules_of c.args.self.now.book) (held c.args.self.now) _ c.args.conn c.args.text.now c.in-Some.opened.now p p' (sym c.in-Some.ensures.value)
    (post-written c.in-Some.opened.now.node.0 p p' c.args.self.now.posts (c.get_mut.follows.lender p') c.in-Some-get_mut.ensures.value (c.get_mut.follows.holds p')) refl refl refl e.no e.ok e.goes.taken
    (text-put c.in-Ok.field-0 (text_fault c.args.conn.0 c.args.text.now (past p.node)) e.fault))

pub returns-in-Err-Unknown-clause-steps : goal.returns-in-Err-Unknown-clause-steps
returns-in-Err-Unknown-clause-steps c =
    let e = c.in-Err-Unknown.ensures in
    let p = c.in-Some-get_mut.post.now in
    let p' : Post = record { node = c.arrive.new.self; turn = p.turn } in
    let long : c.in-Err-Unknown.field-0 ≡ fault.TooLong → ⊥ = λ m. grind arith in
    let busy : c.in-Err-Unknown.field-0 ≡ fault.Busy → ⊥ = λ m. grind arith in
    let memory : c.in-Err-Unknown.field-0 ≡ fault.OutOfMemory → ⊥ = λ m. grind arith in
    let cause = text-refused (Unit {0}) c.in-Err-Unknown.field-0 (text_fault c.args.conn.0 c.args.text.now (past p.node)) memory e.fault in
    rw c.idle-in-Err-Unknown.ensures
    (arrive_idle (rules_of c.args.self.now.book) (held c.args.self.now) _ c.args.conn c.args.text.now c.in-Some.opened.now p p' (sym c.in-Some.ensures.value)
    (post-written c.in-Some.opened.now.node.0 p p' c.args.self.now.posts (c.get_mut.follows.lender p') c.in-Some-get_mut.ensures.value (c.get_mut.follows.holds p')) refl refl refl e.no c.in-Err-Unknown.field-0 long busy e.err cause)

pub returns-in-Err-TooLong-clause-steps : goal.returns-in-Err-TooLong-clause-steps
returns-in-Err-TooLong-clause-steps c =
    let e = c.in-Err-TooLong.ensures in
    let is = c.in-Err-TooLong.field-0-is in
    let p = c.in-Some-get_mut.post.now in
    let p' : Post = record { node = c.arrive.new.self; turn = p.turn } in
    let cause =
    text-refused (Unit {0}) c.in-Err-TooLong.field-0 (text_fault c.args.conn.0 c.args.text.now (past p.node)) (λ m. cc (m, is)) e.fault
    ∙ ap (λ (f : ArriveFault). let o : Option ArriveFault = Some f in o) is in
    IfOk-weaker c.noted.result _ _
    (λ said told. arrive_too_long (rules_of c.args.self.now.book) (held c.args.self.now) _ c.args.conn c.args.text.now c.in-Some.opened.now p p' (sym c.in-Some.ensures.value)
    (post-written c.in-Some.opened.now.node.0 p p' c.args.self.now.posts (c.get_mut.follows.lender p') c.in-Some-get_mut.ensures.value (c.get_mut.follows.holds p')) refl refl refl e.no said e.err cause told)
    c.noted.ensures

pub returns-in-Err-Busy-clause-steps : goal.returns-in-Err-Busy-clause-steps
returns-in-Err-Busy-clause-steps c =
    let e = c.in-Err-Busy.ensures in
    let is = c.in-Err-Busy.field-0-is in
    let p = c.in-Some-get_mut.post.now in
    let p' : Post = record { node = c.arrive.new.self; turn = p.turn } in
    let cause =
    text-refused (Unit {0}) c.in-Err-Busy.field-0 (text_fault c.args.conn.0 c.args.text.now (past p.node)) (λ m. cc (m, is)) e.fault
    ∙ ap (λ (f : ArriveFault). let o : Option ArriveFault = Some f in o) is in
    IfOk-weaker c.noted-in-Err-Busy.result _ _
    (λ said told. arrive_busy (rules_of c.args.self.now.book) (held c.args.self.now) _ c.args.conn c.args.text.now c.in-Some.opened.now p p' (sym c.in-Some.ensures.value)
    (post-written c.in-Some.opened.now.node.0 p p' c.args.self.now.posts (c.get_mut.follows.lender p') c.in-Some-get_mut.ensures.value (c.get_mut.follows.holds p')) refl refl refl e.no said e.err cause told)
    c.noted-in-Err-Busy.ensures
