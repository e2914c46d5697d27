use Rattle.std.proofs.Common.{◌∙◌, map, refl, sym, ap}
use Rattle.cable_base.specs.declared.numbers.ConnNo.{ConnNo}
use Rattle.cable_model.specs.Script.{rules_of}
use Rattle.cable_model.proofs.Answering.{books-answer}
use Rattle.node_world.specs.declared.parts.Post.{Post}
use Rattle.node_world.specs.Parts.{held}
use Rattle.node_world.proofs.Drained.{ok-both}
use Rattle.node_world.proofs.FollowingBeats.{receiving-distinct, beat-within, beat_steps}
use Rattle.node_world.proofs.Following.{post-written}
use Rattle.node_world.proofs.parts.Parts.beat.Goals as goal

pub drain_each-requires-clause-distinct : goal.drain_each-requires-clause-distinct
drain_each-requires-clause-distinct c =
    receiving-distinct (rules_of c.args.self.now.book) (books-answer c.args.self.now.book) (held c.args.self.now) c.requires.stands c.args.node.0 c.in-Some.post.now c.deref.result.now (sym c.in-Some.ensures.value)
    (ap (map (λ (d : ConnNo). d.0)) c.deref.ensures.value ∙ c.in_ok-conns.ensures)

pub drain_each-requires-clause-within : goal.drain_each-requires-clause-within
drain_each-requires-clause-within c =
    beat-within (rules_of c.args.self.now.book) (held c.args.self.now) c.requires.stands c.args.now.0 c.args.node.0 c.in-Some.post.now c.beat.new.self (sym c.in-Some.ensures.value) c.in_ok-beat.ensures.ok c.in_ok-beat.ensures.goes.taken

pub returns-clause-steps : goal.returns-clause-steps
returns-clause-steps c =
    let e = c.in_ok-beat.ensures in
    let d = c.drain_each.ensures in
    let p = c.in-Some.post.now in
    let p' : Post = record { node = c.drain_each.new.node; turn = p.turn } in
    let moves = post-written c.args.node.0 p p' c.args.self.now.posts (c.get_mut.follows.lender p') c.in-Some.ensures.value (c.get_mut.follows.holds p') in
    ok-both c.drain_each.result _ _ _
    (λ said told taken. beat_steps (rules_of c.args.self.now.book) (held c.args.self.now) _ c.args.node c.args.now p p' c.beat.new.self c.deref.result.now said moves
    (ap (map (λ (x : ConnNo). x.0)) c.deref.ensures.value ∙ c.in_ok-conns.ensures) e.ok e.goes.taken refl refl refl e.no d.kept.0 d.kept.1 taken d.others told)
    d.lines d.taken
