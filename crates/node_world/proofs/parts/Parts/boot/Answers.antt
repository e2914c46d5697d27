use Rattle.std.proofs.Common.{◌∙◌, refl, sym, ap}
use Rattle.cable_base.specs.declared.numbers.NodeNo.{NodeNo}
use Rattle.cable_model.specs.Script.{rules_of}
use Rattle.node_world.specs.declared.outstanding.TurnOut.TheVariants as turn_out
use Rattle.node_world.specs.declared.parts.Post.{Post}
use Rattle.node_world.specs.Parts.{held, post_at}
use Rattle.node_world.proofs.FollowingBeats.{none-of, boot_steps}
use Rattle.node_world.proofs.parts.Parts.boot.Goals as goal

pub returns-clause-steps : goal.returns-clause-steps
returns-clause-steps c =
    let h = held c.args.self.now in
    let p : Post = record { node = c.boot_unlogged.result; turn = turn_out.None } in
    let e = c.boot_unlogged.ensures in
    let none = none-of (post_at c.args.node.0 h.posts) (sym c.contains_key.ensures ∙ c.if-contains_key.false) in
    rw c.silent.ensures
    (boot_steps (rules_of c.args.self.now.book) h _ c.args.node p c.in_ok-last.last none c.in_ok-insert.ensures.updates.0 c.in_ok-last.ensures.last (ap (λ (x : NodeNo). x.0) e.no) e.booted e.taken refl
    refl c.in_ok-last.ensures.same)
